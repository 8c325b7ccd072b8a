-- Type, commands and selector as they stand, and the clauses that the six steps leave.
use Rattle.std.proofs.Common.{arith, rules, ℕ, ◌≡◌, ◌-◌, List, ◌++◌, ◌∙◌, Bool, cond, ap, sym, subst, length}
use Rattle.lists.specs.Lists.{each}
use Rattle.lists.proofs.ListLaws.{all_at}
use Rattle.bits.specs.Bits.{number, bits}
use Rattle.meaning.specs.Values.{Kind}
use Rattle.meaning.specs.Sheets.{kind_of, policy_at}
use Rattle.meaning.specs.Packed.{packed, selector_bits, clause_bits}
use Rattle.meaning.specs.Allowed.{facts_of, PolicyAllowed}
use Rattle.meaning.specs.Steps.{NormalClauses}
use Rattle.asked.proofs.UseLaws.{policy_used}
use Rattle.steps.specs.Lists.{kind_by}
use Rattle.pruned.specs.Pruned.{clauses_of, chosen, Tidied}
use Rattle.packing.specs.Wrote.{Wrote}
use Rattle.packing.proofs.WroteLaws.{wrote_as}
use Rattle.normal.proofs.PolicyLaws.{clauses_five, policy_written, type_is, type_small}
use Rattle.normal.proofs.ReadableLaws.{selector_stands, known}
use Rattle.normal.proofs.write_policy.Goals as goal

pub returns-clause-wrote : goal.returns-clause-wrote
returns-clause-wrote c = λ o bs there ranges w.
    let a = c.args in
    let sheet = a.sheet.now in
    let s : List ℕ = packed sheet in
    let x = policy_at sheet a.k in
    let from = c.selector_start-from.result in
    let sel = c.selector_start-from.ensures there in
    let st = selector_stands (facts_of sheet) s from x.selector sel.0 sel.1 in
    let to = c.selector_end.result in
    let end : to ≡ sel.0 = c.selector_end.ensures x.selector sel.0 sel.1 in
    let bytes = c.bytes.ensures in
    let kinds = c.kinds-kinds.result in
    let k = known sheet kinds a.top c.kinds-kinds.ensures (search rules) bytes.allowed ranges in
    let fits = policy_used sheet bytes.allowed a.k there in
    let allowed : PolicyAllowed (facts_of sheet) x = all_at (PolicyAllowed (facts_of sheet)) _ sheet.policies a.k there bytes.allowed.each_policy in
    let cs = c.as_slice-left.result.now in
    let ds = chosen cs c.as_slice.result.now in
    let tidy : Tidied sheet x.clauses (clauses_of cs) = subst (λ t. Tidied sheet x.clauses (clauses_of t)) (sym c.as_slice-left.ensures.items) (c.gather-cs.ensures.tidied ranges) in
    let normal : NormalClauses sheet x.clauses ds = subst (λ t. NormalClauses sheet x.clauses (chosen cs t)) (sym c.as_slice.ensures.items) (c.choose-order.ensures sheet x.clauses k fits tidy) in
    let t : List ℕ = bits 1 (cond x.restrictive 1 0) in
    let m : List ℕ = bits 4 x.commands in
    let type : c.from.result ≡ cond x.restrictive 1 0 = c.from.ensures ∙ type_is c.is_restrictive.result ∙ ap (λ (b : Bool). cond b 1 0) (c.is_restrictive.ensures there) in
    let one : Wrote o (bs ++ t) c.write.new.self.out.now c.write.new.self.bits =
    wrote_as o bs (bits 1 c.from.result) t c.write.new.self.out.now c.write.new.self.bits (ap (bits 1) type) (c.write.ensures.wrote o bs w (omega (arith, type, type_small x.restrictive))) in
    let commands : c.commands.result ≡ x.commands = c.commands.ensures there in
    let two : Wrote o ((bs ++ t) ++ m) c.write-2.new.self.out.now c.write-2.new.self.bits =
    wrote_as o (bs ++ t) (bits 4 c.commands.result) m c.write-2.new.self.out.now c.write-2.new.self.bits (ap (bits 4) commands) (c.write-2.ensures.wrote o (bs ++ t) one (omega (arith, commands, allowed.1))) in
    let three : Wrote o (((bs ++ t) ++ m) ++ selector_bits x.selector) c.copy.new.self.out.now c.copy.new.self.bits =
    wrote_as o ((bs ++ t) ++ m) (bits (to - from) (number c.bytes.result.now from (to - from))) (selector_bits x.selector) c.copy.new.self.out.now c.copy.new.self.bits
    (ap (λ (z : List ℕ). bits (to - from) (number z from (to - from))) bytes.packed ∙ ap (λ (z : ℕ). bits (z - from) (number s from (z - from))) end ∙ st.1) (c.copy.ensures.wrote o ((bs ++ t) ++ m) two) in
    let four = c.write_chosen.ensures.wrote o (((bs ++ t) ++ m) ++ selector_bits x.selector) three (clauses_five sheet normal fits) in
    policy_written sheet x o bs c.write_chosen.new.w.out.now c.write_chosen.new.w.bits ds normal
    (wrote_as o (((bs ++ t) ++ m) ++ selector_bits x.selector) (bits 4 (length ds) ++ each (clause_bits (kind_by kinds)) ds) (bits 4 (length ds) ++ each (clause_bits (kind_of sheet)) ds) c.write_chosen.new.w.out.now c.write_chosen.new.w.bits
    (ap (λ (kind : ℕ → Kind). bits 4 (length ds) ++ each (clause_bits kind) ds) k.kinds_are) four)
