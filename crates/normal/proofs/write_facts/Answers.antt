-- The counts, the kinds, the tables, one behind the other.
use Rattle.std.proofs.Common.{arith, rules, ℕ, ◌≡◌, ◌+◌, ◌-◌, ◌++◌, ◌∙◌, ap, length, take, drop}
use native.Mathlib.Nat.{add-zero}
use Rattle.lists.specs.Lists.{each}
use Rattle.meaning.specs.Packed.{kind_bits, count_bits}
use Rattle.normal.proofs.FactLaws.{facts_written, kinds_taken}
use Rattle.normal.proofs.write_facts.Goals as goal

pub returns-clause-wrote : goal.returns-clause-wrote
returns-clause-wrote c = let sheet = c.args.sheet.now in
    let kinds = c.kinds-kinds.result in
    let are = c.kinds-kinds.ensures in
    let m = c.columns.ensures in
    let k = c.keys.ensures in
    let long : length kinds ≡ 24 = search rules in
    let columns = kinds_taken kinds sheet.columns 0 (omega (arith, m.number, m.few)) (λ i l. rw add-zero (are.columns i (omega (arith, m.number, m.few)))) in
    let keys = kinds_taken kinds sheet.keys 16 (omega (arith, k.number, k.few)) (λ i l. are.keys i (omega (arith, k.number, k.few))) in
    λ o e. facts_written sheet o c.write_tables.new.w.out.now c.write_tables.new.w.bits
    (c.write_tables.ensures.wrote o ((count_bits sheet ++ each kind_bits sheet.columns) ++ each kind_bits sheet.keys)
    (c.write_kinds-2.ensures.wrote o (count_bits sheet ++ each kind_bits sheet.columns) sheet.keys
    (c.write_kinds.ensures.wrote o (count_bits sheet) sheet.columns (c.write_counts.ensures.wrote o e) (ap (λ (n : ℕ). take n kinds) m.number ∙ columns))
    (ap (λ (n : ℕ). take n (drop 16 kinds)) {x = (16 + c.keys.result) - 16} {y = length sheet.keys} (omega (arith, k.number)) ∙ keys)))
