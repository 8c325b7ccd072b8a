-- The normal forms of the first i policies are written.
use Rattle.std.proofs.Common.{arith, rules, refl, ℕ, ◌≡◌, ◌<◌, ◌++◌, subst, length}
use Rattle.lists.specs.Lists.{each}
use Rattle.meaning.specs.Sheets.{kind_of}
use Rattle.meaning.specs.Packed.{policy_bits}
use Rattle.normal.specs.Written.{PoliciesWritten}
use Rattle.normal.proofs.PolicyLaws.{no_policies, one_policy}
use Rattle.normal.proofs.write_policies.Goals as goal

pub loop-i-init : goal.loop-i-init
loop-i-init c = let a = c.args in
    record { same = refl; written = λ o bs w. no_policies a.sheet.now o bs a.w.now.out.now a.w.now.bits w }

pub loop-i-preserved : goal.loop-i-preserved
loop-i-preserved c = let l = c.loop-i in
    let sheet = c.args.sheet.now in
    let one = c.write_policy in
    let there : l.i < length sheet.policies = omega arith in
    record {
      same = search rules;
      written = λ o bs w.
          let done = l.invariant.written o bs w in
          one_policy sheet o bs l.i l.w.out.now one.new.w.out.now l.w.bits one.new.w.bits there done
          (one.ensures.wrote o (bs ++ each (policy_bits (kind_of sheet)) done.normals) there (c.tops-top.ensures sheet c.kinds.ensures) done.wrote);
    }

pub returns-clause-wrote : goal.returns-clause-wrote
returns-clause-wrote c = let l = c.loop-i in
    let sheet = c.args.sheet.now in
    let n : l.i ≡ length sheet.policies = omega arith in
    λ o bs w. subst (λ (z : ℕ). PoliciesWritten sheet z o bs l.w.out.now l.w.bits) n (l.invariant.written o bs w)
