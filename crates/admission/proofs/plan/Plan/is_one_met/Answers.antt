-- `Plan::is_one_met` meets its contract. No clause before the slot at hand is met: its head is not open, or the clause was tried.
use Rattle.std.proofs.Common.{◌≤◌, arith, sym}
use Rattle.rows.specs.Held.{held}
use Rattle.admission.proofs.ManyLaws.{opens, none_met, one_met, goes_on, laid_at}
use Rattle.admission.proofs.plan.Plan.is_one_met.Goals as goal

pub loop-k-init : goal.loop-k-init
loop-k-init c = record { low = omega arith; high = omega arith; none = λ from low C kind cs K L. opens kind _ _ _ _ _ _ cs L _ C }

pub returns-then-is_clause_met : goal.returns-then-is_clause_met
returns-then-is_clause_met c = let b = c.loop-k-test.true in
    λ from low C kind cs K L.
    let a : from ≤ c.loop-k.k = omega arith in
    sym (one_met kind _ _ _ _ _ _ cs L _ a b (c.is_clause_met.ensures kind _ K (laid_at kind (held c.args.vars.now) _ _ _ _ _ cs L _ a b)) c.if-is_clause_met.true)

pub loop-k-preserved : goal.loop-k-preserved
loop-k-preserved c = let b = c.loop-k-test.true in
    let x = c.next_open-k.ensures.0 in
    record {
      low = omega arith;
      high = c.next_open-k.ensures.1;
      none = λ from low C kind cs K L. let a : from ≤ c.loop-k.k = omega arith in
          goes_on kind _ _ _ _ _ _ cs L _ a b _ (c.loop-k.invariant.none from low C kind cs K L) (c.is_clause_met.ensures kind _ K (laid_at kind (held c.args.vars.now) _ _ _ _ _ cs L _ a b)) c.if-is_clause_met.false c.next_open-k.ensures.2;
    }

pub returns : goal.returns
returns c = λ from low C kind cs K L. sym (none_met kind _ _ _ _ _ _ cs L _ c.loop-k-test.false (c.loop-k.invariant.none from low C kind cs K L))
