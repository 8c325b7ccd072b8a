-- The least values within the ranges are the least solution.
use Rattle.std.proofs.Common.{get_or, Fits, w64, rules}
use Rattle.reach.proofs.SolveLaws.{solves_yes, solves_stuck, solves_out}
use Rattle.reach.proofs.solve.Goals as goal

pub returns-in_err-x : goal.returns-in_err-x
returns-in_err-x c =
    rw c.from_residual.ensures
    (solves_stuck _ _ _ _ _ (λ v. let f : Fits w64 (get_or c.args.top.now v 0) = search rules in f.fits) c.needs-need.ensures c.in_err-x.ensures)

pub returns-then-within : goal.returns-then-within
returns-then-within c = solves_yes _ _ _ _ _ (λ v. let f : Fits w64 (get_or c.args.top.now v 0) = search rules in f.fits) c.needs-need.ensures _ c.in_ok-x.ensures c.if-within.true c.within.ensures

pub returns-else-within : goal.returns-else-within
returns-else-within c = solves_out _ _ _ _ _ (λ v. let f : Fits w64 (get_or c.args.top.now v 0) = search rules in f.fits) c.needs-need.ensures _ c.in_ok-x.ensures c.if-within.false c.within.ensures
