-- `branches::counts` meets its contract: the first p counts are those of the first p policies, and the others 0.
use Rattle.branches.proofs.FillLaws.{Filled, CountAt}
use Rattle.branches.proofs.counts.Given as goal

abbrev pub invariant-loop-p : goal.invariant-loop-p
invariant-loop-p l = Filled (CountAt l.sheet) l.counts l.p
