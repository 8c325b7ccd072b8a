-- The last values of the variables' kinds are the ranges.
use Rattle.std.proofs.Common.{arith}
use Rattle.asked.proofs.RangeLaws.{ranges}
use Rattle.asked.proofs.tops.Goals as goal

pub returns : goal.returns
returns c = ranges _ _ (λ v l. c.loop-v.invariant.lasts v (omega arith))
