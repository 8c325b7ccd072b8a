-- What is left of x without its bits above the lowest n.
use native.Mathlib.Omega.{arith}
use Rattle.bits.proofs.PutLaws.{lowest_le, lowest_is}
use Rattle.bits.proofs.lowest.Goals as goal

pub overflow_sub-result : goal.overflow_sub-result
overflow_sub-result c = lowest_le _ _ (omega arith)

pub returns : goal.returns
returns c = lowest_is _ _ (omega arith)
