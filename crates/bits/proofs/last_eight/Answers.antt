-- After k turns v is the number of the first k bytes.
use Rattle.std.proofs.Common.{◌∙◌, sym, arith}
use Rattle.bits.proofs.WordLaws.{byte_more}
use Rattle.bits.proofs.Laws.{number_zero}
use Rattle.bits.proofs.last_eight.Goals as goal

pub loop-k-init : goal.loop-k-init
loop-k-init c = sym (number_zero _ _)

pub loop-k-preserved : goal.loop-k-preserved
loop-k-preserved c = byte_more _ _ _ _ _ (omega arith) (omega arith) c.loop-k.invariant (c.from.ensures ∙ c.byte_at.ensures)
