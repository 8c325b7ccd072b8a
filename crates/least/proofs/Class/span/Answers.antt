-- An atom of the class narrows the range.
use Rattle.std.proofs.Common.{refl}
use Rattle.least.proofs.SpanLaws.{spans_skip}
use Rattle.least.proofs.Class.span.Goals as goal
use Rattle.least.proofs.Class.span.Goals.{then-has, else-has}

pub loop-i-preserved : goal.loop-i-preserved
loop-i-preserved c =
    elim c.if-has.branch [
      | then-has w ↦ rw w.t-is (w.narrow-t.ensures _ _ _ (w.if-has.ensures.yes refl) c.loop-i.invariant)
      | else-has w ↦ rw w.t-is (spans_skip _ _ _ _ _ _ (w.if-has.ensures.no refl) c.loop-i.invariant)
    ]
