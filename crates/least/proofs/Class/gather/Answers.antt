-- After i atoms what these strike out of the class is marked.
use Rattle.std.proofs.Common.{refl}
use Rattle.least.proofs.MarkLaws.{marks_skip, marks_add}
use Rattle.least.proofs.Class.gather.Goals as goal
use Rattle.least.proofs.Class.gather.Goals.{then-has+then-self-i-eq2, else-has, else-has-via-then-has+else-self-i-eq2, else-has-via-else-has}

pub loop-i-preserved : goal.loop-i-preserved
loop-i-preserved c =
    elim c.if-has.branch [
      | then-has+then-self-i-eq2 w ↦ rw w.marks-is (marks_add _ _ _ _ _ _ _ c.loop-i-test.true (w.if-has.ensures.yes refl) w.if-self-i-eq2.true w.strike.ensures c.loop-i.invariant)
      | else-has w ↦ rw w.marks-is
          (marks_skip _ _ _ _ _ _
          (λ o e. elim w.else-has.branch [ else-has-via-then-has+else-self-i-eq2 v ↦ v.if-self-i-eq2.false e | else-has-via-else-has v ↦ v.if-has.ensures.no refl o ])
          c.loop-i.invariant)
    ]
