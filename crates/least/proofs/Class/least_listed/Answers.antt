-- The least of the values so far.
use Rattle.std.proofs.Common.{refl}
use Rattle.least.proofs.SpanLaws.{listed_unfair, listed_later, listed_add}
use Rattle.least.proofs.Class.least_listed.Goals as goal
use Rattle.least.proofs.Class.least_listed.Goals.{then-live-k+then-nearer, else-live-k, else-live-k-via-then-live-k+else-nearer, else-live-k-via-else-live-k}

pub loop-k-preserved : goal.loop-k-preserved
loop-k-preserved c =
    let h = c.loop-k.invariant in
    let d = c.sift_all-live.ensures.each c.loop-k.k c.loop-k-test.true in
    elim c.if-live-k.branch [
      | then-live-k+then-nearer w ↦ rw w.best-is
          (let y = d.yes w.if-live-k.true in listed_add _ _ _ _ _ _ _ c.loop-k.best y.0 y.1 (w.if-nearer.ensures.yes refl) y.2 h)
      | else-live-k w ↦ rw w.best-is
          (elim w.else-live-k.branch [
            | else-live-k-via-then-live-k+else-nearer v ↦ listed_later _ _ _ _ _ _ _ c.loop-k.best (v.if-nearer.ensures.no refl) h
            | else-live-k-via-else-live-k v ↦ listed_unfair _ _ _ _ _ _ _ c.loop-k.best (d.no v.if-live-k.false) h
          ])
    ]
