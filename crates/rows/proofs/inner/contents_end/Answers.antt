-- `rows::inner::contents_end` meets its contract. At each turn c contents are passed, and the rest ends where the whole ends.
use Rattle.std.proofs.Common.{arith}
use Rattle.rows.proofs.RowLaws.{ends_within}
use Rattle.rows.proofs.EndLaws.{goes_done, goes_skips, goes_on, goes_lost}
use Rattle.rows.proofs.inner.contents_end.Goals as goal
use Rattle.rows.proofs.inner.contents_end.Goals.{then-is_there+in_ok-p, else-is_there}

pub returns-in_err-p : goal.returns-in_err-p
returns-in_err-p c = rw c.from_residual.ensures (tt, λ f ks F. goes_lost _ f ks F _ _ _ _ (c.loop-c.invariant.goes f ks F) c.loop-c-test.true c.is_there.ensures c.if-is_there.true c.content_end.ensures.1 c.in_err-p.was)

pub loop-c-preserved : goal.loop-c-preserved
loop-c-preserved c =
    elim c.if-is_there.branch [
      | then-is_there+in_ok-p w ↦ let b = ends_within _ _ _ w.in_ok-p.was w.content_end.ensures.0 in
          record {
            low = omega arith;
            most = omega arith;
            top = omega arith;
            goes = λ f ks F. rw w.p-is (goes_on _ f ks F _ _ _ _ (c.loop-c.invariant.goes f ks F) c.loop-c-test.true c.is_there.ensures w.if-is_there.true w.content_end.ensures.1 w.in_ok-p.was);
          }
      | else-is_there w ↦ record {
        low = omega arith;
        most = omega arith;
        top = omega arith;
        goes = λ f ks F. rw w.p-is (goes_skips _ f ks F _ _ _ _ (c.loop-c.invariant.goes f ks F) c.loop-c-test.true c.is_there.ensures w.if-is_there.false);
      }
    ]

pub returns : goal.returns
returns c = ((omega arith, omega arith, omega arith), λ f ks F. goes_done _ f ks F _ _ _ _ (c.loop-c.invariant.goes f ks F) (omega arith))
