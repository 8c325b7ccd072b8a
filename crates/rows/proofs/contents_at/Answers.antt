-- `rows::contents_at` meets its contract. At each turn c contents are read and held, and what is left to read is the definition's rest.
use Rattle.std.proofs.Common.{arith}
use Rattle.rows.proofs.ContentLaws.{ends_by}
use Rattle.rows.proofs.FillLaws.{going_done, going_skips, going_reads, going_stops}
use Rattle.rows.proofs.contents_at.Goals as goal

pub loop-c-preserved-then-not-is_there : goal.loop-c-preserved-then-not-is_there
loop-c-preserved-then-not-is_there c = record {
  low = omega arith;
  most = omega arith;
  top = omega arith;
  going = λ f ks F. going_skips _ f ks F _ _ _ _ _ _ (c.loop-c.invariant.going f ks F) c.loop-c-test.true c.is_there.ensures c.if-not-is_there.true c.set.ensures;
}

pub returns-in_err-x : goal.returns-in_err-x
returns-in_err-x c = rw c.from_residual.ensures (tt, λ f ks F. going_stops _ f ks F _ _ _ _ _ _ (c.loop-c.invariant.going f ks F) c.loop-c-test.true c.is_there.ensures c.if-not-is_there.false c.content_at.ensures.1 _ c.in_err-x.was)

pub loop-c-preserved : goal.loop-c-preserved
loop-c-preserved c = let w = ends_by _ _ _ c.in_ok-x.was c.content_at.ensures.0 in
    record {
      low = omega arith;
      most = omega arith;
      top = omega arith;
      going = λ f ks F. going_reads _ f ks F _ _ _ _ _ _ (c.loop-c.invariant.going f ks F) c.loop-c-test.true c.is_there.ensures c.if-not-is_there.false c.content_at.ensures.1 c.in_ok-x.was c.set-in-loop-c.ensures;
    }

pub returns : goal.returns
returns c = ((omega arith, omega arith, omega arith), λ f ks F. going_done _ f ks F _ _ _ _ _ _ (c.loop-c.invariant.going f ks F) (omega arith))
