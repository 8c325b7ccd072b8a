-- `rows::inner::contents_within` meets its contract. At each turn c contents are read and held, and what is left to read is the definition's rest.
use Rattle.std.proofs.Common.{arith}
use Rattle.rows.proofs.FillLaws.{going_held, going_skips, going_value}
use Rattle.rows.proofs.inner.contents_within.Goals as goal

pub loop-c-preserved-then-not-is_there : goal.loop-c-preserved-then-not-is_there
loop-c-preserved-then-not-is_there c = record {
  low = omega arith;
  most = omega arith;
  going = λ f ks F xs q is. going_skips _ f ks F _ _ _ _ _ _ (c.loop-c.invariant.going f ks F xs q is) c.loop-c-test.true c.is_there.ensures c.if-not-is_there.true c.set.ensures;
}

pub loop-c-preserved : goal.loop-c-preserved
loop-c-preserved c = record {
  low = omega arith;
  most = omega arith;
  going = λ f ks F xs q is. going_value _ f ks F _ _ _ _ _ _ (c.loop-c.invariant.going f ks F xs q is) c.loop-c-test.true c.is_there.ensures c.if-not-is_there.false (λ k y o K. c.content_within-x.ensures.2 k y o K) is c.set-in-loop-c.ensures;
}

pub returns : goal.returns
returns c = (c.loop-c.invariant.low, omega arith, λ f ks F. going_held _ f ks F _ _ _ _ _ _ (λ xs q is. c.loop-c.invariant.going f ks F xs q is) (omega arith))
