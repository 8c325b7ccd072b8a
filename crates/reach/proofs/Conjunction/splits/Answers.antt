-- Least values that differ tell by themselves. Equal ones differ elsewhere exactly where one of the two rises while the other stays.
use Rattle.reach.proofs.SplitLaws.{splits_yes, splits_tied, apart_other, lowest_back}
use Rattle.reach.proofs.Conjunction.splits.Goals as goal

pub returns-then-low-u : goal.returns-then-low-u
returns-then-low-u c = splits_yes _ _ _ _ c.requires.0 c.requires.1 c.args.low.now c.requires.2 c.if-low-u.true

pub rises-requires-else-rises : goal.rises-requires-else-rises
rises-requires-else-rises c = (c.requires.1, c.requires.0, lowest_back _ _ _ _ c.requires.0 c.requires.1 c.args.low.now c.requires.2)

pub returns-else-rises : goal.returns-else-rises
returns-else-rises c = apart_other _ _ _ _ _ c.if-rises.ensures c.rises-else-rises.ensures

pub returns-else-not-tied : goal.returns-else-not-tied
returns-else-not-tied c = rw c.if-not-tied.false (splits_tied _ _ _ _ (c.tied.ensures c.if-not-tied.false))
