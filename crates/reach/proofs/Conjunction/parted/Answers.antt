-- The least solution tells where it has just one of the two null, or where no solution has either null.
use Rattle.reach.proofs.SplitLaws.{parts_none, parts_neither, lowest_of}
use Rattle.reach.proofs.Conjunction.parted.Goals as goal

pub returns-in_default : goal.returns-in_default
returns-in_default c = parts_none _ _ c.args.u c.args.w (rw c.in_default.is at c.solve.ensures)

pub splits-requires : goal.splits-requires
splits-requires c = (c.requires.0, c.requires.1, lowest_of _ _ _ _ c.requires.0 c.requires.1 c.in-Some.low c.in-Some.ensures c.in-true-true.is-0 c.in-true-true.is-1)

pub returns-in-true-true : goal.returns-in-true-true
returns-in-true-true c = parts_neither _ _ _ _ c.requires.0 c.requires.1 c.in-Some.low c.in-Some.ensures c.in-true-true.is-0 c.in-true-true.is-1 _ c.splits.ensures
