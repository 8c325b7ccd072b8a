-- From the least solution with neither null, they split or do not.
use Rattle.reach.proofs.SplitLaws.{apart_none}
use Rattle.reach.proofs.Conjunction.apart.Goals as goal

pub returns-in-None : goal.returns-in-None
returns-in-None c = apart_none _ _ _ _ c.requires.0 c.requires.1 (rw c.both.ensures at c.in-None.ensures)
