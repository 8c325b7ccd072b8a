-- From the least solution with neither null, w rises or does not.
use Rattle.reach.proofs.CutLaws.{lesser_none}
use Rattle.reach.proofs.Conjunction.less.Goals as goal

pub returns-in-None : goal.returns-in-None
returns-in-None c = lesser_none _ _ c.args.u c.args.w c.requires.0 c.requires.1 (rw c.both.ensures at c.in-None.ensures)
