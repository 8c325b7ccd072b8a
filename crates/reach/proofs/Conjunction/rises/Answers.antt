-- Where some solution has u below w, a cut of it and the least one has u at its least and w above: so the least with w above tells.
use Rattle.std.proofs.Common.{refl}
use Rattle.reach.proofs.CutLaws.{rises_max, rises_by, rises_stuck}
use Rattle.reach.proofs.Conjunction.rises.Goals as goal

pub returns-then-self-w : goal.returns-then-self-w
returns-then-self-w c = rises_max _ _ _ _ c.requires.0 c.requires.1 c.args.low.now c.requires.2 c.if-self-w.true

pub returns-in-Some : goal.returns-in-Some
returns-in-Some c = rises_by _ _ _ _ c.requires.0 c.requires.1 c.args.low.now c.requires.2 c.in-Some.high (rw c.both.ensures at c.in-Some.ensures) _ refl

pub returns-in-None : goal.returns-in-None
returns-in-None c = rises_stuck _ _ c.args.u c.args.w c.requires.0 c.requires.1 c.args.low.now c.requires.2 (rw c.both.ensures at c.in-None.ensures)
