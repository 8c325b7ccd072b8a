-- The least solution with w not null has u null wherever any has.
use Rattle.std.proofs.Common.{refl}
use Rattle.reach.proofs.SplitLaws.{beside_by, beside_none}
use Rattle.reach.proofs.Conjunction.beside_null.Goals as goal

pub returns-in-Some : goal.returns-in-Some
returns-in-Some c = beside_by _ _ _ _ c.requires.0 c.requires.1 c.in-Some.low c.in-Some.ensures _ refl

pub returns-in-None : goal.returns-in-None
returns-in-None c = beside_none _ _ c.args.u c.args.w c.requires.0 c.requires.1 c.in-None.ensures
