use mathlib.Core.Path.{refl}
use Rattle.asked.proofs.TurnLaws.{turned_there}
use Rattle.asked.proofs.turned_atom.Goals as goal

pub returns : goal.returns
returns c = turned_there _ _ refl c.turned_operator.ensures refl refl refl
