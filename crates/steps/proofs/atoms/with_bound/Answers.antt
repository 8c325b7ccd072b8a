-- The bound is the first of the values.
use Rattle.std.proofs.Common.{refl}
use Rattle.meaning.specs.Views.{atom_of}
use Rattle.steps.proofs.atoms.with_bound.Goals as goal

pub returns : goal.returns
unfolding atom_of
returns c = refl
