-- Of the values passed those that are common are written.
use Rattle.std.proofs.Common.{◌≡◌, ◌≤◌, length, map, take}
use Rattle.lists.specs.Lists.{keep}
use Rattle.meaning.specs.Views.{atom_of}
use Rattle.meaning.specs.Steps.{is_common}
use Rattle.steps.specs.Lists.{elements}
use Rattle.steps.proofs.clauses.common_values.Given as goal

abbrev pub invariant-loop-n : goal.invariant-loop-n
invariant-loop-n l = record { few : length (elements l.out) ≤ l.n-index; written : elements l.out ≡ keep (is_common (map atom_of l.atoms) l.v) (take l.n-index l.vs) }
