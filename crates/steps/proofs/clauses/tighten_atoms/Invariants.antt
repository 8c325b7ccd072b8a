-- The atoms passed are written, turned and tight.
use Rattle.std.proofs.Common.{◌≡◌, length, map, take}
use Rattle.meaning.specs.Views.{atom_of}
use Rattle.meaning.specs.Steps.{orient, tighten}
use Rattle.steps.specs.Lists.{elements}
use Rattle.steps.proofs.clauses.tighten_atoms.Given as goal

abbrev pub invariant-loop-a : goal.invariant-loop-a
invariant-loop-a l = record { many : length (elements l.out) ≡ l.a-index; written : map atom_of (elements l.out) ≡ map tighten (map orient (map atom_of (take l.a-index l.atoms))) }
