-- The atoms passed are written, merged.
use Rattle.std.proofs.Common.{◌≡◌, length, map, take}
use Rattle.meaning.specs.Atoms as m
use Rattle.meaning.specs.Views.{atom_of}
use Rattle.meaning.specs.Steps.{on, shared}
use Rattle.steps.specs.Lists.{elements}
use Rattle.steps.proofs.clauses.merge_lists.Given as goal

abbrev pub sharing : m.Clause → m.Atom → m.Atom
sharing c a = on a.variable (shared c a.variable a.operator)

abbrev pub invariant-loop-a : goal.invariant-loop-a
invariant-loop-a l = record { many : length (elements l.out) ≡ l.a-index; written : map atom_of (elements l.out) ≡ map (sharing (map atom_of l.atoms)) (map atom_of (take l.a-index l.atoms)) }
