-- The atoms passed are written.
use Rattle.std.proofs.Common.{ℕ, ◌≡◌, List, ◌++◌, length, map, take}
use Rattle.lists.specs.Lists.{each}
use Rattle.meaning.specs.Packed.{atom_bits}
use Rattle.meaning.specs.Views.{atom_of}
use Rattle.steps.specs.Lists.{kind_by}
use Rattle.packing.specs.Wrote.{AllInFive, Wrote}
use Rattle.packing.proofs.Writer.write_atoms.Given as goal

abbrev pub invariant-loop-a : goal.invariant-loop-a
invariant-loop-a l = record {
  same : l.self.out.ghost_name ≡ l.initial.self.out.ghost_name;
  written : (o bs : List ℕ) → Wrote o bs l.initial.self.out.now l.initial.self.bits → AllInFive (map atom_of l.atoms) → Wrote o (bs ++ each (atom_bits (kind_by l.kinds)) (take l.a-index (map atom_of l.atoms))) l.self.out.now l.self.bits;
}
