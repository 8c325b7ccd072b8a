-- The values passed are written.
use Rattle.std.proofs.Common.{ℕ, ◌≡◌, List, ◌++◌, length, take}
use Rattle.lists.specs.Lists.{each}
use Rattle.meaning.specs.Packed.{value_bits}
use Rattle.steps.specs.Lists.{kind_from}
use Rattle.packing.specs.Wrote.{Wrote}
use Rattle.packing.proofs.Writer.write_values.Given as goal

abbrev pub invariant-loop-x : goal.invariant-loop-x
invariant-loop-x l = record {
  same : l.self.out.ghost_name ≡ l.initial.self.out.ghost_name;
  written : (o bs : List ℕ) → Wrote o bs l.initial.self.out.now l.initial.self.bits → Wrote o (bs ++ each (value_bits (kind_from l.kind)) (take l.x-index l.values)) l.self.out.now l.self.bits;
}
