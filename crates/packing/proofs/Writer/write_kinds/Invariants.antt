-- The kinds passed are written.
use Rattle.std.proofs.Common.{ℕ, ◌≡◌, List, ◌++◌, length, map, take}
use Rattle.lists.specs.Lists.{each}
use Rattle.meaning.specs.Values.{Kind, kind_number}
use Rattle.meaning.specs.Packed.{kind_bits}
use Rattle.packing.specs.Wrote.{Wrote}
use Rattle.packing.proofs.Writer.write_kinds.Given as goal

abbrev pub invariant-loop-k : goal.invariant-loop-k
invariant-loop-k l = record {
  same : l.self.out.ghost_name ≡ l.initial.self.out.ghost_name;
  written : (o bs : List ℕ) (ks : List Kind) → Wrote o bs l.initial.self.out.now l.initial.self.bits → l.kinds ≡ map kind_number ks → Wrote o (bs ++ each kind_bits (take l.k-index ks)) l.self.out.now l.self.bits;
}
