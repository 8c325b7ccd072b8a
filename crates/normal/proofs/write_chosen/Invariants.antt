-- The count, and then the clauses of the numbers passed are written.
use Rattle.std.proofs.Common.{ℕ, ◌≡◌, List, ◌++◌, take}
use Rattle.lists.specs.Lists.{All, each}
use Rattle.meaning.specs.Packed.{clause_bits}
use Rattle.steps.specs.Lists.{kind_by}
use Rattle.pruned.specs.Pruned.{chosen}
use Rattle.packing.specs.Wrote.{AllInFive, Wrote}
use Rattle.normal.proofs.write_chosen.Given as goal

abbrev pub invariant-loop-k : goal.invariant-loop-k
invariant-loop-k l = record {
  same : l.w.out.ghost_name ≡ l.initial.w.out.ghost_name;
  written : (o bs : List ℕ) → Wrote o bs l.initial.w.out.now l.initial.w.bits → All AllInFive (chosen l.cs l.order) → Wrote o (bs ++ each (clause_bits (kind_by l.kinds)) (take l.k-index (chosen l.cs l.order))) l.w.out.now l.w.bits;
}
