-- The first i tables are written.
use Rattle.std.proofs.Common.{ℕ, ◌≡◌, List, ◌++◌, take}
use Rattle.lists.specs.Lists.{each}
use Rattle.meaning.specs.Packed.{table_bits}
use Rattle.packing.specs.Wrote.{Wrote}
use Rattle.normal.proofs.write_tables.Given as goal

abbrev pub invariant-loop-i : goal.invariant-loop-i
invariant-loop-i l = record {
  same : l.w.out.ghost_name ≡ l.initial.w.out.ghost_name;
  written : (o bs : List ℕ) → Wrote o bs l.initial.w.out.now l.initial.w.bits → Wrote o (bs ++ each table_bits (take l.i l.sheet.tables)) l.w.out.now l.w.bits;
}
