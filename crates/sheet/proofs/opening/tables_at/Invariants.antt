-- `sheet::opening::tables_at` meets its contract. The loop's invariant: the first i tables were found, and the book holds them.
use Rattle.std.proofs.Common.{ℕ, ◌≡◌, length}
use Rattle.bits.specs.Fields.{place_at}
use Rattle.meaning.specs.Reading.{times, table}
use Rattle.values.specs.Reads.{Got}
use Rattle.sheet.specs.Fronts.{TablesIn}
use Rattle.sheet.proofs.opening.tables_at.Given as goal

abbrev pub invariant-loop-i : goal.invariant-loop-i
invariant-loop-i l = record {
  room : length l.book ≡ 240;
  found : (o : ℕ) → l.initial.p ≡ place_at o → Got (times l.i (table l.c) l.s o) (TablesIn l.book) l.p;
}
