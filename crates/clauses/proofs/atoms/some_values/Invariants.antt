-- `clauses::atoms::some_values` meets its contract. The loop's invariant: the first i values were found, and the array begins with them.
use Rattle.std.proofs.Common.{ℕ, ◌≡◌, length, take}
use Rattle.bits.specs.Fields.{place_at}
use Rattle.meaning.specs.Values.{Kind, kind_number}
use Rattle.meaning.specs.Reading.{times, value}
use Rattle.values.specs.Reads.{Got}
use Rattle.clauses.proofs.atoms.some_values.Given as goal

abbrev pub invariant-loop-i : goal.invariant-loop-i
invariant-loop-i l = record {
  room : length l.values ≡ 8;
  found : (k : Kind) (o : ℕ) → kind_number k ≡ l.kind → l.initial.p ≡ place_at o → Got (times l.i (value k) l.s o) (λ ns. take l.i l.values ≡ ns) l.p;
}
