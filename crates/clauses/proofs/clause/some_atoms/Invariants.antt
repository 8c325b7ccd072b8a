-- `clauses::clause::some_atoms` meets its contract. The loop's invariant: the first i atoms were found, and the array begins with them.
use Rattle.std.proofs.Common.{ℕ, ◌≡◌, length, take, map}
use Rattle.bits.specs.Fields.{place_at}
use Rattle.meaning.specs.Sheets.{Sheet}
use Rattle.meaning.specs.Reading.{times, atom}
use Rattle.meaning.specs.Views.{atom_of}
use Rattle.values.specs.Reads.{Got}
use Rattle.clauses.specs.Facts.{FactsAre}
use Rattle.clauses.proofs.clause.some_atoms.Given as goal

abbrev pub invariant-loop-i : goal.invariant-loop-i
invariant-loop-i l = record {
  room : length l.atoms ≡ 8;
  found : (facts : Sheet) (o : ℕ) → FactsAre facts l.f → l.initial.p ≡ place_at o → Got (times l.i (atom facts) l.s o) (λ c. map atom_of (take l.i l.atoms) ≡ c) l.p;
}
