-- `clauses::clause::atoms_held` meets its contract. The loop's invariant: the first atoms were found, and the set was asked for each of them.
use Rattle.std.proofs.Common.{ℕ, ◌≡◌}
use Rattle.lists.specs.Lists.{every}
use Rattle.bits.specs.Fields.{place_at}
use Rattle.meaning.specs.Sheets.{Sheet}
use Rattle.meaning.specs.Reading.{times, atom}
use Rattle.values.specs.Reads.{Got}
use Rattle.clauses.specs.Facts.{FactsAre, atom_held}
use Rattle.clauses.proofs.clause.atoms_held.Given as goal

abbrev pub invariant-loop : goal.invariant-loop
invariant-loop l = (facts : Sheet) (o : ℕ) → FactsAre facts l.f → l.initial.p ≡ place_at o → Got (times l.counter (atom facts) l.s o) (λ c. l.held ≡ every (atom_held l.columns) c) l.p
