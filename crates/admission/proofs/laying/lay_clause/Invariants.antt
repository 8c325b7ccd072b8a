-- `admission::laying::lay_clause` meets its contract. At each turn k atoms are laid, and the others stand packed where the code looks next.
use Rattle.std.proofs.Common.{◌≡◌, ℕ, ◌+◌, ◌*◌, ◌≤◌, length}
use Rattle.meaning.specs.Atoms.{Clause}
use Rattle.meaning.specs.Sheets.{Sheet}
use Rattle.meaning.specs.Reading.{found, clause}
use Rattle.admission.specs.Plan.{Outside}
use Rattle.admission.proofs.ClauseLaws.{Laying}
use Rattle.admission.proofs.laying.lay_clause.Given as goal

abbrev pub invariant-loop-k : goal.invariant-loop-k
invariant-loop-k l = record {
  near : l.at ≤ l.p + 4 + 2048 * l.k;
  guard : l.guard ≤ 1023;
  sieve : l.sieve ≤ 2097151;
  outside : Outside (l.slot * 8) (l.slot * 8 + 8) l.initial.words l.words;
  laying : (facts : Sheet) (d : Clause) (q : ℕ) → length l.s ≤ 16384 → clause facts l.s l.p ≡ found d q → (l.n ≡ length d) × Laying facts l.s d q (l.slot * 8) (l.p + 4) l.k l.at l.guard l.sieve l.words;
}
