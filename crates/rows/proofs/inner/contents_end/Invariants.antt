-- `rows::inner::contents_end` meets its contract. At each turn c contents are passed, and the rest ends where the whole ends.
use Rattle.std.proofs.Common.{ℕ, ◌+◌, ◌*◌, ◌≤◌, Bool, List, length}
use Rattle.meaning.specs.Values.{Kind}
use Rattle.rows.specs.Held.{Fields}
use Rattle.rows.proofs.EndLaws.{Goes}
use Rattle.rows.proofs.inner.contents_end.Given as goal

abbrev pub invariant-loop-c : goal.invariant-loop-c
invariant-loop-c l = record {
  low : l.from ≤ l.p;
  most : l.p ≤ l.from + 65 * l.c;
  top : l.p ≤ length l.s * 8;
  goes : (f : ℕ → Bool) (ks : List Kind) → Fields l.form f ks → Goes f ks l.s l.from l.c l.p;
}
