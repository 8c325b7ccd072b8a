-- `rows::contents_at` meets its contract. At each turn c contents are read and held, and what is left to read is the definition's rest.
use Rattle.std.proofs.Common.{ℕ, ◌+◌, ◌*◌, ◌≤◌, Bool, List, length}
use Rattle.meaning.specs.Values.{Kind}
use Rattle.rows.specs.Held.{held, Fields}
use Rattle.rows.proofs.FillLaws.{Going}
use Rattle.rows.proofs.contents_at.Given as goal

abbrev pub invariant-loop-c : goal.invariant-loop-c
invariant-loop-c l = record {
  low : l.from ≤ l.p;
  most : l.p ≤ l.from + 65 * l.c;
  top : l.p ≤ length l.s * 8;
  going : (f : ℕ → Bool) (ks : List Kind) → Fields l.form f ks → Going f ks l.s l.from l.form.first l.c l.p (held l.initial.vars) (held l.vars);
}
