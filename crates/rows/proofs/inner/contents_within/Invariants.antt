-- `rows::inner::contents_within` meets its contract. At each turn c contents are read and held, and what is left to read is the definition's rest.
use Rattle.std.proofs.Common.{◌≡◌, ℕ, ◌+◌, ◌*◌, ◌≤◌, Bool, List}
use Rattle.meaning.specs.declared.Content.{Content}
use Rattle.meaning.specs.Values.{Kind}
use Rattle.meaning.specs.Reading.{found, contents}
use Rattle.rows.specs.Held.{held, Fields}
use Rattle.rows.proofs.FillLaws.{Going}
use Rattle.rows.proofs.inner.contents_within.Given as goal

abbrev pub invariant-loop-c : goal.invariant-loop-c
invariant-loop-c l = record {
  low : l.from ≤ l.p;
  most : l.p ≤ l.from + 65 * l.c;
  going : (f : ℕ → Bool) (ks : List Kind) → Fields l.form f ks → (xs : List Content) (q : ℕ) → contents f 0 ks l.s l.from ≡ found xs q
      → Going f ks l.s l.from l.form.first l.c l.p (held l.initial.vars) (held l.vars);
}
