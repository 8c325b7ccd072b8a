-- `sheet::policy_fields::clauses_at` meets its contract. The loop's invariant: the first i clauses were found where the book says.
use Rattle.std.proofs.Common.{ℕ, ◌≤◌, ◌≡◌, length}
use Rattle.lists.specs.Lists.{every}
use Rattle.bits.specs.Fields.{place_at}
use Rattle.meaning.specs.Sheets.{Sheet}
use Rattle.meaning.specs.Reading.{times, clause}
use Rattle.values.specs.Reads.{Got}
use Rattle.clauses.specs.Facts.{FactsAre, atom_held}
use Rattle.sheet.specs.Fronts.{KeptBelow, StartsAt}
use Rattle.sheet.proofs.policy_fields.clauses_at.Given as goal

abbrev pub invariant-loop-i : goal.invariant-loop-i
invariant-loop-i l = record {
  kept : KeptBelow l.from l.initial.book l.book;
  found : (facts : Sheet) (o : ℕ) → FactsAre facts l.f → length l.s ≤ 16384 → l.initial.p ≡ place_at o
      → Got (times l.i (clause facts) l.s o) (λ cs. StartsAt l.s facts l.book l.from cs × (l.held ≡ every (every (atom_held l.columns)) cs)) l.p;
}
