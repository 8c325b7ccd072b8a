-- `sheet::policy_fields::policies_at` meets its contract. The loop's invariant: the first i policies were found, and stand in the book.
use Rattle.std.proofs.Common.{ℕ, ◌≤◌, ◌≡◌, length}
use Rattle.lists.specs.Lists.{every}
use Rattle.bits.specs.Fields.{place_at}
use Rattle.meaning.specs.Sheets.{Sheet}
use Rattle.meaning.specs.Reading.{times, policy}
use Rattle.values.specs.Reads.{Got}
use Rattle.sheet.specs.Fronts.{FrontIs, KeptBelow, PoliciesIn, policy_serves}
use Rattle.sheet.proofs.policy_fields.policies_at.Given as goal

abbrev pub invariant-loop-i : goal.invariant-loop-i
invariant-loop-i l = record {
  kept : KeptBelow 48 l.initial.book l.book;
  found : (facts : Sheet) (o : ℕ) → FrontIs l.f l.initial.book facts → length l.s ≤ 16384 → l.initial.p ≡ place_at o
      → Got (times l.i (policy facts) l.s o) (λ ps. PoliciesIn l.s facts l.book ps × (l.held ≡ every (policy_serves facts) ps)) l.p;
}
