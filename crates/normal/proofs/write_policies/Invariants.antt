-- The normal forms of the first i policies are written.
use Rattle.std.proofs.Common.{ℕ, ◌≡◌, List}
use Rattle.packing.specs.Wrote.{Wrote}
use Rattle.normal.specs.Written.{PoliciesWritten}
use Rattle.normal.proofs.write_policies.Given as goal

abbrev pub invariant-loop-i : goal.invariant-loop-i
invariant-loop-i l = record {
  same : l.w.out.ghost_name ≡ l.initial.w.out.ghost_name;
  written : (o bs : List ℕ) → Wrote o bs l.initial.w.out.now l.initial.w.bits → PoliciesWritten l.sheet l.i o bs l.w.out.now l.w.bits;
}
