-- `covering::policy_covers` meets its contract: the clauses of b before i are spared.
use Rattle.std.proofs.Common.{ℕ, ◌<◌}
use Rattle.covering.proofs.CoverLaws.{Spared}
use Rattle.covering.proofs.policy_covers.Given as goal

abbrev pub invariant-loop-i : goal.invariant-loop-i
invariant-loop-i l = (j : ℕ) → j < l.i → Spared l.sheet l.a l.b j
