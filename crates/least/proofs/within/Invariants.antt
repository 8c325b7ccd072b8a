-- The first k values are marked.
use Rattle.std.proofs.Common.{◌≡◌, ℕ, ◌≤◌, ◌<◌, false, length, get_or}
use Rattle.lists.specs.Decides.{Decides}
use Rattle.least.proofs.within.Given as goal

abbrev pub invariant-loop-k : goal.invariant-loop-k
invariant-loop-k l = record {
  size : length l.live ≡ 8;
  marked : (j : ℕ) → j < l.k → Decides ((l.low ≤ get_or l.values j 0) × (get_or l.values j 0 ≤ l.high)) (get_or l.live j false);
}
