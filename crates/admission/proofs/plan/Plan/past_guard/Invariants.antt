-- `Plan::past_guard` meets its contract. Each slot from the start up to the one at hand has the guard.
use Rattle.std.proofs.Common.{◌≡◌, ℕ, ◌<◌, ◌≤◌, get_or}
use Rattle.admission.specs.Plan.{guard_of}
use Rattle.admission.proofs.plan.Plan.past_guard.Given as goal

abbrev pub invariant-loop-k : goal.invariant-loop-k
invariant-loop-k l = (j : ℕ) → l.from ≤ j → j < l.k → guard_of (get_or l.self.heads j 0) ≡ l.guard
