-- The variables below v are within their ranges.
use Rattle.std.proofs.Common.{◌≡◌, ℕ, ◌≤◌, ◌<◌, true, false, get_or}
use Rattle.reach.proofs.within.Given as goal

abbrev pub invariant-loop-v : goal.invariant-loop-v
invariant-loop-v l = (w : ℕ) → w < l.v → get_or l.need w false ≡ true → get_or l.x w 0 ≤ get_or l.top w 0
