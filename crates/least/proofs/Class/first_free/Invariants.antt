-- No value of the class lies below x.
use Rattle.std.proofs.Common.{ℕ, ◌+◌, ◌-◌, ◌≤◌}
use Rattle.least.specs.Least.{Allowed}
use Rattle.least.proofs.Class.first_free.Given as goal

abbrev pub invariant-loop-x : goal.invariant-loop-x
invariant-loop-x l = record { from : l.low ≤ l.x; none : (n : ℕ) → l.low ≤ n → Allowed l.self.s.now l.self.rep.now l.self.r n → l.x ≤ n }

abbrev pub decreases-loop-x : goal.decreases-loop-x
decreases-loop-x l = l.high + 1 - l.x
