-- `Plan::next_open` meets its contract. No head is open from the start up to the slot at hand.
use Rattle.std.proofs.Common.{◌-◌, ◌≤◌}
use Rattle.rows.specs.Held.{held}
use Rattle.admission.specs.Plan.{Closed}
use Rattle.admission.proofs.plan.Plan.next_open.Given as goal

abbrev pub invariant-loop-k : goal.invariant-loop-k
invariant-loop-k l = record { low : l.from ≤ l.k; high : l.k ≤ l.end; closed : Closed (held l.vars) l.self.heads l.from l.k }

abbrev pub decreases-loop-k : goal.decreases-loop-k
decreases-loop-k l = l.end - l.k
