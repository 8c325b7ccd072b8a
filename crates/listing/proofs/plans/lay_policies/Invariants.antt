-- `listing::plans::lay_policies` meets its contract. At each turn the plan is that of the first p policies, those that count.
use Rattle.std.proofs.Common.{◌≡◌, ◌+◌, ◌*◌, ◌<◌, ◌≤◌, length}
use Rattle.listing.proofs.PlanLaws.{PlanTo}
use Rattle.listing.proofs.plans.lay_policies.Given as goal

abbrev pub invariant-loop-p : goal.invariant-loop-p
invariant-loop-p l = record {
  few : l.some + 8 * l.all ≤ 8 * l.p;
  counts : length l.plan.counts ≡ 16;
  plan : l.t < length l.a.tables → PlanTo l.a l.t l.command l.p l.plan.words l.plan.heads l.plan.counts l.some l.all;
}
