-- `Plan::next_open` meets its contract. No head is open from the start up to the slot at hand.
use Rattle.std.proofs.Common.{arith, refl}
use Rattle.rows.specs.Held.{held}
use Rattle.admission.proofs.ManyLaws.{closed_on, closed_past, second_decides}
use Rattle.admission.proofs.plan.Plan.next_open.Goals as goal

pub loop-k-preserved : goal.loop-k-preserved
loop-k-preserved c = record {
  low = omega arith;
  high = c.past_guard-k.ensures.1;
  closed = closed_past (held c.args.vars.now) c.args.self.now.heads _ _ c.loop-k.invariant.closed _ _ c.is_guard_met.ensures c.if-is_guard_met.false refl c.past_guard-k.ensures.2;
}

pub loop-k-preserved-then-is_guard_met : goal.loop-k-preserved-then-is_guard_met
loop-k-preserved-then-is_guard_met c = record {
  low = omega arith;
  high = omega arith;
  closed = closed_on (held c.args.vars.now) c.args.self.now.heads _ _ c.loop-k.invariant.closed (second_decides _ c.is_guard_met.ensures c.if-is_guard_met.true c.is_sieve_met.ensures) c.if-is_sieve_met.false;
}
