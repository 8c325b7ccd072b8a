-- `listing::plans::lay_policies` meets its contract. At each turn the plan is that of the first p policies, those that count.
use Rattle.std.proofs.Common.{◌<◌, length, arith}
use Rattle.std.proofs.Math.ListN.{length-set}
use Rattle.listing.proofs.PlanLaws.{plan_start, plan_skip, plan_restricts, plan_permits, plan_done}
use Rattle.listing.proofs.plans.lay_policies.Goals as goal
use Rattle.listing.proofs.plans.lay_policies.Goals.{After-applies, then-is_restrictive, else-is_restrictive}

there : (c : After-applies) → c.loop-p.p < length c.args.a.now.policies
there c = let n = c.policies-p-end.ensures.number in let l = c.loop-p-test.true in omega arith

pub loop-p-init : goal.loop-p-init
loop-p-init c = record { few = omega arith; counts = omega arith; plan = λ h. plan_start c.args.a.now c.args.t c.args.command _ _ _ }

pub loop-p-preserved-then-not-applies : goal.loop-p-preserved-then-not-applies
loop-p-preserved-then-not-applies c =
    let i = there (goal.at.loop-p-preserved-then-not-applies c).After-applies in
    record {
      few = omega arith;
      counts = c.loop-p.invariant.counts;
      plan = λ h. plan_skip c.args.a.now c.args.t c.args.command c.loop-p.p _ _ _ _ _ i (c.loop-p.invariant.plan h) (c.applies.ensures h i) c.if-not-applies.true;
    }

pub loop-p-preserved : goal.loop-p-preserved
loop-p-preserved c =
    let a = c.args in
    let i = there (goal.at.loop-p-preserved c).After-applies in
    let most = c.policies-p-end.ensures.few in
    let n = c.policies-p-end.ensures.number in
    let near = c.loop-p.invariant.few in
    let size = c.loop-p.invariant.counts in
    let type = c.is_restrictive.ensures i in
    elim c.if-is_restrictive.branch [
      | then-is_restrictive w ↦
          let laid = w.lay_policy.ensures in
          rw (w.plan-is, w.some-is, w.all-is) (record {
            few = omega arith;
            counts = simp length-set size;
            plan = λ h. plan_restricts a.a.now a.t a.command c.loop-p.p _ _ _ _ _ i (c.loop-p.invariant.plan h) (c.applies.ensures h i) c.if-not-applies.false type (omega arith) near w.lay_policy.result _ _ w.if-is_restrictive.true (omega arith) laid.few laid.words laid.heads laid.laid;
          })
      | else-is_restrictive w ↦
          let laid = w.lay_policy-some.ensures in
          let few = laid.few in
          rw (w.plan-is, w.some-is, w.all-is) (record {
            few = omega arith;
            counts = size;
            plan = λ h. plan_permits a.a.now a.t a.command c.loop-p.p _ _ _ _ _ i (c.loop-p.invariant.plan h) (c.applies.ensures h i) c.if-not-applies.false type (omega arith) near w.lay_policy-some.result _ _ w.if-is_restrictive.false laid.words laid.heads laid.laid;
          })
    ]

pub returns : goal.returns
returns c = let n = c.policies-p-end.ensures.number in let l = c.loop-p-test.false in
    λ h. plan_done c.args.a.now c.args.t c.args.command c.loop-p.p _ (omega arith) (c.loop-p.invariant.plan h)
