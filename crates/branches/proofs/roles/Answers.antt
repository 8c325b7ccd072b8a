-- `branches::roles` meets its contract: the first p roles are those of the first p policies, and the others 0.
use Rattle.std.proofs.Common.{arith}
use Rattle.branches.proofs.FillLaws.{filled_starts, filled_more, role_at, roles_are}
use Rattle.branches.proofs.roles.Goals as goal

pub loop-p-init : goal.loop-p-init
loop-p-init c = filled_starts _

pub loop-p-preserved : goal.loop-p-preserved
loop-p-preserved c = let few = c.policies-p-end.ensures.few in let l = c.loop-p-test.true in
    filled_more _ _ _ _ (omega arith) (role_at _ _ _ c.role_of.ensures c.is_restrictive.ensures c.applies.ensures) c.loop-p.invariant

pub returns : goal.returns
returns c = let n = c.policies-p-end.ensures.number in let l = c.loop-p-test.false in let u = c.loop-p.auto.p-end in
    roles_are _ _ _ (omega arith) c.loop-p.invariant
