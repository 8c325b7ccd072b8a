-- `branches::roles` meets its contract: the first p roles are those of the first p policies, and the others 0.
use Rattle.branches.proofs.FillLaws.{Filled, RoleAt}
use Rattle.branches.proofs.roles.Given as goal

abbrev pub invariant-loop-p : goal.invariant-loop-p
invariant-loop-p l = Filled (RoleAt l.sheet l.t l.command) l.roles l.p
