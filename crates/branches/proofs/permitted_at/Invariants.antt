-- `branches::permitted_at` meets its contract: the clause sought is number `rest` of those from policy p on.
use Rattle.branches.proofs.PickLaws.{Seek}
use Rattle.branches.proofs.permitted_at.Given as goal

abbrev pub invariant-loop-p : goal.invariant-loop-p
invariant-loop-p l = Seek l.roles l.counts l.k l.p l.rest
