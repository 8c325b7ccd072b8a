-- `branches::digits_of` meets its contract: the slots from place p on hold the last digits of k, and `rest` is what is left of it.
use Rattle.branches.proofs.PickLaws.{Going}
use Rattle.branches.proofs.digits_of.Given as goal

abbrev pub invariant-loop-p : goal.invariant-loop-p
invariant-loop-p l = Going l.roles l.counts l.k l.p l.slots l.rest
