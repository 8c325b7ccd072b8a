-- The variables below v that are needed have the least value of their class.
use Rattle.std.proofs.Common.{◌≡◌, length}
use Rattle.reach.proofs.ChoiceLaws.{Choosing}
use Rattle.reach.proofs.settle.Given as goal

abbrev pub invariant-loop-v : goal.invariant-loop-v
invariant-loop-v l = record { size : length l.x ≡ 32; choosing : Choosing l.s l.need l.rep l.floor l.x l.v }
