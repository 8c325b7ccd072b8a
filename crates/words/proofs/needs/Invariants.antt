-- After i atoms their variables are marked.
use Rattle.std.proofs.Common.{◌≡◌, length}
use Rattle.words.specs.Ties.{Needs}
use Rattle.words.proofs.needs.Given as goal

abbrev pub invariant-loop-i : goal.invariant-loop-i
invariant-loop-i l = record { size : length l.need ≡ 32; marked : Needs l.s l.i l.initial.need l.need }
