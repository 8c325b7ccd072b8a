-- After k turns v is the number of the first k bytes.
use Rattle.std.proofs.Common.{◌*◌, ◌≡◌}
use Rattle.bits.specs.Bits.{number}
use Rattle.bits.proofs.last_eight.Given as goal

abbrev pub invariant-loop-k : goal.invariant-loop-k
invariant-loop-k l = l.v ≡ number l.s (l.at * 8) (l.k * 8)
