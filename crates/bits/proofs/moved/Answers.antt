-- What is brought in is below the lowest bit of what was moved up.
use Rattle.std.proofs.Common.{◌-◌, arith}
use Rattle.bits.proofs.WordLaws.{moved_fits, ninth_lt}
use Rattle.bits.proofs.moved.Goals as goal

pub overflow_add-result : goal.overflow_add-result
overflow_add-result c = record { fits = moved_fits _ _ (64 - c.args.bit) c.args.bit 64 (omega arith) (ninth_lt _ _ (omega arith) (omega arith)) }
