-- The 64 bits of the value.
use mathlib.Core.Path.{ap}
use native.Mathlib.Omega.{arith}
use Rattle.bits.specs.Bits.{bits}
use Rattle.meaning.specs.Packed.{value_bits}
use Rattle.steps.specs.Lists.{kind_from}
use Rattle.packing.proofs.WroteLaws.{wrote_as}
use Rattle.packing.proofs.Writer.write_value.Goals as goal

pub returns-clause-wrote : goal.returns-clause-wrote
returns-clause-wrote c = λ o bs w. wrote_as o bs (bits 64 c.raw_of.result) (value_bits (kind_from c.args.kind) c.args.n) c.write.new.self.out.now c.write.new.self.bits (ap (bits 64) c.raw_of.ensures) (c.write.ensures.wrote o bs w (omega arith))
