-- Where the bits are past every sheet's nothing is promised; else the field is put behind them.
use native.Mathlib.Omega.{arith}
use Rattle.bits.specs.Bits.{bits}
use Rattle.packing.proofs.WroteLaws.{wrote_past, wrote_field}
use Rattle.packing.proofs.Writer.write.Goals as goal

pub returns-then-self-le-MANY-clause-wrote : goal.returns-then-self-le-MANY-clause-wrote
returns-then-self-le-MANY-clause-wrote c = λ o bs w v. wrote_field o bs c.args.self.now.out.now c.put_field.new.out c.args.self.now.bits c.args.width c.args.value c.requires w v c.put_field.ensures

pub returns-else-self-le-MANY-clause-wrote : goal.returns-else-self-le-MANY-clause-wrote
returns-else-self-le-MANY-clause-wrote c =
    λ o bs w v. wrote_past o bs (bits c.args.width c.args.value) c.args.self.now.out.now c.args.self.now.out.now c.args.self.now.bits c.args.self.now.bits (omega arith) w
