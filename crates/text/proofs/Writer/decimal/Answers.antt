-- Twenty digits hold every number of 64 bits.
use Rattle.std.proofs.Common.{arith}
use Rattle.meaning.specs.ReadOut.{decimal}
use Rattle.text.proofs.WroteLaws.{digits_length}
use Rattle.text.proofs.Writer.decimal.Goals as goal

pub returns : goal.returns
unfolding decimal
returns c =
    let e = c.digits.ensures.wrote.end in
    let l = digits_length 20 c.args.n in
    record { text = c.digits.ensures; short = omega arith }
