-- All digits but the last stand before it.
use Rattle.std.proofs.Common.{arith}
use Rattle.text.specs.Wrote.{Adds}
use Rattle.text.proofs.WroteLaws.{no_digit, front_digits, no_front, some_front, last_digit}
use Rattle.text.proofs.Writer.+digits.Goals as goal
use Rattle.text.proofs.Writer.+digits.Goals.{then-n-ge10, else-n-ge10}

pub returns-then-digits-eq0 : goal.returns-then-digits-eq0
returns-then-digits-eq0 t c = no_digit _ _ _ c.if-digits-eq0.true

pub returns : goal.returns
returns t c =
    let front : Adds c.args.self.now (front_digits c.args.digits c.args.n) c.if-n-ge10.self =
    elim c.if-n-ge10.branch [
      | then-n-ge10 w ↦ some_front _ _ w.if-n-ge10.true (rw w.self-is w.digits.ensures)
      | else-n-ge10 w ↦ no_front _ _ w.if-n-ge10.false w.self-is
    ] in
    last_digit _ _ (omega arith) front c.byte.ensures
