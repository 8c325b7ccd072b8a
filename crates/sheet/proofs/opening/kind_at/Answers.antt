-- `sheet::opening::kind_at` meets its contract: the field is the definition's, and so is the test on it.
use Rattle.std.proofs.Common.{sym, ◌∙◌, arith}
use Rattle.values.specs.Reads.{answered, stopped}
use Rattle.values.proofs.ReadLaws.{field_got, field_lost}
use Rattle.sheet.proofs.FrontLaws.{kind_lost, kind_high, kind_got}
use Rattle.sheet.proofs.opening.kind_at.Goals as goal

pub returns-in_default : goal.returns-in_default
returns-in_default c p e = stopped (kind_lost _ p (field_lost _ _ p 2 (omega arith) (omega arith) e (sym c.in_default.is ∙ c.field_at.ensures)))

pub returns-then-n-gt2 : goal.returns-then-n-gt2
returns-then-n-gt2 c p e = stopped (kind_high _ p (field_got _ _ p 2 (omega arith) (omega arith) e (sym c.in-Ok.is ∙ c.field_at.ensures)) c.if-n-gt2.true)

pub returns : goal.returns
returns c p e = answered (kind_got _ p (field_got _ _ p 2 (omega arith) (omega arith) e (sym c.in-Ok.is ∙ c.field_at.ensures)) c.if-n-gt2.false)
