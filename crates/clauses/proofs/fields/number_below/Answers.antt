-- `clauses::fields::number_below` meets its contract: the field is the definition's, and so is the test on it.
use Rattle.std.proofs.Common.{sym, ◌∙◌}
use Rattle.values.specs.Reads.{answered, stopped}
use Rattle.values.proofs.ReadLaws.{field_got, field_lost}
use Rattle.clauses.proofs.FieldLaws.{number_lost, number_high, number_got}
use Rattle.clauses.proofs.fields.number_below.Goals as goal

pub returns-in_default : goal.returns-in_default
returns-in_default c p e l h = stopped (number_lost _ _ _ _ (field_lost _ _ p _ l h e (sym c.in_default.is ∙ c.field_at.ensures)))

pub returns-then-most-n : goal.returns-then-most-n
returns-then-most-n c p e l h = stopped (number_high _ _ _ _ (field_got _ _ p _ l h e (sym c.in-Ok.is ∙ c.field_at.ensures)) c.if-most-n.true)

pub returns : goal.returns
returns c p e l h = answered (number_got _ _ _ _ (field_got _ _ p _ l h e (sym c.in-Ok.is ∙ c.field_at.ensures)) c.if-most-n.false)
