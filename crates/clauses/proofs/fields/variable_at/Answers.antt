-- `clauses::fields::variable_at` meets its contract: the field is the definition's, and the facts have the counts that the definition asks.
use Rattle.std.proofs.Common.{arith, sym, ◌∙◌}
use Rattle.values.specs.Reads.{answered, stopped}
use Rattle.values.proofs.ReadLaws.{field_got, field_lost, handed}
use Rattle.place.proofs.AtomHeadLaws.{variable_got, variable_wrong}
use Rattle.clauses.proofs.FieldLaws.{variable_lost}
use Rattle.clauses.proofs.fields.variable_at.Goals as goal

pub returns-in_default : goal.returns-in_default
returns-in_default c facts p F e = stopped (variable_lost facts _ _ (field_lost _ _ p 5 (omega arith) (omega arith) e (sym c.in_default.is ∙ c.field_at.ensures)))

pub returns-in_err-variable : goal.returns-in_err-variable
returns-in_err-variable c facts p F e =
    handed _ _ c.from_residual.ensures.1 (variable_wrong facts _ p F.columns F.keys (field_got _ _ p 5 (omega arith) (omega arith) e (sym c.in-Ok.is ∙ c.field_at.ensures)) c.in_err-variable.ensures)

pub returns : goal.returns
returns c facts p F e = answered (variable_got facts _ p F.columns F.keys (field_got _ _ p 5 (omega arith) (omega arith) e (sym c.in-Ok.is ∙ c.field_at.ensures)) c.in_ok-variable.ensures)
