-- `values::value_at` meets its contract: the field is the definition's, and so are its code and the greatest of the kind.
use Rattle.std.proofs.Common.{sym, ◌∙◌}
use Rattle.values.specs.Reads.{answered, stopped}
use Rattle.values.proofs.ValueLaws.{value_lost, value_got, value_strange}
use Rattle.values.proofs.value_at.Goals as goal

pub returns-in_default : goal.returns-in_default
returns-in_default c k p K e = stopped (value_lost k _ p _ e (sym c.in_default.is ∙ c.field_at.ensures))

pub returns-then-last_of-v : goal.returns-then-last_of-v
returns-then-last_of-v c k p K e = stopped (value_strange k _ p _ e (sym c.in-Ok.is ∙ c.field_at.ensures) (c.raw_of-v.ensures k K) (c.last_of.ensures k K) c.if-last_of-v.true)

pub returns : goal.returns
returns c k p K e = answered (value_got k _ p _ e (sym c.in-Ok.is ∙ c.field_at.ensures) (c.raw_of-v.ensures k K) (c.last_of.ensures k K) c.if-last_of-v.false)
