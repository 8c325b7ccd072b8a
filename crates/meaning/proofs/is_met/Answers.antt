use Rattle.meaning.proofs.ViewLaws.{met_null, met_value}
use Rattle.meaning.proofs.is_met.Goals as goal

pub returns-in-Null : goal.returns-in-Null
returns-in-Null c e p q = met_null _ _ _ e c.in-Null.is p q

pub returns-in-Value : goal.returns-in-Value
returns-in-Value c e p q = met_value _ _ _ _ _ e c.in-Value.is c.value_passes.ensures p q
