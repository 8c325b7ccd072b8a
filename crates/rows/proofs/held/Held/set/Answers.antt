-- `Held::set` meets its contract: one variable holds the content, and the others what they held.
use Rattle.std.proofs.Common.{arith}
use Rattle.rows.proofs.CellLaws.{sets_null, sets_value}
use Rattle.rows.proofs.held.Held.set.Goals as goal

pub returns-in-Null : goal.returns-in-Null
returns-in-Null c = sets_null _ _ c.self.view_is (omega arith) _ (omega arith) c.in-Null.is

pub returns-in-Value : goal.returns-in-Value
returns-in-Value c = sets_value _ _ c.self.view_is (omega arith) _ (omega arith) _ c.in-Value.is
