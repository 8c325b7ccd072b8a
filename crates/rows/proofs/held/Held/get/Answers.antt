-- `Held::get` meets its contract: the arrays' view at one variable.
use Rattle.std.proofs.Common.{arith}
use Rattle.rows.proofs.CellLaws.{held_value, held_null, held_past}
use Rattle.rows.proofs.held.Held.get.Goals as goal
use Rattle.rows.proofs.held.Held.get.Goals.{else-v-lt24-via-then-v-lt24+else-self-v, else-v-lt24-via-else-v-lt24}

pub returns-then-self-v-clause-value : goal.returns-then-self-v-clause-value
returns-then-self-v-clause-value c = held_value _ _ c.self.view_is (omega arith) _ c.if-self-v.true

pub returns-clause-value : goal.returns-clause-value
returns-clause-value c =
    elim c.else-v-lt24.branch [
      | else-v-lt24-via-then-v-lt24+else-self-v w ↦ held_null _ _ c.self.view_is (omega arith) _ w.if-self-v.false
      | else-v-lt24-via-else-v-lt24 w ↦ held_past _ _ c.self.view_is (omega arith) _ (omega arith)
    ]
