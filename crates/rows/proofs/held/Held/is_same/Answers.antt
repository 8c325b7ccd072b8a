-- `Held::is_same` meets its contract: two variables hold the same value where both are there and their values are the same.
use Rattle.std.proofs.Common.{arith}
use Rattle.rows.proofs.CellLaws.{same_past, same_differs, same_values, same_null}
use Rattle.rows.proofs.held.Held.is_same.Goals as goal
use Rattle.rows.proofs.held.Held.is_same.Goals.{then-u-ge24-via-then-u-ge24, then-u-ge24-via-else-u-ge24+then-self-v}

pub returns-then-u-ge24 : goal.returns-then-u-ge24
returns-then-u-ge24 c =
    elim c.then-u-ge24.branch [
      | then-u-ge24-via-then-u-ge24 w ↦ same_past _ _ c.self.view_is (omega arith) _ _ (omega arith)
      | then-u-ge24-via-else-u-ge24+then-self-v w ↦ same_differs _ _ c.self.view_is (omega arith) _ _ w.if-self-v.true
    ]

pub returns-then-self-v-2 : goal.returns-then-self-v-2
returns-then-self-v-2 c = same_values _ _ c.self.view_is (omega arith) _ _ c.if-self-v.false c.if-self-v-2.true

pub returns-else-self-v-2 : goal.returns-else-self-v-2
returns-else-self-v-2 c = same_null _ _ c.self.view_is (omega arith) _ _ c.if-self-v-2.false
