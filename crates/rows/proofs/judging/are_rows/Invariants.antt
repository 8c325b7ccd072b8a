-- `rows::judging::are_rows` meets its contract. At each turn the rows up to p are of the form, and the rest of the list is the definition's; a row of no bits never ends it.
use Rattle.std.proofs.Common.{◌-◌, ◌^◌, ◌≤◌}
use Rattle.meaning.specs.Sheets.{Sheet, Table, holds}
use Rattle.rows.specs.Held.{Fields}
use Rattle.rows.proofs.ListLaws.{Judging}
use Rattle.rows.proofs.judging.are_rows.Given as goal

abbrev pub invariant-loop-p : goal.invariant-loop-p
invariant-loop-p l = record {
  small : l.p ≤ 2 ^ 21;
  judging : (sheet : Sheet) (t : Table) → Fields l.form (holds t) sheet.columns → Judging sheet t l.s l.p;
}

abbrev pub decreases-loop-p : goal.decreases-loop-p
decreases-loop-p l = 2 ^ 21 - l.p
