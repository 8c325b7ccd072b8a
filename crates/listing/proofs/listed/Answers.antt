-- `listing::listed` meets its contract. The refusals 12 and 14 in their order, by the sheet's own counts.
use Rattle.std.proofs.Common.{arith, subst}
use Rattle.listing.specs.Ready.{asked_of, Lists}
use Rattle.listing.proofs.ReplyLaws.{refused_table, refused_command, refused_short, asked_on}
use Rattle.listing.proofs.listed.Goals as goal
use Rattle.listing.proofs.listed.Goals.{then-tables-table-via-then-tables-table, then-tables-table-via-else-tables-table+then-command-gt3}

pub returns-then-tables-table : goal.returns-then-tables-table
returns-then-tables-table c =
    let n = c.tables.ensures.number in
    let a = c.args in
    elim c.then-tables-table.branch [
      | then-tables-table-via-then-tables-table w ↦ let l = w.if-tables-table.true in refused_table a.a.now c.tables.ensures.allowed a.table a.command a.session.now a.rows.now a.out.now (omega arith)
      | then-tables-table-via-else-tables-table+then-command-gt3 w ↦ let l = w.if-tables-table.false in refused_command a.a.now c.tables.ensures.allowed a.table a.command a.session.now a.rows.now a.out.now (omega arith) w.if-command-gt3.true
    ]

pub returns-then-out-rows : goal.returns-then-out-rows
returns-then-out-rows c =
    let n = c.tables.ensures.number in
    let l = c.if-tables-table.false in
    let a = c.args in
    refused_short a.a.now c.tables.ensures.allowed a.table a.command a.session.now a.rows.now a.out.now (omega arith) c.if-command-gt3.false c.if-out-rows.true

pub returns : goal.returns
returns c =
    let n = c.tables.ensures.number in
    let l = c.if-tables-table.false in
    let a = c.args in
    asked_on a.a.now c.tables.ensures.allowed a.table a.command a.session.now a.rows.now a.out.now (omega arith) c.if-command-gt3.false c.if-out-rows.false
    c.list_for.result _ (subst (λ k. Lists (asked_of a.a.now a.table k a.session.now a.rows.now) a.out.now c.list_for.result c.list_for.new.out) c.from.ensures c.list_for.ensures)
