-- `verdicts::Asking::of` meets its contract: table and command are judged in full; roles, counts, N and ranges are the sheet's.
use Rattle.std.proofs.Common.{arith, refl, ◌∙◌, ◌<◌, length, inl, inr}
use Rattle.branches.proofs.SheetLaws.{count_is, counts_sized}
use Rattle.verdicts.proofs.ReplyLaws.{not_asked, table_asked}
use Rattle.verdicts.proofs.Asking.of.Goals as goal
use Rattle.verdicts.proofs.Asking.of.Goals.{then-tables-table-via-then-tables-table, then-tables-table-via-else-tables-table+then-command-gt3}

pub returns-then-tables-table : goal.returns-then-tables-table
returns-then-tables-table c = let n = c.tables.ensures.number in
    not_asked c.args.sheet.now c.tables.ensures.allowed c.args.table c.args.command
    (elim c.then-tables-table.branch [
      | then-tables-table-via-then-tables-table w ↦ let l = w.if-tables-table.true in inl (omega arith)
      | then-tables-table-via-else-tables-table+then-command-gt3 w ↦ let l = w.if-tables-table.false in inr (omega arith, w.if-command-gt3.true)
    ])

pub invariant_of-result : goal.invariant_of-result
invariant_of-result c =
    let n = c.tables.ensures.number in
    let l = c.if-tables-table.false in
    let a = c.args in
    let allowed = c.tables.ensures.allowed in
    let there : a.table < length a.sheet.now.tables = omega arith in
    let roles = c.roles-roles.ensures there in
    record {
      allowed = allowed;
      there = there;
      roles = roles;
      counts = c.counts-counts.ensures;
      number = c.count.ensures ∙ count_is a.sheet.now a.table a.command c.roles-roles.result allowed.policies roles c.counts-counts.result (counts_sized a.sheet.now c.counts-counts.result allowed c.counts-counts.ensures);
      ranges = c.tops.ensures a.sheet.now c.kinds.ensures;
    }

pub returns : goal.returns
returns c = let n = c.tables.ensures.number in let l = c.if-tables-table.false in let a = c.args in
    (table_asked a.sheet.now c.tables.ensures.allowed a.table a.command (omega arith) c.if-command-gt3.false, refl)
