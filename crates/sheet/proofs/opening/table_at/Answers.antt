-- `sheet::opening::table_at` meets its contract: three fields, and no column held that the sheet does not have.
use Rattle.std.proofs.Common.{sym, ◌∙◌, arith}
use Rattle.values.specs.Reads.{answered, stopped}
use Rattle.values.proofs.ReadLaws.{handed, lost, field_reads, field_got}
use Rattle.sheet.proofs.FrontLaws.{schema_lost, tags_lost, held_lost, table_got, table_high, field_low}
use Rattle.sheet.proofs.opening.table_at.Goals as goal

pub returns-in_err-schema : goal.returns-in_err-schema
returns-in_err-schema c p e = handed _ _ c.from_residual.ensures.1 (schema_lost _ _ p (lost (field_reads _ _ p 6 (omega arith) (omega arith) e c.in_err-schema.ensures)))

pub returns-in_err-tags : goal.returns-in_err-tags
returns-in_err-tags c p e =
    let x = field_got _ _ p 6 (omega arith) (omega arith) e c.in_ok-schema.ensures in
    handed _ _ c.from_residual-in_err-tags.ensures.1 (tags_lost _ _ p x (lost (field_reads _ _ x.place 8 (omega arith) (omega arith) x.here c.in_err-tags.ensures)))

pub returns-in_err-columns : goal.returns-in_err-columns
returns-in_err-columns c p e =
    let x = field_got _ _ p 6 (omega arith) (omega arith) e c.in_ok-schema.ensures in
    let g = field_got _ _ x.place 8 (omega arith) (omega arith) x.here c.in_ok-tags.ensures in
    handed _ _ c.from_residual-in_err-columns.ensures.1 (held_lost _ _ p x g (lost (field_reads _ _ g.place 16 (omega arith) (omega arith) g.here c.in_err-columns.ensures)))

pub overflow_cast-table : goal.overflow_cast-table
overflow_cast-table c = omega (arith, field_low _ _ 6 c.in_ok-schema.ensures)

pub overflow_cast-table-then-held_below : goal.overflow_cast-table-then-held_below
overflow_cast-table-then-held_below c = omega (arith, field_low _ _ 8 c.in_ok-tags.ensures)

pub overflow_cast-table-then-held_below-2 : goal.overflow_cast-table-then-held_below-2
overflow_cast-table-then-held_below-2 c = omega (arith, field_low _ _ 16 c.in_ok-columns.ensures)

pub returns-then-held_below : goal.returns-then-held_below
returns-then-held_below c p e =
    let x = field_got _ _ p 6 (omega arith) (omega arith) e c.in_ok-schema.ensures in
    let g = field_got _ _ x.place 8 (omega arith) (omega arith) x.here c.in_ok-tags.ensures in
    let h = field_got _ _ g.place 16 (omega arith) (omega arith) g.here c.in_ok-columns.ensures in
    answered (table_got _ _ p x g h (sym c.held_below.ensures ∙ c.if-held_below.true))

pub returns-else-held_below : goal.returns-else-held_below
returns-else-held_below c p e =
    let x = field_got _ _ p 6 (omega arith) (omega arith) e c.in_ok-schema.ensures in
    let g = field_got _ _ x.place 8 (omega arith) (omega arith) x.here c.in_ok-tags.ensures in
    let h = field_got _ _ g.place 16 (omega arith) (omega arith) g.here c.in_ok-columns.ensures in
    stopped (table_high _ _ p x g h (sym c.held_below.ensures ∙ c.if-held_below.false))
