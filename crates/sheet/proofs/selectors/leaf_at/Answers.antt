-- `sheet::selectors::leaf_at` meets its contract: a leaf's number is the definition's, and the table is asked for it.
use Rattle.std.proofs.Common.{◌≡◌, refl, ap, ◌∙◌, arith}
use Rattle.meaning.specs.Sheets.{member, has_column, in_schema, table_number, tag_number}
use Rattle.values.specs.Reads.{answered}
use Rattle.values.proofs.ReadLaws.{handed, got, lost, ends, field_reads}
use Rattle.clauses.proofs.TurnLaws.{got_by, got_map}
use Rattle.sheet.proofs.SelectorLaws.{node_all, node_column, node_schema, node_table, node_tag}
use Rattle.sheet.proofs.selectors.leaf_at.Goals as goal

pub returns-in-0 : goal.returns-in-0
returns-in-0 c facts inner p C T e n = answered record { item = _; place = p; read = node_all facts inner _ c.args.s.now p c.in-0.is; here = e; holds = refl }

pub returns-in_err-column-in-1 : goal.returns-in_err-column-in-1
returns-in_err-column-in-1 c facts inner p C T e n =
    handed _ _ c.from_residual.ensures.1 (node_column facts inner _ c.args.s.now p C c.in-1.is ∙ ends _ (lost (c.in_err-column-in-1.ensures p e (omega arith) (omega arith))))

pub returns-in_ok-column-in-1 : goal.returns-in_ok-column-in-1
returns-in_ok-column-in-1 c facts inner p C T e n =
    let w : c.from.result ≡ c.args.table.columns = c.from.ensures in
    answered (got_by (node_column facts inner _ c.args.s.now p C c.in-1.is)
    (got_map has_column (λ v q. c.is_member.ensures ∙ ap (λ x. member 16 x c.in_ok-column-in-1.column) w ∙ ap (member 16 c.args.table.columns) q) (got (c.in_ok-column-in-1.ensures p e (omega arith) (omega arith)))))

pub returns-in_err-schema-in-2 : goal.returns-in_err-schema-in-2
returns-in_err-schema-in-2 c facts inner p C T e n =
    handed _ _ c.from_residual-in_err-schema-in-2.ensures.1 (node_schema facts inner _ c.args.s.now p c.in-2.is ∙ ends _ (lost (field_reads _ _ p 6 (omega arith) (omega arith) e c.in_err-schema-in-2.ensures)))

pub returns-in_ok-schema-in-2 : goal.returns-in_ok-schema-in-2
returns-in_ok-schema-in-2 c facts inner p C T e n =
    let w : c.from-in-2.result ≡ c.args.table.schema = c.from-in-2.ensures in
    answered (got_by (node_schema facts inner _ c.args.s.now p c.in-2.is)
    (got_map in_schema (λ v q. rw (w, q) refl) (got (field_reads _ _ p 6 (omega arith) (omega arith) e c.in_ok-schema-in-2.ensures))))

pub returns-in_err-number-in-3 : goal.returns-in_err-number-in-3
returns-in_err-number-in-3 c facts inner p C T e n =
    handed _ _ c.from_residual-in_err-number-in-3.ensures.1 (node_table facts inner _ c.args.s.now p T c.in-3.is ∙ ends _ (lost (c.in_err-number-in-3.ensures p e (omega arith) (omega arith))))

pub returns-in_ok-number-in-3 : goal.returns-in_ok-number-in-3
returns-in_ok-number-in-3 c facts inner p C T e n =
    answered (got_by (node_table facts inner _ c.args.s.now p T c.in-3.is)
    (got_map table_number (λ v q. rw q refl) (got (c.in_ok-number-in-3.ensures p e (omega arith) (omega arith)))))

pub returns-in_err-tag-in_default : goal.returns-in_err-tag-in_default
returns-in_err-tag-in_default c facts inner p C T e n =
    handed _ _ c.from_residual-in_err-tag-in_default.ensures.1 (node_tag facts inner _ c.args.s.now p (omega arith) ∙ ends _ (lost (field_reads _ _ p 3 (omega arith) (omega arith) e c.in_err-tag-in_default.ensures)))

pub returns-in_ok-tag-in_default : goal.returns-in_ok-tag-in_default
returns-in_ok-tag-in_default c facts inner p C T e n =
    let w : c.from-in_default.result ≡ c.args.table.tags = c.from-in_default.ensures in
    answered (got_by (node_tag facts inner _ c.args.s.now p (omega arith))
    (got_map tag_number (λ v q. c.is_member-in_default.ensures ∙ ap (λ x. member 8 x c.in_ok-tag-in_default.tag) w ∙ ap (member 8 c.args.table.tags) q) (got (field_reads _ _ p 3 (omega arith) (omega arith) e c.in_ok-tag-in_default.ensures))))
