-- Each exit goes by the lender's law, which takes one answer a field: the answers that the code has come to, and of the fields behind them what
-- reading there would answer.
use Rattle.std.proofs.Common.{refl, Ok, Err}
use Rattle.values.proofs.ReadLaws.{handed, lost}
use Rattle.place.proofs.HeadLaws.{sheet_head_is, edition_one, edition_other, count_small}
use Rattle.place.proofs.sheet_head.Goals as goal

pub returns-in_err-next_field-clause-read : goal.returns-in_err-next_field-clause-read
returns-in_err-next_field-clause-read c =
    handed _ _ c.from_residual.ensures.1 (lost (sheet_head_is _ (Err _) _ _ _ _ c.in_err-next_field.ensures (refl, refl) (refl, refl) (refl, refl) (refl, refl)))

pub returns-then-branch-ne-EDITION-clause-read : goal.returns-then-branch-ne-EDITION-clause-read
returns-then-branch-ne-EDITION-clause-read c =
    edition_other _ _ c.if-branch-ne-EDITION.true (sheet_head_is _ (Ok _) _ _ _ _ c.in_ok-next_field.ensures (refl, refl) (refl, refl) (refl, refl) (refl, refl))

pub returns-in_err-columns-clause-read : goal.returns-in_err-columns-clause-read
returns-in_err-columns-clause-read c =
    handed _ _ c.from_residual-in_err-columns.ensures.1
    (lost (edition_one _ _ c.if-branch-ne-EDITION.false (sheet_head_is _ (Ok _) (Err _) _ _ _ c.in_ok-next_field.ensures c.in_err-columns.ensures (refl, refl) (refl, refl) (refl, refl))))

pub returns-in_err-keys-clause-read : goal.returns-in_err-keys-clause-read
returns-in_err-keys-clause-read c =
    handed _ _ c.from_residual-in_err-keys.ensures.1
    (lost (edition_one _ _ c.if-branch-ne-EDITION.false (sheet_head_is _ (Ok _) (Ok _) (Err _) _ _ c.in_ok-next_field.ensures c.in_ok-columns.ensures c.in_err-keys.ensures (refl, refl) (refl, refl))))

pub returns-in_err-tables-clause-read : goal.returns-in_err-tables-clause-read
returns-in_err-tables-clause-read c =
    handed _ _ c.from_residual-in_err-tables.ensures.1
    (lost (edition_one _ _ c.if-branch-ne-EDITION.false
    (sheet_head_is _ (Ok _) (Ok _) (Ok _) (Err _) _ c.in_ok-next_field.ensures c.in_ok-columns.ensures c.in_ok-keys.ensures c.in_err-tables.ensures (refl, refl))))

pub returns-in_err-policies-clause-read : goal.returns-in_err-policies-clause-read
returns-in_err-policies-clause-read c =
    handed _ _ c.from_residual-in_err-policies.ensures.1
    (lost (edition_one _ _ c.if-branch-ne-EDITION.false
    (sheet_head_is _ (Ok _) (Ok _) (Ok _) (Ok _) (Err _) c.in_ok-next_field.ensures c.in_ok-columns.ensures c.in_ok-keys.ensures c.in_ok-tables.ensures c.in_err-policies.ensures)))

pub returns-clause-read : goal.returns-clause-read
returns-clause-read c =
    edition_one _ _ c.if-branch-ne-EDITION.false
    (sheet_head_is _ (Ok _) (Ok _) (Ok _) (Ok _) (Ok _) c.in_ok-next_field.ensures c.in_ok-columns.ensures c.in_ok-keys.ensures c.in_ok-tables.ensures c.in_ok-policies.ensures)

pub returns-clause-fit : goal.returns-clause-fit
returns-clause-fit c = record {
  columns = count_small _ _ _ _ _ c.in_ok-columns.ensures;
  keys = count_small _ _ _ _ _ c.in_ok-keys.ensures;
  tables = count_small _ _ _ _ _ c.in_ok-tables.ensures;
  policies = count_small _ _ _ _ _ c.in_ok-policies.ensures;
}
