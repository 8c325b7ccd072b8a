-- What was accepted is handed on, the bytes being its packed form; what was not is refused by the sheet's own number.
use Rattle.std.proofs.Common.{subst}
use Rattle.std.proofs.lemmas.Result.{err_from_is_err_and}
use Rattle.meaning.specs.Replies.{IsolatedReply}
use Rattle.verdicts.proofs.ReplyLaws.{isolated_refused, verdict_refused, table_refused}
use Rattle.answers.proofs.isolated.Goals as goal

pub returns-in_err-sheet : goal.returns-in_err-sheet
returns-in_err-sheet c = let p = err_from_is_err_and c.from_residual.result c.from_residual.ensures.1 in rw (p.1, p.2) (isolated_refused _ _ _ _ (verdict_refused _ _ _ _ (table_refused _ _ _ _ c.in_err-sheet.ensures.refused)))

pub returns : goal.returns
returns c = subst (λ s. IsolatedReply s c.args.table c.args.command c.isolated.result) c.in_ok-sheet.ensures.accepted.1 c.isolated.ensures
