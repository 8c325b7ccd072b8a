-- `verdicts::replies::judged` meets its contract: 12 comes first, then 13.
use Rattle.std.proofs.Common.{arith, ap, ◌∙◌}
use Rattle.std.proofs.lemmas.Result.{err_from_is_err_and}
use Rattle.verdicts.specs.Questions.{number_of}
use Rattle.verdicts.proofs.ReplyLaws.{verdict_refused, verdict_many, verdict_asked}
use Rattle.verdicts.proofs.replies.judged.Goals as goal

pub returns-in_err-q-clause-puts : goal.returns-in_err-q-clause-puts
returns-in_err-q-clause-puts c = let p = err_from_is_err_and c.from_residual.result c.from_residual.ensures.1 in rw (p.1, p.2) (verdict_refused _ _ _ _ c.in_err-q.ensures)

pub returns-then-number-gt-MOST-clause-puts : goal.returns-then-number-gt-MOST-clause-puts
returns-then-number-gt-MOST-clause-puts c =
    let h = c.in_ok-q.ensures in
    let n = c.number.ensures ∙ ap number_of h.1 in
    let l = c.if-number-gt-MOST.true in
    verdict_many _ _ _ c.args.sheet.now h.0 (omega arith)

pub returns-clause-puts : goal.returns-clause-puts
returns-clause-puts c =
    let h = c.in_ok-q.ensures in
    let n = c.number.ensures ∙ ap number_of h.1 in
    let l = c.if-number-gt-MOST.false in
    (verdict_asked _ _ _ c.args.sheet.now h.0 (omega arith), h.1)
