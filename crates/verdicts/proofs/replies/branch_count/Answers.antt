-- `verdicts::replies::branch_count` meets its contract: N is given at any size.
use Rattle.std.proofs.Common.{ap, ◌∙◌}
use Rattle.std.proofs.lemmas.Result.{err_from_is_err_and}
use Rattle.verdicts.specs.Questions.{number_of}
use Rattle.verdicts.proofs.ReplyLaws.{branches_refused, branches_told}
use Rattle.verdicts.proofs.replies.branch_count.Goals as goal

pub returns-in_err-of : goal.returns-in_err-of
returns-in_err-of c = let p = err_from_is_err_and c.from_residual.result c.from_residual.ensures.1 in rw (p.1, p.2) (branches_refused _ _ _ _ c.in_err-of.ensures)

pub returns : goal.returns
returns c = let h = c.in_ok-of.ensures in branches_told _ _ _ c.args.sheet.now c.number.result h.0 (c.number.ensures ∙ ap number_of h.1)
