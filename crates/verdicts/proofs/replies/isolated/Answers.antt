-- `verdicts::replies::isolated` meets its contract: what is asked is judged, and then answered.
use Rattle.std.proofs.Common.{subst}
use Rattle.std.proofs.lemmas.Result.{err_from_is_err_and}
use Rattle.meaning.specs.Replies.{IsolationOf}
use Rattle.verdicts.specs.Questions.{Posed}
use Rattle.verdicts.proofs.ReplyLaws.{isolated_refused, isolated_told}
use Rattle.verdicts.proofs.replies.isolated.Goals as goal

pub returns-in_err-judged : goal.returns-in_err-judged
returns-in_err-judged c = let p = err_from_is_err_and c.from_residual.result c.from_residual.ensures.1 in rw (p.1, p.2) (isolated_refused _ _ _ _ c.in_err-judged.ensures.puts)

pub returns : goal.returns
returns c = let h = c.in_ok-judged.ensures.puts in
    isolated_told _ _ _ c.args.sheet.now c.first_leak.result h.0 (subst (λ (q : Posed). IsolationOf q.sheet q.table q.command c.first_leak.result) h.1 c.first_leak.ensures)
