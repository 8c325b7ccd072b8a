-- `verdicts::replies::dead` meets its contract: what is asked is judged, and then answered.
use Rattle.std.proofs.Common.{subst}
use Rattle.std.proofs.lemmas.Result.{err_from_is_err_and}
use Rattle.meaning.specs.declared.Life.TheVariants.{Live, Dead}
use Rattle.meaning.specs.Replies.{LifeOf}
use Rattle.verdicts.specs.Questions.{Posed}
use Rattle.verdicts.proofs.ReplyLaws.{dead_refused, dead_told}
use Rattle.verdicts.proofs.replies.dead.Goals as goal

pub returns-in_err-q : goal.returns-in_err-q
returns-in_err-q c = let p = err_from_is_err_and c.from_residual.result c.from_residual.ensures.1 in rw (p.1, p.2) (dead_refused _ _ _ _ c.in_err-q.ensures.puts)

pub returns-then-is_live : goal.returns-then-is_live
returns-then-is_live c = let h = c.in_ok-q.ensures.puts in
    dead_told _ _ _ c.args.sheet.now Live h.0 (subst (λ (q : Posed). LifeOf q.sheet q.table q.command Live) h.1 (c.is_live.ensures.yes c.if-is_live.true))

pub returns-else-is_live : goal.returns-else-is_live
returns-else-is_live c = let h = c.in_ok-q.ensures.puts in
    dead_told _ _ _ c.args.sheet.now Dead h.0 (subst (λ (q : Posed). LifeOf q.sheet q.table q.command Dead) h.1 (λ row session a. c.is_live.ensures.no c.if-is_live.false (row, session, a)))
