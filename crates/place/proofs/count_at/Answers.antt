-- A count is the field's value where it is allowed, else 4; a field that is not there is 2 before that.
use Rattle.std.proofs.Common.{ap, ◌∙◌, Err, inl, inr}
use Rattle.std.proofs.lemmas.Result.{err_from_is_err_and}
use Rattle.place.proofs.HeadLaws.{count_lost, count_wrong, count_in}
use Rattle.place.proofs.count_at.Goals as goal
use Rattle.place.proofs.count_at.Goals.{then-n-low-via-then-n-low, then-n-low-via-else-n-low+then-high-n}

pub returns-in_err-n : goal.returns-in_err-n
returns-in_err-n c = let p = err_from_is_err_and c.from_residual.result c.from_residual.ensures.1 in p.1 ∙ ap Err p.2 ∙ count_lost _ _ _ _ _ c.in_err-n.ensures

pub returns-then-n-low : goal.returns-then-n-low
returns-then-n-low c =
    count_wrong _ _ _ _ _ c.in_ok-n.ensures (elim c.then-n-low.branch [ then-n-low-via-then-n-low w ↦ inl w.if-n-low.true | then-n-low-via-else-n-low+then-high-n w ↦ inr w.if-high-n.true ])

pub returns : goal.returns
returns c = count_in _ _ _ _ _ c.in_ok-n.ensures c.if-n-low.false c.if-high-n.false
