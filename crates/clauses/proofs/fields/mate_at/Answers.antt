-- `clauses::fields::mate_at` meets its contract: a variable that is found is below 24, so its kind is the one of the facts.
use Rattle.std.proofs.Common.{sym, ◌∙◌}
use Rattle.values.specs.Reads.{answered, stopped}
use Rattle.values.proofs.ReadLaws.{handed, got, lost}
use Rattle.place.proofs.AtomHeadLaws.{kind_is}
use Rattle.clauses.proofs.FieldLaws.{mate_lost, mate_got, mate_unlike, got_small}
use Rattle.clauses.proofs.fields.mate_at.Goals as goal

pub returns-in_err-mate : goal.returns-in_err-mate
returns-in_err-mate c facts p v F k e = handed _ _ c.from_residual.ensures.1 (mate_lost facts v _ p (lost (c.in_err-mate.ensures facts p F e)))

pub returns-then-kind_at-kind : goal.returns-then-kind_at-kind
returns-then-kind_at-kind c facts p v F k e =
    let g = got (c.in_ok-mate.ensures facts p F e) in
    answered (mate_got facts v _ p g (k ∙ sym c.if-kind_at-kind.true ∙ c.kind_at.ensures ∙ kind_is facts _ F.kinds _ (got_small facts v _ p g)))

pub returns-else-kind_at-kind : goal.returns-else-kind_at-kind
returns-else-kind_at-kind c facts p v F k e =
    let g = got (c.in_ok-mate.ensures facts p F e) in
    stopped (mate_unlike facts v _ p g (λ h. c.if-kind_at-kind.false (c.kind_at.ensures ∙ kind_is facts _ F.kinds _ (got_small facts v _ p g) ∙ sym h ∙ k)))
