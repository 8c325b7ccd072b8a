-- `clauses::atoms::atom_at` meets its contract: the head that is read at the lent place, and what follows.
use Rattle.std.proofs.Common.{sym, ◌∙◌}
use Rattle.meaning.specs.Steps.{on}
use Rattle.values.proofs.ReadLaws.{handed, got, lost}
use Rattle.place.proofs.AtomHeadLaws.{kind_is}
use Rattle.clauses.proofs.TurnLaws.{answers_by, answers_map}
use Rattle.clauses.proofs.AtomLaws.{atom_lost, atom_goes_on}
use Rattle.clauses.proofs.atoms.atom_at.Goals as goal

pub returns-in_err-head : goal.returns-in_err-head
returns-in_err-head c facts p F e = handed _ _ c.from_residual.ensures.1 (atom_lost facts _ p (lost (c.in_err-head.ensures.read facts p F.columns F.keys F.kinds e)))

pub returns : goal.returns
returns c facts p F e =
    let g = got (c.in_ok-head.ensures.read facts p F.columns F.keys F.kinds e) in
    let small = c.in_ok-head.ensures.fit in
    let kind = c.kind_at-kind.ensures ∙ kind_is facts _ F.kinds _ small.0 in
    answers_by (atom_goes_on facts _ p g) (answers_map (on _) (λ b a h. h) (c.operand_at.ensures facts g.place F (sym kind) g.here small.1))
