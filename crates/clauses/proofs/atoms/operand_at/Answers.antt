-- `clauses::atoms::operand_at` meets its contract: an operator's number says what follows it, and how the atom's fields stand for it.
use Rattle.std.proofs.Common.{refl, ap, [], ◌∷◌, get_or, arith}
use Rattle.meaning.specs.Sheets.{kind_of}
use Rattle.meaning.specs.Steps.{on}
use Rattle.meaning.specs.Views.{atom_of, operator_of}
use Rattle.values.specs.Reads.{answered}
use Rattle.values.proofs.ReadLaws.{handed, got, lost}
use Rattle.clauses.proofs.TurnLaws.{got_by, got_map}
use Rattle.clauses.proofs.AtomLaws.{mate_refused, operand_mate, list_refused, operand_list, bound_refused, operand_bound, operand_none}
use Rattle.clauses.proofs.atoms.operand_at.Goals as goal

pub returns-in_err-other-in-0 : goal.returns-in_err-other-in-0
returns-in_err-other-in-0 c facts p F k e h =
    handed _ _ c.from_residual.ensures.1 (mate_refused facts c.args.v c.args.op _ p (omega arith) (lost (c.in_err-other-in-0.ensures facts p c.args.v F k e)))

pub returns-in_ok-other-in-0 : goal.returns-in_ok-other-in-0
unfolding atom_of
returns-in_ok-other-in-0 c facts p F k e h =
    answered (got_by (operand_mate facts c.args.v c.args.op c.args.s.now p 0 [] (omega arith))
    (got_map (λ u. operator_of c.args.op u 0 []) (λ u q. ap (λ x. on c.args.v (operator_of c.args.op x 0 [])) q) (got (c.in_ok-other-in-0.ensures facts p c.args.v F k e))))

pub returns-in_err-list-in-1 : goal.returns-in_err-list-in-1
returns-in_err-list-in-1 c facts p F k e h =
    handed _ _ c.from_residual-in_err-list-in-1.ensures.1 (list_refused facts c.args.v c.args.op _ p (omega arith) (omega arith) (lost (c.in_err-list-in-1.ensures (kind_of facts c.args.v) p k e)))

pub returns-in_ok-list-in-1 : goal.returns-in_ok-list-in-1
unfolding atom_of
returns-in_ok-list-in-1 c facts p F k e h =
    let first = get_or c.in_ok-list-in-1.list.values 0 0 in
    answered (got_by (operand_list facts c.args.v c.args.op c.args.s.now p 0 first (omega arith) (omega arith))
    (got_map (operator_of c.args.op 0 first) (λ ns q. ap (λ x. on c.args.v (operator_of c.args.op 0 first x)) q) (got (c.in_ok-list-in-1.ensures (kind_of facts c.args.v) p k e))))

pub returns-in_err-bound-in-3-to-6 : goal.returns-in_err-bound-in-3-to-6
returns-in_err-bound-in-3-to-6 c facts p F k e h =
    handed _ _ c.from_residual-in_err-bound-in-3-to-6.ensures.1 (bound_refused facts c.args.v c.args.op _ p (omega arith) (omega arith) (lost (c.in_err-bound-in-3-to-6.ensures (kind_of facts c.args.v) p k e)))

pub returns-in_ok-bound-in-3-to-6 : goal.returns-in_ok-bound-in-3-to-6
unfolding atom_of
returns-in_ok-bound-in-3-to-6 c facts p F k e h =
    let n = c.in_ok-bound-in-3-to-6.bound in
    answered (got_by (operand_bound facts c.args.v c.args.op c.args.s.now p 0 (n ∷ []) (omega arith) (omega arith))
    (got_map (λ x. operator_of c.args.op 0 x (n ∷ [])) (λ x q. ap (λ y. on c.args.v (operator_of c.args.op 0 y (n ∷ []))) q) (got (c.in_ok-bound-in-3-to-6.ensures (kind_of facts c.args.v) p k e))))

pub returns-in_default : goal.returns-in_default
unfolding atom_of
returns-in_default c facts p F k e h =
    answered record { item = _; place = p; read = operand_none facts c.args.v c.args.op c.args.s.now p 0 0 [] (omega arith) h; here = e; holds = refl }
