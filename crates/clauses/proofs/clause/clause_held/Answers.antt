-- `clauses::clause::clause_held` meets its contract: a count up to 8, and then so many atoms.
use Rattle.std.proofs.Common.{arith}
use Rattle.values.proofs.ReadLaws.{handed}
use Rattle.place.proofs.HeadLaws.{count_got, count_refused}
use Rattle.clauses.proofs.TurnLaws.{answers_by}
use Rattle.clauses.proofs.AtomLaws.{clause_lost, clause_of}
use Rattle.clauses.proofs.clause.clause_held.Goals as goal

pub returns-in_err-count : goal.returns-in_err-count
returns-in_err-count c facts p F e = handed _ _ c.from_residual.ensures.1 (clause_lost facts _ p (count_refused _ _ p 4 0 8 (omega arith) (omega arith) e c.in_err-count.ensures))

pub returns : goal.returns
returns c facts p F e =
    let g = count_got _ _ p 4 0 8 (omega arith) (omega arith) e c.in_ok-count.ensures in
    answers_by (clause_of facts _ p g) (c.atoms_held.ensures facts g.place F g.here)
