-- `clauses::atoms::values_at` meets its contract: a count from 1 to 8, and then so many values.
use Rattle.std.proofs.Common.{arith}
use Rattle.values.proofs.ReadLaws.{handed}
use Rattle.place.proofs.HeadLaws.{count_got, count_refused, count_at_most}
use Rattle.clauses.proofs.TurnLaws.{answers_by}
use Rattle.clauses.proofs.AtomLaws.{values_lost, values_of}
use Rattle.clauses.proofs.atoms.values_at.Goals as goal

pub returns-in_err-count : goal.returns-in_err-count
returns-in_err-count c k p K e = handed _ _ c.from_residual.ensures.1 (values_lost k _ p (count_refused _ _ p 4 1 8 (omega arith) (omega arith) e c.in_err-count.ensures))

pub some_values-requires : goal.some_values-requires
some_values-requires c = count_at_most _ _ 4 1 8 c.in_ok-count.ensures

pub returns : goal.returns
returns c k p K e =
    let g = count_got _ _ p 4 1 8 (omega arith) (omega arith) e c.in_ok-count.ensures in
    answers_by (values_of k _ p g) (c.some_values.ensures k g.place K g.here)
