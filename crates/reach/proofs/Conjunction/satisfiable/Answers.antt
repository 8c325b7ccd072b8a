-- Contents meet the conjunction exactly where there is a least solution.
use Rattle.reach.proofs.SolveLaws.{answers}
use Rattle.reach.proofs.Conjunction.satisfiable.Goals as goal

pub returns : goal.returns
returns c = rw c.is_some.ensures (answers _ _ c.solve.result c.solve.ensures)
