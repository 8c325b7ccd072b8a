-- The answer on the laid words is told of the clauses that they lay.
use Rattle.asked.proofs.LentLaws.{meets_told}
use Rattle.asked.proofs.meets.Goals as goal

pub returns : goal.returns
returns c = rw c.laid.ensures.ranges at (meets_told _ _ _ c.args.n _ c.laid.ensures.atoms c.satisfiable.ensures)
