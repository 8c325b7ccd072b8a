-- The answer on the laid words is told of the clauses that they lay.
use Rattle.asked.proofs.Tenants.{leaks_told}
use Rattle.asked.proofs.leaks.Goals as goal

pub returns : goal.returns
returns c = rw c.laid.ensures.ranges at (leaks_told _ _ _ c.args.n _ c.laid.ensures.atoms c.parted.ensures)
