-- `verdicts::Asking::lay_at` meets its contract: the branch that the number picks is laid.
use Rattle.std.proofs.Common.{false, [], ap}
use Rattle.verdicts.proofs.LayLaws.{known, laid_at}
use Rattle.verdicts.proofs.Asking.lay_at.Goals as goal

pub returns-clause-atoms : goal.returns-clause-atoms
returns-clause-atoms c = laid_at (known c.self.inside c.self.invariant c.self.view_is) false [] (ap (λ q. q.sheet) c.self.view_is) c.pick-b.ensures c.lay_branch.ensures.atoms
