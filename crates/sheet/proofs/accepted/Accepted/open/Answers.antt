-- `sheet::accepted::Accepted::open` meets its contract: what was found is accepted, and what was not is refused.
use Rattle.sheet.proofs.AcceptedLaws.{opened}
use Rattle.sheet.proofs.accepted.Accepted.open.Goals as goal

pub invariant_of-result : goal.invariant_of-result
invariant_of-result c = opened _ c.in_ok-directory.ensures c.type_inv.s

pub returns-clause-accepted : goal.returns-clause-accepted
returns-clause-accepted c = let i = invariant_of-result c in (i.accepted, i.packed)
