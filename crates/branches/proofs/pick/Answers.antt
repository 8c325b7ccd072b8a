-- `branches::pick` meets its contract: the digits of the branch number, with the permissive clause in its policy's slot.
use Rattle.std.proofs.Common.{rules}
use Rattle.branches.proofs.PickLaws.{picks_both, picks_none}
use Rattle.branches.proofs.pick.Goals as goal

pub returns-in_default : goal.returns-in_default
returns-in_default c = picks_none _ _ _ _ c.digits_of-rest.ensures c.in_default.ensures

pub returns : goal.returns
returns c = picks_both _ _ _ _ _ (search rules) c.digits_of-rest.ensures c.in-Some.ensures
