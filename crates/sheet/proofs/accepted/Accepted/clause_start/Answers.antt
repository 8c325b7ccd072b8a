-- `sheet::accepted::Accepted::clause_start` meets its contract: the book has the place, for the policy that has such a clause is there.
use Rattle.sheet.proofs.EntryLaws.{start_so, numbered_policy}
use Rattle.sheet.proofs.AcceptedLaws.{described, policy_there}
use Rattle.sheet.proofs.accepted.Accepted.clause_start.Goals as goal

pub returns : goal.returns
returns c l =
    let d = described c.self.invariant c.self.view_is in
    let p = c.args.p in
    let there = policy_there c.args.self.now p l in
    start_so p c.args.k (d.policy p there) (numbered_policy d p there) l c.start_of.ensures
