-- `sheet::accepted::Accepted::selector_start` meets its contract: the book has the place.
use Rattle.sheet.proofs.EntryLaws.{selector_told, numbered_policy}
use Rattle.sheet.proofs.AcceptedLaws.{described}
use Rattle.sheet.proofs.accepted.Accepted.selector_start.Goals as goal

pub returns : goal.returns
returns c l = let d = described c.self.invariant c.self.view_is in let p = c.args.p in selector_told p (d.policy p l) (numbered_policy d p l) c.selector_of.ensures
