-- The range of the class, and then its lists.
use Rattle.least.proofs.SpanLaws.{least_listed}
use Rattle.least.proofs.Class.least.Goals as goal

pub listed-requires : goal.listed-requires
listed-requires c = (c.span-t.ensures.listed _ c.in-Some.is).0

pub returns-in-Some : goal.returns-in-Some
returns-in-Some c = least_listed _ _ _ _ _ _ c.span-t.ensures c.in-Some.is _ c.listed.ensures.count c.listed.ensures.values _ c.least_listed.ensures
