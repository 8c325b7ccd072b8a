-- The reply's numbers are the reply.
use Rattle.fiddlecomet.proofs.ToldLaws.{listing_told}
use Rattle.fiddlecomet.proofs.fiddlecomet_listing.Goals as goal

pub returns : goal.returns
returns c = listing_told c.listing.result c.listing.ensures c.from.ensures
