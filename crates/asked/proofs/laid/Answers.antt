-- The words of the first n atoms lay them.
use Rattle.std.proofs.Common.{refl}
use Rattle.asked.proofs.LentLaws.{words_cut}
use Rattle.asked.proofs.laid.Goals as goal

pub returns-clause-atoms : goal.returns-clause-atoms
returns-clause-atoms c = words_cut c.args.words.now _ c.args.n refl c.requires
