use Rattle.meaning.specs.Views.{clause_of}
use Rattle.asked.proofs.LentLaws.{differs_told}
use Rattle.asked.proofs.differs.Goals as goal

pub returns : goal.returns
returns c = rw c.laid.ensures.ranges at (differs_told _ _ _ c.lay-n.result c.args.u c.args.w (clause_of c.args.c.now) _ c.laid.ensures.atoms c.lay-n.ensures.atoms c.apart.ensures)
