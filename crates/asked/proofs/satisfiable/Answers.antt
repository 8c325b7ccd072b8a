use Rattle.meaning.specs.Views.{clause_of}
use Rattle.asked.proofs.LentLaws.{live_told}
use Rattle.asked.proofs.satisfiable.Goals as goal

pub returns : goal.returns
returns c = rw c.laid.ensures.ranges at (live_told _ _ _ c.lay-n.result (clause_of c.args.c) _ c.laid.ensures.atoms c.lay-n.ensures.atoms c.satisfiable.ensures)
