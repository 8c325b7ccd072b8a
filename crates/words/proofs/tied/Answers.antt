-- Variables with one label are equal wherever the atoms are met.
use borrow.Author.Tests.{eqb-true}
use Rattle.words.proofs.tied.Goals as goal

pub returns : goal.returns
returns c = λ q e m. c.classes_of-rep.ensures.sound e m _ _ c.requires.0 c.requires.1 (eqb-true _ _ q)
