-- `admission::laying::atom_word` meets its contract. The word's three parts are the numbers that stand at the atom's places.
use Rattle.admission.proofs.LaidLaws.{laid_by}
use Rattle.admission.proofs.laying.atom_word.Goals as goal

pub returns : goal.returns
returns c = (laid_by _ _ _ _ _ _ c.peek-v.ensures c.peek-op.ensures c.other_at.ensures.0 c.other_at.ensures.1 c.word_of-word.ensures, c.size_of.ensures.0, c.size_of.ensures.1)
