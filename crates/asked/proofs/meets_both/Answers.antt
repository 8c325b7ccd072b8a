use Rattle.std.proofs.Common.{[], ◌∷◌, ◌++◌, ◌+◌, ◌∙◌}
use Rattle.meaning.specs.Views.{clause_of, atom_of}
use Rattle.asked.proofs.LentLaws.{live_told, lays_last}
use Rattle.asked.proofs.meets_both.Goals as goal

pub returns : goal.returns
returns c =
    let a = c.args in
    rw c.laid.ensures.ranges at
    (live_told _ _ _ (c.lay-n.result + 1) (clause_of a.c.now ++ (atom_of a.a.now ∷ [])) _ c.laid.ensures.atoms
    (c.lay_atom.ensures ∙ lays_last _ (clause_of a.c.now) (atom_of a.a.now) c.lay-n.ensures.atoms) c.satisfiable.ensures)
