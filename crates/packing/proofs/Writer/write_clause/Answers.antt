-- The count and the atoms.
use Rattle.std.proofs.Common.{arith, ◌≡◌, ◌++◌, ap, sym, subst, length, map}
use Rattle.std.proofs.lemmas.List.{length-map}
use Rattle.lists.specs.Lists.{each}
use Rattle.bits.specs.Bits.{bits}
use Rattle.meaning.specs.Atoms as m
use Rattle.meaning.specs.Packed.{atom_bits, clause_bits}
use Rattle.meaning.specs.Views.{atom_of, clause_of}
use Rattle.steps.specs.Lists.{kind_by}
use Rattle.packing.specs.Wrote.{AllInFive}
use Rattle.packing.proofs.WroteLaws.{wrote_both, wrote_as}
use Rattle.packing.proofs.Writer.write_clause.Goals as goal

pub returns-clause-wrote : goal.returns-clause-wrote
returns-clause-wrote c =
    let atoms = c.atoms_of-atoms.result.now in
    let d : m.Clause = map atom_of atoms in
    let e : d ≡ clause_of c.args.c.now = ap (map atom_of) c.atoms_of-atoms.ensures.atoms in
    let n : length d ≡ length atoms = length-map atoms atom_of in
    let code = clause_bits (kind_by c.args.kinds) in
    λ o bs w f. wrote_as o bs (code d) (code (clause_of c.args.c.now)) c.write_atoms.new.self.out.now c.write_atoms.new.self.bits (ap code e)
    (wrote_both o bs (bits 4 (length d)) (each (atom_bits (kind_by c.args.kinds)) d) c.write_atoms.new.self.out.now c.write_atoms.new.self.bits
    (c.write_atoms.ensures.wrote o (bs ++ bits 4 (length d)) (wrote_as o bs (bits 4 (length atoms)) (bits 4 (length d)) c.write.new.self.out.now c.write.new.self.bits (ap (bits 4) (sym n))
    (c.write.ensures.wrote o bs w (omega (arith, c.atoms_of-atoms.ensures.few)))) (subst AllInFive (sym e) f)))
