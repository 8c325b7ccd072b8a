-- The atoms passed are written.
use Rattle.std.proofs.Common.{arith, rules, refl, ◌++◌, take, get_or, map}
use Rattle.std.proofs.lemmas.List.{length-map}
use Rattle.lists.specs.Lists.{each}
use Rattle.meaning.specs.Packed.{atom_bits}
use Rattle.meaning.specs.Views.{atom_of}
use Rattle.steps.specs.Lists.{kind_by}
use Rattle.steps.proofs.ClauseLaws.{map_at, map_suc, no_atom}
use Rattle.packing.specs.Wrote.{InFive}
use Rattle.lists.proofs.ListLaws.{all_here}
use Rattle.packing.proofs.WroteLaws.{wrote_starts, wrote_more, wrote_all}
use Rattle.packing.proofs.Writer.write_atoms.Goals as goal

pub loop-a-init : goal.loop-a-init
loop-a-init c = record { same = refl; written = λ o bs w h. wrote_starts o bs (atom_bits (kind_by c.args.kinds)) (map atom_of c.args.atoms.now) c.args.self.now.out.now c.args.self.now.bits w }

pub loop-a-preserved : goal.loop-a-preserved
loop-a-preserved c = let l = c.loop-a in
    let v = c.args.atoms.now in
    let i = l.a-index in
    let code = atom_bits (kind_by c.args.kinds) in
    record {
      same = search rules;
      written = λ o bs w h. wrote_more o bs code (map atom_of v) c.write_atom.new.self.out.now c.write_atom.new.self.bits i (atom_of (get_or v i no_atom)) (map_suc atom_of v no_atom i c.loop-a-test.true)
          (c.write_atom.ensures.wrote o (bs ++ each code (take i (map atom_of v))) (l.invariant.written o bs w h) (all_here InFive (map atom_of v) i (map_at atom_of v no_atom i c.loop-a-test.true) h));
    }

pub returns-clause-wrote : goal.returns-clause-wrote
returns-clause-wrote c = let l = c.loop-a in
    λ o bs w h. wrote_all o bs (atom_bits (kind_by c.args.kinds)) (map atom_of c.args.atoms.now) l.self.out.now l.self.bits l.a-index (omega (arith, length-map c.args.atoms.now atom_of)) (l.invariant.written o bs w h)
