-- The count, and then the clauses of the numbers passed are written.
use Rattle.std.proofs.Common.{arith, rules, refl, ◌≡◌, ◌++◌, ap, sym, subst, length, take, get_or}
use Rattle.std.proofs.lemmas.List.{length-map}
use Rattle.lists.specs.Lists.{each}
use Rattle.bits.specs.Bits.{bits}
use Rattle.meaning.specs.Packed.{clause_bits}
use Rattle.meaning.specs.Views.{clause_of}
use Rattle.steps.specs.Lists.{kind_by}
use Rattle.steps.proofs.ClauseLaws.{map_at, map_suc}
use Rattle.pruned.specs.Pruned.{numbered, chosen}
use Rattle.packing.specs.Wrote.{AllInFive}
use Rattle.lists.proofs.ListLaws.{all_here}
use Rattle.packing.proofs.WroteLaws.{wrote_starts, wrote_as, wrote_both, wrote_more, wrote_all}
use Rattle.normal.proofs.write_chosen.Goals as goal

pub loop-k-init : goal.loop-k-init
loop-k-init c = let a = c.args in
    record { same = refl; written = λ o bs w h. wrote_starts o bs (clause_bits (kind_by a.kinds)) (chosen a.cs.now a.order.now) c.write.new.self.out.now c.write.new.self.bits w }

pub loop-k-preserved : goal.loop-k-preserved
loop-k-preserved c = let l = c.loop-k in
    let a = c.args in
    let v = a.order.now in
    let f = numbered a.cs.now in
    let i = l.k-index in
    let k = get_or v i 0 in
    let L = chosen a.cs.now v in
    let code = clause_bits (kind_by a.kinds) in
    let e = c.clause_number-c.ensures in
    record {
      same = search rules;
      written = λ o bs w h. wrote_more o bs code L c.write_clause.new.self.out.now c.write_clause.new.self.bits i (f k) (map_suc f v 0 i c.loop-k-test.true)
          (wrote_as o (bs ++ each code (take i L)) (code (clause_of c.clause_number-c.result)) (code (f k)) c.write_clause.new.self.out.now c.write_clause.new.self.bits (ap code e)
          (c.write_clause.ensures.wrote o (bs ++ each code (take i L)) (l.invariant.written o bs w h) (subst AllInFive (sym e) (all_here AllInFive L i (map_at f v 0 i c.loop-k-test.true) h))));
    }

pub returns-clause-wrote : goal.returns-clause-wrote
returns-clause-wrote c = let l = c.loop-k in
    let a = c.args in
    let v = a.order.now in
    let L = chosen a.cs.now v in
    let code = clause_bits (kind_by a.kinds) in
    let e : length L ≡ length v = length-map v (numbered a.cs.now) in
    λ o bs w h. wrote_both o bs (bits 4 (length L)) (each code L) l.w.out.now l.w.bits
    (wrote_all o (bs ++ bits 4 (length L)) code L l.w.out.now l.w.bits l.k-index (omega arith)
    (l.invariant.written o (bs ++ bits 4 (length L)) (wrote_as o bs (bits 4 (length v)) (bits 4 (length L)) c.write.new.self.out.now c.write.new.self.bits (ap (bits 4) (sym e)) (c.write.ensures.wrote o bs w (omega arith))) h))
