-- The kinds passed are written.
use Rattle.std.proofs.Common.{arith, rules, refl, ◌≡◌, ◌∙◌, ◌<◌, ◌++◌, ap, take, get_or, length}
use Rattle.std.proofs.lemmas.List.{take_more, length-map}
use Rattle.lists.specs.Lists.{each}
use Rattle.bits.specs.Bits.{bits}
use Rattle.meaning.specs.Values.{integer, kind_number}
use Rattle.meaning.specs.Packed.{kind_bits}
use Rattle.packing.proofs.AtomLaws.{kind_small, kind_got}
use Rattle.packing.proofs.WroteLaws.{wrote_starts, wrote_as, wrote_more, wrote_all}
use Rattle.packing.proofs.Writer.write_kinds.Goals as goal

pub loop-k-init : goal.loop-k-init
loop-k-init c = record { same = refl; written = λ o bs ks w e. wrote_starts o bs kind_bits ks c.args.self.now.out.now c.args.self.now.bits w }

pub loop-k-preserved : goal.loop-k-preserved
loop-k-preserved c = let l = c.loop-k in
    let i = l.k-index in
    let v = c.args.kinds.now in
    record {
      same = search rules;
      written = λ o bs ks w e.
          let n : length v ≡ length ks = ap length e ∙ length-map ks kind_number in
          let t : i < length ks = omega (arith, c.loop-k-test.true) in
          let k : get_or v i 0 ≡ kind_number (get_or ks i integer) = ap (λ z. get_or z i 0) e ∙ kind_got ks i t in
          wrote_more o bs kind_bits ks c.write.new.self.out.now c.write.new.self.bits i (get_or ks i integer) (take_more ks i integer t)
          (wrote_as o (bs ++ each kind_bits (take i ks)) (bits 2 c.from.result) (kind_bits (get_or ks i integer)) c.write.new.self.out.now c.write.new.self.bits (ap (bits 2) (c.from.ensures ∙ k))
          (c.write.ensures.wrote o (bs ++ each kind_bits (take i ks)) (l.invariant.written o bs ks w e) (omega (arith, c.from.ensures, k, kind_small (get_or ks i integer)))));
    }

pub returns-clause-wrote : goal.returns-clause-wrote
returns-clause-wrote c = let l = c.loop-k in
    λ o bs ks w e. wrote_all o bs kind_bits ks l.self.out.now l.self.bits l.k-index (omega (arith, ap length e, length-map ks kind_number)) (l.invariant.written o bs ks w e)
