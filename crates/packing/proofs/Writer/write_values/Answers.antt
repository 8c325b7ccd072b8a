-- The values passed are written.
use Rattle.std.proofs.Common.{arith, rules, refl, ◌++◌, take, get_or}
use Rattle.std.proofs.lemmas.List.{take_more}
use Rattle.lists.specs.Lists.{each}
use Rattle.meaning.specs.Packed.{value_bits}
use Rattle.steps.specs.Lists.{kind_from}
use Rattle.packing.proofs.WroteLaws.{wrote_starts, wrote_more, wrote_all}
use Rattle.packing.proofs.Writer.write_values.Goals as goal

pub loop-x-init : goal.loop-x-init
loop-x-init c = record { same = refl; written = λ o bs w. wrote_starts o bs (value_bits (kind_from c.args.kind)) c.args.values.now c.args.self.now.out.now c.args.self.now.bits w }

pub loop-x-preserved : goal.loop-x-preserved
loop-x-preserved c = let l = c.loop-x in
    let v = c.args.values.now in
    let code = value_bits (kind_from c.args.kind) in
    record {
      same = search rules;
      written = λ o bs w. wrote_more o bs code v c.write_value.new.self.out.now c.write_value.new.self.bits l.x-index (get_or v l.x-index 0) (take_more v l.x-index 0 c.loop-x-test.true)
          (c.write_value.ensures.wrote o (bs ++ each code (take l.x-index v)) (l.invariant.written o bs w));
    }

pub returns-clause-wrote : goal.returns-clause-wrote
returns-clause-wrote c = let l = c.loop-x in
    λ o bs w. wrote_all o bs (value_bits (kind_from c.args.kind)) c.args.values.now l.self.out.now l.self.bits l.x-index (omega arith) (l.invariant.written o bs w)
