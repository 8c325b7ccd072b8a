-- The count and the values.
use Rattle.std.proofs.Common.{arith, ◌++◌, length}
use Rattle.lists.specs.Lists.{each}
use Rattle.bits.specs.Bits.{bits}
use Rattle.meaning.specs.Packed.{value_bits}
use Rattle.steps.specs.Lists.{kind_from}
use Rattle.packing.proofs.WroteLaws.{wrote_both}
use Rattle.packing.proofs.Writer.write_list.Goals as goal

pub returns-clause-wrote : goal.returns-clause-wrote
returns-clause-wrote c = let v = c.args.values.now in
    λ o bs w. wrote_both o bs (bits 4 (length v)) (each (value_bits (kind_from c.args.kind)) v) c.write_values.new.self.out.now c.write_values.new.self.bits
    (c.write_values.ensures.wrote o (bs ++ bits 4 (length v)) (c.write.ensures.wrote o bs w (omega (arith, c.requires))))
