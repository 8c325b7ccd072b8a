-- The variable, the operator's number, and what follows it.
use Rattle.std.proofs.Common.{arith, ◌++◌}
use Rattle.bits.specs.Bits.{bits}
use Rattle.packing.proofs.AtomLaws.{five_first, atom_written}
use Rattle.packing.proofs.Writer.write_atom.Goals as goal

pub returns-clause-wrote : goal.returns-clause-wrote
returns-clause-wrote c = let a = c.args.a.now in
    let n = c.min.ensures in
    λ o bs w h. atom_written o bs c.write_operand.new.self.out.now c.write_operand.new.self.bits c.args.kinds a c.min.result c.kind_at-kind.result n c.kind_at-kind.ensures
    (c.write_operand.ensures.wrote o ((bs ++ bits 5 a.variable) ++ bits 4 c.min.result) (c.write-2.ensures.wrote o (bs ++ bits 5 a.variable) (c.write.ensures.wrote o bs w (five_first a h)) (omega arith)) h)
