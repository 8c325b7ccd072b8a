-- By the operator's number: a variable, a list, a value, nothing.
use Rattle.std.proofs.Common.{arith, ap, sym, ◌∙◌, [], get_or}
use Rattle.bits.specs.Bits.{bits}
use Rattle.meaning.specs.Packed.{value_bits, operand_bits}
use Rattle.meaning.specs.Views.{atom_of}
use Rattle.steps.specs.Lists.{kind_from, list_bits}
use Rattle.steps.proofs.OperandLaws.{operand_at, operand_list, operand_bound, operand_none}
use Rattle.packing.proofs.AtomLaws.{five_second}
use Rattle.packing.proofs.WroteLaws.{wrote_as, wrote_none}
use Rattle.packing.proofs.Writer.write_operand.Goals as goal

pub returns-in-0-clause-wrote : goal.returns-in-0-clause-wrote
returns-in-0-clause-wrote c = let k = kind_from c.args.kind in
    let a = c.args.a.now in
    λ o bs w h. wrote_as o bs (bits 5 a.other) (operand_bits k (atom_of a).operator) c.write.new.self.out.now c.write.new.self.bits (sym (operand_at k a 0 c.in-0.is)) (c.write.ensures.wrote o bs w (five_second a c.in-0.is h))

pub returns-in-1-clause-wrote : goal.returns-in-1-clause-wrote
returns-in-1-clause-wrote c = let k = kind_from c.args.kind in
    let a = c.args.a.now in
    λ o bs w h. wrote_as o bs (list_bits k c.list_of.result.now) (operand_bits k (atom_of a).operator) c.write_list.new.self.out.now c.write_list.new.self.bits
    (ap (list_bits k) c.list_of.ensures.list ∙ sym (operand_list k a (omega arith) (omega arith))) (c.write_list.ensures.wrote o bs w)

pub returns-in-3-to-6-clause-wrote : goal.returns-in-3-to-6-clause-wrote
returns-in-3-to-6-clause-wrote c = let k = kind_from c.args.kind in
    let a = c.args.a.now in
    λ o bs w h. wrote_as o bs (value_bits k (get_or a.values 0 0)) (operand_bits k (atom_of a).operator) c.write_value.new.self.out.now c.write_value.new.self.bits
    (sym (operand_bound k a (omega arith) (omega arith))) (c.write_value.ensures.wrote o bs w)

pub returns-else-a-lt7-clause-wrote : goal.returns-else-a-lt7-clause-wrote
returns-else-a-lt7-clause-wrote c = let k = kind_from c.args.kind in
    let a = c.args.a.now in
    λ o bs w h. wrote_as o bs [] (operand_bits k (atom_of a).operator) c.args.self.now.out.now c.args.self.now.bits (sym (operand_none k a (omega arith))) (wrote_none o bs c.args.self.now.out.now c.args.self.now.bits w)
