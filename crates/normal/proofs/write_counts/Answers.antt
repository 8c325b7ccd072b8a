-- Five fields, one behind the other.
use Rattle.std.proofs.Common.{arith, [], ◌++◌}
use Rattle.bits.specs.Bits.{bits}
use Rattle.normal.proofs.FactLaws.{counts_written}
use Rattle.normal.proofs.write_counts.Goals as goal

pub returns-clause-wrote : goal.returns-clause-wrote
returns-clause-wrote c = let m = c.columns.ensures in
    let k = c.keys.ensures in
    let t = c.tables.ensures in
    let n = c.policies.ensures in
    λ o e. counts_written c.args.sheet.now o c.write-5.new.self.out.now c.write-5.new.self.bits m.number k.number t.number n.number
    (c.write-5.ensures.wrote o (((([] ++ bits 4 1) ++ bits 5 c.columns.result) ++ bits 4 c.keys.result) ++ bits 5 c.tables.result)
    (c.write-4.ensures.wrote o ((([] ++ bits 4 1) ++ bits 5 c.columns.result) ++ bits 4 c.keys.result)
    (c.write-3.ensures.wrote o (([] ++ bits 4 1) ++ bits 5 c.columns.result)
    (c.write-2.ensures.wrote o ([] ++ bits 4 1) (c.write.ensures.wrote o [] e (omega arith)) (omega (arith, m.few)))
    (omega (arith, k.few)))
    (omega (arith, t.few)))
    (omega (arith, n.few)))
