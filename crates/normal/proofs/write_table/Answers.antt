-- The three fields, one behind the other.
use Rattle.std.proofs.Common.{arith, ◌++◌, sym}
use Rattle.bits.specs.Bits.{bits}
use Rattle.packing.proofs.WroteLaws.{wrote_both}
use Rattle.normal.proofs.write_table.Goals as goal

pub returns-clause-wrote : goal.returns-clause-wrote
returns-clause-wrote c = let s = c.write-3.new.self.out.now in
    let r = c.write-3.new.self.bits in
    let a = bits 6 c.from.result in
    let b = bits 8 c.from-2.result in
    λ o bs k w h. rw (sym c.from.ensures, sym c.from-2.ensures, sym c.from-3.ensures)
    (wrote_both o bs a (b ++ bits 16 c.from-3.result) s r
    (wrote_both o (bs ++ a) b (bits 16 c.from-3.result) s r
    (c.write-3.ensures.wrote o ((bs ++ a) ++ b) (c.write-2.ensures.wrote o (bs ++ a) (c.write.ensures.wrote o bs w (omega (arith, c.from.ensures, h.0))) (omega (arith, c.from-2.ensures, h.1))) (omega (arith, c.from-3.ensures, h.2)))))
