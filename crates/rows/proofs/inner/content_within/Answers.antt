-- `rows::inner::content_within` meets its contract: what is of the form is what `content_at` finds.
use Rattle.std.proofs.Common.{arith}
use Rattle.rows.proofs.ContentLaws.{null_of, value_of}
use Rattle.rows.proofs.inner.content_within.Goals as goal

pub returns-then-bit_at-eq0 : goal.returns-then-bit_at-eq0
returns-then-bit_at-eq0 c = (omega arith, omega arith, λ k x q K is. null_of k _ _ (omega arith) c.bit_at.ensures is c.if-bit_at-eq0.true)

pub returns : goal.returns
returns c = (omega arith, omega arith, λ k x q K is. value_of k _ _ (omega arith) c.bit_at.ensures is c.if-bit_at-eq0.false (omega arith) c.within64.ensures (c.raw_of.ensures k K))
