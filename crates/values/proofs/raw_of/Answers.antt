-- `values::raw_of` meets its contract: an integer's code is 2^63 more than its value, so the two halves of its bits change places.
use native.Mathlib.Omega.{arith}
use Rattle.values.proofs.ValueLaws.{raw_low, raw_high, raw_same}
use Rattle.values.proofs.raw_of.Goals as goal

pub returns-then-x-lt9223372036854775808 : goal.returns-then-x-lt9223372036854775808
returns-then-x-lt9223372036854775808 c k e = raw_low k _ (omega arith) (omega arith)

pub returns-then-kind-eq0 : goal.returns-then-kind-eq0
returns-then-kind-eq0 c k e = raw_high k _ (omega arith) (omega arith) (omega arith)

pub returns : goal.returns
returns c k e = raw_same k _ (λ h. omega arith)
