-- A field that is there is the first `width` of the 64 bits at its place; every other is refused.
use native.Mathlib.Omega.{arith}
use Rattle.bits.proofs.WordLaws.{cut}
use Rattle.bits.proofs.Laws.{field_refused, field_value}
use Rattle.bits.proofs.field_at.Goals as goal

pub returns-then-bit-gt7 : goal.returns-then-bit-gt7
returns-then-bit-gt7 c = field_refused _ _ _ (λ i j k l. omega arith)

pub returns-then-s-byte-2 : goal.returns-then-s-byte-2
returns-then-s-byte-2 c = field_refused _ _ _ (λ i j k l. omega arith)

pub returns : goal.returns
returns c = field_value _ _ _ _ _ _ (omega arith) (omega arith) (omega arith) (omega arith) (cut _ _ _ 64 _ (omega arith) c.word.ensures) (omega arith) (omega arith)
