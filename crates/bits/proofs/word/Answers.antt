-- Eight bytes and the first bits of the ninth are the 64 bits and those before them in their byte.
use Prim.Native.Nat.{◌+◌}
use mathlib.Core.Path.{refl}
use native.Mathlib.Omega.{arith}
use Rattle.bits.proofs.WordLaws.{word_is}
use Rattle.bits.proofs.word.Goals as goal

pub returns-then-byte-s : goal.returns-then-byte-s
returns-then-byte-s c = word_is _ _ _ _ _ _ (omega arith) (omega (arith, c.shared_slice_known-then-byte-s-1.given (c.args.byte + 8))) c.eight.ensures refl c.moved.ensures

pub returns : goal.returns
returns c = word_is _ _ _ _ _ _ (omega arith) (omega arith) c.last_eight.ensures c.byte_at.ensures c.moved-2.ensures
