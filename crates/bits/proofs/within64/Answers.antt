-- `bits::within64` meets its contract: at a byte's first bit the eight bytes are the 64 bits; else the ninth byte brings in the last of them.
use Prim.Native.Nat.{◌+◌, ◌*◌, ◌/◌, ◌%◌}
use mathlib.Core.Path.{◌≡◌, refl, ap, ◌∙◌}
use native.Mathlib.Omega.{arith}
use Rattle.bits.specs.Bits.{number}
use Rattle.bits.proofs.WordLaws.{word_is}
use Rattle.bits.proofs.within64.Goals as goal

pub returns-then-bit-lt1 : goal.returns-then-bit-lt1
returns-then-bit-lt1 c = let p = c.args.p in
    let e : p / 8 * 8 ≡ p = omega (arith, c.if-bit-lt1.true) in
    c.eight-first.ensures ∙ ap (λ q. number c.args.s.now q 64) e

pub returns : goal.returns
returns c = let p = c.args.p in
    let e : p / 8 * 8 + p % 8 ≡ p = omega arith in
    word_is _ _ _ _ _ _ (omega arith) (omega (arith, c.shared_slice_known-2-1.given (p / 8 + 8))) c.eight-first.ensures refl c.moved.ensures ∙ ap (λ q. number c.args.s.now q 64) e
