-- The first `width` of 64 bits are these, shifted.
use mathlib.Core.Path.{◌≡◌, sym}
use native.Mathlib.Omega.{arith}
use Rattle.bits.proofs.WordLaws.{cut}
use Rattle.bits.proofs.Laws.{number_zero}
use Rattle.bits.proofs.peek.Goals as goal

pub returns-then-width-lt1 : goal.returns-then-width-lt1
returns-then-width-lt1 c = let e : c.args.width ≡ 0 = omega arith in
    rw e (sym (number_zero _ _))

pub returns : goal.returns
returns c = cut _ _ _ 64 _ (omega arith) c.peek64.ensures
