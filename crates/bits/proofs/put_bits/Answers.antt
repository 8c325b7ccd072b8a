-- Of the bits to be written the first `width - left` stand, and every other bit is as found.
use borrow.Author.Rules.{rules}
use mathlib.Core.Path.{refl}
use native.Mathlib.Omega.{arith}
use Rattle.bits.proofs.PutLaws.{put_start, put_turn, put_done}
use Rattle.bits.proofs.put_bits.Goals as goal

pub loop-left-init : goal.loop-left-init
loop-left-init c = (omega arith, omega arith, omega arith, refl, put_start _ _ _ _)

pub loop-left-preserved : goal.loop-left-preserved
loop-left-preserved c = (
  omega arith,
  omega arith,
  omega arith,
  search rules,
  put_turn _ _ _ _ _ _ _ _ _ _ c.loop-left.invariant.2 (omega arith) (omega arith) (omega arith) (omega arith) c.patch.ensures c.loop-left.invariant.4,
)

pub returns : goal.returns
returns c = put_done _ _ _ _ _ _ c.loop-left-test.false c.loop-left.invariant.4
