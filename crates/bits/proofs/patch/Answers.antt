-- The upper bits, the new ones and the lowest, one below the other.
use Prim.Native.Nat.{◌+◌, ◌*◌, ◌/◌, ◌%◌, ◌^◌, ◌<◌}
use mathlib.Core.Path.{refl, ◌∙◌}
use native.Mathlib.Omega.{arith}
use Rattle.bits.proofs.PutLaws.{upper_lt, patched_by, patched_fits}
use Rattle.bits.proofs.patch.Goals as goal
use Rattle.bits.proofs.patch.Goals.{After-lowest-2}

fits : (c : After-lowest-2)
    → (c.from-b.result / 2 ^ (c.args.n + c.args.w) * 2 ^ c.args.w % 2 ^ 64 + c.lowest.result) * 2 ^ c.args.n % 2 ^ 64 + c.lowest-2.result < 2 ^ 8
fits c = patched_fits _ _ _ _ _ _ (omega arith) (omega arith) c.lowest.ensures c.lowest-2.ensures

pub overflow_add-upper-2 : goal.overflow_add-upper-2
overflow_add-upper-2 c = omega (arith, upper_lt c.from-b.result c.args.n c.args.w _ _ _ (omega arith) (omega arith) c.lowest.ensures refl)

pub overflow_add-result : goal.overflow_add-result
overflow_add-result c = let h = fits (goal.at.overflow_add-result c).After-lowest-2 in omega arith

pub overflow_cast-result : goal.overflow_cast-result
overflow_cast-result c = let h = fits (goal.at.overflow_cast-result c).After-lowest-2 in omega arith

pub returns : goal.returns
returns c = patched_by _ _ _ _ _ _ (omega arith) (omega arith) c.lowest.ensures c.lowest-2.ensures ∙ rw c.from-b.ensures
