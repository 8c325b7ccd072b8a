-- `bits::spells` meets its contract. A bit number is its byte and its bit.
use Prim.Native.Nat.{◌+◌, ◌*◌, ◌/◌, ◌%◌}
use native.Mathlib.Omega.{arith}
use mathlib.Core.Path.{◌≡◌, ap, ◌∙◌}
use lib.Dec.{eqb}
use Rattle.lists.specs.Lists.{any}
use Rattle.bits.specs.Bits.{numbers}
use Rattle.bits.proofs.spells.Goals as goal

pub returns-then-p-n : goal.returns-then-p-n
returns-then-p-n c = let p = c.args.p in
    let e : p / 8 * 8 + p % 8 ≡ p = omega arith in
    c.is_spelled_within.ensures ∙ ap (λ q. any (eqb c.args.x) (numbers c.args.s.now q c.args.n)) e
