-- `bits::is_spelled` meets its contract. At each turn x is one of the numbers from the start on exactly when it is one of those that are left.
use Rattle.std.proofs.Common.{◌+◌, ◌-◌, ◌*◌, ◌≡◌, eqb}
use Rattle.lists.specs.Lists.{any}
use Rattle.bits.specs.Bits.{numbers}
use Rattle.bits.proofs.is_spelled.Given as goal

abbrev pub invariant-loop-k : goal.invariant-loop-k
invariant-loop-k l = any (eqb l.x) (numbers l.s l.from l.n) ≡ any (eqb l.x) (numbers l.s (l.from + 64 * l.k) (l.n - l.k))
