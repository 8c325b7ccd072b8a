-- `sheet::opening::held_below` meets its contract. The loop's invariant: no column before i is held at or above c.
use Rattle.std.proofs.Common.{◌≡◌, drop}
use Rattle.lists.specs.Lists.{numbers_from, every}
use Rattle.sheet.proofs.ServeLaws.{below_test}
use Rattle.sheet.proofs.opening.held_below.Given as goal

abbrev pub invariant-loop-i : goal.invariant-loop-i
invariant-loop-i l = every (below_test l.c l.columns) (numbers_from 0 16) ≡ every (below_test l.c l.columns) (drop l.i (numbers_from 0 16))
