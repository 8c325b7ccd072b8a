-- The bits from `from` to `at` are copied.
use Prim.Native.Nat.{ℕ, ◌-◌, ◌≤◌}
use mathlib.Core.Path.{◌≡◌}
use mathlib.Core.List.{List, ◌++◌}
use lib.ListN.{length}
use Rattle.packing.specs.Wrote.{Wrote}
use Rattle.packing.proofs.WroteLaws.{run}
use Rattle.packing.proofs.Writer.copy.Given as goal

abbrev pub invariant-loop-at : goal.invariant-loop-at
invariant-loop-at l =
    (l.from ≤ l.at) × (l.at - l.from ≤ l.to - l.from) × (l.self.out.ghost_name ≡ l.initial.self.out.ghost_name)
    × ((o bs : List ℕ) → Wrote o bs l.initial.self.out.now l.initial.self.bits → Wrote o (bs ++ run l.s l.from (l.at - l.from)) l.self.out.now l.self.bits)

abbrev pub decreases-loop-at : goal.decreases-loop-at
decreases-loop-at l = l.to - l.at
