-- Of the bits to be written the first `width - left` stand, and every other bit is as found.
use Prim.Native.Nat.{◌+◌, ◌-◌, ◌*◌, ◌/◌, ◌^◌, ◌≤◌}
use mathlib.Core.Path.{◌≡◌}
use lib.ListN.{length}
use Rattle.bits.specs.Put.{put_bits}
use Rattle.bits.proofs.put_bits.Given as goal

abbrev pub invariant-loop-left : goal.invariant-loop-left
invariant-loop-left l =
    (l.left ≤ l.width) × (l.from ≤ 7) × (l.at * 8 + l.from + l.left ≡ l.byte * 8 + l.bit + l.width) × (length l.out ≡ length l.initial.out)
    × (l.out ≡ put_bits l.initial.out (l.byte * 8 + l.bit) (l.width - l.left) (l.value / 2 ^ l.left))

abbrev pub decreases-loop-left : goal.decreases-loop-left
decreases-loop-left l = l.left
