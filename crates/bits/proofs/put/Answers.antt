-- Where there is room the bits are put; else nothing is.
use Prim.Native.Nat.{◌+◌, ◌*◌, ◌≤◌}
use mathlib.Core.Path.{◌≡◌, sym, ◌∙◌}
use mathlib.Core.Bool.{true}
use native.Mathlib.Omega.{arith}
use lib.ListN.{length}
use Rattle.bits.specs.Put.{has_room}
use native.Mathlib.Nat.{div-add-mod'}
use Rattle.bits.proofs.PutBackLaws.{has_room_lem, put_there, put_nothing}
use Rattle.bits.proofs.put.Goals as goal
use Rattle.bits.proofs.put.Goals.{Then-has_room}

roomy : (c : Then-has_room) → has_room (length c.args.out.now) c.args.p c.args.width ≡ true
roomy c = sym c.has_room.ensures ∙ c.if-has_room.true

fits : (c : Then-has_room) → (c.args.width ≤ 64) × (c.args.p + c.args.width ≤ length c.args.out.now * 8)
fits c = has_room_lem _ _ _ (roomy c)

pub put_bits-requires : goal.put_bits-requires
put_bits-requires c = let h = fits (goal.at.put_bits-requires c).Then-has_room in (omega arith, omega arith, omega arith)

pub returns-then-has_room : goal.returns-then-has_room
returns-then-has_room c = put_there _ _ _ _ _ (roomy (goal.at.returns-then-has_room c).Then-has_room) (c.put_bits.ensures ∙ rw (div-add-mod' _ 8))

pub returns-else-has_room : goal.returns-else-has_room
returns-else-has_room c = put_nothing _ _ _ _ (sym c.has_room.ensures ∙ c.if-has_room.false)
