-- The field is put, and then zeros to the end of its last byte.
use Prim.Native.Nat.{◌+◌, ◌*◌, ◌≤◌}
use mathlib.Core.Path.{◌≡◌, sym, ◌∙◌}
use mathlib.Core.Bool.{true}
use native.Mathlib.Omega.{arith}
use lib.ListN.{length}
use Rattle.bits.specs.Put.{has_room}
use Rattle.bits.proofs.PutBackLaws.{has_room_lem}
use Rattle.bits.proofs.PutFieldLaws.{field_put, field_not_put}
use Rattle.bits.proofs.put_field.Goals as goal
use Rattle.bits.proofs.put_field.Goals.{Then-has_room}

roomy : (c : Then-has_room) → has_room (length c.args.out.now) c.args.p c.args.width ≡ true
roomy c = sym c.has_room.ensures ∙ c.if-has_room.true

fits : (c : Then-has_room) → (c.args.width ≤ 64) × (c.args.p + c.args.width ≤ length c.args.out.now * 8)
fits c = has_room_lem _ _ _ (roomy c)

pub put_bits-requires : goal.put_bits-requires
put_bits-requires c = let h = fits (goal.at.put_bits-requires c).Then-has_room in (omega arith, omega arith, omega arith)

pub overflow_add-end : goal.overflow_add-end
overflow_add-end c = let h = fits (goal.at.overflow_add-end c).Then-has_room in omega arith

pub put_bits-requires-then-has_room : goal.put_bits-requires-then-has_room
put_bits-requires-then-has_room c = let h = fits (goal.at.put_bits-requires-then-has_room c).Then-has_room in (omega arith, omega arith, omega arith)

pub returns-then-has_room : goal.returns-then-has_room
returns-then-has_room c = field_put _ _ _ _ _ _ (λ i. omega (arith, c.slice_known-1.given i)) (roomy (goal.at.returns-then-has_room c).Then-has_room) c.put_bits.ensures c.put_bits-then-has_room.ensures

pub returns-else-has_room : goal.returns-else-has_room
returns-else-has_room c = field_not_put _ _ _ _ (sym c.has_room.ensures ∙ c.if-has_room.false)
