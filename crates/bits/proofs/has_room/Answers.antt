-- Bits lie within bytes where the bytes that they touch are there.
use Rattle.std.proofs.Common.{sym, arith}
use Rattle.bits.proofs.PutBackLaws.{no_room, room_by}
use Rattle.bits.proofs.has_room.Goals as goal

pub returns-then-width-gt64 : goal.returns-then-width-gt64
returns-then-width-gt64 c = sym (no_room _ _ _ (λ i j. omega arith))

pub returns : goal.returns
returns c = room_by _ _ _ (omega arith) (omega arith)
