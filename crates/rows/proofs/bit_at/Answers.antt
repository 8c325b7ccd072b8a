-- `rows::bit_at` meets its contract. A bit of a byte, by a shift and a remainder.
use Rattle.rows.proofs.ContentLaws.{bit_number}
use Rattle.rows.proofs.bit_at.Goals as goal

pub returns : goal.returns
returns c = bit_number _ _ c.from.ensures
