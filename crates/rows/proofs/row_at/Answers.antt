-- `rows::row_at` meets its contract. A row is its contents, and then zero bits.
use Rattle.std.proofs.Common.{arith}
use Rattle.meaning.specs.Sheets.{holds}
use Rattle.rows.proofs.RowLaws.{row_read}
use Rattle.rows.proofs.row_at.Goals as goal

pub returns : goal.returns
returns c = (omega arith, omega arith, omega arith, λ sheet t z F. row_read _ _ sheet t _ _ _ _ z (c.columns_at-p.ensures.3 (holds t) sheet.columns F))
