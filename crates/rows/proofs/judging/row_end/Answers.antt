-- `rows::judging::row_end` meets its contract. A row ends where its contents end, after zero bits.
use Rattle.std.proofs.Common.{arith}
use Rattle.meaning.specs.Sheets.{holds}
use Rattle.rows.proofs.RowLaws.{ends_within, within_more}
use Rattle.rows.proofs.EndLaws.{row_lost_end, row_ends_end}
use Rattle.rows.proofs.judging.row_end.Goals as goal

pub returns-in_err-p : goal.returns-in_err-p
returns-in_err-p c = rw c.from_residual.ensures (tt, λ sheet t F. row_lost_end sheet t _ _ (c.columns_end.ensures.1 (holds t) sheet.columns F) c.in_err-p.was)

pub returns : goal.returns
returns c = let w = ends_within _ _ _ c.in_ok-p.was c.columns_end.ensures.0 in
    (within_more _ _ _ _ _ c.padded.result w.0 (omega arith) c.padded.ensures.1, λ sheet t F. row_ends_end sheet t _ _ (c.columns_end.ensures.1 (holds t) sheet.columns F) c.in_ok-p.was c.padded.ensures.0)
