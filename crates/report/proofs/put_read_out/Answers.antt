-- A refused sheet's line, or the opening and the lines.
use Rattle.report.proofs.LineLaws.{out_refused, out_told}
use Rattle.report.proofs.put_read_out.Goals as goal

pub returns-in-Ok-clause-text : goal.returns-in-Ok-clause-text
returns-in-Ok-clause-text c = out_told _ _ _ _ c.in-Ok.ensures.accepted.0 c.tables.ensures.number c.policies.ensures.number c.put_opening.ensures.text c.put_lines.ensures.text

pub returns-in-Err-clause-text : goal.returns-in-Err-clause-text
returns-in-Err-clause-text c = out_refused _ _ c.number.ensures c.in-Err.ensures.refused c.put_refusal.ensures.text
