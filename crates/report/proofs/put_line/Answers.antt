-- A line is its head, its rest and its end.
use Rattle.report.proofs.LineLaws.{line_told}
use Rattle.report.proofs.put_line.Goals as goal

pub returns-clause-text : goal.returns-clause-text
returns-clause-text c = line_told _ _ _ c.put_head.ensures.text c.put_answers.ensures.text c.byte.ensures
