-- The verdicts are those of the sheet.
use Rattle.report.proofs.LineLaws.{rest_lost, rest_refused, life_lost, isolation_lost, rest_told}
use Rattle.report.proofs.put_answers.Goals as goal

pub returns-in_default-clause-text : goal.returns-in_default-clause-text
returns-in_default-clause-text c = rest_lost _ _ _ _ c.in_default.ensures

pub returns-then-n-gt256-clause-text : goal.returns-then-n-gt256-clause-text
returns-then-n-gt256-clause-text c = rest_refused _ _ _ _ c.in-Ok.ensures c.if-n-gt256.true c.word.ensures

pub returns-in_default-dead-clause-text : goal.returns-in_default-dead-clause-text
returns-in_default-dead-clause-text c = life_lost _ _ _ _ c.in-Ok.ensures c.if-n-gt256.false _ c.in_default-dead.ensures

pub returns-in_default-isolated-clause-text : goal.returns-in_default-isolated-clause-text
returns-in_default-isolated-clause-text c = isolation_lost _ _ _ _ c.in-Ok.ensures c.if-n-gt256.false _ c.in_default-isolated.ensures

pub returns-clause-text : goal.returns-clause-text
returns-clause-text c = rest_told _ _ _ _ c.in-Ok.ensures c.if-n-gt256.false _ _ c.in-Ok-dead.ensures c.in-Ok-isolated.ensures c.put_verdicts.ensures.text
