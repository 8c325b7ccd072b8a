-- `verdicts::Asking::leaks_at` meets its contract: a branch that nobody meets is in no leaking pair, nor are two that have their tenants in one column.
use Rattle.verdicts.proofs.LeakLaws.{passed_anchored, leaking_told}
use Rattle.verdicts.proofs.Asking.leaks_at.Goals as goal

pub returns-then-marks-a-clause-told : goal.returns-then-marks-a-clause-told
returns-then-marks-a-clause-told c m la lb e = let r = c.requires in passed_anchored _ _ _ (m _ r.2 la) (m _ r.3 lb) c.if-marks-a-gt1.true c.if-marks-a.true

pub returns-clause-told : goal.returns-clause-told
returns-clause-told c m la lb e = leaking_told _ _ _ la lb (c.pair_leaks.ensures.told lb _ la e)
