-- `branches::permitted_at` meets its contract: the clause sought is number `rest` of those from policy p on.
use Rattle.std.proofs.Common.{arith}
use Rattle.branches.proofs.PickLaws.{seek_starts, seek_more, seek_found, seek_ends}
use Rattle.branches.proofs.permitted_at.Goals as goal

pub loop-p-init : goal.loop-p-init
loop-p-init c = seek_starts _ _ _

pub returns-then-rest-n : goal.returns-then-rest-n
returns-then-rest-n c = seek_found _ _ _ _ _ _ c.loop-p-test.true c.term_of-n.ensures.0 c.if-rest-n.true c.loop-p.invariant

pub loop-p-preserved : goal.loop-p-preserved
loop-p-preserved c = seek_more _ _ _ _ _ _ c.loop-p-test.true c.term_of-n.ensures.0 c.if-rest-n.false c.loop-p.invariant

pub returns : goal.returns
returns c = seek_ends _ _ _ _ _ (omega arith) c.loop-p.invariant
