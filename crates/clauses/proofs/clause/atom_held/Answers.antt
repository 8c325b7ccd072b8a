-- `clauses::clause::atom_held` meets its contract: an equality has a second variable, no other operator has.
use Rattle.std.proofs.Common.{arith}
use Rattle.clauses.proofs.HeldLaws.{both_held, one_held}
use Rattle.clauses.proofs.clause.atom_held.Goals as goal

pub returns-then-a-eq0 : goal.returns-then-a-eq0
returns-then-a-eq0 c = both_held c.args.columns c.args.a.now (omega arith) c.is_held-first.ensures c.is_held.ensures

pub returns-else-a-eq0 : goal.returns-else-a-eq0
returns-else-a-eq0 c = one_held c.args.columns c.args.a.now (omega arith) c.is_held-first.ensures
