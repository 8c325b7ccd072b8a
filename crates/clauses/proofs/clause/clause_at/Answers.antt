-- `clauses::clause::clause_at` meets its contract: where a clause is found at a bit number, it is the one that is read there.
use Rattle.std.proofs.Common.{refl}
use Rattle.meaning.specs.Allowed.{facts_of}
use Rattle.values.proofs.ReadLaws.{got, lost}
use Rattle.clauses.proofs.TurnLaws.{got_item, not_found}
use Rattle.clauses.proofs.AtomLaws.{facts_only}
use Rattle.clauses.proofs.clause.clause_at.Goals as goal

pub returns-in-Ok : goal.returns-in-Ok
returns-in-Ok c sheet x q F e = got_item (got (c.in-Ok.ensures (facts_of sheet) c.args.p (facts_only F) refl)) e

pub returns-in-Err : goal.returns-in-Err
returns-in-Err c sheet x q F e = not_found (lost (c.in-Err.ensures (facts_of sheet) c.args.p (facts_only F) refl)) e
