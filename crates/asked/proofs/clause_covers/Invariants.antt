-- Each of the first i atoms is implied.
use Rattle.meaning.specs.Views.{clause_of}
use Rattle.asked.proofs.CoverLaws.{Implied}
use Rattle.asked.proofs.clause_covers.Given as goal

abbrev pub invariant-loop-i : goal.invariant-loop-i
invariant-loop-i l = Implied l.top l.p.atoms (clause_of l.q) l.i
