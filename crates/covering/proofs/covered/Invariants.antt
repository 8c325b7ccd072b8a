-- `covering::covered` meets its contract: none of the clauses before i covers the clause.
use Rattle.meaning.specs.Views.{clause_of}
use Rattle.asked.specs.Asked.{Ranges, Uses, every_column}
use Rattle.covering.proofs.CoverLaws.{Uncovered}
use Rattle.covering.proofs.covered.Given as goal

abbrev pub invariant-loop-i : goal.invariant-loop-i
invariant-loop-i l = Ranges l.sheet l.top → Uses (every_column l.sheet) l.sheet (clause_of l.q) → Uncovered l.sheet l.a (clause_of l.q) l.i
