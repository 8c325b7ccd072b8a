-- The first i clauses have been through steps 1 to 5.
use Rattle.std.proofs.Common.{◌≤◌, length, take}
use Rattle.meaning.specs.Sheets.{policy_at}
use Rattle.asked.specs.Asked.{Ranges}
use Rattle.steps.specs.Lists.{elements}
use Rattle.pruned.specs.Pruned.{clauses_of, Tidied}
use Rattle.normal.proofs.gather.Given as goal

abbrev pub invariant-loop-i : goal.invariant-loop-i
invariant-loop-i l = record {
  few : length (elements l.cs) ≤ l.i;
  tidied : Ranges l.sheet l.top → Tidied l.sheet (take l.i (policy_at l.sheet l.k).clauses) (clauses_of (elements l.cs));
}
