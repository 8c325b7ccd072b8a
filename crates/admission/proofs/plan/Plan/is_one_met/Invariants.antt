-- `Plan::is_one_met` meets its contract. No clause before the slot at hand is met: its head is not open, or the clause was tried.
use Rattle.std.proofs.Common.{ℕ, ◌-◌, ◌≤◌, List}
use Rattle.meaning.specs.Values.{Kind}
use Rattle.meaning.specs.Atoms.{Clause}
use Rattle.rows.specs.Held.{held}
use Rattle.admission.specs.Plan.{Kinds, Closed, ClausesLaid}
use Rattle.admission.proofs.ManyLaws.{NoneMet}
use Rattle.admission.proofs.plan.Plan.is_one_met.Given as goal

abbrev pub invariant-loop-k : goal.invariant-loop-k
invariant-loop-k l = record {
  low : l.first ≤ l.k;
  high : l.k ≤ l.end;
  none : (from : ℕ) → from ≤ l.first → Closed (held l.vars) l.self.heads from l.first → (kind : ℕ → Kind) (cs : List Clause) → Kinds kind l.kinds
      → ClausesLaid kind l.s l.self.words l.self.heads from l.end cs → NoneMet (held l.vars) from l.k cs;
}

abbrev pub decreases-loop-k : goal.decreases-loop-k
decreases-loop-k l = l.end - l.k
