-- `Plan::is_clause_met` meets its contract. At each turn the clause of all the words is met exactly when that of the words left is.
use Rattle.std.proofs.Common.{ℕ, ◌+◌, ◌*◌, ◌≤◌}
use Rattle.meaning.specs.Values.{Kind}
use Rattle.rows.specs.Held.{held}
use Rattle.admission.specs.Plan.{Kinds}
use Rattle.admission.proofs.ClauseLaws.{Left}
use Rattle.admission.proofs.plan.Plan.is_clause_met.Given as goal

abbrev pub invariant-loop-k : goal.invariant-loop-k
invariant-loop-k l = record {
  near : l.p ≤ 262144 + 2048 * l.k;
  left : (kind : ℕ → Kind) → Kinds kind l.kinds → Left kind l.s l.self.words (held l.vars) (l.slot * 8) l.initial.p l.n l.k l.p;
}
