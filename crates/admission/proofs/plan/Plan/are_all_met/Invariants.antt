-- `Plan::are_all_met` meets its contract. Each policy before the one at hand is met.
use Rattle.std.proofs.Common.{ℕ, List}
use Rattle.meaning.specs.Values.{Kind}
use Rattle.meaning.specs.Atoms.{Clause}
use Rattle.rows.specs.Held.{held}
use Rattle.admission.specs.Plan.{Kinds, PoliciesLaid}
use Rattle.admission.proofs.ManyLaws.{AllMet}
use Rattle.admission.proofs.plan.Plan.are_all_met.Given as goal

abbrev pub invariant-loop-i : goal.invariant-loop-i
invariant-loop-i l = (kind : ℕ → Kind) (ps : List (List Clause)) → Kinds kind l.kinds → PoliciesLaid kind l.s l.self.words l.self.heads l.self.counts l.self.all ps → AllMet (held l.vars) l.i ps
