-- `verdicts::Asking::is_live` meets its contract: nobody meets the branches before k.
use Rattle.std.specs.Prelude.{ℕ, ◌<◌}
use Rattle.verdicts.specs.Questions.{Met}
use Rattle.verdicts.proofs.Asking.is_live.Given as goal

abbrev pub invariant-loop-k : goal.invariant-loop-k
invariant-loop-k l = (j : ℕ) → j < l.k → Met l.self j → ⊥
