-- A table is isolated exactly when no pair of branches leaks.
use Prim.Native.Nat.{ℕ, ◌<◌}
use mathlib.Core.Path.{◌≡◌, sym, ◌∙◌}
use mathlib.Core.Logic.{◌↔◌}
use mathlib.Core.Bool.{true}
use mathlib.Core.List.{[]}
use lib.ListN.{length, get_or}
use Rattle.meaning.specs.Values.{Contents, with}
use Rattle.meaning.specs.Atoms.{clause_met}
use Rattle.meaning.specs.Sheets.{Sheet, admits, branches}
use Rattle.meaning.specs.Questions.{IsIsolated, Leak}
use Rattle.lists.proofs.ListLaws.{any_at, any_where}
use Rattle.meaning.proofs.BranchLaws.{branches_admit}

module _ (sheet : Sheet) (t command : ℕ) where
  -- a branch that is met admits, and what is admitted meets a branch
  pub branch_admits : (e : Contents) (a : ℕ) → a < length (branches sheet t command) → clause_met e (get_or (branches sheet t command) a []) ≡ true → admits sheet t command e ≡ true
  branch_admits e a h m = sym (branches_admit sheet t command e) ∙ any_at (clause_met e) [] (branches sheet t command) a h m

  pub admitted_branch : (e : Contents) → admits sheet t command e ≡ true → (a : ℕ) × (a < length (branches sheet t command)) × (clause_met e (get_or (branches sheet t command) a []) ≡ true)
  admitted_branch e h = any_where (clause_met e) [] (branches sheet t command) (branches_admit sheet t command e ∙ h)

  pub leak_not_isolated : (a b : ℕ) → Leak sheet t command a b → IsIsolated sheet t command → ⊥
  leak_not_isolated a b l isolated =
      isolated l.row l.one l.two
      (record { is_row = l.is_row; is_session = l.is_session_one; admitted = branch_admits (with l.row l.one) a l.a_there l.meets_a })
      (record { is_row = l.is_row; is_session = l.is_session_two; admitted = branch_admits (with l.row l.two) b l.b_there l.meets_b })
      l.other_tenant

  pub no_leak_isolated : ((a b : ℕ) → Leak sheet t command a b → ⊥) → IsIsolated sheet t command
  no_leak_isolated none row one two x y other =
      let a = admitted_branch (with row one) x.admitted in
      let b = admitted_branch (with row two) y.admitted in
      none a.0 b.0
      (record {
        row = row;
        one = one;
        two = two;
        is_row = x.is_row;
        is_session_one = x.is_session;
        is_session_two = y.is_session;
        other_tenant = other;
        a_there = a.1;
        b_there = b.1;
        meets_a = a.2;
        meets_b = b.2;
      })

  pub isolated_exact : IsIsolated sheet t command ↔ ((a b : ℕ) → Leak sheet t command a b → ⊥)
  isolated_exact = (λ isolated a b l. leak_not_isolated a b l isolated, no_leak_isolated)
