-- An array of 16 numbers filled from the front, one for each policy: the roles and the clause counts of a sheet.
use Prim.Native.Nat.{ℕ, ◌+◌, ◌<◌, ◌≤◌}
use native.Mathlib.Omega.{arith}
use native.Mathlib.Decide.{ℕ_discrete, dec_lt}
use mathlib.Core.Path.{◌≡◌, refl, sym, ap, subst, ◌∙◌}
use mathlib.Core.Bool.{Bool, cond}
use mathlib.Core.List.{List}
use lib.ListN.{length, get_or, set, length-set, replicate, get_or-replicate, get_or-eq_default}
use lib.Seq.{get_or-set_same, get_or-set_other}
use Rattle.meaning.specs.Sheets.{Sheet, policy_at, applies}
use Rattle.branches.specs.Parts.{role_of, RolesAre, CountsAre}

-- the first p numbers are what P says, and the others 0
pub record Filled (P : ℕ → ℕ → Type 0) (xs : List ℕ) (p : ℕ) : Type 0 where
  pub sixteen : length xs ≡ 16
  pub so_far : (i : ℕ) → i < p → P i (get_or xs i 0)
  pub past : (i : ℕ) → p ≤ i → get_or xs i 0 ≡ 0

zeros : (i : ℕ) → ◌≡◌ {A = ℕ} (get_or (replicate 16 0) i 0) 0
zeros i = go (dec_lt i 16)
  where
    go : Dec (i < 16) → ◌≡◌ {A = ℕ} (get_or (replicate 16 0) i 0) 0
    go (yes l) = get_or-replicate 16 i 0 0 l
    go (no l) = get_or-eq_default (replicate 16 0) 0 {n = i} (let h : 16 ≤ i = omega arith in h)

pub filled_starts : (P : ℕ → ℕ → Type 0) → Filled P (replicate 16 0) 0
filled_starts P = record { sixteen = refl; so_far = λ i l. absurd (omega arith); past = λ i l. zeros i }

pub filled_more : (P : ℕ → ℕ → Type 0) (xs : List ℕ) (p x : ℕ) → p < 16 → P p x → Filled P xs p → Filled P (set xs p x) (p + 1)
filled_more P xs p x l h had = record { sixteen = length-set xs p x ∙ had.sixteen; so_far = λ i k. before i k (ℕ_discrete i p); past = λ i k. get_or-set_other xs p i x 0 (λ e. omega arith) ∙ had.past i (omega arith) }
  where
    before : (i : ℕ) → i < p + 1 → Dec (i ≡ p) → P i (get_or (set xs p x) i 0)
    before i k (yes e) = subst (λ z. P z (get_or (set xs p x) z 0)) (sym e) (subst (P p) (sym (get_or-set_same xs p x 0 (let s = had.sixteen in omega arith))) h)
    before i k (no e) = subst (P i) (sym (get_or-set_other xs p i x 0 e)) (had.so_far i (omega arith))

-- x is the role of policy i
abbrev pub RoleAt : Sheet → ℕ → ℕ → ℕ → ℕ → Type 0
RoleAt sheet t command i x = t < length sheet.tables → i < length sheet.policies → x ≡ role_of sheet t command (policy_at sheet i)

module _ (sheet : Sheet) (t command : ℕ) where
  pub role_at : {i x : ℕ} {a r : Bool} → x ≡ cond a (cond r 2 1) 0 → (i < length sheet.policies → r ≡ (policy_at sheet i).restrictive) →
      (t < length sheet.tables → i < length sheet.policies → a ≡ applies sheet t command (policy_at sheet i)) → RoleAt sheet t command i x
  unfolding role_of
  role_at {i} {x} {a} {r} e g h m k = e ∙ ap (λ (b : Bool). cond b (cond r 2 1) 0) (h m k) ∙ ap (λ (b : Bool). cond (applies sheet t command (policy_at sheet i)) (cond b 2 1) 0) (g k)

  pub roles_are : {xs : List ℕ} {n : ℕ} → n ≡ length sheet.policies → Filled (RoleAt sheet t command) xs n → t < length sheet.tables → RolesAre sheet t command xs
  roles_are e had m = record { counted = λ i k. had.so_far i (omega arith) m k; past = λ i k. had.past i (omega arith) }

-- x is the clause count of policy i
abbrev pub CountAt : Sheet → ℕ → ℕ → Type 0
CountAt sheet i x = x ≡ length (policy_at sheet i).clauses

pub counts_are : (sheet : Sheet) {xs : List ℕ} {n : ℕ} → n ≡ length sheet.policies → Filled (CountAt sheet) xs n → CountsAre sheet xs
counts_are sheet e had = record { counted = λ i k. had.so_far i (omega arith); past = λ i k. had.past i (omega arith) }
