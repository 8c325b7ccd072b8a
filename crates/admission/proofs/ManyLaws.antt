-- Clauses and policies by their numbers: one is met, none is, all are.
use Prim.Native.Nat.{ℕ, zero, suc, ◌+◌, ◌-◌, ◌<◌, ◌≤◌}
use native.Mathlib.Decide.{dec_lt}
use native.Mathlib.Omega.{arith}
use mathlib.Core.Path.{◌≡◌, refl, sym, ap, subst, ◌∙◌}
use mathlib.Core.Bool.{Bool, true, false, ◌&&◌, ◌||◌}
use mathlib.Core.List.{List, [], ◌∷◌}
use lib.ListN.{length, get_or}
use Rattle.lists.specs.Lists.{every, any}
use Rattle.lists.proofs.ListLaws.{any_at}
use Rattle.meaning.specs.Values.{Kind, Contents}
use Rattle.meaning.specs.Atoms.{Clause, clause_met, policy_met}
use Rattle.admission.specs.Plan.{guard_of, guard_met, sieve_of, sieve_met, head_open, Closed, ClauseLaid, ClausesLaid, slot_of, PoliciesLaid}

module _ {A : Type 0} (f : A → Bool) (d : A) where
  any_none : (xs : List A) → ((i : ℕ) → i < length xs → f (get_or xs i d) ≡ false) → any f xs ≡ false
  any_none [] h = refl
  any_none (x ∷ xs) h = (λ t. h 0 (omega arith) t || any_none xs (λ i l. h (suc i) (omega arith)) t)

  every_all : (xs : List A) → ((i : ℕ) → i < length xs → f (get_or xs i d) ≡ true) → every f xs ≡ true
  every_all [] h = refl
  every_all (x ∷ xs) h = (λ t. h 0 (omega arith) t && every_all xs (λ i l. h (suc i) (omega arith)) t)

  every_lost : (xs : List A) (i : ℕ) → i < length xs → f (get_or xs i d) ≡ false → every f xs ≡ false
  every_lost [] i l h = absurd (omega arith)
  every_lost (x ∷ xs) zero l h = ap (λ b. b && every f xs) h
  every_lost (x ∷ xs) (suc i) l h = ap (λ b. f x && b) (every_lost xs i (omega arith) h) ∙ go (f x)
    where
      go : (b : Bool) → (b && false) ≡ false
      go true = refl
      go false = refl

-- what holds at each number so far, and at the next
pub so_far : (P : ℕ → Type 0) (from k : ℕ) → ((j : ℕ) → from ≤ j → j < k → P j) → P k → (j : ℕ) → from ≤ j → j < k + 1 → P j
so_far P from k h here j l m = go (dec_lt j k)
  where
    go : Dec (j < k) → P j
    go (yes n) = h j l n
    go (no n) = let e : k ≡ j = omega arith in subst P e here

-- one more head is not open; nor are all up to the next that has another guard, where the guard at hand is not met
module _ (e : Contents) (heads : List ℕ) (from k : ℕ) (h : Closed e heads from k) where
  pub closed_on : {r : Bool} → r ≡ head_open e (get_or heads k 0) → r ≡ false → Closed e heads from (k + 1)
  closed_on g f = so_far (λ j. head_open e (get_or heads j 0) ≡ false) from k h (sym g ∙ f)

  pub closed_past : {r : Bool} (guard next : ℕ) → r ≡ guard_met e guard → r ≡ false → guard_of (get_or heads k 0) ≡ guard → ((j : ℕ) → k + 1 ≤ j → j < next → guard_of (get_or heads j 0) ≡ guard) → Closed e heads from next
  closed_past guard next g f here same j l m = go (dec_lt j k) (dec_lt k j)
    where
      shut : (i : ℕ) → guard_of (get_or heads i 0) ≡ guard → head_open e (get_or heads i 0) ≡ false
      shut i is = ap (λ b. b && sieve_met e (sieve_of (get_or heads i 0))) (ap (guard_met e) is ∙ sym g ∙ f)

      go : Dec (j < k) → Dec (k < j) → head_open e (get_or heads j 0) ≡ false
      go (yes a) b = h j l a
      go (no a) (yes b) = shut j (same j (omega arith) m)
      go (no a) (no b) = let z : k ≡ j = omega arith in subst (λ i. head_open e (get_or heads i 0) ≡ false) z (shut k here)

-- none of the clauses at the slots from `from` up to k is met
abbrev pub NoneMet : Contents → ℕ → ℕ → List Clause → Type 0
NoneMet e from k cs = (j : ℕ) → j < length cs → from + j < k → clause_met e (get_or cs j []) ≡ false

module _ (kind : ℕ → Kind) (e : Contents) (s ws heads : List ℕ) (from end : ℕ) (cs : List Clause) (L : ClausesLaid kind s ws heads from end cs) where
  -- where a head is not open, its clause is not met
  not_open : (j : ℕ) → j < length cs → head_open e (get_or heads (from + j) 0) ≡ false → clause_met e (get_or cs j []) ≡ false
  not_open j l f = go (clause_met e (get_or cs j [])) refl
    where
      go : (b : Bool) → clause_met e (get_or cs j []) ≡ b → b ≡ false
      go false m = refl
      go true m = sym ((L.each j l).opens e m) ∙ f

  skips : (k next : ℕ) → NoneMet e from k cs → Closed e heads k next → NoneMet e from next cs
  skips k next h g j l m = go (dec_lt (from + j) k)
    where
      go : Dec (from + j < k) → clause_met e (get_or cs j []) ≡ false
      go (yes n) = h j l n
      go (no n) = not_open j l (g (from + j) (omega arith) m)

  pub opens : (next : ℕ) → Closed e heads from next → NoneMet e from next cs
  opens next g = skips from next (λ j l m. absurd (omega arith)) g

  pub none_met : (k : ℕ) → end ≤ k → NoneMet e from k cs → policy_met e cs ≡ false
  none_met k l h = let n = L.size in any_none (clause_met e) [] cs (λ j m. h j m (omega arith))

  -- a slot in between
  module _ (k : ℕ) (a : from ≤ k) (b : k < end) where
    inside : k - from < length cs
    inside = let n = L.size in omega arith

    pub laid_at : ClauseLaid kind s ws k (get_or heads k 0) (get_or cs (k - from) [])
    laid_at = let z : from + (k - from) ≡ k = omega arith in subst (λ i. ClauseLaid kind s ws i (get_or heads i 0) (get_or cs (k - from) [])) z (L.each (k - from) inside)

    pub one_met : {r : Bool} → r ≡ clause_met e (get_or cs (k - from) []) → r ≡ true → policy_met e cs ≡ true
    one_met h t = any_at (clause_met e) [] cs (k - from) inside (sym h ∙ t)

    pub goes_on : {r : Bool} (next : ℕ) → NoneMet e from k cs → r ≡ clause_met e (get_or cs (k - from) []) → r ≡ false → Closed e heads (k + 1) next → NoneMet e from next cs
    goes_on next h g f = skips (k + 1) next (λ j l m. go j l m (dec_lt (from + j) k))
      where
        go : (j : ℕ) → j < length cs → from + j < k + 1 → Dec (from + j < k) → clause_met e (get_or cs j []) ≡ false
        go j l m (yes n) = h j l n
        go j l m (no n) = let z : j ≡ k - from = omega arith in ap (λ i. clause_met e (get_or cs i [])) z ∙ sym g ∙ f

pub policy_laid : (kind : ℕ → Kind) (s ws heads counts : List ℕ) (n : ℕ) (ps : List (List Clause)) → PoliciesLaid kind s ws heads counts n ps → (i : ℕ) {m : ℕ} → i < n → m ≡ get_or counts i 0 → ClausesLaid kind s ws heads (slot_of i) (slot_of i + m) (get_or ps i [])
policy_laid kind s ws heads counts n ps L i l e = subst (λ m. ClausesLaid kind s ws heads (slot_of i) (slot_of i + m) (get_or ps i [])) (sym e) (L.each i l)

-- the first i policies are met
abbrev pub AllMet : Contents → ℕ → List (List Clause) → Type 0
AllMet e i ps = (j : ℕ) → j < i → policy_met e (get_or ps j []) ≡ true

module _ (e : Contents) (ps : List (List Clause)) where
  pub all_met : (i : ℕ) → length ps ≤ i → AllMet e i ps → every (policy_met e) ps ≡ true
  all_met i l h = every_all (policy_met e) [] ps (λ j m. h j (omega arith))

  pub one_more : (i : ℕ) {r : Bool} → AllMet e i ps → r ≡ policy_met e (get_or ps i []) → r ≡ true → AllMet e (i + 1) ps
  one_more i h g t j m = go (dec_lt j i)
    where
      go : Dec (j < i) → policy_met e (get_or ps j []) ≡ true
      go (yes n) = h j n
      go (no n) = let z : j ≡ i = omega arith in ap (λ k. policy_met e (get_or ps k [])) z ∙ sym g ∙ t

  pub one_denies : (i : ℕ) {r : Bool} → i < length ps → r ≡ policy_met e (get_or ps i []) → r ≡ false → every (policy_met e) ps ≡ false
  one_denies i l h f = every_lost (policy_met e) [] ps i l (sym h ∙ f)

-- two tests, the second asked where the first is true
module _ {a x : Bool} (b : Bool) (h : x ≡ a) where
  pub second_decides : {r : Bool} → x ≡ true → r ≡ b → r ≡ (a && b)
  second_decides t g = g ∙ ap (λ y. y && b) (sym t ∙ h)

  pub first_fails : x ≡ false → false ≡ (a && b)
  first_fails f = ap (λ y. y && b) (sym f ∙ h)
