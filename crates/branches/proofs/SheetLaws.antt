-- The branches of a sheet's table and command are those that its policies' roles and clauses make.
use Prim.Native.Nat.{ℕ, zero, suc, ◌+◌, ◌-◌, ◌*◌, ◌<◌, ◌≤◌}
use native.Mathlib.Omega.{arith}
use native.Mathlib.Decide.{dec_lt}
use mathlib.Core.Path.{◌≡◌, refl, sym, ap, subst, ◌∙◌}
use mathlib.Core.Bool.{Bool, true, false, cond, ◌&&◌}
use mathlib.Core.List.{List, [], ◌∷◌, ◌++◌, map}
use lib.ListN.{length, get_or, get_or-eq_default}
use Rattle.lists.specs.Lists.{keep, each}
use Rattle.lists.proofs.ListLaws.{all_at}
use Rattle.meaning.specs.Sheets.{Policy, all, Sheet, policy_at, applies, permissive, restrictive, joined, choices, branches, branch_count}
use Rattle.meaning.specs.Allowed.{facts_of, PolicyAllowed, SheetAllowed}
use Rattle.meaning.proofs.BranchLaws.{branches_counted}
use Rattle.branches.specs.Parts.{up_to, role_of, permits, restricts, permitted, restricting, branches_of, sum_to, product_to, Sized, RolesAre, CountsAre, clauses_of}
use Rattle.branches.proofs.JoinLaws.{nil_right, onward, up_to_onward}
use Rattle.branches.proofs.CountLaws.{branches_length}

-- what f gives for each element stands in the order of the numbers
module _ {A B : Type 0} (d : A) where
  each_onward : (f : A → List B) (xs : List A) (g : ℕ → List B) (i : ℕ) → ((k : ℕ) → k < length xs → g (i + k) ≡ f (get_or xs k d)) → each f xs ≡ onward g i (length xs)
  each_onward f [] g i h = refl
  each_onward f (x ∷ xs) g i h =
      let e : i + 0 ≡ i = omega arith in
      ap (λ t. t ++ each f xs) (sym (h 0 (omega arith)) ∙ ap g e)
      ∙ ap (λ t. g i ++ t) (each_onward f xs g (suc i) (λ k l. let q : suc i + k ≡ i + suc k = omega arith in ap g q ∙ h (suc k) (omega arith)))

  -- past the last element there is nothing
  up_to_past : (g : ℕ → List B) (n m : ℕ) → ((p : ℕ) → n ≤ p → g p ≡ []) → up_to g (n + m) ≡ up_to g n
  up_to_past g n zero h = let e : n + 0 ≡ n = omega arith in ap (up_to g) e
  up_to_past g n (suc m) h =
      let e : n + suc m ≡ suc (n + m) = omega arith in
      ap (up_to g) e ∙ ap (λ t. up_to g (n + m) ++ t) (h (n + m) (omega arith)) ∙ nil_right (up_to g (n + m)) ∙ up_to_past g n m h

  pub each_up_to : (f : A → List B) (xs : List A) (g : ℕ → List B) (n : ℕ) → length xs ≤ n → ((k : ℕ) → k < length xs → g k ≡ f (get_or xs k d)) → ((p : ℕ) → length xs ≤ p → g p ≡ []) → each f xs ≡ up_to g n
  each_up_to f xs g n l h past =
      let q : length xs + (n - length xs) ≡ n = omega arith in
      each_onward f xs g 0 (λ k m. let e : 0 + k ≡ k = omega arith in ap g e ∙ h k m) ∙ up_to_onward g 0 (length xs) (length xs) (omega arith) ∙ sym (up_to_past g (length xs) (n - length xs) past) ∙ ap (up_to g) q

-- the policies that pass a test, each giving its clauses
flat_kept : (f : Policy → Bool) (ps : List Policy) → each (λ cs. cs) (map (λ p. p.clauses) (keep f ps)) ≡ each (λ p. cond (f p) p.clauses []) ps
flat_kept f [] = refl
flat_kept f (p ∷ ps) = go (flat_kept f ps) (f p)
  where
    go : each (λ cs. cs) (map (λ q. q.clauses) (keep f ps)) ≡ each (λ q. cond (f q) q.clauses []) ps → (b : Bool) → each (λ cs. cs) (map (λ q. q.clauses) (cond b (p ∷ keep f ps) (keep f ps))) ≡ cond b p.clauses [] ++ each (λ q. cond (f q) q.clauses []) ps
    go ih true = ap (λ t. p.clauses ++ t) ih
    go ih false = ih

listed_kept : (f : Policy → Bool) (ps : List Policy) → map (λ p. p.clauses) (keep f ps) ≡ each (λ p. cond (f p) (p.clauses ∷ []) []) ps
listed_kept f [] = refl
listed_kept f (p ∷ ps) = go (listed_kept f ps) (f p)
  where
    go : map (λ q. q.clauses) (keep f ps) ≡ each (λ q. cond (f q) (q.clauses ∷ []) []) ps → (b : Bool) → map (λ q. q.clauses) (cond b (p ∷ keep f ps) (keep f ps)) ≡ cond b (p.clauses ∷ []) [] ++ each (λ q. cond (f q) (q.clauses ∷ []) []) ps
    go ih true = ap (λ t. p.clauses ∷ t) ih
    go ih false = ih

abbrev none : Policy
none = record { restrictive = false; commands = 0; selector = all; clauses = [] }

module _ (sheet : Sheet) (t command : ℕ) (roles : List ℕ) (few : length sheet.policies ≤ 16) (are : RolesAre sheet t command roles) where
  permits_role : (p : Policy) → permits (role_of sheet t command p) p.clauses ≡ cond (cond p.restrictive false (applies sheet t command p)) p.clauses []
  unfolding role_of
  permits_role p = go (applies sheet t command p) p.restrictive
    where
      go : (a r : Bool) → permits (cond a (cond r 2 1) 0) p.clauses ≡ cond (cond r false a) p.clauses []
      go true true = refl
      go true false = refl
      go false true = refl
      go false false = refl

  restricts_role : (p : Policy) → restricts (role_of sheet t command p) p.clauses ≡ cond (p.restrictive && applies sheet t command p) (p.clauses ∷ []) []
  unfolding role_of
  restricts_role p = go (applies sheet t command p) p.restrictive
    where
      go : (a r : Bool) → restricts (cond a (cond r 2 1) 0) p.clauses ≡ cond (r && a) (p.clauses ∷ []) []
      go true true = refl
      go true false = refl
      go false true = refl
      go false false = refl

  permissive_are : each (λ cs. cs) (permissive sheet t command) ≡ up_to (permitted roles (clauses_of sheet)) 16
  permissive_are =
      flat_kept (λ p. cond p.restrictive false (applies sheet t command p)) sheet.policies
      ∙ each_up_to none (λ p. cond (cond p.restrictive false (applies sheet t command p)) p.clauses []) sheet.policies (permitted roles (clauses_of sheet)) 16 few
      (λ p l. ap (λ z. permits z (clauses_of sheet p)) (are.counted p l) ∙ permits_role (policy_at sheet p)) (λ p l. ap (λ z. permits z (clauses_of sheet p)) (are.past p l))

  restrictive_are : restrictive sheet t command ≡ up_to (restricting roles (clauses_of sheet)) 16
  restrictive_are =
      listed_kept (λ p. p.restrictive && applies sheet t command p) sheet.policies
      ∙ each_up_to none (λ p. cond (p.restrictive && applies sheet t command p) (p.clauses ∷ []) []) sheet.policies (restricting roles (clauses_of sheet)) 16 few
      (λ p l. ap (λ z. restricts z (clauses_of sheet p)) (are.counted p l) ∙ restricts_role (policy_at sheet p)) (λ p l. ap (λ z. restricts z (clauses_of sheet p)) (are.past p l))

  -- the branches of the definitions
  pub branches_are : branches sheet t command ≡ branches_of roles (clauses_of sheet)
  unfolding branches branches_of
  branches_are = ap (λ cs. joined cs (choices (restrictive sheet t command))) permissive_are ∙ ap (λ rs. joined (up_to (permitted roles (clauses_of sheet)) 16) (choices rs)) restrictive_are

  -- and their count
  pub count_is : (counts : List ℕ) → Sized counts (clauses_of sheet) → sum_to roles counts 16 * product_to roles counts 16 ≡ branch_count sheet t command
  count_is counts s = sym (branches_length roles counts (clauses_of sheet) s) ∙ ap length (sym branches_are) ∙ branches_counted sheet t command

-- "clause count": "0..8"
pub counts_sized : (sheet : Sheet) (counts : List ℕ) → SheetAllowed sheet → CountsAre sheet counts → Sized counts (clauses_of sheet)
counts_sized sheet counts allowed are p l = go (dec_lt p (length sheet.policies))
  where
    go : Dec (p < length sheet.policies) → (length (clauses_of sheet p) ≡ get_or counts p 0) × (length (clauses_of sheet p) ≤ 8)
    go (yes h) = (sym (are.counted p h), (all_at (PolicyAllowed (facts_of sheet)) none sheet.policies p h allowed.each_policy).3)
    go (no h) =
        let past : length sheet.policies ≤ p = omega arith in
        let e : clauses_of sheet p ≡ [] = ap (λ q. q.clauses) (get_or-eq_default sheet.policies none past) in
        (ap length e ∙ sym (are.past p past), subst (λ cs. length cs ≤ 8) (sym e) (omega arith))
