-- N, counted up policy by policy: that it fits, and that it is how many branches there are.
use Prim.Native.Nat.{ℕ, zero, suc, ◌+◌, ◌*◌, ◌^◌, ◌<◌, ◌≤◌, min}
use native.Mathlib.Omega.{arith}
use native.Mathlib.Nat.{mul-one, mul-le-mul, pow-suc, pow-le-pow_right, le_trans}
use mathlib.Core.Path.{◌≡◌, refl, sym, ap, subst, ◌∙◌}
use mathlib.Core.Bool.{Bool, true, false, cond}
use mathlib.Core.List.{List, [], ◌∷◌, ◌++◌}
use lib.Dec.{eqb}
use lib.ListN.{length, get_or, length-append}
use Rattle.meaning.specs.Atoms.{Clause}
use Rattle.meaning.specs.Sheets.{choices}
use Rattle.branches.specs.Parts.{up_to, permitted, restricting, branches_of, term, factor, sum_to, product_to, Sized}
use Rattle.branches.proofs.JoinLaws.{nil_right, joined_length, choices_snoc}
use Rattle.branches.proofs.PickLaws.{term_length}

suc_one : (p : ℕ) → suc p ≡ p + 1
suc_one p = omega arith

-- so N fits: it is at most 128 * 2 ^ 48
pub product_more : (p x f : ℕ) → x ≤ 8 ^ p → f ≤ 8 → x * f ≤ 8 ^ (p + 1)
product_more p x f l m = subst (λ z. x * f ≤ z) (sym (pow-suc 8 p) ∙ ap (λ z. 8 ^ z) (suc_one p)) (mul-le-mul l m)

pub product_fits : (p x : ℕ) → p ≤ 16 → x ≤ 8 ^ p → x ≤ 281474976710656
product_fits p x l m = le_trans m (pow-le-pow_right {n = 8} (omega arith) l)

pub number_fits : (s x : ℕ) → s ≤ 128 → x ≤ 281474976710656 → s * x < 18446744073709551616
number_fits s x l m = let e : s * x ≤ 128 * 281474976710656 = mul-le-mul l m in omega (arith, e)

module _ (roles counts : List ℕ) where
  -- the sum and the product of the policies before p
  pub record Counted (p s x : ℕ) : Type 0 where
    pub sum : s ≡ sum_to roles counts p
    pub product : x ≡ product_to roles counts p

  pub counted_starts : Counted 0 0 1
  counted_starts = record { sum = refl; product = refl }

  pub counted_more : (p s x t f : ℕ) → t ≡ term (get_or roles p 0) (get_or counts p 0) → f ≡ factor (get_or roles p 0) (get_or counts p 0) → Counted p s x → Counted (p + 1) (s + t) (x * f)
  counted_more p s x t f e g had =
      subst (λ z. Counted z (s + t) (x * f)) (suc_one p)
      (record {
        sum = ap (λ z. z + t) had.sum ∙ ap (λ z. sum_to roles counts p + z) e;
        product = ap (λ z. z * f) had.product ∙ ap (λ z. product_to roles counts p * z) g;
      })

  pub counted_ends : (p s x : ℕ) → p ≡ 16 → Counted p s x → s * x ≡ sum_to roles counts 16 * product_to roles counts 16
  counted_ends p s x q had = ap (λ z. z * x) (had.sum ∙ ap (sum_to roles counts) q) ∙ ap (λ z. sum_to roles counts 16 * z) (had.product ∙ ap (product_to roles counts) q)

  module _ (clauses : ℕ → List Clause) (sized : Sized counts clauses) where
    sum_length : (p : ℕ) → p ≤ 16 → length (up_to (permitted roles clauses) p) ≡ sum_to roles counts p
    sum_length zero l = refl
    sum_length (suc p) l =
        length-append (up_to (permitted roles clauses) p) (permitted roles clauses p)
        ∙ omega (arith, sum_length p (omega arith), term_length (get_or roles p 0) (get_or counts p 0) (clauses p) (sized p (omega arith)).0 (sized p (omega arith)).1)

    factor_length : (p : ℕ) → p < 16 → length (choices (up_to (restricting roles clauses) (suc p))) ≡ length (choices (up_to (restricting roles clauses) p)) * factor (get_or roles p 0) (get_or counts p 0)
    factor_length p l = go (eqb (get_or roles p 0) 2)
      where
        go : (b : Bool) → length (choices (up_to (restricting roles clauses) p ++ cond b (clauses p ∷ []) [])) ≡ length (choices (up_to (restricting roles clauses) p)) * cond b (min (get_or counts p 0) 8) 1
        go true =
            let c : length (clauses p) ≡ min (get_or counts p 0) 8 = omega (arith, (sized p l).0, (sized p l).1) in
            ap length (choices_snoc (up_to (restricting roles clauses) p) (clauses p)) ∙ joined_length (choices (up_to (restricting roles clauses) p)) (clauses p)
            ∙ ap (λ z. length (choices (up_to (restricting roles clauses) p)) * z) c
        go false = ap (λ rs. length (choices rs)) (nil_right (up_to (restricting roles clauses) p)) ∙ sym (mul-one (length (choices (up_to (restricting roles clauses) p))))

    product_length : (p : ℕ) → p ≤ 16 → length (choices (up_to (restricting roles clauses) p)) ≡ product_to roles counts p
    product_length zero l = refl
    product_length (suc p) l = factor_length p (omega arith) ∙ ap (λ z. z * factor (get_or roles p 0) (get_or counts p 0)) (product_length p (omega arith))

    -- "N is the sum of the permissive policies' clause counts times the product of the restrictive ones' counts"
    pub branches_length : length (branches_of roles clauses) ≡ sum_to roles counts 16 * product_to roles counts 16
    unfolding branches_of
    branches_length =
        joined_length (up_to (permitted roles clauses) 16) (choices (up_to (restricting roles clauses) 16))
        ∙ ap (λ z. z * length (choices (up_to (restricting roles clauses) 16))) (sum_length 16 (omega arith)) ∙ ap (λ z. sum_to roles counts 16 * z) (product_length 16 (omega arith))
