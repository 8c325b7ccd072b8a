-- The readers of single fields, by what their bits are: one law for each way on.
use Prim.Native.Nat.{ℕ, ◌-◌, ◌<◌, ◌≤◌}
use native.Mathlib.Omega.{arith}
use mathlib.Core.Path.{◌≡◌, refl, ◌∙◌}
use mathlib.Core.Bool.{Bool, true, false, cond}
use mathlib.Core.List.{List}
use lib.ListN.{length}
use lib.Dec.{ltb}
use borrow.Author.Tests.{lt-ltb, le-ltb, eq-eqb, ne_eqb, ltb-true}
use Rattle.bits.specs.declared.Place.{Place}
use Rattle.meaning.specs.Values.{kind_number}
use Rattle.meaning.specs.Sheets.{Sheet, kind_of}
use Rattle.meaning.specs.Reading.{Read, found, refused, on_read, need, field, number_below, variable, mate}
use Rattle.values.specs.Reads.{Got}
use Rattle.values.proofs.ReadLaws.{goes_on}

-- numbers below a count
module _ (w most : ℕ) (s : List ℕ) (p : ℕ) where
  pub number_lost : {n : ℕ} → field w s p ≡ refused n → number_below w most s p ≡ refused n
  unfolding number_below
  number_lost e = simp e

  module _ {n : ℕ} {q : Place} (g : Got (field w s p) (λ x. n ≡ x) q) where
    pub number_high : most ≤ n → number_below w most s p ≡ refused 6
    unfolding number_below
    number_high h = goes_on _ g ∙ rw (← g.holds, le-ltb n most h)

    pub number_got : n < most → Got (number_below w most s p) (λ x. n ≡ x) q
    unfolding number_below
    number_got h = record { item = n; place = g.place; read = goes_on _ g ∙ rw (← g.holds, lt-ltb n most h); here = g.here; holds = refl }

-- a variable's field that is not there
pub variable_lost : (facts : Sheet) (s : List ℕ) (p : ℕ) {n : ℕ} → field 5 s p ≡ refused n → variable facts s p ≡ refused n
unfolding variable
variable_lost facts s p e = simp e

-- a variable that is found is below 24
pub variable_small : (facts : Sheet) (s : List ℕ) (p v q : ℕ) → variable facts s p ≡ found v q → v < 24
unfolding variable
variable_small facts s p v q e = go (field 5 s p) e
  where
    tests : (u o : ℕ) (a b : Bool) → ltb u 24 ≡ a → on_read (need a 5 s o) (λ x r. on_read (need b 6 s r) (λ y t. found u t)) ≡ found v q → v < 24
    tests u o true true h e = let same : u ≡ v = cc in omega (arith, ltb-true u 24 h)
    tests u o true false h e = let z : ◌≡◌ {A = ℕ} 0 1 = cc in absurd (omega arith)
    tests u o false b h e = let z : ◌≡◌ {A = ℕ} 0 1 = cc in absurd (omega arith)

    go : (r : Read ℕ) → on_read r (λ u o. on_read (need (ltb u 24) 5 s o) (λ x t. on_read (need (cond (ltb u 16) (ltb u (length facts.columns)) (ltb (u - 16) (length facts.keys))) 6 s t) (λ y w. found u w))) ≡ found v q → v < 24
    go (found u o) e = tests u o (ltb u 24) (cond (ltb u 16) (ltb u (length facts.columns)) (ltb (u - 16) (length facts.keys))) refl e
    go (refused n) e = let z : ◌≡◌ {A = ℕ} 0 1 = cc in absurd (omega arith)

-- the mate of a variable v
module _ (facts : Sheet) (v : ℕ) (s : List ℕ) (p : ℕ) where
  pub mate_lost : {n : ℕ} → variable facts s p ≡ refused n → mate facts v s p ≡ refused n
  unfolding mate
  mate_lost e = simp e

  module _ {u : ℕ} {q : Place} (g : Got (variable facts s p) (λ x. u ≡ x) q) where
    pub mate_got : kind_number (kind_of facts v) ≡ kind_number (kind_of facts u) → Got (mate facts v s p) (λ x. u ≡ x) q
    unfolding mate
    mate_got h = record { item = u; place = g.place; read = goes_on _ g ∙ rw (← g.holds, eq-eqb _ _ h); here = g.here; holds = refl }

    pub mate_unlike : (kind_number (kind_of facts v) ≡ kind_number (kind_of facts u) → ⊥) → mate facts v s p ≡ refused 7
    unfolding mate
    mate_unlike h = goes_on _ g ∙ rw (← g.holds, ne_eqb _ _ h)

    pub got_small : u < 24
    got_small = let h : g.item < 24 = variable_small facts s p g.item g.place g.read in omega (arith, g.holds)
