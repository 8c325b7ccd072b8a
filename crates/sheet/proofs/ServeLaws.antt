-- A loop over `every`, and refusal 11 piece by piece.
use Prim.Native.Nat.{ℕ, zero, suc, ◌+◌, ◌-◌, ◌/◌, ◌%◌, ◌^◌, ◌<◌, ◌≤◌}
use native.Mathlib.Omega.{arith}
use native.Mathlib.Decide.{dec_lt}
use native.Mathlib.Nat.{add-zero}
use native.Mathlib.Numerals.{add-one}
use mathlib.Core.Path.{◌≡◌, refl, sym, ap, subst, ◌∙◌}
use mathlib.Core.Bool.{Bool, true, false, cond, ◌&&◌}
use mathlib.Core.List.{List, ◌∷◌}
use lib.ListN.{length, get_or, drop, drop_of_length-le}
use lib.Seq.{drop-cons}
use lib.Dec.{ltb, eqb}
use lib.Bits.{bit_and, and_mod, and_shr, and_zero_l, and_zero_r, and_self}
use borrow.Author.Tests.{lt-ltb, le-ltb}
use Rattle.lists.specs.Lists.{numbers_from, every}
use Rattle.lists.proofs.BoolLaws.{every_more, every_true, every_both}
use Rattle.lists.proofs.NumberLaws.{numbers_more, every_at}
use Rattle.meaning.specs.Atoms as m
use Rattle.meaning.specs.Sheets.{Sheet, member, second, matches, table_at, columns_held}
use Rattle.meaning.specs.Sheets as sheets
use Rattle.clauses.specs.Facts.{column_held, atom_held}
use Rattle.sheet.specs.Fronts.{table_serves, Shared}

-- so far every one passed
module _ {A : Type 0} (f : A → Bool) (xs : List A) where
  module _ (i : ℕ) (d : A) (h : i < length xs) (e : every f xs ≡ every f (drop i xs)) where
    opened : every f xs ≡ (f (get_or xs i d) && every f (drop (suc i) xs))
    opened = e ∙ ap (every f) (drop-cons xs i d h)

    pub passed_more : f (get_or xs i d) ≡ true → every f xs ≡ every f (drop (i + 1) xs)
    passed_more t = opened ∙ rw (t, add-one)

    pub passed_fails : f (get_or xs i d) ≡ false → every f xs ≡ false
    passed_fails t = opened ∙ rw t

  pub passed_all : (i : ℕ) → length xs ≤ i → every f xs ≡ every f (drop i xs) → every f xs ≡ true
  passed_all i h e = e ∙ ap (every f) (drop_of_length-le xs h)

-- the numbers from 0 on
pub numbers_length : (i n : ℕ) → length (numbers_from i n) ≡ n
numbers_length i zero = refl
numbers_length i (suc n) = ap suc (numbers_length (i + 1) n)

numbers_at : (i n j d : ℕ) → j < n → get_or (numbers_from i n) j d ≡ i + j
numbers_at i zero j d h = absurd (omega arith)
numbers_at i (suc n) zero d h = sym (add-zero i)
numbers_at i (suc n) (suc j) d h = numbers_at (i + 1) n j d (omega arith) ∙ omega arith

pub number_at : (n j : ℕ) → j < n → get_or (numbers_from 0 n) j 0 ≡ j
number_at n j h = numbers_at 0 n j 0 h ∙ omega arith

-- a test over the numbers below n
module _ (f : ℕ → Bool) (n i : ℕ) (h : i < n) (e : every f (numbers_from 0 n) ≡ every f (drop i (numbers_from 0 n))) where
  pub number_passes : f i ≡ true → every f (numbers_from 0 n) ≡ every f (drop (i + 1) (numbers_from 0 n))
  number_passes t = passed_more f (numbers_from 0 n) i 0 (omega (arith, numbers_length 0 n)) e (ap f (number_at n i h) ∙ t)

  pub number_fails : f i ≡ false → every f (numbers_from 0 n) ≡ false
  number_fails t = passed_fails f (numbers_from 0 n) i 0 (omega (arith, numbers_length 0 n)) e (ap f (number_at n i h) ∙ t)

pub numbers_pass : (f : ℕ → Bool) (n i : ℕ) → n ≤ i → every f (numbers_from 0 n) ≡ every f (drop i (numbers_from 0 n)) → every f (numbers_from 0 n) ≡ true
numbers_pass f n i h e = passed_all f (numbers_from 0 n) i (omega (arith, numbers_length 0 n)) e

-- a held column is below c
abbrev pub below_test : ℕ → ℕ → ℕ → Bool
below_test c columns i = cond (member 16 columns i) (ltb i c) true

module _ (c columns i : ℕ) {x : Bool} (e : x ≡ member 16 columns i) where
  pub below_held : x ≡ true → i < c → below_test c columns i ≡ true
  below_held t h = let m : member 16 columns i ≡ true = sym e ∙ t in rw (m, lt-ltb i c h)

  pub above_held : x ≡ true → c ≤ i → below_test c columns i ≡ false
  above_held t h = let m : member 16 columns i ≡ true = sym e ∙ t in rw (m, le-ltb i c h)

  pub not_held : x ≡ false → below_test c columns i ≡ true
  not_held t = let m : member 16 columns i ≡ false = sym e ∙ t in rw m

-- a set shared by two sets
bit_both : (x y : ℕ) → eqb (bit_and x y % 2) 1 ≡ (eqb (x % 2) 1 && eqb (y % 2) 1)
bit_both x y = ap (λ n. eqb n 1) (and_mod x y 1) ∙ go (x % 2) (y % 2) (omega arith) (omega arith)
  where
    go : (m n : ℕ) → m < 2 → n < 2 → eqb (bit_and m n) 1 ≡ (eqb m 1 && eqb n 1)
    go zero n h l = ap (λ k. eqb k 1) (and_zero_l n)
    go (suc zero) zero h l = ap (λ k. eqb k 1) (and_zero_r 1)
    go (suc zero) (suc zero) h l = ap (λ k. eqb k 1) (and_self 1)
    go (suc zero) (suc (suc n)) h l = absurd (omega arith)
    go (suc (suc m)) n h l = absurd (omega arith)

module _ (a b : ℕ) where
  column_both : (v : ℕ) → column_held (bit_and a b) v ≡ (column_held a v && column_held b v)
  column_both v =
      ap (λ n. cond (ltb v 16) (ltb v 16 && eqb (n % 2) 1) true) (and_shr a b (15 - v))
      ∙ ap (λ c. cond (ltb v 16) (ltb v 16 && c) true) (bit_both (a / 2 ^ (15 - v)) (b / 2 ^ (15 - v)))
      ∙ go (ltb v 16) (eqb (a / 2 ^ (15 - v) % 2) 1) (eqb (b / 2 ^ (15 - v) % 2) 1)
    where
      go : (c x y : Bool) → cond c (c && (x && y)) true ≡ (cond c (c && x) true && cond c (c && y) true)
      go true x y = refl
      go false x y = refl

  clauses_both : (cs : List (List m.Atom)) → every (every (atom_held (bit_and a b))) cs ≡ (every (every (atom_held a)) cs && every (every (atom_held b)) cs)
  clauses_both =
      every_both (every (atom_held a)) (every (atom_held b)) (every (atom_held (bit_and a b)))
      (every_both (atom_held a) (atom_held b) (atom_held (bit_and a b)) λ x. every_both (column_held a) (column_held b) (column_held (bit_and a b)) column_both (x.variable ∷ second x.operator))

-- a set of all columns
every_column : (v : ℕ) → column_held 65535 v ≡ true
every_column v = go (dec_lt v 16)
  where
    go : Dec (v < 16) → column_held 65535 v ≡ true
    go (yes l) = ap (λ b. cond b (member 16 65535 v) true) (lt-ltb v 16 l) ∙ every_at (member 16 65535) 0 16 v refl (omega arith) (omega arith)
    go (no l) = ap (λ b. cond b (member 16 65535 v) true) (le-ltb v 16 (omega arith))

-- the columns that tables share: none asked, one more that is matched or not
module _ (facts : Sheet) (x : sheets.Selector) where
  pub shared_none : Shared facts x 0 65535
  shared_none p e = every_true (every (atom_held 65535)) (every_true (atom_held 65535) λ a. every_true (column_held 65535) every_column (a.variable ∷ second a.operator)) p.clauses

  module _ (t columns : ℕ) (h : Shared facts x t columns) {matched : Bool} (e : matched ≡ matches t (table_at facts t) x) where
    pub shared_matched : (more : ℕ) → matched ≡ true → more ≡ (table_at facts t).columns → Shared facts x (t + 1) (bit_and columns more)
    shared_matched more i g p s =
        clauses_both columns more p.clauses
        ∙ every_more (table_serves facts p) (numbers_from 0 t) t (h p s) (
        let k : matches t (table_at facts t) p.selector ≡ true = ap (matches t (table_at facts t)) s ∙ sym e ∙ i in
        ap (λ z. every (every (atom_held z)) p.clauses) g ∙ sym (ap (λ b. cond b (columns_held (table_at facts t) p) true) k))
        ∙ sym (ap (every (table_serves facts p)) (numbers_more t))

    pub shared_unmatched : matched ≡ false → Shared facts x (t + 1) columns
    shared_unmatched i p s =
        and_true (every (every (atom_held columns)) p.clauses)
        ∙ every_more (table_serves facts p) (numbers_from 0 t) t (h p s) (
        let k : matches t (table_at facts t) p.selector ≡ false = ap (matches t (table_at facts t)) s ∙ sym e ∙ i in
        sym (ap (λ b. cond b (columns_held (table_at facts t) p) true) k))
        ∙ sym (ap (every (table_serves facts p)) (numbers_more t))
      where
        and_true : (b : Bool) → b ≡ (b && true)
        and_true true = refl
        and_true false = refl

    pub shared_more : {more next : ℕ} → more ≡ (table_at facts t).columns → next ≡ cond matched (bit_and columns more) columns → Shared facts x (t + 1) next
    shared_more {more} {next} g n = go matched refl
      where
        go : (b : Bool) → matched ≡ b → Shared facts x (t + 1) next
        go true i = subst (Shared facts x (t + 1)) (sym (n ∙ ap (λ b. cond b (bit_and columns more) columns) i)) (shared_matched more i g)
        go false i = subst (Shared facts x (t + 1)) (sym (n ∙ ap (λ b. cond b (bit_and columns more) columns) i)) (shared_unmatched i)
