-- Sieves: a set of residues that is gathered from a list's numbers has the residue of each value of the list.
use Prim.Native.Nat.{ℕ, zero, suc, ◌+◌, ◌-◌, ◌*◌, ◌/◌, ◌%◌, ◌^◌, ◌<◌, ◌≤◌}
use native.Mathlib.Nat.{one-mul}
use native.Mathlib.Decide.{ℕ_discrete}
use native.Mathlib.Omega.{arith}
use mathlib.Core.Path.{◌≡◌, refl, sym, ap, subst, ◌∙◌}
use mathlib.Core.Bool.{Bool, true, false, cond, true≢false}
use mathlib.Core.Logic.{◌⊎◌, inl, inr, ⊎_elim}
use mathlib.Core.List.{List}
use lib.Dec.{ltb, eqb}
use lib.Bits.{bit_or, or_comm, or_lt, or_shr, or_mod}
use lib.Pow.{pow-lt, shl_exact, shl-shr}
use borrow.Author.Tests.{eq-eqb, eqb-true, ltb-false}
use Rattle.lists.specs.Lists.{any}
use Rattle.bits.specs.Bits.{number, numbers}
use Rattle.bits.proofs.SpellLaws.{spelled_none, spelled_later}
use Rattle.meaning.specs.declared.Content.{Content}
use Rattle.meaning.specs.declared.Content.TheVariants.{Null, Value}
use Rattle.meaning.specs.Values.{Kind, integer, token, boolean, raw, Contents}
use Rattle.meaning.specs.Atoms.{in_list, passes, met}
use Rattle.meaning.specs.Views.{operator_of}
use Rattle.admission.specs.Plan.{value_at, values_at, operator_number_of, variable_of, other_of, operator_of_word, atom_of_word, has_residue, is_sifted, sieve_by, sieve_met}
use Rattle.admission.proofs.WordLaws.{among_bits}

-- 16 divides 2^63: a value's bits have its residue
raw_residue : (k : Kind) (n : ℕ) → raw k n % 16 ≡ n % 16
raw_residue token n = refl
raw_residue boolean n = refl
raw_residue integer n = go (ltb n (2 ^ 63)) refl (ltb n (2 ^ 64))
  where
    go : (a : Bool) → ltb n (2 ^ 63) ≡ a → (b : Bool) → cond a (n + 2 ^ 63) (cond b (n - 2 ^ 63) n) % 16 ≡ n % 16
    go true p b = omega arith
    go false p true = let l = ltb-false n (2 ^ 63) p in omega arith
    go false p false = refl

-- a bit that one of two numbers has, both together have
or_bit : (a b k : ℕ) → a / 2 ^ k % 2 ≡ 1 → bit_or a b / 2 ^ k % 2 ≡ 1
or_bit a b k h = ap (λ x. x % 2) (or_shr a b k) ∙ or_mod (a / 2 ^ k) (b / 2 ^ k) 1 ∙ ap (λ x. bit_or x (b / 2 ^ k % 2)) h ∙ go (b / 2 ^ k % 2) (omega arith)
  where
    go : (y : ℕ) → y < 2 → bit_or 1 y ≡ 1
    go zero l = refl
    go (suc zero) l = refl
    go (suc (suc y)) l = absurd (omega arith)

-- a set with the residue of y, as the code joins it
module _ (set y : ℕ) where
  abbrev bit : ℕ
  bit = 1 * 2 ^ (y % 16) % 2 ^ 64

  bit_is : bit ≡ 1 * 2 ^ (y % 16)
  bit_is = shl_exact 1 (y % 16) 64 (omega arith) (omega arith)

  pub set_small : set ≤ 65535 → bit_or set bit ≤ 65535
  set_small l =
      let less : 2 ^ (y % 16) < 2 ^ 16 = pow-lt {j = 16} (omega arith) in
      let both = or_lt 16 set bit (omega arith) (subst (λ b. b < 2 ^ 16) (sym (bit_is ∙ one-mul (2 ^ (y % 16)))) less) in
      omega arith

  set_keeps : (x : ℕ) → has_residue set x ≡ true → has_residue (bit_or set bit) x ≡ true
  set_keeps x h = eq-eqb _ 1 (or_bit set bit (x % 16) (eqb-true _ 1 h))

  set_has : has_residue (bit_or set bit) y ≡ true
  set_has =
      let one : bit / 2 ^ (y % 16) % 2 ≡ 1 = ap (λ b. b / 2 ^ (y % 16) % 2) bit_is ∙ ap (λ b. b % 2) (shl-shr 1 (y % 16)) in
      eq-eqb _ 1 (ap (λ b. b / 2 ^ (y % 16) % 2) (or_comm set bit) ∙ or_bit bit set (y % 16) one)

-- a turn of gathering: a number of the list has its residue in the set, or it is among those from number i on
abbrev pub Gathers : List ℕ → (from n set i : ℕ) → Type 0
Gathers s from n set i = (x : ℕ) → any (eqb x) (numbers s from n) ≡ true → (has_residue set x ≡ true) ⊎ (any (eqb x) (numbers s (from + 64 * i) (n - i)) ≡ true)

module _ (s : List ℕ) (from n : ℕ) where
  pub gathers_starts : Gathers s from n 0 0
  gathers_starts x m =
      let p : from ≡ from + 64 * 0 = omega arith in
      let l : n ≡ n - 0 = omega arith in
      inr ((λ t. any (eqb x) (numbers s (sym p t) (sym l t))) ∙ m)

  module _ (set i : ℕ) (h : Gathers s from n set i) where
    pub gathers_on : {y : ℕ} → i < n → y ≡ number s (from + 64 * i) 64 → Gathers s from n (bit_or set (bit set y)) (i + 1)
    gathers_on {y} l is x m = go (ℕ_discrete x y) (h x m)
      where
        next : any (eqb x) (numbers s (from + 64 * i + 64) (n - i - 1)) ≡ any (eqb x) (numbers s (from + 64 * (i + 1)) (n - (i + 1)))
        next =
            let p : from + 64 * i + 64 ≡ from + 64 * (i + 1) = omega arith in
            let q : n - i - 1 ≡ n - (i + 1) = omega arith in
            (λ t. any (eqb x) (numbers s (p t) (q t)))

        go : Dec (x ≡ y) → (has_residue set x ≡ true) ⊎ (any (eqb x) (numbers s (from + 64 * i) (n - i)) ≡ true) → (has_residue (bit_or set (bit set y)) x ≡ true) ⊎ (any (eqb x) (numbers s (from + 64 * (i + 1)) (n - (i + 1))) ≡ true)
        go d (inl a) = inl (set_keeps set y x a)
        go (yes e) (inr a) = inl (ap (has_residue (bit_or set (bit set y))) e ∙ set_has set y)
        go (no e) (inr a) = inr (sym next ∙ sym (spelled_later s x (from + 64 * i) (n - i) (omega arith) (λ f. e (f ∙ sym is))) ∙ a)

    pub gathers_ends : n ≤ i → (x : ℕ) → any (eqb x) (numbers s from n) ≡ true → has_residue set x ≡ true
    gathers_ends l x m = ⊎_elim (λ a. a) (λ a. absurd (true≢false (sym a ∙ spelled_none s x (from + 64 * i) (n - i) (omega arith)))) (h x m)

pub asks_nothing : (b : Bool) → cond b true true ≡ true
asks_nothing true = refl
asks_nothing false = refl

-- a list's word, met, meets the sieve of its variable and its numbers' residues
module _ (kind : ℕ → Kind) (e : Contents) (s : List ℕ) (w p set : ℕ) (has : (x : ℕ) → any (eqb x) (numbers s (p + 13) (other_of w)) ≡ true → has_residue set x ≡ true) where
  abbrev k : Kind
  k = kind (variable_of w)

  abbrev listed : List ℕ
  listed = values_at k s (p + 13) (other_of w)

  passes_sieve : (c : Content) → passes e (in_list listed) c ≡ true → is_sifted set c ≡ true
  passes_sieve Null h = h
  passes_sieve (Value x) h = ap (λ r. eqb (set / 2 ^ r % 2) 1) (sym (raw_residue k x)) ∙ has (raw k x) (among_bits k s x (p + 13) (other_of w) ∙ h)

  pub list_sieves : operator_number_of w ≡ 1 → met e (atom_of_word kind s w p) ≡ true → sieve_met e (variable_of w + 32 * set) ≡ true
  unfolding atom_of_word operator_of_word
  list_sieves o m =
      let v : (variable_of w + 32 * set) % 32 ≡ variable_of w = omega arith in
      let z : (variable_of w + 32 * set) / 32 ≡ set = omega arith in
      let a : is_sifted set (e (variable_of w)) ≡ true = passes_sieve (e (variable_of w)) (ap (λ n. passes e (operator_of n (other_of w) (value_at k s (p + 9)) listed) (e (variable_of w))) (sym o) ∙ m) in
      (λ i. sieve_by e (v i) (z i)) ∙ ap (λ b. cond (ltb (variable_of w) 24) b true) a ∙ asks_nothing (ltb (variable_of w) 24)
