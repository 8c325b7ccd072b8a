-- Words: what the evaluating code finds of one is what its atom says.
use Prim.Native.Nat.{ℕ, zero, suc, ◌+◌, ◌<◌, ◌≤◌}
use native.Mathlib.Decide.{dec_lt}
use native.Mathlib.Omega.{arith}
use mathlib.Core.Path.{◌≡◌, refl, sym, ap, ◌∙◌}
use mathlib.Core.Bool.{Bool, true, false, not, ◌||◌}
use mathlib.Core.List.{List}
use lib.Dec.{ltb, eqb}
use borrow.Author.Tests.{lt-ltb, le-ltb, eq-eqb, ne_eqb, eqb-true}
use Rattle.lists.specs.Lists.{any}
use Rattle.lists.proofs.BoolLaws.{alike}
use Rattle.bits.specs.Bits.{number, numbers}
use Rattle.meaning.specs.declared.Content.{Content}
use Rattle.meaning.specs.declared.Content.TheVariants.{Null, Value}
use Rattle.meaning.specs.Values.{Kind, raw, Contents}
use Rattle.meaning.specs.Atoms.{among, is_value, passes, met}
use Rattle.meaning.specs.Views.{operator_of}
use Rattle.meaning.proofs.FormLaws.{raw_raw}
use Rattle.meaning.proofs.ViewLaws.{null_passes}
use Rattle.admission.specs.Plan.{value_at, values_at, operator_number_of, variable_of, other_of, operator_of_word, atom_of_word}

-- a value is among values exactly when its bits are among theirs
bits_same : (k : Kind) (x y : ℕ) → eqb (raw k x) y ≡ eqb x (raw k y)
bits_same k x y = alike (eqb (raw k x) y) (eqb x (raw k y)) (λ e. eq-eqb x (raw k y) (sym (raw_raw k x) ∙ ap (raw k) (eqb-true (raw k x) y e))) (λ e. eq-eqb (raw k x) y (ap (raw k) (eqb-true x (raw k y) e) ∙ raw_raw k y))

pub among_bits : (k : Kind) (s : List ℕ) (x p n : ℕ) → any (eqb (raw k x)) (numbers s p n) ≡ among x (values_at k s p n)
unfolding numbers values_at
among_bits k s x p zero = refl
among_bits k s x p (suc n) = (λ i. bits_same k x (number s p 64) i || among_bits k s x (p + 64) n i)

-- a value passes by the operator that its number stands for
module _ (e : Contents) (x u y : ℕ) (ns : List ℕ) where
  pub order_passes : (op : ℕ) {o : ℕ} → o ≡ op → passes e (operator_of op u y ns) (Value x) ≡ passes e (operator_of o u y ns) (Value x)
  order_passes op h = ap (λ o. passes e (operator_of o u y ns) (Value x)) (sym h)

  pub listed_passes : (op : ℕ) {b : Bool} → (op ≡ 0 → ⊥) → op < 3 → b ≡ among x ns → b ≡ true → eqb op 1 ≡ passes e (operator_of op u y ns) (Value x)
  listed_passes zero z l h t = absurd (z refl)
  listed_passes (suc zero) z l h t = sym t ∙ h
  listed_passes (suc (suc zero)) z l h t = ap not (sym t ∙ h)
  listed_passes (suc (suc (suc op))) z l h t = absurd (omega arith)

  pub unlisted_passes : (op : ℕ) {b : Bool} → (op ≡ 0 → ⊥) → op < 3 → b ≡ among x ns → b ≡ false → eqb op 2 ≡ passes e (operator_of op u y ns) (Value x)
  unlisted_passes zero z l h f = absurd (z refl)
  unlisted_passes (suc zero) z l h f = sym f ∙ h
  unlisted_passes (suc (suc zero)) z l h f = ap not (sym f ∙ h)
  unlisted_passes (suc (suc (suc op))) z l h f = absurd (omega arith)

  -- "7 is null; 8 is not null"
  pub null_test_passes : (op : ℕ) → 7 ≤ op → ltb 7 op ≡ passes e (operator_of op u y ns) (Value x)
  null_test_passes op l = go (dec_lt 7 op)
    where
      go : Dec (7 < op) → ltb 7 op ≡ passes e (operator_of op u y ns) (Value x)
      go (yes m) =
          lt-ltb 7 op m
          ∙ rw (ne_eqb op 0 (λ z. omega arith), ne_eqb op 1 (λ z. omega arith), ne_eqb op 2 (λ z. omega arith), ne_eqb op 3 (λ z. omega arith), ne_eqb op 4 (λ z. omega arith), ne_eqb op 5 (λ z. omega arith), ne_eqb op 6 (λ z. omega arith), ne_eqb op 7 (λ z. omega arith))
      go (no m) = let is : op ≡ 7 = omega arith in le-ltb 7 op (omega arith) ∙ order_passes 7 is

-- a bound; a word's atom on null, on a value, and an equality
module _ (kind : ℕ → Kind) (e : Contents) (s : List ℕ) (w p x : ℕ) where
  pub word_null : e (variable_of w) ≡ Null → eqb (operator_number_of w) 7 ≡ met e (atom_of_word kind s w p)
  unfolding atom_of_word operator_of_word
  word_null h = sym (ap (passes e (operator_of_word kind s w p)) h ∙ null_passes e (operator_number_of w) (other_of w) _ _)

  pub bound_passes : {r : Bool} {y : ℕ} → ((u : ℕ) (ns : List ℕ) → r ≡ passes e (operator_of (operator_number_of w) u y ns) (Value x)) → y ≡ value_at (kind (variable_of w)) s (p + 9) → r ≡ passes e (operator_of_word kind s w p) (Value x)
  unfolding operator_of_word
  bound_passes h k =
      h (other_of w) (values_at (kind (variable_of w)) s (p + 13) (other_of w))
      ∙ ap (λ z. passes e (operator_of (operator_number_of w) (other_of w) z (values_at (kind (variable_of w)) s (p + 13) (other_of w))) (Value x)) k

  pub word_value : {r : Bool} → e (variable_of w) ≡ Value x → r ≡ passes e (operator_of_word kind s w p) (Value x) → r ≡ met e (atom_of_word kind s w p)
  unfolding atom_of_word
  word_value h g = g ∙ sym (ap (passes e (operator_of_word kind s w p)) h)

  pub word_equals : {r : Bool} → e (variable_of w) ≡ Value x → operator_number_of w ≡ 0 → r ≡ is_value x (e (other_of w)) → r ≡ met e (atom_of_word kind s w p)
  unfolding operator_of_word
  word_equals h o g = word_value h (g ∙ order_passes e x (other_of w) _ _ 0 o)

-- what holds a value is a variable
pub is_variable : (v : ℕ) {x : Content} {n : ℕ} → (24 ≤ v → x ≡ Null) → x ≡ Value n → v < 24
is_variable v {x} {n} past is = go (dec_lt v 24)
  where
    go : Dec (v < 24) → v < 24
    go (yes l) = l
    go (no l) = let h : Null ≡ Value n = sym (past (omega arith)) ∙ is in absurd (cc)
