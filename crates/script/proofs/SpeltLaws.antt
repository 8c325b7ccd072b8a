-- What a word spells, seen from a place in it.
use Rattle.std.proofs.Common.{◌≡◌, ℕ, zero, suc, ◌+◌, ◌*◌, ◌/◌, ◌%◌, ◌^◌, ◌<◌, ◌≤◌, List, [], ◌∷◌, ◌++◌, length, take, drop, get_or, refl, sym, arith, add-one}
use Rattle.std.proofs.Math.ListN.{set, drop_of_length-le}
use Rattle.std.proofs.lemmas.List.{set_at}
use Rattle.std.proofs.Math.Seq.{drop-cons, take-suc, append_snoc, length-take-le}
use Rattle.script.specs.Spelt.{decimal_digit, hex_digit, digits_behind, hex_bytes}

-- two numbers that end in the same seventeen digits do so with more digits behind them
same_behind : (x y : ℕ) (s : List ℕ) → x % 10 ^ 17 ≡ y % 10 ^ 17
    → digits_behind x s % 10 ^ 17 ≡ digits_behind y s % 10 ^ 17
unfolding digits_behind
same_behind x y [] e = e
same_behind x y (b ∷ s) e = same_behind (x * 10 + decimal_digit b) (y * 10 + decimal_digit b) s (omega arith)

module _ (s : List ℕ) (p n : ℕ) where
  -- no digit more
  pub number_ends : n < 10 ^ 17 → length s ≤ p → n ≡ digits_behind n (drop p s) % 10 ^ 17
  unfolding digits_behind
  number_ends l h = rw (drop_of_length-le s h) (omega arith)

  -- one digit more: of those before it sixteen count
  pub number_adds : {d : ℕ} → p < length s → d ≡ decimal_digit (get_or s p 0)
      → digits_behind (n % 10 ^ 16 * 10 + d) (drop (p + 1) s) % 10 ^ 17 ≡ digits_behind n (drop p s) % 10 ^ 17
  unfolding digits_behind
  number_adds h e =
      let d = decimal_digit (get_or s p 0) in
      let o : p + 1 ≡ suc p = add-one p in
      rw (e, o, drop-cons s p 0) (same_behind (n % 10 ^ 16 * 10 + d) (n * 10 + d) (drop (suc p) s) (omega arith))

-- two digits spell one byte
pub hex_length : (w : List ℕ) → length (hex_bytes w) ≡ length w / 2
unfolding hex_bytes
hex_length [] = refl
hex_length (a ∷ []) = refl
hex_length (a ∷ b ∷ w) = let h = hex_length w in omega arith

pub hex_at : (w : List ℕ) (i : ℕ) → i < length w / 2 → get_or (hex_bytes w) i 0 ≡ hex_digit (get_or w (2 * i) 0) * 16 + hex_digit (get_or w (2 * i + 1) 0)
unfolding hex_bytes
hex_at [] i h = absurd (omega arith)
hex_at (a ∷ []) i h = absurd (omega arith)
hex_at (a ∷ b ∷ w) zero h = refl
hex_at (a ∷ b ∷ w) (suc i) h =
    let m : 2 * suc i ≡ suc (suc (2 * i)) = omega arith in
    let n : 2 * suc i + 1 ≡ suc (suc (2 * i + 1)) = omega arith in
    rw (n, m) (hex_at w i (omega arith))

-- one byte more stands at the buffer's start
pub hex_adds : (w before out : List ℕ) (i : ℕ) {a b : ℕ} → i < length w / 2 → i < length before → a ≡ hex_digit (get_or w (2 * i) 0) → b ≡ hex_digit (get_or w (2 * i + 1) 0)
    → out ≡ take i (hex_bytes w) ++ drop i before → set out i (a * 16 + b) ≡ take (i + 1) (hex_bytes w) ++ drop (i + 1) before
hex_adds w before out i {a} {b} h l e f g =
    let bytes = hex_bytes w in
    let n = hex_length w in
    let o : i + 1 ≡ suc i = add-one i in
    let x : a * 16 + b ≡ get_or bytes i 0 = rw (e, f) (sym (hex_at w i h)) in
    rw (g, o, x)
    (rw (drop-cons before i 0, take-suc bytes i 0 (omega arith), append_snoc (take i bytes) (get_or bytes i 0) (drop (suc i) before))
    (set_at (take i bytes) (get_or before i 0) (drop (suc i) before) (get_or bytes i 0) i (length-take-le i bytes (omega arith))))
