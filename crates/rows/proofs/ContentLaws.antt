-- One content: a law for each way in which the code answers.
use Prim.Native.Nat.{ℕ, ◌+◌, ◌-◌, ◌*◌, ◌/◌, ◌%◌, ◌^◌, ◌<◌, ◌≤◌}
use native.Mathlib.Decide.{dec_lt}
use native.Mathlib.Omega.{arith}
use mathlib.Core.Path.{◌≡◌, refl, sym, ap, subst, ◌∙◌}
use mathlib.Core.List.{List}
use lib.ListN.{length, get_or}
use borrow.Author.Tests.{le-leb, lt-leb, eq-eqb, ne_eqb}
use Rattle.bits.specs.Bits.{number}
use Rattle.bits.proofs.Laws.{number_in_byte, one_shl}
use Rattle.meaning.specs.declared.Content.{Content}
use Rattle.meaning.specs.declared.Content.TheVariants.{Null, Value}
use Rattle.meaning.specs.Values.{Kind, last, raw}
use Rattle.meaning.specs.Reading.{Read, found, refused, field, value, content}
use Rattle.std.specs.Prelude.{Option, Some, None}
use Rattle.rows.specs.Held.{content_found, ended_by}

-- a bit of a byte, and a byte's last bits, as the code takes them
module _ (s : List ℕ) (p : ℕ) {b : ℕ} (byte : b ≡ get_or s (p / 8) 0) where
  here : p / 8 * 8 + p % 8 ≡ p
  here = omega arith

  pub bit_number : b / 2 ^ (7 - p % 8) % 2 ≡ number s p 1
  bit_number =
      let low : 8 - (p % 8 + 1) ≡ 7 - p % 8 = omega arith in
      ap (λ x. x / 2 ^ (7 - p % 8) % 2) byte ∙ ap (λ n. get_or s (p / 8) 0 / 2 ^ n % 2) (sym low) ∙ sym (number_in_byte s (p / 8) (p % 8) 1 (omega arith)) ∙ ap (λ q. number s q 1) here

  pub last_bits : (w : ℕ) → p % 8 + w ≡ 8 → b % (1 * 2 ^ w % 2 ^ 64) ≡ number s p w
  last_bits w e =
      let low : 8 - (p % 8 + w) ≡ 0 = omega arith in
      ap (λ x. x % (1 * 2 ^ w % 2 ^ 64)) byte ∙ ap (λ m. get_or s (p / 8) 0 % m) (one_shl w (omega arith))
      ∙ sym (number_in_byte s (p / 8) (p % 8) w (omega arith) ∙ ap (λ n. get_or s (p / 8) 0 / 2 ^ n % 2 ^ w) low ∙ ap (λ x. x % 2 ^ w) (let one : get_or s (p / 8) 0 / 1 ≡ get_or s (p / 8) 0 = omega arith in one))
      ∙ ap (λ q. number s q w) here

module _ (k : Kind) (s : List ℕ) (p : ℕ) where
  -- no presence bit
  pub content_cut : length s ≤ p / 8 → None ≡ content_found (content k s p)
  unfolding content field
  content_cut h = simp (lt-leb (p + 1) (length s * 8) (omega arith))

  module _ (there : p / 8 < length s) {b : ℕ} (bit : b ≡ number s p 1) where
    -- "one presence bit (0 is null)"
    pub content_null : b ≡ 0 → Some (Null, p + 1) ≡ content_found (content k s p)
    unfolding content field
    content_null z = simp (le-leb (p + 1) (length s * 8) (omega arith), eq-eqb (number s p 1) 0 (sym bit ∙ z))

    module _ (one : b ≡ 0 → ⊥) where
      -- a value that is not wholly there
      pub content_short : length s < (p + 72) / 8 → None ≡ content_found (content k s p)
      unfolding content field value
      content_short h =
          simp (le-leb (p + 1) (length s * 8) (omega arith), ne_eqb (number s p 1) 0 (λ z. one (bit ∙ z)), lt-leb (p + 1 + 64) (length s * 8) (omega arith))

      module _ (whole : (p + 72) / 8 ≤ length s) {v x l : ℕ} (read : x ≡ number s (p + 1) 64) (code : v ≡ raw k x) (most : l ≡ last k) where
        same : v ≡ raw k (number s (p + 1) 64)
        same = code ∙ ap (raw k) read

        -- "and, if that is 1, a value of its kind"
        pub content_value : v ≤ l → Some (Value v, p + 65) ≡ content_found (content k s p)
        unfolding content field value
        content_value h =
            let e : p + 65 ≡ p + 1 + 64 = omega arith in
            simp (le-leb (p + 1) (length s * 8) (omega arith), ne_eqb (number s p 1) 0 (λ z. one (bit ∙ z)), le-leb (p + 1 + 64) (length s * 8) (omega arith), le-leb (raw k (number s (p + 1) 64)) (last k) (omega (arith, same)))
            (ap (λ y. Some (Value y, p + 65)) same ∙ ap (λ q. Some (Value (raw k (number s (p + 1) 64)), q)) e)

        -- a value out of its kind
        pub content_strange : l < v → None ≡ content_found (content k s p)
        unfolding content field value
        content_strange h =
            simp (le-leb (p + 1) (length s * 8) (omega arith), ne_eqb (number s p 1) 0 (λ z. one (bit ∙ z)), le-leb (p + 1 + 64) (length s * 8) (omega arith), lt-leb (raw k (number s (p + 1) 64)) (last k) (omega (arith, same)))

-- what an answer tells of the reader
pub found_of : {r : Option (Content × ℕ)} {x : Content × ℕ} (m : Read Content) → r ≡ content_found m → r ≡ Some x → m ≡ found x.0 x.1
found_of {r} {x} (found y o) e g =
    let h : Some (y, o) ≡ Some x = sym e ∙ g in
    let same : (y, o) ≡ x = cc in
    ap (λ (z : Content × ℕ). found z.0 z.1) same
found_of {r} {x} (refused n) e g =
    let h : None ≡ Some x = sym e ∙ g in
    absurd (cc)

pub lost_of : {r : Option (Content × ℕ)} (m : Read Content) → r ≡ content_found m → r ≡ None → (n : ℕ) × (m ≡ refused n)
lost_of {r} (found y o) e g =
    let h : Some (y, o) ≡ None = sym e ∙ g in
    absurd (cc)
lost_of {r} (refused n) e g = (n, refl)

pub ends_by : {r : Option (Content × ℕ)} {x : Content × ℕ} (p m top : ℕ) → r ≡ Some x → ended_by p m top r → (p ≤ x.1) × (x.1 ≤ m) × (x.1 ≤ top)
ends_by p m top e h = subst (ended_by p m top) e h

-- what content that is of the form holds, by its bits alone
module _ (k : Kind) (s : List ℕ) (p : ℕ) (there : p / 8 < length s) {b : ℕ} (bit : b ≡ number s p 1) {x : Content} {q : ℕ} (is : content k s p ≡ found x q) where
  both : (y : Content) (o : ℕ) → Some (y, o) ≡ content_found (content k s p) → (y ≡ x) × (o ≡ q)
  both y o e =
      let h : found y o ≡ found x q = sym (found_of (content k s p) e refl) ∙ is in
      let same : y ≡ x = cc in
      let end : o ≡ q = cc in (same, end)

  pub null_of : b ≡ 0 → (Null ≡ x) × (p + 1 ≡ q)
  null_of z = both Null (p + 1) (content_null k s p there bit z)

  pub value_of : (b ≡ 0 → ⊥) → (p + 72) / 8 ≤ length s → {v y : ℕ} → y ≡ number s (p + 1) 64 → v ≡ raw k y → (Value v ≡ x) × (p + 65 ≡ q)
  value_of one whole {v} {y} read code = go (dec_lt (last k) v)
    where
      go : Dec (last k < v) → (Value v ≡ x) × (p + 65 ≡ q)
      go (no o) = both (Value v) (p + 65) (content_value k s p there bit one whole read code refl (omega arith))
      go (yes o) =
          let h : None ≡ content_found (found x q) = content_strange k s p there bit one whole read code refl o ∙ ap content_found is in
          absurd (cc)
