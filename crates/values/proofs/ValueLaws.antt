-- Values by their kinds' numbers.
use Prim.Native.Nat.{ℕ, ◌+◌, ◌-◌, ◌^◌, ◌<◌, ◌≤◌}
use native.Mathlib.Omega.{arith}
use mathlib.Core.Path.{◌≡◌, refl, ap, ◌∙◌}
use borrow.Author.Tests.{lt-ltb, le-ltb, le-leb, lt-leb}
use mathlib.Core.List.{List}
use Rattle.bits.specs.Fields.{place_at, field_at}
use Rattle.bits.specs.declared.Place.{Place}
use Rattle.std.specs.Prelude.{Ok, Err}
use Rattle.refusals.specs.declared.Refusal.{Refusal}
use Rattle.meaning.specs.Reading.{value}
use Rattle.meaning.specs.Reading.{refused}
use Rattle.values.specs.Reads.{Got}
use Rattle.values.proofs.ReadLaws.{field_got, field_lost, goes_on, ends}
use Rattle.meaning.specs.Values.{Kind, integer, token, boolean, kind_number, last, raw}

-- the low half of the integers, the high half, and the other kinds
pub raw_low : (k : Kind) (x : ℕ) → kind_number k ≡ 0 → x < 2 ^ 63 → x + 2 ^ 63 ≡ raw k x
raw_low integer x e h = simp (lt-ltb x (2 ^ 63) h)
raw_low token x e h = absurd (omega arith)
raw_low boolean x e h = absurd (omega arith)

pub raw_high : (k : Kind) (x : ℕ) → kind_number k ≡ 0 → 2 ^ 63 ≤ x → x < 2 ^ 64 → x - 2 ^ 63 ≡ raw k x
raw_high integer x e h l = simp (le-ltb x (2 ^ 63) h, lt-ltb x (2 ^ 64) l)
raw_high token x e h l = absurd (omega arith)
raw_high boolean x e h l = absurd (omega arith)

pub raw_same : (k : Kind) (x : ℕ) → (kind_number k ≡ 0 → ⊥) → x ≡ raw k x
raw_same integer x e = absurd (e refl)
raw_same token x e = refl
raw_same boolean x e = refl

-- the greatest of each kind
pub last_integer : (k : Kind) → kind_number k ≡ 0 → 2 ^ 64 - 1 ≡ last k
last_integer integer e = refl
last_integer token e = absurd (omega arith)
last_integer boolean e = absurd (omega arith)

pub last_token : (k : Kind) → kind_number k ≡ 1 → 2 ^ 32 - 1 ≡ last k
last_token integer e = absurd (omega arith)
last_token token e = refl
last_token boolean e = absurd (omega arith)

pub last_boolean : (k : Kind) → (kind_number k ≡ 0 → ⊥) → (kind_number k ≡ 1 → ⊥) → 1 ≡ last k
last_boolean integer e h = absurd (e refl)
last_boolean token e h = absurd (h refl)
last_boolean boolean e h = refl

-- a value's field refused, a value of the kind, and one that is not: a law for each
module _ (k : Kind) (s : List ℕ) (p : ℕ) (at : Place) (here : at ≡ place_at p) where
  pub value_lost : {x : Refusal} → Err x ≡ field_at s at 64 → value k s p ≡ refused 2
  unfolding value
  value_lost g = ends _ (field_lost s at p 64 (omega arith) (omega arith) here g)

  module _ {x v l : ℕ} {q : Place} (g : Ok (x, q) ≡ field_at s at 64) (r : v ≡ raw k x) (m : l ≡ last k) where
    pub value_got : v ≤ l → Got (value k s p) (λ y. v ≡ y) q
    unfolding value
    value_got h =
        let o = field_got s at p 64 (omega arith) (omega arith) here g in
        let i : v ≡ raw k o.item = r ∙ ap (raw k) o.holds in
        record { item = raw k o.item; place = o.place; read = goes_on _ o ∙ simp (le-leb (raw k o.item) (last k) (omega arith)); here = o.here; holds = i }

    pub value_strange : l < v → value k s p ≡ refused 7
    unfolding value
    value_strange h =
        let o = field_got s at p 64 (omega arith) (omega arith) here g in
        let i : v ≡ raw k o.item = r ∙ ap (raw k) o.holds in
        goes_on _ o ∙ simp (lt-leb (raw k o.item) (last k) (omega arith))
