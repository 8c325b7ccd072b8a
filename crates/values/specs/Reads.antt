-- What the definitions read, as the code answers it.
use Rattle.std.specs.Prelude.{ℕ, ◌≡◌, Result, Ok, Err}
use Rattle.bits.specs.Fields.{place_at}
use Rattle.bits.specs.declared.Place.{Place}
use Rattle.refusals.specs.declared.Refusal.{Refusal}
use Rattle.refusals.specs.Refusals.{number}
use Rattle.meaning.specs.Reading.{Read, found, refused}

-- a reader found an item, of which something holds, up to the place q
pub record Got {A : Type 0} (m : Read A) (Holds : A → Type 0) (q : Place) : Type 0 where
  pub item : A
  pub place : ℕ
  pub read : m ≡ found item place
  pub here : q ≡ place_at place
  pub holds : Holds item

-- "each field read answers a value with the next place or a refusal": the code's answer to what the reader m answers. It is what stands for
-- the item found, and the place after it; or the same refusal.
pub data Answers {A B : Type 0} (m : Read A) (StandsFor : B → A → Type 0) : Result (B × Place) Refusal → Type 0 where
  answered : {b : B} {q : Place} → Got m (StandsFor b) q → Answers m StandsFor (Ok (b, q))
  stopped : {e : Refusal} → m ≡ refused (number e) → Answers m StandsFor (Err e)

-- the number that was found itself
abbrev pub Reads : Read ℕ → Result (ℕ × Place) Refusal → Type 0
Reads m r = Answers m (λ v x. v ≡ x) r
