-- A field read as a thin reader has it: the answer by itself, and the place that it leaves behind.
use Rattle.std.specs.Prelude.{ℕ, ◌≡◌, Result, Ok, Err}
use Rattle.bits.specs.declared.Place.{Place}
use Rattle.refusals.specs.declared.Refusal.{Refusal}

-- the answer of a field read, without the place
abbrev pub taken_of : Result (ℕ × Place) Refusal → Result ℕ Refusal
taken_of (Ok (v, q)) = Ok v
taken_of (Err e) = Err e

-- "each field read moves it on". A refusal leaves the place unmoved.
abbrev pub place_after : Result (ℕ × Place) Refusal → Place → Place
place_after (Ok (v, q)) p = q
place_after (Err e) p = p

-- what a thin reader has read at the place p, where reading there by value answers f: its answer t, and the place q that it leaves
abbrev pub Moves : Result (ℕ × Place) Refusal → Place → Result ℕ Refusal → Place → Type 0
Moves f p t q = (t ≡ taken_of f) × (q ≡ place_after f p)
