-- How long the word or the line at the start of a text is, by where the first byte that ends it stands.
use Rattle.std.proofs.Common.{◌≡◌, ℕ, suc, ◌+◌, ◌<◌, ◌≤◌, Bool, true, false, cond, not, eqb, List, [], ◌∷◌, length, length-drop, drop, Option, Some, None, arith}
use native.Mathlib.Decide.{dec_lt}
use Rattle.std.proofs.lemmas.Bool.{lt-ltb, le-ltb}
use Rattle.std.specs.List.{position, position_or_len}
use Rattle.script.specs.Words.{up_to, ends_line, line_length}

ends_there : (ends : ℕ → Bool) (more : ℕ) (s : List ℕ) → position_or_len ends s < length s → up_to ends more s ≡ position_or_len ends s + more
unfolding up_to
ends_there ends more [] h = absurd (omega arith)
ends_there ends more (b ∷ s) h = go (ends b) (ends_there ends more s) h
  where
    go : (e : Bool) → (position_or_len ends s < length s → up_to ends more s ≡ position_or_len ends s + more) → cond (not e) (1 + position_or_len ends s) 0 < suc (length s)
        → cond e more (suc (up_to ends more s)) ≡ cond (not e) (1 + position_or_len ends s) 0 + more
    go true ih h = omega arith
    go false ih h = let i = ih (omega arith) in omega arith

never_ends : (ends : ℕ → Bool) (more : ℕ) (s : List ℕ) → length s ≤ position_or_len ends s → up_to ends more s ≡ length s
unfolding up_to
never_ends ends more [] h = omega arith
never_ends ends more (b ∷ s) h = go (ends b) (never_ends ends more s) h
  where
    go : (e : Bool) → (length s ≤ position_or_len ends s → up_to ends more s ≡ length s) → suc (length s) ≤ cond (not e) (1 + position_or_len ends s) 0
        → cond e more (suc (up_to ends more s)) ≡ suc (length s)
    go true ih h = absurd (omega arith)
    go false ih h = let i = ih (omega arith) in omega arith

-- `position` found the byte
pub found : (ends : ℕ → Bool) (more : ℕ) (s : List ℕ) (n : ℕ) → Some n ≡ position ends s → (n < length s) × (up_to ends more s ≡ n + more)
found ends more s n e = go (dec_lt (position_or_len ends s) (length s))
  where
    go : Dec (position_or_len ends s < length s) → (n < length s) × (up_to ends more s ≡ n + more)
    go (yes l) = let p : Some n ≡ Some (position_or_len ends s) = rw (lt-ltb (position_or_len ends s) (length s) l) at e in
        let q : position_or_len ends s ≡ n = cc in
        let r = ends_there ends more s l in (omega arith, omega arith)
    go (no x) = let p : ◌≡◌ {A = Option ℕ} (Some n) None = rw (le-ltb (position_or_len ends s) (length s) (omega arith)) at e in absurd cc

-- `position` found none
pub found_none : (ends : ℕ → Bool) (more : ℕ) (s : List ℕ) → None ≡ position ends s → up_to ends more s ≡ length s
found_none ends more s e = go (dec_lt (position_or_len ends s) (length s))
  where
    go : Dec (position_or_len ends s < length s) → up_to ends more s ≡ length s
    go (yes l) = let p : None ≡ Some (position_or_len ends s) = rw (lt-ltb (position_or_len ends s) (length s) l) at e in absurd cc
    go (no x) = never_ends ends more s (omega arith)

-- a line has a byte, so behind it less is left
pub line_takes : (s : List ℕ) → 0 < length s → length (drop (line_length s) s) < length s
unfolding up_to
line_takes [] h = h
line_takes (b ∷ s) h = go (eqb b 10)
  where
    go : (e : Bool) → length (drop (cond e 1 (suc (up_to ends_line 1 s))) (b ∷ s)) < length (b ∷ s)
    go true = omega arith
    go false = let n = length-drop (up_to ends_line 1 s) s in omega arith
