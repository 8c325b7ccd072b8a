-- The words and lines of a case file: "words parted by one space, each line ended by a newline". (crates/cases/data/README.md)
use Rattle.std.specs.Prelude.{ℕ, suc, ◌+◌, ◌≡◌, Bool, cond, ◌||◌, List, [], ◌∷◌, take, drop, eqb, Option, MatchOption}
use Rattle.std.specs.Borrow.{Bor}

abbrev pub ends_line : ℕ → Bool
ends_line b = eqb b 10

abbrev pub ends_word : ℕ → Bool
ends_word b = eqb b 32 || ends_line b

-- how many bytes stand before the first that ends them, and `more` for that one
unfoldable pub up_to : (ℕ → Bool) → ℕ → List ℕ → ℕ
up_to ends more [] = 0
up_to ends more (b ∷ s) = cond (ends b) more (suc (up_to ends more s))

-- the bytes of the word at the start of a text
abbrev pub word_length : List ℕ → ℕ
word_length s = up_to ends_word 0 s

-- the bytes of the line at the start of a text, its newline too
abbrev pub line_length : List ℕ → ℕ
line_length s = up_to ends_line 1 s

-- of a text nothing is left, or its first part is given: as many bytes as `size` says, and t is left behind so many more
abbrev pub Cuts : (List ℕ → ℕ) → ℕ → List ℕ → Option (Bor (List ℕ)) → List ℕ → Type 0
Cuts size more s given t = MatchOption given ((s ≡ []) × (t ≡ [])) (λ part. (part.now ≡ take (size s) s) × (t ≡ drop (size s + more) s))
