-- What a word of a case file spells: a decimal number, or "bytes in lower-case hex, two digits each". (crates/cases/data/README.md)
use Rattle.std.specs.Prelude.{ℕ, ◌+◌, ◌-◌, ◌*◌, ◌%◌, ◌^◌, min, ◌≡◌, cond, ◌&&◌, List, [], ◌∷◌, ◌++◌, length, take, drop, leb}

-- a decimal digit's value; any other byte counts as 0
abbrev pub decimal_digit : ℕ → ℕ
decimal_digit b = cond (leb 48 b && leb b 57) (b - 48) 0

-- a hex digit's value; any other byte counts as 0
abbrev pub hex_digit : ℕ → ℕ
hex_digit b = cond (leb 97 b && leb b 102) (b - 87) (decimal_digit b)

-- the number whose digits are those of n, and then these
unfoldable pub digits_behind : ℕ → List ℕ → ℕ
digits_behind n [] = n
digits_behind n (b ∷ s) = digits_behind (n * 10 + decimal_digit b) s

-- a word as a number: its last seventeen digits, more than any number of the file has
abbrev pub decimal_of : List ℕ → ℕ
decimal_of s = digits_behind 0 s % 10 ^ 17

-- a last digit that stands alone spells nothing
unfoldable pub hex_bytes : List ℕ → List ℕ
hex_bytes [] = []
hex_bytes (a ∷ []) = []
hex_bytes (a ∷ b ∷ s) = (hex_digit a * 16 + hex_digit b) ∷ hex_bytes s

-- the bytes stand at the start of a buffer as far as there is room; r is how many do, and behind them nothing has changed
pub record Filled (bytes before : List ℕ) (r : ℕ) (after : List ℕ) : Type 0 where
  pub count : r ≡ min (length bytes) (length before)
  pub front : after ≡ take r bytes ++ drop r before
