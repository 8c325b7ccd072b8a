-- What writing a text into a buffer leaves there.
use Rattle.std.specs.Prelude.{ℕ, ◌+◌, ◌≤◌, ◌≡◌, List, ◌++◌, length, take}
use Rattle.text.specs.declared.Writer.{Writer}

-- the text stands in the buffer behind what stood before `at`; r is the place behind it
pub record Wrote (before : List ℕ) (at : ℕ) (text after : List ℕ) (r : ℕ) : Type 0 where
  pub same : length after ≡ length before
  pub end : r ≡ at + length text
  pub front : take r after ≡ take at before ++ text

-- so many bytes more fit
abbrev pub HasRoom : Writer → ℕ → Type 0
HasRoom w n = w.at + n ≤ length w.out.now

-- v is w, in the same buffer, after writing the text
pub record Adds (w : Writer) (text : List ℕ) (v : Writer) : Type 0 where
  pub wrote : Wrote w.out.now w.at text v.out.now v.at
  pub lent : v.out.ghost_name ≡ w.out.ghost_name

-- v is w, in the same buffer, after writing at most n bytes
pub record Extends (w : Writer) (n : ℕ) (v : Writer) : Type 0 where
  pub same : length v.out.now ≡ length w.out.now
  pub short : v.at ≤ w.at + n
  pub lent : v.out.ghost_name ≡ w.out.ghost_name
