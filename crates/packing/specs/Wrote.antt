-- A packed form being written into an output. (01, "The packed sheet")
use Rattle.std.specs.Prelude.{ℕ, ◌*◌, ◌^◌, ◌<◌, ◌≤◌, ◌≡◌, List, ◌∷◌, length, get_or}
use Rattle.bits.specs.Put.{packed_over}
use Rattle.lists.specs.Lists.{All}
use Rattle.meaning.specs.Atoms.{Atom, Clause}
use Rattle.meaning.specs.Sheets.{second}

-- "A sheet has at most 16,384 bytes."
abbrev pub most_bits : ℕ
most_bits = 16384 * 8

-- The bits bs have been written over the output o, which is s now, and p is their number, if a sheet may have so many and o has room for
-- them. (The normal form is never longer than its sheet, so that they are and it has: told once, of the whole form, at the end.)
abbrev pub Wrote : (o bs s : List ℕ) → ℕ → Type 0
Wrote o bs s p = length bs ≤ most_bits → length bs ≤ length o * 8 → (p ≡ length bs) × (s ≡ packed_over bs o) × ((i : ℕ) → get_or bs i 0 ≤ 1)

-- "variable, operator | 5, 4": the variables of an atom, and of each atom of a clause, have five bits
abbrev pub InFive : Atom → Type 0
InFive a = All (λ v. v < 2 ^ 5) (a.variable ∷ second a.operator)

abbrev pub AllInFive : Clause → Type 0
AllInFive c = All InFive c
