-- Atoms laid into the engine's words, as the document's atoms.
use Rattle.std.specs.Prelude.{ℕ, zero, suc, ◌+◌, ◌*◌, ◌%◌, Bool, cond, ◌&&◌, List, [], ◌∷◌, ◌++◌, get_or, leb, eqb, min}
use Rattle.meaning.specs.Atoms as m
use Rattle.meaning.specs.Atoms.{Operator, equals, in_list, not_in_list, order, is_null, is_not_null}
use Rattle.meaning.specs.Steps.{on}
use Rattle.meaning.specs.Views.{operator_of}

-- n numbers of s from p on
abbrev pub numbers_at : List ℕ → ℕ → ℕ → List ℕ
numbers_at s p zero = []
numbers_at s p (suc n) = get_or s p 0 ∷ numbers_at s (p + 1) n

-- atom i of the words: 11 numbers, variable, operator, count or other variable, eight values
unfoldable pub word_atom : List ℕ → ℕ → m.Atom
word_atom s i =
    on (get_or s (i * 11) 0 % 32)
    (operator_of (get_or s (i * 11 + 1) 0) (get_or s (i * 11 + 2) 0 % 32) (get_or s (i * 11 + 3) 0) (numbers_at s (i * 11 + 3) (get_or s (i * 11 + 2) 0 % 9)))

-- the first n atoms of the words
abbrev pub word_atoms : List ℕ → ℕ → m.Clause
word_atoms s zero = []
word_atoms s (suc n) = word_atoms s n ++ (word_atom s n ∷ [])

-- the engine's number of a variable: columns 0..15, the first session's keys 16..23, the second's 24..31
unfoldable pub slot_of : Bool → ℕ → ℕ
slot_of second v = cond (second && leb 16 v) ((v % 32 + 8) % 32) (v % 32)

abbrev pub seen_by : Bool → Operator → Operator
seen_by second (equals u) = equals (slot_of second u)
seen_by second (in_list ns) = in_list ns
seen_by second (not_in_list ns) = not_in_list ns
seen_by second (order o n) = order o n
seen_by second is_null = is_null
seen_by second is_not_null = is_not_null

-- an atom on the engine's numbers
abbrev pub seen : Bool → m.Atom → m.Atom
seen second a = on (slot_of second a.variable) (seen_by second a.operator)

-- the third word of an atom: its other variable, or how many of its eight values are in its list
abbrev pub third_of : ℕ → ℕ → ℕ → Bool → ℕ
third_of op other count second = cond (eqb op 0) (slot_of second other) (min count 8)
