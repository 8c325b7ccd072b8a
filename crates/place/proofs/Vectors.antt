-- The definitions at worked examples: the heads of the read-out's sheet, and of damaged ones.
use Rattle.std.proofs.Common.{ℕ, ◌≡◌, refl, List, [], ◌∷◌, Ok}
use Rattle.bits.specs.Bits.{bit_at, number}
use Rattle.bits.specs.Fields.{field_at}
use Rattle.bits.specs.declared.Place.{Place}
use Rattle.meaning.specs.Values.{integer}
use Rattle.meaning.specs.Sheets.{Sheet}
use Rattle.meaning.specs.Reading.{found, refused, counts, count, field, variable}
use Rattle.place.specs.Heads.{atom_head}

abbrev sheet : List ℕ
sheet = 0x10 ∷ 0x88 ∷ 0x42 ∷ 0xA0 ∷ 0x00 ∷ 0x40 ∷ 0x00 ∷ 0x20 ∷ 0x08 ∷ 0x80 ∷ 0x20 ∷ []

abbrev at : ℕ → ℕ → Place
at x y = record { byte = x; bit = y }

-- one column, one key, one table, one policy: 23 bits
head : counts sheet 0 ≡ found (record { columns = 1; keys = 1; tables = 1; policies = 1 }) 23
unfolding counts count field number bit_at
head = refl

-- edition 2, and a sheet that ends inside the count of keys
edition : counts (0x20 ∷ []) 0 ≡ refused 3
unfolding counts count field number bit_at
edition = refl

cut_off : counts (0x10 ∷ []) 0 ≡ refused 2
unfolding counts count field number bit_at
cut_off = refl

-- the atom "column 0 equals key 0": a variable of five bits, an operator of four
variable_field : field_at sheet (at 9 1) 5 ≡ Ok (0, at 9 6)
unfolding field_at number bit_at
variable_field = refl

operator_field : field_at sheet (at 9 6) 4 ≡ Ok (0, at 10 2)
unfolding field_at number bit_at
operator_field = refl

facts : Sheet
facts = record { columns = integer ∷ []; keys = integer ∷ []; tables = []; policies = [] }

atom : atom_head facts sheet 73 ≡ found (record { variable = 0; operator = 0 }) 82
unfolding atom_head variable field number bit_at facts
atom = refl
