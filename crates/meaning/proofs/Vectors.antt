-- The read-out's sheet, by computing. (01, "The read-out")
use Prim.Native.Nat.{ℕ}
use mathlib.Core.Path.{◌≡◌, refl}
use mathlib.Core.Bool.{true, false}
use mathlib.Core.List.{List, [], ◌∷◌, ◌++◌}
use Rattle.meaning.specs.Text.{ascii}
use Rattle.meaning.specs.ReadOut.{decimal_in, decimal}
use Rattle.meaning.specs.Values.{token}
use Rattle.meaning.specs.Atoms.{equals, is_null, Clause}
use Rattle.meaning.specs.Sheets.{Sheet, all, not, branches, branch_count, tables_serve}
use Rattle.bits.specs.Bits.{bits, spelled, bytes_from, bytes_of, bit_at, number}
use Rattle.meaning.specs.Steps.{on}
use Rattle.meaning.specs.Packed.{sheet_bits, packed}
use Rattle.meaning.specs.Reading.{found, refused, read_sheet, field, count, kind, table, number_below, selector_node, selector, variable, value, values, mate, operand, atom, clause, policy, padding, nothing_more, counts, table_facts, sheet_fields}

abbrev example : Sheet
example =
    record {
      columns = token ∷ [];
      keys = token ∷ [];
      tables = record { schema = 0; tags = 0; columns = 0x8000 } ∷ [];
      policies = record { restrictive = false; commands = 8; selector = all; clauses = (record { variable = 0; operator = equals 16 } ∷ []) ∷ [] } ∷ [];
    }

abbrev example_bytes : List ℕ
example_bytes = 0x10 ∷ 0x88 ∷ 0x42 ∷ 0xA0 ∷ 0x00 ∷ 0x40 ∷ 0x00 ∷ 0x20 ∷ 0x08 ∷ 0x80 ∷ 0x20 ∷ []

is_packed : packed example ≡ example_bytes
unfolding bits spelled bytes_from bytes_of sheet_bits packed
is_packed = refl

is_read : read_sheet example_bytes ≡ found example 88
unfolding read_sheet bit_at number field count kind table number_below selector_node selector variable value values mate operand atom clause policy padding nothing_more counts table_facts sheet_fields tables_serve
is_read = refl

-- a number that is no byte is read by its low eight bits: so `Canonical` asks for bytes
is_read_too : read_sheet (0x110 ∷ 0x88 ∷ 0x42 ∷ 0xA0 ∷ 0x00 ∷ 0x40 ∷ 0x00 ∷ 0x20 ∷ 0x08 ∷ 0x80 ∷ 0x20 ∷ []) ≡ found example 88
unfolding read_sheet bit_at number field count kind table number_below selector_node selector variable value values mate operand atom clause policy padding nothing_more counts table_facts sheet_fields tables_serve
is_read_too = refl

has_one_branch : branch_count example 0 0 ≡ 1
unfolding branch_count
has_one_branch = refl

-- "the permissive clause varying slowest and the last restrictive policy fastest": clauses told apart by the column that they want null
abbrev null : ℕ → Clause
null c = on c is_null ∷ []

abbrev three : Sheet
three =
    record {
      columns = [];
      keys = token ∷ [];
      tables = record { schema = 0; tags = 0; columns = 0 } ∷ [];
      policies =
          record { restrictive = true; commands = 8; selector = all; clauses = null 0 ∷ null 1 ∷ [] } ∷ record { restrictive = false; commands = 8; selector = all; clauses = null 2 ∷ null 3 ∷ [] }
          ∷ record { restrictive = true; commands = 8; selector = all; clauses = null 4 ∷ null 5 ∷ [] } ∷ [];
    }

abbrev nulls : ℕ → ℕ → ℕ → Clause
nulls a b c = on a is_null ∷ on b is_null ∷ on c is_null ∷ []

in_order : branches three 0 0 ≡ nulls 2 0 4 ∷ nulls 2 0 5 ∷ nulls 2 1 4 ∷ nulls 2 1 5 ∷ nulls 3 0 4 ∷ nulls 3 0 5 ∷ nulls 3 1 4 ∷ nulls 3 1 5 ∷ []
unfolding branches
in_order = refl

-- "Selectors nest inside selectors to a depth of six, a lone leaf being one.": five times not, then all; six times
depth_six : selector 6 example (0xFF ∷ 0xFE ∷ 0 ∷ []) 0 ≡ found (not (not (not (not (not all))))) 18
unfolding selector selector_node field number bit_at number_below
depth_six = refl

depth_seven : selector 6 example (0xFF ∷ 0xFF ∷ 0xC0 ∷ []) 0 ≡ refused 9
unfolding selector selector_node field number bit_at number_below
depth_seven = refl

-- a list of nine values: 4, at its count
list_of_nine : values token (0x90 ∷ []) 0 ≡ refused 4
unfolding values count field number bit_at value
list_of_nine = refl

-- a padding bit 1, a byte left over, a field cut off
padded : read_sheet (0x10 ∷ 0x88 ∷ 0x42 ∷ 0xA0 ∷ 0x00 ∷ 0x40 ∷ 0x00 ∷ 0x20 ∷ 0x08 ∷ 0x80 ∷ 0x21 ∷ []) ≡ refused 10
unfolding read_sheet bit_at number field count kind table number_below selector_node selector variable value values mate operand atom clause policy padding nothing_more counts table_facts sheet_fields tables_serve
padded = refl

left_over : read_sheet (0x10 ∷ 0x88 ∷ 0x42 ∷ 0xA0 ∷ 0x00 ∷ 0x40 ∷ 0x00 ∷ 0x20 ∷ 0x08 ∷ 0x80 ∷ 0x20 ∷ 0x00 ∷ []) ≡ refused 10
unfolding read_sheet bit_at number field count kind table number_below selector_node selector variable value values mate operand atom clause policy padding nothing_more counts table_facts sheet_fields tables_serve
left_over = refl

cut_off : read_sheet (0x10 ∷ 0x88 ∷ 0x42 ∷ 0xA0 ∷ 0x00 ∷ 0x40 ∷ 0x00 ∷ 0x20 ∷ 0x08 ∷ 0x80 ∷ []) ≡ refused 2
unfolding read_sheet bit_at number field count kind table number_below selector_node selector variable value values mate operand atom clause policy padding nothing_more counts table_facts sheet_fields tables_serve
cut_off = refl

-- the table without its column: 11
without_column : read_sheet (0x10 ∷ 0x88 ∷ 0x42 ∷ 0xA0 ∷ 0x00 ∷ 0x00 ∷ 0x00 ∷ 0x20 ∷ 0x08 ∷ 0x80 ∷ 0x20 ∷ []) ≡ refused 11
unfolding read_sheet bit_at number field count kind table number_below selector_node selector variable value values mate operand atom clause policy padding nothing_more counts table_facts sheet_fields tables_serve
without_column = refl

-- decimal numbers and the text of the first line
first_line : ascii "tables " ++ decimal 16 ≡ 116 ∷ 97 ∷ 98 ∷ 108 ∷ 101 ∷ 115 ∷ 32 ∷ 49 ∷ 54 ∷ []
unfolding decimal decimal_in
first_line = refl
