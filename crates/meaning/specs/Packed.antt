-- The packed forms, written. (01, "The packed sheet")
use Rattle.std.specs.Prelude.{ℕ, ◌+◌, Bool, true, cond, List, [], ◌∷◌, ◌++◌, length}
use Rattle.meaning.specs.declared.Content.{Content}
use Rattle.meaning.specs.declared.Content.TheVariants.{Null, Value}
use Rattle.lists.specs.Lists.{each}
use Rattle.bits.specs.Bits.{bits, bytes_of}
use Rattle.meaning.specs.Values.{Kind, kind_number, raw, Contents}
use Rattle.meaning.specs.Atoms.{Order, at_most, at_least, is_below, is_above, Operator, equals, in_list, not_in_list, order, is_null, is_not_null, Atom, Clause}
use Rattle.meaning.specs.Sheets.{Table, Selector, all, has_column, in_schema, table_number, tag_number, and, or, not, Policy, Sheet, kind_of, holds}

abbrev pub kind_bits : Kind → List ℕ
kind_bits k = bits 2 (kind_number k)

abbrev pub table_bits : Table → List ℕ
table_bits t = bits 6 t.schema ++ (bits 8 t.tags ++ bits 16 t.columns)

-- "A selector is written node first, 3 bits each"
abbrev pub selector_bits : Selector → List ℕ
selector_bits all = bits 3 0
selector_bits (has_column c) = bits 3 1 ++ bits 4 c
selector_bits (in_schema s) = bits 3 2 ++ bits 6 s
selector_bits (table_number t) = bits 3 3 ++ bits 4 t
selector_bits (tag_number g) = bits 3 4 ++ bits 3 g
selector_bits (and a b) = bits 3 5 ++ (selector_bits a ++ selector_bits b)
selector_bits (or a b) = bits 3 6 ++ (selector_bits a ++ selector_bits b)
selector_bits (not a) = bits 3 7 ++ selector_bits a

-- "A value is 64 bits, two's complement."
abbrev pub value_bits : Kind → ℕ → List ℕ
value_bits k n = bits 64 (raw k n)

abbrev pub order_number : Order → ℕ
order_number at_most = 3
order_number at_least = 4
order_number is_below = 5
order_number is_above = 6

abbrev pub operator_number : Operator → ℕ
operator_number (equals u) = 0
operator_number (in_list ns) = 1
operator_number (not_in_list ns) = 2
operator_number (order o n) = order_number o
operator_number is_null = 7
operator_number is_not_null = 8

-- what follows an operator on a variable of a kind: "count of 4 bits, 1..8, then values", "one value"
abbrev pub operand_bits : Kind → Operator → List ℕ
operand_bits k (equals u) = bits 5 u
operand_bits k (in_list ns) = bits 4 (length ns) ++ each (value_bits k) ns
operand_bits k (not_in_list ns) = bits 4 (length ns) ++ each (value_bits k) ns
operand_bits k (order o n) = value_bits k n
operand_bits k is_null = []
operand_bits k is_not_null = []

abbrev pub atom_bits : (ℕ → Kind) → Atom → List ℕ
atom_bits kind a = bits 5 a.variable ++ (bits 4 (operator_number a.operator) ++ operand_bits (kind a.variable) a.operator)

abbrev pub clause_bits : (ℕ → Kind) → Clause → List ℕ
clause_bits kind c = bits 4 (length c) ++ each (atom_bits kind) c

abbrev pub policy_bits : (ℕ → Kind) → Policy → List ℕ
policy_bits kind p =
    bits 1 (cond p.restrictive 1 0) ++ (bits 4 p.commands ++ (selector_bits p.selector ++ (bits 4 (length p.clauses) ++ each (clause_bits kind) p.clauses)))

-- the fields of the format table, in order: "edition", "columns C, keys K, tables T, policies P"
abbrev pub count_bits : Sheet → List ℕ
count_bits s = bits 4 1 ++ (bits 5 (length s.columns) ++ (bits 4 (length s.keys) ++ (bits 5 (length s.tables) ++ bits 5 (length s.policies))))

-- "kind of each column, then of each key", "each table"
abbrev pub fact_bits : Sheet → List ℕ
fact_bits s = each kind_bits s.columns ++ (each kind_bits s.keys ++ each table_bits s.tables)

unfoldable pub sheet_bits : Sheet → List ℕ
sheet_bits s = count_bits s ++ (fact_bits s ++ each (policy_bits (kind_of s)) s.policies)

unfoldable pub packed : Sheet → List ℕ
packed s = bytes_of (sheet_bits s)

-- "for each key ascending, one presence bit (0 is null) and, if that is 1, a value of its kind"
abbrev pub content_bits : Kind → Content → List ℕ
content_bits k Null = bits 1 0
content_bits k (Value n) = bits 1 1 ++ value_bits k n

-- the contents from number i on, of those numbers that are there; their kinds stand in a list
abbrev pub contents_bits : (ℕ → Bool) → Contents → ℕ → List Kind → List ℕ
contents_bits there x i [] = []
contents_bits there x i (k ∷ ks) = cond (there i) (content_bits k (x i)) [] ++ contents_bits there x (i + 1) ks

-- "A session is, for each key ascending, ..; zero bits fill the last byte. A row is the same over the columns that its table holds, ascending, each row starting on a byte."
unfoldable pub packed_session : Sheet → Contents → List ℕ
packed_session sheet session = bytes_of (contents_bits (λ k. true) session 0 sheet.keys)

unfoldable pub packed_row : Sheet → Table → Contents → List ℕ
packed_row sheet table row = bytes_of (contents_bits (holds table) row 0 sheet.columns)
