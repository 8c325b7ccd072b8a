-- What a sheet may hold: the format table's column "Allowed", and what the refusal numbers 4 to 9 and 11 ask, of the data.
use Rattle.std.specs.Prelude.{ℕ, zero, suc, ◌-◌, ◌^◌, ◌<◌, ◌≤◌, ◌≡◌, Bool, true, cond, List, [], length, ltb}
use Rattle.lists.specs.Lists.{numbers_from, every, All}
use Rattle.meaning.specs.Values.{Kind, kind_number, last}
use Rattle.meaning.specs.Atoms.{Operator, equals, in_list, not_in_list, order, is_null, is_not_null, Atom, Clause}
use Rattle.meaning.specs.Sheets.{member, Table, Selector, all, has_column, in_schema, table_number, tag_number, and, or, not, Policy, Sheet, kind_of, tables_serve}
use Rattle.meaning.specs.Packed.{packed}

-- "a held column at or above C" is 6
abbrev pub held_below : ℕ → ℕ → Bool
held_below c columns = every (λ i. cond (member 16 columns i) (ltb i c) true) (numbers_from 0 16)

abbrev pub TableAllowed : ℕ → Table → Type 0
TableAllowed c t = (t.schema < 2 ^ 6) × (t.tags < 2 ^ 8) × (t.columns < 2 ^ 16) × (held_below c t.columns ≡ true)

-- "Selectors nest inside selectors to a depth of six, a lone leaf being one."
abbrev pub Nests : Sheet → ℕ → Selector → Type 0
Nests facts zero x = ⊥
Nests facts (suc d) all = Unit {0}
Nests facts (suc d) (has_column c) = (c < 2 ^ 4) × (c < length facts.columns)
Nests facts (suc d) (in_schema s) = s < 2 ^ 6
Nests facts (suc d) (table_number t) = (t < 2 ^ 4) × (t < length facts.tables)
Nests facts (suc d) (tag_number g) = g < 2 ^ 3
Nests facts (suc d) (and a b) = Nests facts d a × Nests facts d b
Nests facts (suc d) (or a b) = Nests facts d a × Nests facts d b
Nests facts (suc d) (not a) = Nests facts d a

-- "variable 0..15 column, 16..23 key", of the sheet
abbrev pub IsVariable : Sheet → ℕ → Type 0
IsVariable facts v = (v < 24) × (cond (ltb v 16) (ltb v (length facts.columns)) (ltb (v - 16) (length facts.keys)) ≡ true)

-- "count of 4 bits, 1..8, then values"
abbrev pub ValuesAllowed : Kind → List ℕ → Type 0
ValuesAllowed k ns = (1 ≤ length ns) × (length ns ≤ 8) × All (λ n. n ≤ last k) ns

-- what an operator on variable v asks; "Operators 3 to 6 are for integers only."
abbrev pub OperatorAllowed : Sheet → ℕ → Operator → Type 0
OperatorAllowed facts v (equals u) = IsVariable facts u × (kind_number (kind_of facts v) ≡ kind_number (kind_of facts u))
OperatorAllowed facts v (in_list ns) = ValuesAllowed (kind_of facts v) ns
OperatorAllowed facts v (not_in_list ns) = ValuesAllowed (kind_of facts v) ns
OperatorAllowed facts v (order o n) = (kind_number (kind_of facts v) ≡ 0) × (n ≤ last (kind_of facts v))
OperatorAllowed facts v is_null = Unit {0}
OperatorAllowed facts v is_not_null = Unit {0}

abbrev pub AtomAllowed : Sheet → Atom → Type 0
AtomAllowed facts a = IsVariable facts a.variable × OperatorAllowed facts a.variable a.operator

-- "clause count; per clause its atom count": "0..8 each"
abbrev pub ClauseAllowed : Sheet → Clause → Type 0
ClauseAllowed facts c = (length c ≤ 8) × All (AtomAllowed facts) c

abbrev pub PolicyAllowed : Sheet → Policy → Type 0
PolicyAllowed facts p = (0 < p.commands) × (p.commands < 2 ^ 4) × Nests facts 6 p.selector × (length p.clauses ≤ 8) × All (ClauseAllowed facts) p.clauses

-- a sheet without its policies: what its policies are judged by
abbrev pub facts_of : Sheet → Sheet
facts_of s = record { columns = s.columns; keys = s.keys; tables = s.tables; policies = [] }

-- "columns C, keys K, tables T, policies P": "0..16, 1..8, 1..16, 0..16"
pub record SheetAllowed (sheet : Sheet) : Type 0 where
  pub columns : length sheet.columns ≤ 16
  pub keys : (1 ≤ length sheet.keys) × (length sheet.keys ≤ 8)
  pub tables : (1 ≤ length sheet.tables) × (length sheet.tables ≤ 16)
  pub policies : length sheet.policies ≤ 16
  pub each_table : All (TableAllowed (length sheet.columns)) sheet.tables
  pub each_policy : All (PolicyAllowed (facts_of sheet)) sheet.policies
  pub serves : tables_serve sheet ≡ true
  pub short : length (packed sheet) ≤ 16384
