-- The packed forms, read: each field as it is reached, by the refusal numbers of 01. (01, "The packed sheet", "Refusal numbers")
use Rattle.std.specs.Prelude.{ℕ, zero, suc, ◌+◌, ◌-◌, ◌*◌, ◌/◌, ◌%◌, Bool, true, cond, ◌&&◌, List, [], ◌∷◌, length, get_or, take, drop, ltb, leb, eqb}
use Rattle.meaning.specs.declared.Content.{Content}
use Rattle.meaning.specs.declared.Content.TheVariants.{Null, Value}
use Rattle.lists.specs.Lists.{numbers_from, every}
use Rattle.bits.specs.Bits.{number}
use Rattle.meaning.specs.Values.{Kind, integer, token, boolean, kind_number, last, raw, Contents}
use Rattle.meaning.specs.Atoms.{at_most, at_least, is_below, is_above, Operator, equals, in_list, not_in_list, order, is_null, is_not_null, Atom, Clause}
use Rattle.meaning.specs.Sheets.{member, Table, Selector, all, has_column, in_schema, table_number, tag_number, and, or, not, Policy, Sheet, kind_of, holds, tables_serve}

-- What reading at a place answers: what was found, with the place after it, or a refusal. A place is here the number of bits before it:
-- "one byte number and one bit number" as byte * 8 + bit.
pub data Read (A : Type 0) : Type 0 where
  found : A → ℕ → Read A
  refused : ℕ → Read A

abbrev pub Reader : Type 0 → Type 0
Reader A = List ℕ → ℕ → Read A

abbrev pub on_read : {A B : Type 0} → Read A → (A → ℕ → Read B) → Read B
on_read (found a p) next = next a p
on_read (refused n) next = refused n

-- one after the other: `x ← m` goes on with what m finds, at the place after it
infixr 10 ◌>>=◌
infixr 10 ◌>>◌
abbrev pub ◌>>=◌ : {A B : Type 0} → Reader A → (A → Reader B) → Reader B
◌>>=◌ m f = λ s p. on_read (m s p) (λ a q. f a s q)

abbrev pub ◌>>◌ : {A B : Type 0} → Reader A → Reader B → Reader B
◌>>◌ m n = λ s p. on_read (m s p) (λ a q. n s q)

abbrev pub give : {A : Type 0} → A → Reader A
give a = λ s p. found a p

abbrev pub refuse : {A : Type 0} → ℕ → Reader A
refuse n = λ s p. refused n

-- refusal n where the test fails
abbrev pub need : Bool → ℕ → Reader (Unit {0})
need ok n = cond ok (give tt) (refuse n)

abbrev pub times : {A : Type 0} → ℕ → Reader A → Reader (List A)
times zero m = give []
times (suc n) m = do
  a ← m
  more ← times n m
  give (a ∷ more)

-- 2, "a field isn't wholly there"
unfoldable pub field : ℕ → Reader ℕ
field w s p = cond (leb (p + w) (length s * 8)) (found (number s p w) (p + w)) (refused 2)

-- 4, "a count not allowed"
unfoldable pub count : ℕ → ℕ → ℕ → Reader ℕ
count w low high = do
  n ← field w
  need (leb low n && leb n high) 4
  give n

-- 5, "kind 3"
unfoldable pub kind : Reader Kind
kind = do
  k ← field 2
  need (ltb k 3) 5
  give (get_or (integer ∷ token ∷ boolean ∷ []) k integer)

-- 6, "a held column at or above C"
unfoldable pub table : ℕ → Reader Table
table c = do
  schema ← field 6
  tags ← field 8
  columns ← field 16
  need (every (λ i. cond (member 16 columns i) (ltb i c) true) (numbers_from 0 16)) 6
  give (record { schema = schema; tags = tags; columns = columns })

-- a number of w bits; 6, "column, key or table number not below its count"
unfoldable pub number_below : ℕ → ℕ → Reader ℕ
number_below w most = do
  n ← field w
  need (ltb n most) 6
  give n

-- what follows a selector's node, where `inner` reads an inner selector
unfoldable pub selector_node : Sheet → Reader Selector → ℕ → Reader Selector
selector_node facts inner node =
    get_or
    (give all ∷ (do c ← number_below 4 (length facts.columns); give (has_column c)) ∷ (do s ← field 6; give (in_schema s))
    ∷ (do t ← number_below 4 (length facts.tables); give (table_number t)) ∷ (do g ← field 3; give (tag_number g))
    ∷ (do a ← inner; b ← inner; give (and a b)) ∷ (do a ← inner; b ← inner; give (or a b)) ∷ (do a ← inner; give (not a)) ∷ [])
    node
    (refuse 5)

-- 9, "a selector node at depth seven, before its bits are read"
unfoldable pub selector : ℕ → Sheet → Reader Selector
selector zero facts = refuse 9
selector (suc depth) facts = do
  node ← field 3
  selector_node facts (selector depth facts) node

-- 5, "variable 24..31"; 6
unfoldable pub variable : Sheet → Reader ℕ
variable facts = do
  v ← field 5
  need (ltb v 24) 5
  need (cond (ltb v 16) (ltb v (length facts.columns)) (ltb (v - 16) (length facts.keys))) 6
  give v

-- 7, "a value not of the kind"
unfoldable pub value : Kind → Reader ℕ
value k = do
  x ← field 64
  need (leb (raw k x) (last k)) 7
  give (raw k x)

unfoldable pub values : Kind → Reader (List ℕ)
values k = do
  n ← count 4 1 8
  times n (value k)

-- 7, "equated variables of unlike kinds"
unfoldable pub mate : Sheet → ℕ → Reader ℕ
mate facts v = do
  u ← variable facts
  need (eqb (kind_number (kind_of facts v)) (kind_number (kind_of facts u))) 7
  give u

-- what follows an operator's number
unfoldable pub operand : Sheet → ℕ → ℕ → Reader Operator
operand facts v o =
    let k = kind_of facts v in
    get_or
    ((do u ← mate facts v; give (equals u)) ∷ (do ns ← values k; give (in_list ns)) ∷ (do ns ← values k; give (not_in_list ns))
    ∷ (do n ← value k; give (order at_most n)) ∷ (do n ← value k; give (order at_least n))
    ∷ (do n ← value k; give (order is_below n)) ∷ (do n ← value k; give (order is_above n))
    ∷ give is_null ∷ give is_not_null ∷ [])
    o
    (refuse 5)

-- 5, "operator 9..15"; 7, "an order operator on a non-integer": "An operator's fit to its kind is judged with the operator."
unfoldable pub atom : Sheet → Reader Atom
atom facts = do
  v ← variable facts
  o ← field 4
  need (ltb o 9) 5
  need (cond (leb 3 o && leb o 6) (eqb (kind_number (kind_of facts v)) 0) true) 7
  x ← operand facts v o
  give (record { variable = v; operator = x })

unfoldable pub clause : Sheet → Reader Clause
clause facts = do
  n ← count 4 0 8
  times n (atom facts)

-- 8, "no command"
unfoldable pub policy : Sheet → Reader Policy
policy facts = do
  type ← field 1
  commands ← field 4
  need (ltb 0 commands) 8
  chosen ← selector 6 facts
  n ← count 4 0 8
  clauses ← times n (clause facts)
  give (record { restrictive = eqb type 1; commands = commands; selector = chosen; clauses = clauses })

-- 10, "a padding bit 1, or bytes left over"
unfoldable pub padding : Reader (Unit {0})
padding s p = cond (eqb (number s p ((8 - p % 8) % 8)) 0) (found tt (p + (8 - p % 8) % 8)) (refused 10)

unfoldable pub nothing_more : Reader (Unit {0})
nothing_more s p = cond (leb (length s * 8) p) (found tt p) (refused 10)

-- "edition"; "columns C, keys K, tables T, policies P"
pub record Counts : Type 0 where
  pub columns : ℕ
  pub keys : ℕ
  pub tables : ℕ
  pub policies : ℕ

unfoldable pub counts : Reader Counts
counts = do
  edition ← field 4
  need (eqb edition 1) 3
  c ← count 5 0 16
  k ← count 4 1 8
  t ← count 5 1 16
  p ← count 5 0 16
  give (record { columns = c; keys = k; tables = t; policies = p })

-- "kind of each column, then of each key", "each table": the sheet without its policies
unfoldable pub table_facts : Counts → Reader Sheet
table_facts n = do
  columns ← times n.columns kind
  keys ← times n.keys kind
  tables ← times n.tables (table n.columns)
  give (record { columns = columns; keys = keys; tables = tables; policies = [] })

unfoldable pub sheet_fields : Reader Sheet
sheet_fields = do
  n ← counts
  facts ← table_facts n
  policies ← times n.policies (policy facts)
  padding
  nothing_more
  give (record { columns = facts.columns; keys = facts.keys; tables = facts.tables; policies = policies })

-- "1 comes first; then each field as it is reached, ... Then 10, 11": the refusals of a sheet by itself
unfoldable pub read_sheet : List ℕ → Read Sheet
read_sheet s = (do need (leb (length s) 16384) 1; sheet ← sheet_fields; need (tables_serve sheet) 11; give sheet) s 0

-- "one presence bit (0 is null) and, if that is 1, a value of its kind"
unfoldable pub content : Kind → Reader Content
content k = do
  present ← field 1
  cond (eqb present 0) (give Null) (do n ← value k; give (Value n))

-- the contents from number i on, of those numbers that are there; null elsewhere
unfoldable pub contents : (ℕ → Bool) → ℕ → List Kind → Reader (List Content)
contents there i [] = give []
contents there i (k ∷ ks) = do
  x ← cond (there i) (content k) (give Null)
  more ← contents there (i + 1) ks
  give (x ∷ more)

unfoldable pub read_session : Sheet → List ℕ → Read Contents
read_session sheet s = (do xs ← contents (λ k. true) 0 sheet.keys; padding; nothing_more; give (λ k. get_or xs k Null)) s 0

-- a row of a list: its bytes as they stand there, and what its columns hold
pub record Row : Type 0 where
  pub bytes : List ℕ
  pub columns : Contents

unfoldable pub row : Sheet → Table → Reader Contents
row sheet t = do
  xs ← contents (holds t) 0 sheet.columns
  padding
  give (λ c. get_or xs c Null)

-- at most n rows, "each row starting on a byte", to the end of the list
unfoldable pub rows : ℕ → Sheet → Table → Reader (List Row)
rows zero sheet t = do
  nothing_more
  give []
rows (suc n) sheet t = λ s p.
    cond (leb (length s * 8) p) (found [] p) (on_read (row sheet t s p) λ x q. on_read (rows n sheet t s q) λ more end. found (record { bytes = take (q / 8 - p / 8) (drop (p / 8) s); columns = x } ∷ more) end)

-- "A row list has at most 65,536 bytes." Each row has a byte or more: "A table that holds no column has .. only the empty list."
unfoldable pub read_rows : Sheet → Table → List ℕ → Read (List Row)
read_rows sheet t s = (do need (leb (length s) 65536) 15; rows (length s) sheet t) s 0
