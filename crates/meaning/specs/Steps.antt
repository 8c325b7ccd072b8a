-- The normal form. (01, "Normal form")
use Rattle.std.specs.Prelude.{ℕ, ◌+◌, ◌-◌, ◌^◌, min, ◌≡◌, Bool, true, cond, List, [], ◌∷◌, map, ltb, eqb}
use Rattle.lists.specs.Lists.{every, keep, One, Keeps, Prunes, Each, ascend, sort, lexlt}
use Rattle.meaning.specs.Values.{Kind}
use Rattle.meaning.specs.Atoms.{Order, at_most, at_least, is_below, is_above, Operator, equals, in_list, not_in_list, order, is_null, is_not_null, Atom, Clause, among}
use Rattle.meaning.specs.Sheets.{Policy, Sheet, kind_of}
use Rattle.meaning.specs.Packed.{atom_bits, clause_bits}
use Rattle.meaning.specs.Questions.{ClauseCovers, LiveClause}

abbrev pub on : ℕ → Operator → Atom
on v o = record { variable = v; operator = o }

-- Step 2. "Equality of a variable with itself becomes "is not null". Otherwise the lower variable number stands left."
abbrev pub oriented : ℕ → Operator → Atom
oriented v (equals u) = cond (eqb v u) (on v is_not_null) (cond (ltb u v) (on u (equals v)) (on v (equals u)))
oriented v (in_list ns) = on v (in_list ns)
oriented v (not_in_list ns) = on v (not_in_list ns)
oriented v (order o n) = on v (order o n)
oriented v is_null = on v is_null
oriented v is_not_null = on v is_not_null

abbrev pub orient : Atom → Atom
orient a = oriented a.variable a.operator

-- Step 3. "Below v becomes at most v−1; above v becomes at least v+1. List values ascend, each once." (An integer that has no such
-- neighbour stays as it is: no live clause has that atom, and step 1 left only those.)
abbrev pub closed : Order → ℕ → Operator
closed at_most n = order at_most n
closed at_least n = order at_least n
closed is_below n = order at_most (n - 1)
closed is_above n = order at_least (min (n + 1) (2 ^ 64 - 1))

abbrev pub tightened : Operator → Operator
tightened (equals u) = equals u
tightened (in_list ns) = in_list (ascend ltb ns)
tightened (not_in_list ns) = not_in_list (ascend ltb ns)
tightened (order o n) = closed o n
tightened is_null = is_null
tightened is_not_null = is_not_null

abbrev pub tighten : Atom → Atom
tighten a = on a.variable (tightened a.operator)

-- is n in the list, if this is an in-list?
abbrev pub spares : ℕ → Operator → Bool
spares n (equals u) = true
spares n (in_list ns) = among n ns
spares n (not_in_list ns) = true
spares n (order o m) = true
spares n is_null = true
spares n is_not_null = true

-- "All in-lists on one variable become one, their common values.": each becomes the common values, and so they are one when step 4 drops repeats
abbrev pub is_common : Clause → ℕ → ℕ → Bool
is_common c v n = every (λ a. cond (eqb a.variable v) (spares n a.operator) true) c

abbrev pub shared : Clause → ℕ → Operator → Operator
shared c v (equals u) = equals u
shared c v (in_list ns) = in_list (keep (is_common c v) ns)
shared c v (not_in_list ns) = not_in_list ns
shared c v (order o n) = order o n
shared c v is_null = is_null
shared c v is_not_null = is_not_null

abbrev pub merged : Clause → Clause
merged c = map (λ a. on a.variable (shared c a.variable a.operator)) c

-- Step 4. "Sort atoms by their bits; drop repeats."
abbrev pub atom_before : (ℕ → Kind) → Atom → Atom → Bool
atom_before kind a b = lexlt (atom_bits kind a) (atom_bits kind b)

unfoldable pub tidied : (ℕ → Kind) → Clause → Clause
tidied kind c = ascend (atom_before kind) (merged (map tighten (map orient c)))

-- Step 5. "From last to first, drop an atom that the remaining others imply."
abbrev pub NormalClause : Sheet → Clause → Clause → Type 0
NormalClause sheet c d = Prunes (λ a others. ClauseCovers sheet (a ∷ []) others) [] (tidied (kind_of sheet) c) d

-- Step 6. "Sort clauses by their bits, count included. From last to first, drop a clause covered by one remaining other."
abbrev pub clause_before : (ℕ → Kind) → Clause → Clause → Bool
clause_before kind c d = lexlt (clause_bits kind c) (clause_bits kind d)

-- Step 1. "Drop each clause that no row and session meets."
pub record NormalClauses (sheet : Sheet) (cs ds : List Clause) : Type 0 where
  pub live : List Clause
  pub tidy : List Clause
  pub step_1 : Keeps (LiveClause sheet) cs live
  pub steps_2_5 : Each (NormalClause sheet) live tidy
  pub step_6 : Prunes (λ c others. One (λ d. ClauseCovers sheet d c) others) [] (sort (clause_before (kind_of sheet)) tidy) ds

-- "Table facts, policy order, types, commands and selectors stay." "A policy left with no clause stays."
pub record NormalPolicy (sheet : Sheet) (p q : Policy) : Type 0 where
  pub restrictive : q.restrictive ≡ p.restrictive
  pub commands : q.commands ≡ p.commands
  pub selector : q.selector ≡ p.selector
  pub clauses : NormalClauses sheet p.clauses q.clauses

pub record NormalSheet (sheet normal : Sheet) : Type 0 where
  pub columns : normal.columns ≡ sheet.columns
  pub keys : normal.keys ≡ sheet.keys
  pub tables : normal.tables ≡ sheet.tables
  pub policies : Each (NormalPolicy sheet) sheet.policies normal.policies
