-- Sheets: table facts and policies, who is admitted, and the branches. (01, "Values and meaning")
use Rattle.std.specs.Prelude.{ℕ, ◌+◌, ◌-◌, ◌*◌, ◌/◌, ◌%◌, ◌^◌, Bool, true, false, cond, ◌&&◌, ◌||◌, List, [], ◌∷◌, ◌++◌, map, length, get_or, ltb, eqb}
use Rattle.lists.specs.Lists.{numbers_from, every, any, keep, each}
use Rattle.meaning.specs.Values.{Kind, integer, Contents}
use Rattle.meaning.specs.Atoms.{Operator, equals, in_list, not_in_list, order, is_null, is_not_null, Clause, policy_met}

-- "first bit of a set stands for number 0": is i in a set of `width` bits?
abbrev pub member : ℕ → ℕ → ℕ → Bool
member width set i = ltb i width && eqb (set / 2 ^ (width - 1 - i) % 2) 1

-- "each table: schema, tags, columns held"
pub record Table : Type 0 where
  pub schema : ℕ
  pub tags : ℕ
  pub columns : ℕ

-- "0 all; 1 has column; 2 in schema; 3 table number; 4 tag number; 5 and; 6 or (two selectors follow); 7 not (one follows)"
pub data Selector : Type 0 where
  all : Selector
  has_column : ℕ → Selector
  in_schema : ℕ → Selector
  table_number : ℕ → Selector
  tag_number : ℕ → Selector
  and : Selector → Selector → Selector
  or : Selector → Selector → Selector
  not : Selector → Selector

-- "each policy: type, commands", selector, clauses
pub record Policy : Type 0 where
  pub restrictive : Bool
  pub commands : ℕ
  pub selector : Selector
  pub clauses : List Clause

pub record Sheet : Type 0 where
  pub columns : List Kind
  pub keys : List Kind
  pub tables : List Table
  pub policies : List Policy

abbrev pub kind_of : Sheet → ℕ → Kind
kind_of sheet v = cond (ltb v 16) (get_or sheet.columns v integer) (get_or sheet.keys (v - 16) integer)

abbrev pub table_at : Sheet → ℕ → Table
table_at sheet t = get_or sheet.tables t (record { schema = 0; tags = 0; columns = 0 })

abbrev pub policy_at : Sheet → ℕ → Policy
policy_at sheet p = get_or sheet.policies p (record { restrictive = false; commands = 0; selector = all; clauses = [] })

-- does a table hold a column?
abbrev pub holds : Table → ℕ → Bool
holds table c = member 16 table.columns c

-- does a selector match table number t with these facts?
abbrev pub matches : ℕ → Table → Selector → Bool
matches t table all = true
matches t table (has_column c) = holds table c
matches t table (in_schema s) = eqb table.schema s
matches t table (table_number n) = eqb t n
matches t table (tag_number g) = member 8 table.tags g
matches t table (and a b) = matches t table a && matches t table b
matches t table (or a b) = matches t table a || matches t table b
matches t table (not a) = cond (matches t table a) false true

-- "For a table and command, take the policies whose selector matches the table and whose commands include it." "Only policies that name the command itself count."
abbrev pub applies : Sheet → ℕ → ℕ → Policy → Bool
applies sheet t command p = matches t (table_at sheet t) p.selector && member 4 p.commands command

abbrev pub permissive : Sheet → ℕ → ℕ → List (List Clause)
permissive sheet t command = map (λ p. p.clauses) (keep (λ p. cond p.restrictive false (applies sheet t command p)) sheet.policies)

abbrev pub restrictive : Sheet → ℕ → ℕ → List (List Clause)
restrictive sheet t command = map (λ p. p.clauses) (keep (λ p. p.restrictive && applies sheet t command p) sheet.policies)

-- "A row is admitted when a permissive policy is met and every restrictive one is met. With no permissive policy nothing is admitted."
abbrev pub admits : Sheet → ℕ → ℕ → Contents → Bool
admits sheet t command e = any (policy_met e) (permissive sheet t command) && every (policy_met e) (restrictive sheet t command)

-- "A branch is one clause of the permissive policies with one clause of each restrictive one. Branches are numbered from 0 in sheet order,
-- the permissive clause varying slowest and the last restrictive policy fastest." A branch is here the conjunction of its clauses.
abbrev pub joined : List Clause → List Clause → List Clause
joined cs ds = each (λ c. map (λ d. c ++ d) ds) cs

abbrev pub choices : List (List Clause) → List Clause
choices [] = [] ∷ []
choices (cs ∷ more) = joined cs (choices more)

unfoldable pub branches : Sheet → ℕ → ℕ → List Clause
branches sheet t command = joined (each (λ cs. cs) (permissive sheet t command)) (choices (restrictive sheet t command))

-- "N is the sum of the permissive policies' clause counts times the product of the restrictive ones' counts (a product of none is 1)."
abbrev pub sum : List ℕ → ℕ
sum [] = 0
sum (n ∷ ns) = n + sum ns

abbrev pub product : List ℕ → ℕ
product [] = 1
product (n ∷ ns) = n * product ns

unfoldable pub branch_count : Sheet → ℕ → ℕ → ℕ
branch_count sheet t command = sum (map length (permissive sheet t command)) * product (map length (restrictive sheet t command))

-- the second variable of an equality
abbrev pub second : Operator → List ℕ
second (equals u) = u ∷ []
second (in_list ns) = []
second (not_in_list ns) = []
second (order o n) = []
second is_null = []
second is_not_null = []

-- Refusal 11 does not apply: each table that a policy's selector matches holds every column that the policy's atoms use.
abbrev pub columns_held : Table → Policy → Bool
columns_held table p = every (every λ a. every (λ v. cond (ltb v 16) (holds table v) true) (a.variable ∷ second a.operator)) p.clauses

unfoldable pub tables_serve : Sheet → Bool
tables_serve sheet =
    every (λ p. every (λ t. cond (matches t (table_at sheet t) p.selector) (columns_held (table_at sheet t) p) true) (numbers_from 0 (length sheet.tables)))
    sheet.policies
