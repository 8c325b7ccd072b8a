-- The front of a sheet by value: its counts and its kinds.
use Rattle.std.specs.Prelude.{ℕ, ◌+◌, ◌-◌, ◌*◌, ◌%◌, ◌<◌, ◌≤◌, ◌≡◌, Bool, true, false, cond, List, [], length, get_or, Result, Ok, Err}
use Rattle.meaning.specs.Values.{Kind, integer, kind_number}
use Rattle.meaning.specs.Reading.{Read, found, refused, on_read, clause, padding, nothing_more}
use Rattle.meaning.specs.Atoms.{Atom}
use Rattle.meaning.specs.Sheets as sheets
use Rattle.meaning.specs.Sheets.{Sheet, Selector, matches, all, table_at, columns_held}
use Rattle.meaning.specs.Allowed.{facts_of}
use Rattle.lists.specs.Lists.{numbers_from, every}
use Rattle.refusals.specs.declared.Refusal.{Refusal}
use Rattle.refusals.specs.Refusals.{number}
use Rattle.bits.specs.declared.Place.{Place}
use Rattle.values.specs.Reads.{Got}
use Rattle.clauses.specs.declared.Facts.{Facts}
use Rattle.clauses.specs.Facts.{FactsAre, atom_held}
use Rattle.sheet.specs.Directory.{table_in, PolicyAt}

-- a reader found an item, of which something holds, up to the place that is answered; or the same refusal
abbrev pub Ends : {A : Type 0} → Read A → (A → Type 0) → Result Place Refusal → Type 0
Ends m Holds (Ok q) = Got m Holds q
Ends m Holds (Err e) = m ≡ refused (number e)

-- the kinds ks stand by their numbers in `kinds` from number `from` on, where else `kinds` is as given
pub record KindsPut (from : ℕ) (given kinds : List ℕ) (ks : List Kind) : Type 0 where
  pub before : (j : ℕ) → j < from → get_or kinds j 0 ≡ get_or given j 0
  pub here : (j : ℕ) → j < length ks → get_or kinds (from + j) 0 ≡ kind_number (get_or ks j integer)
  pub after : (j : ℕ) → from + length ks ≤ j → get_or kinds j 0 ≡ get_or given j 0

-- the tables ts stand in a book
abbrev pub TablesIn : List ℕ → List sheets.Table → Type 0
TablesIn b ts = (t : ℕ) → t < length ts → table_in b t ≡ get_or ts t (record { schema = 0; tags = 0; columns = 0 })

-- a sheet without its policies: by value, its tables in a book
pub record FrontIs (f : Facts) (b : List ℕ) (sheet : Sheet) : Type 0 where
  pub facts : FactsAre sheet f
  pub few : length sheet.tables ≤ 16
  pub tables : TablesIn b sheet.tables
  pub bare : facts_of sheet ≡ sheet

-- writing left a book's cells below n as they were, and its length
pub record KeptBelow (n : ℕ) (before after : List ℕ) : Type 0 where
  pub length : length after ≡ length before
  pub cells : (i : ℕ) → i < n → get_or after i 0 ≡ get_or before i 0

-- the cells of a book from `from` on say where clauses begin
pub record StartsAt (s : List ℕ) (facts : Sheet) (b : List ℕ) (from : ℕ) (cs : List (List Atom)) : Type 0 where
  pub at : (i : ℕ) → i < length cs → (q : ℕ) × (clause facts s (get_or b (from + i) 0) ≡ found (get_or cs i []) q)

-- policies in a book
pub record PoliciesIn (s : List ℕ) (facts : Sheet) (b : List ℕ) (ps : List sheets.Policy) : Type 0 where
  pub at : (i : ℕ) → i < length ps → PolicyAt s facts (get_or ps i (record { restrictive = false; commands = 0; selector = all; clauses = [] })) b (48 + i * 12)

-- "zero bits to the end of the byte and nothing more"
abbrev pub Closes : List ℕ → ℕ → Bool → Type 0
Closes s p r = on_read (padding s p) (λ u q. nothing_more s q) ≡ cond r (found tt (p + (8 - p % 8) % 8)) (refused 10)

-- Refusal 11, piece by piece: a table, a policy
abbrev pub table_serves : Sheet → sheets.Policy → ℕ → Bool
table_serves sheet p t = cond (matches t (table_at sheet t) p.selector) (columns_held (table_at sheet t) p) true

abbrev pub policy_serves : Sheet → sheets.Policy → Bool
policy_serves sheet p = every (table_serves sheet p) (numbers_from 0 (length sheet.tables))

-- the columns that serve a policy with the selector x, as far as the first n tables ask for them
abbrev pub Shared : Sheet → Selector → ℕ → ℕ → Type 0
Shared facts x n columns = (p : sheets.Policy) → p.selector ≡ x → every (every (atom_held columns)) p.clauses ≡ every (table_serves facts p) (numbers_from 0 n)
