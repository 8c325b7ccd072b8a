-- A directory with its book, and the sheet that they describe.
use Rattle.std.specs.Prelude.{ℕ, ◌+◌, ◌*◌, ◌<◌, ◌≤◌, ◌≡◌, List, [], length, get_or, eqb, Result, Ok, Err}
use Rattle.meaning.specs.Sheets as m
use Rattle.meaning.specs.Sheets.{Sheet, table_at, policy_at}
use Rattle.meaning.specs.Reading.{found, refused, selector, clause, read_sheet}
use Rattle.meaning.specs.Allowed.{facts_of}
use Rattle.refusals.specs.declared.Refusal.{Refusal}
use Rattle.refusals.specs.Refusals.{number}
use Rattle.clauses.specs.Facts.{FactsAre}
use Rattle.sheet.specs.declared.Table.{Table}
use Rattle.sheet.specs.declared.Directory.{Directory}

-- a table's facts by value
abbrev pub table_of : Table → m.Table
table_of t = record { schema = t.schema; tags = t.tags; columns = t.columns }

-- a book has three cells for each table from cell 0 on, and twelve for each policy from cell 48 on
abbrev pub table_in : List ℕ → ℕ → m.Table
table_in b t = record { schema = get_or b (3 * t) 0; tags = get_or b (3 * t + 1) 0; columns = get_or b (3 * t + 2) 0 }

abbrev pub policy_cell : List ℕ → ℕ → ℕ → ℕ
policy_cell b p j = get_or b (48 + p * 12 + j) 0

-- a policy's fields from cell `from` of a book on, and where its selector and each of its clauses are read; they are read by the sheet's facts
pub record PolicyAt (s : List ℕ) (facts : Sheet) (p : m.Policy) (b : List ℕ) (from : ℕ) : Type 0 where
  pub restrictive : eqb (get_or b from 0) 1 ≡ p.restrictive
  pub commands : get_or b (from + 1) 0 ≡ p.commands
  pub selector : (q : ℕ) × (selector 6 facts s (get_or b (from + 2) 0) ≡ found p.selector q)
  pub count : get_or b (from + 3) 0 ≡ length p.clauses
  pub few : length p.clauses ≤ 8
  pub clauses : (i : ℕ) → i < length p.clauses → (q : ℕ) × (clause facts s (get_or b (from + 4 + i) 0) ≡ found (get_or p.clauses i []) q)

-- the directory d with the book b describes the sheet that stands packed in s
pub record Described (s : List ℕ) (sheet : Sheet) (d : Directory) (b : List ℕ) : Type 0 where
  pub facts : FactsAre sheet d.facts
  pub tables : length sheet.tables ≤ 16
  pub table : (t : ℕ) → t < length sheet.tables → table_in b t ≡ table_at sheet t
  pub policies : d.policies ≡ length sheet.policies
  pub few : length sheet.policies ≤ 16
  pub policy : (p : ℕ) → p < length sheet.policies → PolicyAt s (facts_of sheet) (policy_at sheet p) b (48 + p * 12)

-- the bytes s are an accepted sheet, which d describes with the book b
pub record Found (s : List ℕ) (d : Directory) (b : List ℕ) : Type 0 where
  pub sheet : Sheet
  pub end : ℕ
  pub read : read_sheet s ≡ found sheet end
  pub described : Described s sheet d b

-- what reading the bytes s answers: an accepted sheet's directory, or a refusal
abbrev pub SheetRead : List ℕ → List ℕ → Result Directory Refusal → Type 0
SheetRead s b (Ok d) = Found s d b
SheetRead s b (Err e) = read_sheet s ≡ refused (number e)
