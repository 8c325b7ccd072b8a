-- The facts of a sheet that clauses are read by, and the columns that an atom uses.
use Rattle.std.specs.Prelude.{ℕ, ◌≡◌, Bool, true, cond, ◌∷◌, length, ltb}
use Rattle.lists.specs.Lists.{every}
use Rattle.meaning.specs.Atoms.{Atom}
use Rattle.meaning.specs.Sheets.{Sheet, member, second}
use Rattle.meaning.specs.Views.{KindsAre}
use Rattle.clauses.specs.declared.Facts.{Facts}

-- the counts and kinds of a sheet
pub record FactsAre (sheet : Sheet) (f : Facts) : Type 0 where
  pub columns : f.columns ≡ length sheet.columns
  pub keys : f.keys ≡ length sheet.keys
  pub tables : f.tables ≡ length sheet.tables
  pub kinds : KindsAre sheet f.kinds

-- refusal 11 of a variable: a column that the set holds, or a key; and of an atom
abbrev pub column_held : ℕ → ℕ → Bool
column_held columns v = cond (ltb v 16) (member 16 columns v) true

abbrev pub atom_held : ℕ → Atom → Bool
atom_held columns a = every (column_held columns) (a.variable ∷ second a.operator)
