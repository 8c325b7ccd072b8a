-- What is written of each line of the read-out, for a sheet that is accepted. (01, "The read-out")
use Rattle.std.specs.Prelude.{ℕ, ◌/◌, ◌%◌, ◌<◌, ◌≤◌, ◌≡◌, cond, List, length, leb}
use Rattle.lists.specs.Lists.{numbers_from, each, Each}
use Rattle.meaning.specs.Sheets.{Sheet, branch_count}
use Rattle.meaning.specs.Text.{ascii}
use Rattle.meaning.specs.ReadOut.{Verdicts, Line}
use Rattle.meaning.specs.Allowed.{SheetAllowed}
use Rattle.text.specs.declared.Writer.{Writer}
use Rattle.text.specs.Wrote.{Adds}

-- v is w after writing a text, of which P holds
pub record Writes (P : List ℕ → Type 0) (w v : Writer) : Type 0 where
  pub text : List ℕ
  pub adds : Adds w text v
  pub says : P text

-- "N, live or dead, isolated or `leaks a b`"; "Where N is over 256 the line is `0 S refused 13`."
abbrev pub IsRest : Sheet → ℕ → ℕ → List ℕ → Type 0
IsRest sheet t command rest = cond (leb (branch_count sheet t command) 256) (Verdicts sheet t command rest) (rest ≡ ascii "refused 13")

-- for a table and a command of an accepted sheet
abbrev pub Asked : Sheet → ℕ → ℕ → Type 0 → Type 0
Asked sheet t command P = SheetAllowed sheet → t < length sheet.tables → command ≤ 3 → P

-- the first n lines
pub record FirstLines (sheet : Sheet) (n : ℕ) (text : List ℕ) : Type 0 where
  pub lines : List (List ℕ)
  pub each_line : Each (λ k l. Line sheet (k / 4) (k % 4) l) (numbers_from 0 n) lines
  pub text_is : text ≡ each (λ l. l) lines
