-- What the read-out program prints. (01, "The read-out")
use Rattle.std.specs.Prelude.{ℕ, zero, suc, ◌+◌, ◌*◌, ◌/◌, ◌%◌, ◌≡◌, cond, List, [], ◌∷◌, ◌++◌, length, get_or, ltb, leb}
use Rattle.meaning.specs.declared.Life.{Life}
use Rattle.meaning.specs.declared.Life.TheVariants.{Live, Dead}
use Rattle.meaning.specs.declared.Isolation.{Isolation}
use Rattle.meaning.specs.declared.Isolation.TheVariants.{Isolated, Leaks}
use Rattle.meaning.specs.Text.{ascii}
use Rattle.lists.specs.Lists.{numbers_from, each, Each}
use Rattle.meaning.specs.Sheets.{Sheet, branch_count}
use Rattle.meaning.specs.Reading.{Read, found, refused, read_sheet}
use Rattle.meaning.specs.Replies.{LifeOf, IsolationOf}

-- "all numbers are decimal": with at most so many digits
unfoldable pub decimal_in : ℕ → ℕ → List ℕ
decimal_in zero n = []
decimal_in (suc digits) n = cond (ltb n 10) [] (decimal_in digits (n / 10)) ++ ((48 + n % 10) ∷ [])

unfoldable pub decimal : ℕ → List ℕ
decimal n = decimal_in 20 n

abbrev pub life_text : Life → List ℕ
life_text Live = ascii "live"
life_text Dead = ascii "dead"

abbrev pub isolation_text : Isolation → List ℕ
isolation_text Isolated = ascii "isolated"
isolation_text (Leaks a b) = ascii "leaks " ++ (decimal a ++ (ascii " " ++ decimal b))

-- "N, live or dead, isolated or `leaks a b`"
unfoldable pub Verdicts : Sheet → ℕ → ℕ → List ℕ → Type 0
Verdicts sheet t command text =
    (life : Life) × (isolation : Isolation) × LifeOf sheet t command life × IsolationOf sheet t command isolation
    × (text ≡ decimal (branch_count sheet t command) ++ (ascii " " ++ (life_text life ++ (ascii " " ++ isolation_text isolation))))

-- "Fields: table, command letter, ..  Where N is over 256 the line is `0 S refused 13`."
pub record Line (sheet : Sheet) (t command : ℕ) (text : List ℕ) : Type 0 where
  pub rest : List ℕ
  pub verdicts : cond (leb (branch_count sheet t command) 256) (Verdicts sheet t command rest) (rest ≡ ascii "refused 13")
  pub text_is : text ≡ decimal t ++ (ascii " " ++ (get_or (ascii "SIUD") command 0 ∷ (ascii " " ++ (rest ++ ascii "\n"))))

-- "A line follows for each table, ascending, and each command in the order S, I, U, D"
pub record Lines (sheet : Sheet) (text : List ℕ) : Type 0 where
  pub lines : List (List ℕ)
  pub each_line : Each (λ n l. Line sheet (n / 4) (n % 4) l) (numbers_from 0 (length sheet.tables * 4)) lines
  pub text_is : text ≡ ascii "tables " ++ (decimal (length sheet.tables) ++ (ascii " policies " ++ (decimal (length sheet.policies) ++ (ascii "\n" ++ each (λ l. l) lines))))

-- "A refused sheet prints one line, `refused` and the number."
abbrev pub Printed : Read Sheet → List ℕ → Type 0
Printed (found sheet p) text = Lines sheet text
Printed (refused n) text = text ≡ ascii "refused " ++ (decimal n ++ ascii "\n")

unfoldable pub ReadOut : (sheet : List ℕ) → List ℕ → Type 0
ReadOut s text = Printed (read_sheet s) text
