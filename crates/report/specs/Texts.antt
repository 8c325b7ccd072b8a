-- The parts of the read-out's lines. (01, "The read-out")
use Rattle.std.specs.Prelude.{ℕ, List, ◌∷◌, ◌++◌, get_or}
use Rattle.meaning.specs.declared.Life.{Life}
use Rattle.meaning.specs.declared.Isolation.{Isolation}
use Rattle.meaning.specs.Text.{ascii}
use Rattle.meaning.specs.ReadOut.{decimal, life_text, isolation_text}

-- "N, live or dead, isolated or `leaks a b`"
abbrev pub verdicts_text : ℕ → Life → Isolation → List ℕ
verdicts_text n life isolation = decimal n ++ (ascii " " ++ (life_text life ++ (ascii " " ++ isolation_text isolation)))

-- "each command in the order S, I, U, D"
unfoldable pub letter_of : ℕ → ℕ
letter_of command = get_or (ascii "SIUD") command 0

-- "Fields: table, command letter"
abbrev pub head_text : ℕ → ℕ → List ℕ
head_text table command = decimal table ++ (ascii " " ++ (letter_of command ∷ ascii " "))

-- "The first line gives T and P."
abbrev pub opening_text : ℕ → ℕ → List ℕ
opening_text tables policies = ascii "tables " ++ (decimal tables ++ (ascii " policies " ++ (decimal policies ++ ascii "\n")))

-- "A refused sheet prints one line, `refused` and the number."
abbrev pub refusal_text : ℕ → List ℕ
refusal_text n = ascii "refused " ++ (decimal n ++ ascii "\n")
