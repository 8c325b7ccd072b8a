-- What the verdicts ask of a table and command, and what their searches answer.
use Rattle.std.specs.Prelude.{ℕ, ◌+◌, ◌<◌, ◌≡◌, Bool, true, false, List, [], map, get_or, refl}
use Rattle.std.specs.Coded.{Coded, code_by, coded×, coded_ℕ}
use Rattle.std.specs.declared.result.Result.{Result}
use Rattle.std.specs.declared.result.Result.TheVariants.{Ok, Err}
use Rattle.lists.specs.Decides.{Decides}
use Rattle.meaning.specs.Values.{Contents, with}
use Rattle.meaning.specs.Atoms.{Clause, clause_met}
use Rattle.meaning.specs.Sheets.{Sheet, table_at, holds, branches, branch_count}
use Rattle.meaning.specs.Replies.{Asked, asks, refuses}
use Rattle.refusals.specs.declared.Refusal.{Refusal}
use Rattle.refusals.specs.Refusals.{number}
use Rattle.sheet.specs.Codes.{sheet_code}
use Rattle.asked.specs.Words.{seen}
use Rattle.asked.specs.Asked.{Meets, Both}

-- what is posed: a table and a command, of a sheet
pub record Posed : Type 0 where
  pub sheet : Sheet
  pub table : ℕ
  pub command : ℕ

abbrev pub posed_code : Coded Posed
posed_code = code_by (Sheet × (ℕ × ℕ)) (coded× sheet_code (coded× coded_ℕ coded_ℕ)) (λ q. (q.sheet, (q.table, q.command))) (λ p. record { sheet = p.0; table = p.1.0; command = p.1.1 }) (λ _. refl)

-- what a call asks stands as what is posed, or is refused
abbrev pub Puts : Sheet → ℕ → ℕ → Asked Sheet → Result Posed Refusal → Type 0
Puts sheet t command asked (Ok q) = (asked ≡ asks sheet) × (q ≡ record { sheet = sheet; table = t; command = command })
Puts sheet t command asked (Err e) = asked ≡ refuses (number e)

-- "Branches are numbered from 0": N, branch k, and the rows of the table
abbrev pub number_of : Posed → ℕ
number_of q = branch_count q.sheet q.table q.command

abbrev pub branch_at : Posed → ℕ → Clause
branch_at q k = get_or (branches q.sheet q.table q.command) k []

abbrev pub held_by : Posed → ℕ → Bool
held_by q = holds (table_at q.sheet q.table)

-- some row of the table and session meets branch k
abbrev pub Met : Posed → ℕ → Type 0
Met q k = Meets (held_by q) q.sheet (branch_at q k)

-- "some row meets a with one session and b with a session of another tenant"
abbrev pub OtherMeets : Posed → Clause → Clause → Type 0
OtherMeets q a b = Both (held_by q) q.sheet a b (λ m. m 16 ≡ m 24 → ⊥)

-- the answer says whether they do, for the branch that is laid as these atoms and branch b
abbrev pub TellsPair : Posed → ℕ → Clause → Bool → Type 0
TellsPair q b laid r = (a : ℕ) → a < number_of q → laid ≡ map (seen false) (branch_at q a) → Decides (OtherMeets q (branch_at q a) (branch_at q b)) r

-- whoever meets the branch holds the same in column c and in key 0
abbrev pub Anchored : Clause → ℕ → Type 0
Anchored branch c = (row one : Contents) → clause_met (with row one) branch ≡ true → row c ≡ one 0

-- the mark of branch k: one marked 0 is met by nobody; one marked c + 2 has its tenant in column c
pub record TellsMark (q : Posed) (k r : ℕ) : Type 0 where
  pub unmet : r ≡ 0 → Met q k → ⊥
  pub anchored : (c : ℕ) → r ≡ c + 2 → Anchored (branch_at q k) c

-- the marks of the first 256 branches
abbrev pub Marks : Posed → List ℕ → Type 0
Marks q marks = (k : ℕ) → k < 256 → k < number_of q → TellsMark q k (get_or marks k 0)
