-- Dead, isolated, covers. (01, "Values and meaning"; demand 3)
use Rattle.std.specs.Prelude.{ℕ, ◌<◌, ◌≡◌, Bool, true, false, List, [], length, get_or, ltb}
use Rattle.meaning.specs.declared.Content.TheVariants.{Null}
use Rattle.lists.specs.Lists.{All, One}
use Rattle.meaning.specs.Values.{Kind, integer, Contents, Fits, with, OtherTenant}
use Rattle.meaning.specs.Atoms.{Clause, clause_met}
use Rattle.meaning.specs.Sheets.{Sheet, table_at, holds, admits, branches}

-- "It holds null or a value of its kind": so does each variable that is there; the others hold nothing
pub record Holds (there : ℕ → Bool) (kinds : List Kind) (x : Contents) : Type 0 where
  pub fits : (i : ℕ) → Fits (get_or kinds i integer) (x i)
  pub absent : (i : ℕ) → there i ≡ false → x i ≡ Null

abbrev pub IsSession : Sheet → Contents → Type 0
IsSession sheet s = Holds (λ k. ltb k (length sheet.keys)) sheet.keys s

-- a row has "the columns that its table holds"
abbrev pub IsRow : Sheet → ℕ → Contents → Type 0
IsRow sheet t row = Holds (holds (table_at sheet t)) sheet.columns row

-- "Covers and normal form know no table: there a row holds null or a value in every column of the sheet."
abbrev pub IsAnyRow : Sheet → Contents → Type 0
IsAnyRow sheet row = Holds (λ c. ltb c (length sheet.columns)) sheet.columns row

-- the row is admitted for the session
pub record Admitted (sheet : Sheet) (t command : ℕ) (row session : Contents) : Type 0 where
  pub is_row : IsRow sheet t row
  pub is_session : IsSession sheet session
  pub admitted : admits sheet t command (with row session) ≡ true

-- "Dead: no row and session is admitted."
abbrev pub IsDead : Sheet → ℕ → ℕ → Type 0
IsDead sheet t command = (row session : Contents) → Admitted sheet t command row session → ⊥

abbrev pub IsLive : Sheet → ℕ → ℕ → Type 0
IsLive sheet t command = (row : Contents) × (session : Contents) × Admitted sheet t command row session

-- demand 3: "isolated for a command exactly when no row is admitted for two sessions of different tenants"
abbrev pub IsIsolated : Sheet → ℕ → ℕ → Type 0
IsIsolated sheet t command =
    (row one two : Contents) → Admitted sheet t command row one → Admitted sheet t command row two → OtherTenant one two → ⊥

-- "some row meets a with one session and b with a session of another tenant", for branches a and b
pub record Leak (sheet : Sheet) (t command a b : ℕ) : Type 0 where
  pub row : Contents
  pub one : Contents
  pub two : Contents
  pub is_row : IsRow sheet t row
  pub is_session_one : IsSession sheet one
  pub is_session_two : IsSession sheet two
  pub other_tenant : OtherTenant one two
  pub a_there : a < length (branches sheet t command)
  pub b_there : b < length (branches sheet t command)
  pub meets_a : clause_met (with row one) (get_or (branches sheet t command) a []) ≡ true
  pub meets_b : clause_met (with row two) (get_or (branches sheet t command) b []) ≡ true

-- "A leak is named by the first pair (a, b), a before b in importance"
pub record FirstLeak (sheet : Sheet) (t command a b : ℕ) : Type 0 where
  pub leak : Leak sheet t command a b
  pub no_earlier_a : (c d : ℕ) → c < a → Leak sheet t command c d → ⊥
  pub no_earlier_b : (d : ℕ) → d < b → Leak sheet t command a d → ⊥

-- "Clause p covers clause q when every row and session meeting q meets p."
abbrev pub ClauseCovers : Sheet → Clause → Clause → Type 0
ClauseCovers sheet p q =
    (row session : Contents) → IsAnyRow sheet row → IsSession sheet session → clause_met (with row session) q ≡ true → clause_met (with row session) p ≡ true

-- some row and session meets the clause
pub record LiveClause (sheet : Sheet) (c : Clause) : Type 0 where
  pub row : Contents
  pub session : Contents
  pub is_row : IsAnyRow sheet row
  pub is_session : IsSession sheet session
  pub meets : clause_met (with row session) c ≡ true

-- "Policy A covers policy B when each clause of B that some row and session meets is covered by a single clause of A."
abbrev pub PolicyCovers : Sheet → List Clause → List Clause → Type 0
PolicyCovers sheet ps qs = All (λ q. LiveClause sheet q → One (λ p. ClauseCovers sheet p q) ps) qs
