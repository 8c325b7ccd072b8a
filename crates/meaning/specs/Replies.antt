-- What each public call replies, and what its output holds then, for every input. (01, "Refusal numbers")
use Rattle.std.specs.Prelude.{ℕ, ◌≡◌, Bool, cond, ◌&&◌, List, [], ◌∷◌, ◌++◌, length, drop, ltb, leb, Result, Ok, Err, IsOkAnd, IsErrAnd}
use Rattle.refusals.specs.declared.Refusal.{Refusal}
use Rattle.refusals.specs.Refusals.{number}
use Rattle.meaning.specs.declared.Listed.{Listed}
use Rattle.meaning.specs.declared.Life.{Life}
use Rattle.meaning.specs.declared.Life.TheVariants.{Live, Dead}
use Rattle.meaning.specs.declared.Isolation.{Isolation}
use Rattle.meaning.specs.declared.Isolation.TheVariants.{Isolated, Leaks}
use Rattle.meaning.specs.declared.Cover.{Cover}
use Rattle.meaning.specs.declared.Cover.TheVariants.{Covers, Misses}
use Rattle.lists.specs.Lists.{keep, each}
use Rattle.meaning.specs.Values.{with}
use Rattle.meaning.specs.Sheets.{Sheet, table_at, policy_at, admits, branch_count}
use Rattle.meaning.specs.Packed.{packed}
use Rattle.meaning.specs.Reading.{Read, found, refused, Row, read_sheet, read_session, read_rows}
use Rattle.meaning.specs.Questions.{IsDead, IsLive, IsIsolated, FirstLeak, PolicyCovers}
use Rattle.meaning.specs.Steps.{NormalSheet}

-- What a call finds in its inputs before it answers, or the first refusal.
pub data Asked (A : Type 0) : Type 0 where
  asks : A → Asked A
  refuses : ℕ → Asked A

infixr 10 ◌>>=◌
infixr 10 ◌>>◌
abbrev pub ◌>>=◌ : {A B : Type 0} → Asked A → (A → Asked B) → Asked B
◌>>=◌ (asks a) f = f a
◌>>=◌ (refuses n) f = refuses n

abbrev pub ◌>>◌ : {A B : Type 0} → Asked A → Asked B → Asked B
◌>>◌ (asks a) b = b
◌>>◌ (refuses n) b = refuses n

abbrev pub need : Bool → ℕ → Asked (Unit {0})
need ok n = cond ok (asks tt) (refuses n)

-- a whole sheet, by its own refusals
abbrev pub whole : {A : Type 0} → Read A → Asked A
whole (found a p) = asks a
whole (refused n) = refuses n

-- 15, "session or row list not of the form above"
abbrev pub formed : {A : Type 0} → Read A → Asked A
formed (found a p) = asks a
formed (refused n) = refuses 15

-- 12, "table or policy number asked not there, or command over 3"
unfoldable pub asked_table : List ℕ → ℕ → ℕ → Asked Sheet
asked_table s t command = do
  sheet ← whole (read_sheet s)
  need (ltb t (length sheet.tables) && leb command 3) 12
  asks sheet

-- 13, "N over 256 (dead and isolated only)"
unfoldable pub asked_verdict : List ℕ → ℕ → ℕ → Asked Sheet
asked_verdict s t command = do
  sheet ← asked_table s t command
  need (leb (branch_count sheet t command) 256) 13
  asks sheet

unfoldable pub asked_covers : List ℕ → ℕ → ℕ → Asked Sheet
asked_covers s a b = do
  sheet ← whole (read_sheet s)
  need (ltb a (length sheet.policies) && ltb b (length sheet.policies)) 12
  asks sheet

-- 14, "output shorter than the sheet (normal form)"
unfoldable pub asked_normal : List ℕ → List ℕ → Asked Sheet
asked_normal s out = do
  sheet ← whole (read_sheet s)
  need (leb (length s) (length out)) 14
  asks sheet

-- the rows that the session is admitted to, in the list's order; 14, "or than the row list (listing)", before 15
unfoldable pub asked_rows : List ℕ → ℕ → ℕ → List ℕ → List ℕ → List ℕ → Asked (List Row)
asked_rows s t command session list out = do
  sheet ← asked_table s t command
  need (leb (length list) (length out)) 14
  key ← formed (read_session sheet session)
  rows ← formed (read_rows sheet (table_at sheet t) list)
  asks (keep (λ r. admits sheet t command (with r.columns key)) rows)

-- The reply to what is asked: the answer, or the first refusal.
abbrev pub Replies : {A : Type 0} → Asked A → (ℕ → Type 0) → (A → Type 0) → Type 0
Replies (asks a) refusal answer = answer a
Replies (refuses n) refusal answer = refusal n

-- the reply is the refusal n
abbrev pub Refused : {A : Type 0} → ℕ → Result A Refusal → Type 0
Refused n reply = IsErrAnd reply (λ e. number e ≡ n)

-- "A listing writes the admitted rows' bytes one after another, in the list's order."
abbrev pub row_bytes : List Row → List ℕ
row_bytes rows = each (λ r. r.bytes) rows

-- "A normal form or listing returns its length, .. and leaves output beyond that length as found."
abbrev pub over : List ℕ → List ℕ → List ℕ
over bytes out = bytes ++ drop (length bytes) out

-- "a listing also its row count"
abbrev pub rows_listed : List Row → Listed
rows_listed rows = record { length = length (row_bytes rows); count = length rows }

-- a listing's answer: the rows' bytes are written
abbrev pub WritesRows : List Row → Result Listed Refusal → (out after : List ℕ) → Type 0
WritesRows rows reply out after = (reply ≡ Ok (rows_listed rows)) × (after ≡ over (row_bytes rows) out)

-- "A refusal .. changes no output byte."
abbrev pub Untouched : {A : Type 0} → ℕ → Result A Refusal → (out after : List ℕ) → Type 0
Untouched n reply out after = Refused n reply × (after ≡ out)

unfoldable pub ListingReply : (sheet : List ℕ) (table command : ℕ) (session rows out : List ℕ) → Result Listed Refusal → List ℕ → Type 0
ListingReply s t command session list out reply after =
    Replies (asked_rows s t command session list out) (λ n. Untouched n reply out after) (λ rows. WritesRows rows reply out after)

-- a normal form is written where it is no longer than its sheet; 16, "the normal form is longer than its sheet"
abbrev pub WritesForm : (fits : Bool) → Sheet → Result ℕ Refusal → (out after : List ℕ) → Type 0
WritesForm fits normal reply out after = cond fits ((reply ≡ Ok (length (packed normal))) × (after ≡ over (packed normal) out)) (Untouched 16 reply out after)

unfoldable pub NormalFormReply : (sheet out : List ℕ) → Result ℕ Refusal → List ℕ → Type 0
NormalFormReply s out reply after =
    Replies (asked_normal s out) (λ n. Untouched n reply out after)
    (λ sheet. (normal : Sheet) × NormalSheet sheet normal × WritesForm (leb (length (packed normal)) (length s)) normal reply out after)

abbrev pub LifeOf : Sheet → ℕ → ℕ → Life → Type 0
LifeOf sheet t command Live = IsLive sheet t command
LifeOf sheet t command Dead = IsDead sheet t command

unfoldable pub DeadReply : (sheet : List ℕ) (table command : ℕ) → Result Life Refusal → Type 0
DeadReply s t command reply = Replies (asked_verdict s t command) (λ n. Refused n reply) (λ sheet. IsOkAnd reply (LifeOf sheet t command))

abbrev pub IsolationOf : Sheet → ℕ → ℕ → Isolation → Type 0
IsolationOf sheet t command Isolated = IsIsolated sheet t command
IsolationOf sheet t command (Leaks a b) = FirstLeak sheet t command a b

unfoldable pub IsolatedReply : (sheet : List ℕ) (table command : ℕ) → Result Isolation Refusal → Type 0
IsolatedReply s t command reply = Replies (asked_verdict s t command) (λ n. Refused n reply) (λ sheet. IsOkAnd reply (IsolationOf sheet t command))

abbrev pub CoverOf : Sheet → ℕ → ℕ → Cover → Type 0
CoverOf sheet a b Covers = PolicyCovers sheet (policy_at sheet a).clauses (policy_at sheet b).clauses
CoverOf sheet a b Misses = PolicyCovers sheet (policy_at sheet a).clauses (policy_at sheet b).clauses → ⊥

unfoldable pub CoversReply : (sheet : List ℕ) (a b : ℕ) → Result Cover Refusal → Type 0
CoversReply s a b reply = Replies (asked_covers s a b) (λ n. Refused n reply) (λ sheet. IsOkAnd reply (CoverOf sheet a b))

unfoldable pub BranchesReply : (sheet : List ℕ) (table command : ℕ) → Result ℕ Refusal → Type 0
BranchesReply s t command reply = Replies (asked_table s t command) (λ n. Refused n reply) (λ sheet. reply ≡ Ok (branch_count sheet t command))

-- "A refusal returns its number and zeros": the numbers that a host sees
abbrev pub listed_numbers : Result Listed Refusal → List ℕ
listed_numbers (Ok r) = 0 ∷ r.length ∷ r.count ∷ []
listed_numbers (Err e) = number e ∷ 0 ∷ 0 ∷ []

abbrev pub written_numbers : Result ℕ Refusal → List ℕ
written_numbers (Ok length) = 0 ∷ length ∷ []
written_numbers (Err e) = number e ∷ 0 ∷ []

abbrev pub life_numbers : Result Life Refusal → List ℕ
life_numbers (Ok Live) = 0 ∷ 0 ∷ []
life_numbers (Ok Dead) = 0 ∷ 1 ∷ []
life_numbers (Err e) = number e ∷ 0 ∷ []

abbrev pub isolation_numbers : Result Isolation Refusal → List ℕ
isolation_numbers (Ok Isolated) = 0 ∷ 0 ∷ 0 ∷ 0 ∷ []
isolation_numbers (Ok (Leaks a b)) = 0 ∷ 1 ∷ a ∷ b ∷ []
isolation_numbers (Err e) = number e ∷ 0 ∷ 0 ∷ 0 ∷ []

abbrev pub cover_numbers : Result Cover Refusal → List ℕ
cover_numbers (Ok Covers) = 0 ∷ 1 ∷ []
cover_numbers (Ok Misses) = 0 ∷ 0 ∷ []
cover_numbers (Err e) = number e ∷ 0 ∷ []

abbrev pub branch_numbers : Result ℕ Refusal → List ℕ
branch_numbers (Ok n) = 0 ∷ n ∷ []
branch_numbers (Err e) = number e ∷ 0 ∷ []
