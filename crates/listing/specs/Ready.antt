-- What is at hand when the rows are listed, and what is still asked then.
use Rattle.std.specs.Prelude.{ℕ, ◌≤◌, ◌≡◌, List, Result, Ok}
use Rattle.lists.specs.Lists.{keep, each}
use Rattle.refusals.specs.declared.Refusal.{Refusal}
use Rattle.meaning.specs.declared.Content.TheVariants.{Null}
use Rattle.meaning.specs.declared.Listed.{Listed}
use Rattle.meaning.specs.Values.{Contents, with}
use Rattle.meaning.specs.Sheets.{Sheet, kind_of, table_at, holds, permissive, restrictive, admits}
use Rattle.meaning.specs.Packed.{packed}
use Rattle.meaning.specs.Reading.{Row, found, read_session, read_rows}
use Rattle.meaning.specs.Replies.{Asked, asks, formed, ◌>>=◌, Replies, Untouched, WritesRows}
use Rattle.rows.specs.declared.form.Form.{Form}
use Rattle.rows.specs.Held.{Fields}
use Rattle.admission.specs.declared.plan.Plan.{Plan}
use Rattle.admission.specs.Plan.{Kinds, PlanLaid}

-- the rows of a list that a session is admitted to
abbrev pub admitted : Sheet → ℕ → ℕ → Contents → List Row → List Row
admitted sheet t command key rows = keep (λ r. admits sheet t command (with r.columns key)) rows

-- what a listing asks of a sheet that is there: 15, "session or row list not of the form above"; else the admitted rows
unfoldable pub asked_of : Sheet → ℕ → ℕ → List ℕ → List ℕ → Asked (List Row)
asked_of sheet t command session list = do
  key ← formed (read_session sheet session)
  rows ← formed (read_rows sheet (table_at sheet t) list)
  asks (admitted sheet t command key rows)

-- the reply to what is asked, and what the output holds then
abbrev pub Lists : Asked (List Row) → List ℕ → Result Listed Refusal → List ℕ → Type 0
Lists asked out reply after = Replies asked (λ n. Untouched n reply out after) (λ rows. WritesRows rows reply out after)

-- a plan of the policies that count for a table and a command
abbrev pub PlanOf : Sheet → ℕ → ℕ → Plan → Type 0
PlanOf sheet t command plan = PlanLaid (kind_of sheet) (packed sheet) plan (each (λ cs. cs) (permissive sheet t command)) (restrictive sheet t command)

-- the form that the rows are read by is the table's, the plan is that of the table and command, and the variables that are not of the row hold
-- what they hold for the session
pub record Ready (plan : Plan) (form : Form) (sheet : Sheet) (t command : ℕ) (key now : Contents) : Type 0 where
  pub first : form.first ≡ 0
  pub fields : Fields form (holds (table_at sheet t)) sheet.columns
  pub kind : Kinds (kind_of sheet) form.kinds
  pub laid : PlanOf sheet t command plan
  pub others : (v : ℕ) → form.n ≤ v → now v ≡ with (λ c. Null) key v

-- of a list that is of the form, the admitted rows are written, when all is ready
abbrev pub WritesAdmitted : (plan : Plan) (form : Form) (sheet : Sheet) (now : Contents) (list out : List ℕ) → Listed → List ℕ → Type 0
WritesAdmitted plan form sheet now list out reply after =
    (t command : ℕ) (key : Contents) (rows : List Row) (q : ℕ) → Ready plan form sheet t command key now → read_rows sheet (table_at sheet t) list ≡ found rows q
    → WritesRows (admitted sheet t command key rows) (Ok reply) out after
