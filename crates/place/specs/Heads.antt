-- The heads that are read at a lent place: of a sheet, and of an atom. (01, "The packed sheet")
use Rattle.std.specs.Prelude.{ℕ, ◌-◌, ◌≤◌, ◌<◌, ◌≡◌, Bool, true, cond, ◌&&◌, List, ltb, leb, eqb, Result, Ok, Err}
use Rattle.bits.specs.Fields.{pick, field_at}
use Rattle.bits.specs.declared.Place.{Place}
use Rattle.refusals.specs.declared.Refusal.{Refusal}
use Rattle.refusals.specs.declared.Refusal.TheVariants.{WrongCount, UnknownCode, NumberNotThere}
use Rattle.meaning.specs.Values.{kind_number}
use Rattle.meaning.specs.Sheets.{Sheet, kind_of}
use Rattle.meaning.specs.Reading.{Reader, ◌>>=◌, ◌>>◌, give, need, variable}
use Rattle.meaning.specs.Reading as reading
use Rattle.place.specs.declared.Counts.{Counts}
use Rattle.place.specs.declared.AtomHead.{AtomHead}

-- what follows a field read: its refusal, or what is made of its value and the place after it
abbrev pub on_field : Result (ℕ × Place) Refusal → (ℕ → Place → Result (ℕ × Place) Refusal) → Result (ℕ × Place) Refusal
on_field (Ok (n, q)) f = f n q
on_field (Err e) f = Err e

-- 4, "a count not allowed"
unfoldable pub count_at : List ℕ → Place → ℕ → ℕ → ℕ → Result (ℕ × Place) Refusal
count_at s p w low high = on_field (field_at s p w) (λ n q. pick (ltb n low) (Err WrongCount) (pick (ltb high n) (Err WrongCount) (Ok (n, q))))

-- the counts that the definitions read
pub record CountsAre (r : Counts) (n : reading.Counts) : Type 0 where
  pub columns : r.columns ≡ n.columns
  pub keys : r.keys ≡ n.keys
  pub tables : r.tables ≡ n.tables
  pub policies : r.policies ≡ n.policies

-- "0..16, 1..8, 1..16, 0..16": at most so many
pub record CountsFit (r : Counts) : Type 0 where
  pub columns : r.columns ≤ 16
  pub keys : r.keys ≤ 8
  pub tables : r.tables ≤ 16
  pub policies : r.policies ≤ 16

-- "column, key .. number not below its count" is 6, "an order operator on a non-integer" 7
abbrev pub is_there : ℕ → ℕ → ℕ → Bool
is_there v columns keys = cond (ltb v 16) (ltb v columns) (ltb (v - 16) keys)

abbrev pub fits_kind : ℕ → ℕ → Bool
fits_kind kind o = cond (leb 3 o && leb o 6) (eqb kind 0) true

-- a variable's number, judged: 5, "variable 24..31"; 6
abbrev pub variable_of : ℕ → ℕ → ℕ → Result ℕ Refusal
variable_of v columns keys = pick (ltb v 24) (pick (is_there v columns keys) (Ok v) (Err NumberNotThere)) (Err UnknownCode)

-- an atom's variable and operator, as the definition of an atom judges them before it reads what follows
unfoldable pub atom_head : Sheet → Reader AtomHead
atom_head facts = do
  v ← variable facts
  o ← reading.field 4
  need (ltb o 9) 5
  need (fits_kind (kind_number (kind_of facts v)) o) 7
  give (record { variable = v; operator = o })

-- "24 variables", and "operator 9..15" is none
abbrev pub HeadFits : AtomHead → Type 0
HeadFits h = (h.variable < 24) × (h.operator < 9)
