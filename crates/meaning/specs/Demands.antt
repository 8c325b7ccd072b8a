-- The customer's three demands, as statements. Each is to have one theorem.
use Rattle.std.specs.Prelude.{ℕ, ◌<◌, ◌≤◌, ◌≡◌, ◌↔◌, List, length, take, Result, Ok, Err}
use Rattle.refusals.specs.declared.Refusal.{Refusal}
use Rattle.refusals.specs.declared.Refusal.TheVariants.{LongerForm}
use Rattle.meaning.specs.declared.Listed.{Listed}
use Rattle.lists.specs.Lists.{any, All, Keeps}
use Rattle.meaning.specs.Values.{Contents, with, OtherTenant}
use Rattle.meaning.specs.Atoms.{clause_met}
use Rattle.meaning.specs.Sheets.{Sheet, table_at, admits, branches, branch_count}
use Rattle.meaning.specs.Packed.{packed, packed_session, packed_row}
use Rattle.meaning.specs.Reading.{found, Row, read_sheet, read_session, read_rows}
use Rattle.meaning.specs.Allowed.{SheetAllowed}
use Rattle.meaning.specs.Questions.{IsRow, IsSession, Admitted, IsIsolated, Leak}
use Rattle.meaning.specs.Steps.{NormalSheet}
use Rattle.meaning.specs.Replies.{row_bytes, over, ListingReply, NormalFormReply, DeadReply, IsolatedReply, CoversReply, BranchesReply}

-- "show that no two replies can satisfy it"
abbrev pub Unique : {R : Type 0} → (R → Type 0) → Type 0
Unique P = (r r' : _) → P r → P r' → r ≡ r'

-- there is a reply, and no other
abbrev pub Determined : {R : Type 0} → (R → Type 0) → Type 0
Determined P = (r : _) × P r × Unique P

-- Demand 1: "Every sheet, session, row list and question gets a reply .. Bad input is refused by a numbered reason, in a fixed order, with the lent output untouched."
pub record Demand1 : Type 0 where
  pub listing : (s : List ℕ) (t command : ℕ) (session list out : List ℕ) → Determined {R = Result Listed Refusal × List ℕ} (λ r. ListingReply s t command session list out r.0 r.1)
  pub normal_form : (s out : List ℕ) → Determined {R = Result ℕ Refusal × List ℕ} (λ r. NormalFormReply s out r.0 r.1)
  pub dead : (s : List ℕ) (t command : ℕ) → Determined (DeadReply s t command)
  pub isolated : (s : List ℕ) (t command : ℕ) → Determined (IsolatedReply s t command)
  pub covers : (s : List ℕ) (a b : ℕ) → Determined (CoversReply s a b)
  pub count : (s : List ℕ) (t command : ℕ) → Determined (BranchesReply s t command)
  pub listing_untouched : (s : List ℕ) (t command : ℕ) (session list out after : List ℕ) (e : Refusal) → ListingReply s t command session list out (Err e) after → after ≡ out
  pub normal_form_untouched : (s out after : List ℕ) (e : Refusal) → NormalFormReply s out (Err e) after → after ≡ out

-- the bytes are accepted as this sheet
abbrev pub Accepted : List ℕ → Sheet → Type 0
Accepted s sheet = (p : ℕ) × (read_sheet s ≡ found sheet p)

-- Demand 2: "A sheet's normal form admits a row for a session under a command exactly when the sheet does. Listing hands out the admitted rows, in order, and no others."
pub record Demand2 : Type 0 where
  pub normal_admits : (s : List ℕ) (sheet normal : Sheet) → Accepted s sheet → NormalSheet sheet normal →
      (t command : ℕ) (row session : Contents) → IsRow sheet t row → IsSession sheet session → admits normal t command (with row session) ≡ admits sheet t command (with row session)
  pub normal_accepted : (s : List ℕ) (sheet normal : Sheet) → Accepted s sheet → NormalSheet sheet normal → Accepted (packed normal) normal
  -- "Normalising twice gives the same bytes as once."
  pub twice_is_once : (s out after out' after' : List ℕ) (n m : ℕ) → NormalFormReply s out (Ok n) after → NormalFormReply (take n after) out' (Ok m) after' → take m after' ≡ take n after
  pub never_longer : (s : List ℕ) (sheet normal : Sheet) → Accepted s sheet → NormalSheet sheet normal → length (packed normal) ≤ length s
  pub never_16 : (s out after : List ℕ) → NormalFormReply s out (Err LongerForm) after → ⊥
  pub listing_exact : (s : List ℕ) (sheet : Sheet) (t command : ℕ) (session list out after : List ℕ) (key : Contents) (rows : List Row) (p q : ℕ) (reply : Listed) →
      Accepted s sheet → read_session sheet session ≡ found key p → read_rows sheet (table_at sheet t) list ≡ found rows q →
      ListingReply s t command session list out (Ok reply) after →
      (kept : List Row) × Keeps (λ r. Admitted sheet t command r.columns key) rows kept × (reply.length ≡ length (row_bytes kept)) × (reply.count ≡ length kept) × (after ≡ over (row_bytes kept) out)

-- numbers that are bytes
abbrev pub AreBytes : List ℕ → Type 0
AreBytes s = All (λ b. b < 256) s

-- The format has one way of writing a sheet: what is accepted is the sheet's packed form, and so are sessions and rows; and what is allowed is
-- accepted, packed.
pub record Canonical : Type 0 where
  pub sheets : (s : List ℕ) (sheet : Sheet) → AreBytes s → Accepted s sheet → packed sheet ≡ s
  pub allowed : (s : List ℕ) (sheet : Sheet) → Accepted s sheet → SheetAllowed sheet
  pub accepted : (sheet : Sheet) → SheetAllowed sheet → Accepted (packed sheet) sheet
  pub sessions : (sheet : Sheet) (s : List ℕ) (key : Contents) (p : ℕ) → AreBytes s → read_session sheet s ≡ found key p → packed_session sheet key ≡ s
  pub sessions_read : (sheet : Sheet) (key : Contents) → IsSession sheet key → (p : ℕ) × (read_session sheet (packed_session sheet key) ≡ found key p)
  pub rows : (sheet : Sheet) (t : ℕ) (list : List ℕ) (rs : List Row) (p : ℕ) → AreBytes list → read_rows sheet (table_at sheet t) list ≡ found rs p → All (λ r. packed_row sheet (table_at sheet t) r.columns ≡ r.bytes) rs

-- a session of some other tenant could see the row
abbrev pub OthersSee : Sheet → ℕ → ℕ → Contents → Row → Type 0
OthersSee sheet t command key r = (other : Contents) × OtherTenant key other × Admitted sheet t command r.columns other

-- Demand 3: "A table is called isolated for a command exactly when no row is admitted for two sessions of different tenants; else the first two clause
-- choices that leak are named. For an isolated table, two fills that agree once every row that a session of some other tenant could see is struck
-- out give one session the same rows, count and buffer."
pub record Demand3 : Type 0 where
  pub isolated_exact : (sheet : Sheet) (t command : ℕ) → IsIsolated sheet t command ↔ ((a b : ℕ) → Leak sheet t command a b → ⊥)
  pub listing_blind : (s : List ℕ) (sheet : Sheet) (t command : ℕ) (session : List ℕ) (key : Contents) (p : ℕ) →
      Accepted s sheet → IsIsolated sheet t command → read_session sheet session ≡ found key p →
      (one two out : List ℕ) (rows rows' struck : List Row) (q q' : ℕ) →
      read_rows sheet (table_at sheet t) one ≡ found rows q → read_rows sheet (table_at sheet t) two ≡ found rows' q' →
      Keeps (λ r. OthersSee sheet t command key r → ⊥) rows struck → Keeps (λ r. OthersSee sheet t command key r → ⊥) rows' struck →
      (reply reply' : Listed) (after after' : List ℕ) →
      ListingReply s t command session one out (Ok reply) after → ListingReply s t command session two out (Ok reply') after' →
      (reply.length ≡ reply'.length) × (reply.count ≡ reply'.count) × (after ≡ after')

-- "N is the sum .. times the product ..", and a row is admitted when a branch is met: the branches are the effective predicate
pub record Branching : Type 0 where
  pub counted : (sheet : Sheet) (t command : ℕ) → length (branches sheet t command) ≡ branch_count sheet t command
  pub admit : (sheet : Sheet) (t command : ℕ) (e : Contents) → any (clause_met e) (branches sheet t command) ≡ admits sheet t command e
