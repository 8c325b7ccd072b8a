-- Which reply is asked for: the refusals in their order, and then the rows.
use Prim.Native.Nat.{ℕ, ◌<◌, ◌≤◌}
use native.Mathlib.Omega.{arith}
use mathlib.Core.Path.{◌≡◌, refl, sym, subst, ◌∙◌}
use mathlib.Core.Bool.{Bool, true, false}
use mathlib.Core.List.{List}
use lib.ListN.{length}
use borrow.Author.Tests.{lt-ltb, le-ltb, le-leb, lt-leb}
use Rattle.std.specs.Prelude.{Result, Err}
use Rattle.refusals.specs.declared.Refusal.{Refusal}
use Rattle.refusals.specs.declared.Refusal.TheVariants.{NotAsked, NoRoom, WrongRows}
use Rattle.refusals.specs.Refusals.{number}
use Rattle.meaning.specs.declared.Listed.{Listed}
use Rattle.meaning.specs.Values.{Contents}
use Rattle.meaning.specs.Sheets.{Sheet, table_at}
use Rattle.meaning.specs.Packed.{packed}
use Rattle.meaning.specs.Reading.{Read, found, refused, Row, read_sheet, read_session, read_rows}
use Rattle.meaning.specs.Allowed.{SheetAllowed}
use Rattle.meaning.specs.Replies.{asks, asked_table, asked_rows, ListingReply}
use Rattle.meaning.proofs.SheetLaws.{allowed_accepted}
use Rattle.rows.specs.Held.{SessionHeld, SessionRead, is_found}
use Rattle.listing.specs.Ready.{admitted, asked_of, Lists}

-- the sheet's own refusals
pub refused_sheet : (s : List ℕ) (t command : ℕ) (session list out : List ℕ) (e : Refusal) → read_sheet s ≡ refused (number e) → ListingReply s t command session list out (Err e) out
unfolding ListingReply asked_rows asked_table
refused_sheet s t command session list out e h = rw h (refl, refl)

module _ (sheet : Sheet) (allowed : SheetAllowed sheet) (t command : ℕ) (session list out : List ℕ) where
  is : read_sheet (packed sheet) ≡ found sheet (allowed_accepted sheet allowed).0
  is = (allowed_accepted sheet allowed).1

  -- 12
  pub refused_table : length sheet.tables ≤ t → ListingReply (packed sheet) t command session list out (Err NotAsked) out
  unfolding ListingReply asked_rows asked_table
  refused_table h = rw (is, le-ltb t (length sheet.tables) h) (refl, refl)

  pub refused_command : t < length sheet.tables → 3 < command → ListingReply (packed sheet) t command session list out (Err NotAsked) out
  unfolding ListingReply asked_rows asked_table
  refused_command l h = rw (is, lt-ltb t (length sheet.tables) l, lt-leb command 3 h) (refl, refl)

  module _ (there : t < length sheet.tables) (few : command ≤ 3) where
    -- 14
    pub refused_short : length out < length list → ListingReply (packed sheet) t command session list out (Err NoRoom) out
    unfolding ListingReply asked_rows asked_table
    refused_short h = rw (is, lt-ltb t (length sheet.tables) there, le-leb command 3 few, lt-leb (length list) (length out) h) (refl, refl)

    -- then what is asked of the sheet
    pub asked_on : length list ≤ length out → (r : Result Listed Refusal) (after : List ℕ) → Lists (asked_of sheet t command session list) out r after → ListingReply (packed sheet) t command session list out r after
    unfolding ListingReply asked_rows asked_table asked_of
    asked_on h r after g = rw (is, lt-ltb t (length sheet.tables) there, le-leb command 3 few, le-leb (length list) (length out) h) g

module _ (sheet : Sheet) (t command : ℕ) (session list out : List ℕ) (before after : Contents) where
  -- 15, of the session
  pub refused_session : {r : Bool} → r ≡ false → SessionRead before after (read_session sheet session) r → Lists (asked_of sheet t command session list) out (Err WrongRows) out
  unfolding asked_of
  refused_session not h = go (read_session sheet session) refl (subst (SessionRead before after (read_session sheet session)) not h)
    where
      go : (m : Read Contents) → read_session sheet session ≡ m → SessionRead before after m false → Lists (asked_of sheet t command session list) out (Err WrongRows) out
      go (found key q) e h = absurd (let f = h.0 in let z : ◌≡◌ {A = ℕ} 0 1 = cc in omega arith)
      go (refused n) e h = rw e (refl, refl)

  -- the session's contents
  pub session_read : {r : Bool} → r ≡ true → SessionRead before after (read_session sheet session) r → (key : Contents) × (q : ℕ) × (read_session sheet session ≡ found key q) × SessionHeld key before after
  session_read is h = go (read_session sheet session) refl (subst (SessionRead before after (read_session sheet session)) is h)
    where
      go : (m : Read Contents) → read_session sheet session ≡ m → SessionRead before after m true → (key : Contents) × (q : ℕ) × (read_session sheet session ≡ found key q) × SessionHeld key before after
      go (found key q) e h = (key, q, e, h.1)
      go (refused n) e h = absurd (let z : ◌≡◌ {A = ℕ} 0 1 = cc in omega arith)

  module _ (key : Contents) (q : ℕ) (is : read_session sheet session ≡ found key q) where
    -- 15, of the row list
    pub refused_rows : {r : Bool} → r ≡ false → r ≡ is_found (read_rows sheet (table_at sheet t) list) → Lists (asked_of sheet t command session list) out (Err WrongRows) out
    unfolding asked_of
    refused_rows not h = go (read_rows sheet (table_at sheet t) list) refl (sym not ∙ h)
      where
        go : (m : Read (List Row)) → read_rows sheet (table_at sheet t) list ≡ m → false ≡ is_found m → Lists (asked_of sheet t command session list) out (Err WrongRows) out
        go (found rs p) e h = absurd (let z : ◌≡◌ {A = ℕ} 0 1 = cc in omega arith)
        go (refused n) e h = rw (is, e) (refl, refl)

    pub rows_read : {r : Bool} → r ≡ true → r ≡ is_found (read_rows sheet (table_at sheet t) list) → (rs : List Row) × (p : ℕ) × (read_rows sheet (table_at sheet t) list ≡ found rs p)
    rows_read so h = go (read_rows sheet (table_at sheet t) list) refl (sym so ∙ h)
      where
        go : (m : Read (List Row)) → read_rows sheet (table_at sheet t) list ≡ m → true ≡ is_found m → (rs : List Row) × (p : ℕ) × (read_rows sheet (table_at sheet t) list ≡ found rs p)
        go (found rs p) e h = (rs, p, e)
        go (refused n) e h = absurd (let z : ◌≡◌ {A = ℕ} 0 1 = cc in omega arith)

    -- else the admitted rows
    pub rows_asked : (rs : List Row) (p : ℕ) → read_rows sheet (table_at sheet t) list ≡ found rs p → (r : Result Listed Refusal) (written : List ℕ) → Lists (asks (admitted sheet t command key rs)) out r written → Lists (asked_of sheet t command session list) out r written
    unfolding asked_of
    rows_asked rs p e r written g = rw (is, e) g
