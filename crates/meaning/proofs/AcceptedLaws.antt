-- In an accepted sheet a table's columns are columns of the sheet: so a table's row is a row.
use Prim.Native.Nat.{ℕ, zero, suc, ◌-◌, ◌/◌, ◌%◌, ◌^◌}
use native.Mathlib.Nat.{zero-div}
use native.Mathlib.Omega.{arith}
use mathlib.Core.Path.{◌≡◌, refl, sym, ap, ◌∙◌}
use mathlib.Core.Bool.{Bool, true, false, cond, ◌&&◌, true≢false}
use mathlib.Core.List.{List, [], ◌∷◌}
use lib.ListN.{length, get_or}
use lib.Dec.{ltb, eqb}
use borrow.Author.Tests.{ltb-true, eqb-true}
use Rattle.meaning.specs.declared.Content.TheVariants.{Null}
use Rattle.lists.specs.Lists.{All}
use Rattle.meaning.specs.Values.{Contents, with}
use Rattle.meaning.specs.Sheets.{member, Table, Sheet, table_at, holds, admits}
use Rattle.meaning.specs.Allowed.{TableAllowed}
use Rattle.meaning.specs.Questions.{IsRow, IsAnyRow, IsSession}
use Rattle.meaning.specs.Steps.{NormalSheet}
use Rattle.meaning.specs.Demands.{Accepted}
use Rattle.meaning.proofs.SheetLaws.{accepted_as}
use Rattle.lists.proofs.BoolLaws.{both}
use Rattle.lists.proofs.NumberLaws.{every_at}
use Rattle.meaning.proofs.NormalLaws.{normal_admits_any}

held_below : (c : ℕ) (ts : List Table) → All (TableAllowed c) ts → (t i : ℕ) → holds (get_or ts t (record { schema = 0; tags = 0; columns = 0 })) i ≡ true → ltb i c ≡ true
held_below c [] h t i e = absurd (empty (ltb i 16) e)
  where
    empty : (b : Bool) → (b && eqb (0 / 2 ^ (16 - 1 - i) % 2) 1) ≡ true → ⊥
    empty true e = let z = eqb-true (0 / 2 ^ (16 - 1 - i) % 2) 1 e in let y : 0 / 2 ^ (16 - 1 - i) ≡ 0 = zero-div (2 ^ (16 - 1 - i)) in omega (arith, z, y)
    empty false e = true≢false (sym e)
held_below c (x ∷ ts) h zero i e =
    let l = ltb-true i 16 (both (ltb i 16) _ e).0 in
    sym (ap (λ b. cond b (ltb i c) true) e) ∙ every_at (λ j. cond (member 16 x.columns j) (ltb j c) true) 0 16 i h.0.3 (omega arith) (omega arith)
held_below c (x ∷ ts) h (suc t) i e = held_below c ts h.1 t i e

accepted_held : (s : List ℕ) (sheet : Sheet) → Accepted s sheet → (t i : ℕ) → holds (table_at sheet t) i ≡ true → ltb i (length sheet.columns) ≡ true
accepted_held s sheet a t i = held_below (length sheet.columns) sheet.tables (accepted_as s sheet a).allowed.each_table t i

pub row_is_row : (s : List ℕ) (sheet : Sheet) → Accepted s sheet → (t : ℕ) (row : Contents) → IsRow sheet t row → IsAnyRow sheet row
row_is_row s sheet a t row r = record { fits = r.fits; absent = λ i e. go i e (holds (table_at sheet t) i) refl }
  where
    go : (i : ℕ) → ltb i (length sheet.columns) ≡ false → (b : Bool) → holds (table_at sheet t) i ≡ b → row i ≡ Null
    go i e true h = absurd (true≢false (sym (accepted_held s sheet a t i h) ∙ e))
    go i e false h = r.absent i h

-- Demand 2: "A sheet's normal form admits a row for a session under a command exactly when the sheet does."
pub normal_admits : (s : List ℕ) (sheet normal : Sheet) → Accepted s sheet → NormalSheet sheet normal →
    (t command : ℕ) (row session : Contents) → IsRow sheet t row → IsSession sheet session → admits normal t command (with row session) ≡ admits sheet t command (with row session)
normal_admits s sheet normal a n t command row session r k = normal_admits_any sheet row session (row_is_row s sheet a t row r) k normal n t command
