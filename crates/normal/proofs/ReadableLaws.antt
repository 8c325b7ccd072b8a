-- Where a selector starts and ends, what a sheet's kinds tell, and the clauses taken one after another.
use Rattle.std.specs.Prelude.{ℕ, ◌+◌, ◌-◌, ◌*◌, ◌<◌, ◌≤◌, ◌≡◌, Bool, true, false, cond, List, [], ◌∷◌, ◌++◌, length, take, get_or, leb, Ok, Err}
use Rattle.std.proofs.Common.{arith, sym, ap, subst, ◌∙◌, refl}
use native.Mathlib.Numerals.{add-one}
use lib.Seq.{take-suc, take_all}
use borrow.Author.Tests.{leb-true}
use Rattle.refusals.specs.declared.Refusal.{Refusal}
use Rattle.bits.specs.Bits.{number, bits}
use Rattle.bits.specs.Fields.{place_at}
use Rattle.bits.specs.declared.Place.{Place}
use Rattle.meaning.specs.Atoms.{Clause}
use Rattle.meaning.specs.Sheets.{Sheet, Selector}
use Rattle.meaning.specs.Packed.{selector_bits}
use Rattle.meaning.specs.Reading.{Read, found, refused, field, selector}
use Rattle.meaning.specs.Allowed.{SheetAllowed}
use Rattle.meaning.specs.Views.{KindsAre}
use Rattle.meaning.proofs.ReadLaws.{read_split}
use Rattle.meaning.proofs.CodecLaws.{found_end, not_found}
use Rattle.meaning.proofs.FormLaws.{selector_reads}
use Rattle.values.specs.Reads.{Answers}
use Rattle.values.proofs.ReadLaws.{got, lost}
use Rattle.asked.specs.Asked.{Ranges}
use Rattle.pruned.specs.Pruned.{Known, Tidied}
use Rattle.normal.proofs.KnownLaws.{kinds_known, standing}

-- a field that is found is wholly there
field_there : (w : ℕ) (s : List ℕ) (p v q : ℕ) → field w s p ≡ found v q → p + w ≤ length s * 8
unfolding field
field_there w s p v q e = go (leb (p + w) (length s * 8)) refl e
  where
    go : (b : Bool) → leb (p + w) (length s * 8) ≡ b → cond b (found (number s p w) (p + w)) (refused 2) ≡ found v q → p + w ≤ length s * 8
    go true f e = leb-true (p + w) (length s * 8) f
    go false f e = absurd (not_found e)

selector_there : (facts : Sheet) (s : List ℕ) (p : ℕ) (x : Selector) (q : ℕ) → selector 6 facts s p ≡ found x q → p ≤ length s * 8
unfolding selector
selector_there facts s p x q e =
    let r = read_split (field 3 s p) _ x q e in
    let l : p + 3 ≤ length s * 8 = field_there 3 s p r.0 r.1 r.2 in
    omega arith

-- a selector that is found stands from p to q
pub selector_stands : (facts : Sheet) (s : List ℕ) (p : ℕ) (x : Selector) (q : ℕ) → selector 6 facts s p ≡ found x q → (q ≤ length s * 8) × (bits (q - p) (number s p (q - p)) ≡ selector_bits x)
selector_stands facts s p x q e =
    let w = ((selector_reads facts 6).reads s p x q (selector_there facts s p x q e) e).1 in
    (w.inside, standing s p q (selector_bits x) w)

-- the reader's answer for a selector that is found is the place where it ends, and no refusal
module _ {m : Read Selector} {H : Bool → Selector → Type 0} {x : Selector} {q : ℕ} (h : m ≡ found x q) where
  pub ends_there : {b : Bool} {at : Place} → Answers m H (Ok (b, at)) → at ≡ place_at q
  ends_there a = let g = got a in g.here ∙ ap place_at (found_end (sym g.read ∙ h))

  pub not_stopped : {e : Refusal} → Answers m H (Err e) → ⊥
  not_stopped a = not_found (sym (lost a) ∙ h)

-- what a sheet's kinds tell
pub known : (sheet : Sheet) (kinds top : List ℕ) → KindsAre sheet kinds → length kinds ≡ 24 → SheetAllowed sheet → Ranges sheet top → Known sheet kinds top
known sheet kinds top k n allowed r = record { kinds_are = kinds_known sheet kinds k n allowed.keys.1; ranges = r }

-- one clause more is taken
module _ (sheet : Sheet) (cs : List Clause) where
  pub taken_more : (i : ℕ) (c : Clause) {tidy : List Clause} → i < length cs → c ≡ get_or cs i [] → Tidied sheet (take i cs ++ (c ∷ [])) tidy → Tidied sheet (take (i + 1) cs) tidy
  taken_more i c {tidy} h e t = subst (λ (x : List Clause). Tidied sheet x tidy) (ap (λ z. take i cs ++ (z ∷ [])) e ∙ sym (rw add-one (take-suc cs i [] h))) t

  pub taken_all : (i : ℕ) {tidy : List Clause} → length cs ≤ i → Tidied sheet (take i cs) tidy → Tidied sheet cs tidy
  taken_all i {tidy} h t = subst (λ (x : List Clause). Tidied sheet x tidy) (take_all i cs h) t
