-- An accepted sheet: what its bytes, directory and book say of the sheet that a clause sees.
use Rattle.std.specs.Prelude.{ℕ, suc, ◌<◌, ◌≤◌, ◌≡◌, List, [], ◌∷◌, length, get_or}
use Rattle.std.proofs.Common.{arith, Fits, w8}
use Rattle.std.proofs.Math.Facts.{Fits-lt-pow}
use Rattle.std.proofs.lemmas.List.{get_or_past}
use native.Mathlib.Decide.{dec_lt}
use mathlib.Core.Path.{sym, ap, subst, ◌∙◌}
use Rattle.meaning.specs.Sheets.{Sheet, Policy, policy_at}
use Rattle.meaning.specs.Packed.{packed}
use Rattle.meaning.specs.Reading.{found, read_sheet}
use Rattle.meaning.specs.Allowed.{SheetAllowed}
use Rattle.meaning.specs.Demands as m
use Rattle.meaning.proofs.SheetLaws.{accepted_as}
use Rattle.sheet.specs.declared.accepted.Accepted.TheInside.{Inside}
use Rattle.sheet.specs.Directory.{Described, Found}
use Rattle.sheet.specs.Accepted.{sheet_or_none, sheet_in, the_sheet, IsAccepted}

are_bytes : (s : List ℕ) → ((k : ℕ) → Fits w8 (get_or s k 0)) → m.AreBytes s
are_bytes [] h = tt
are_bytes (x ∷ xs) h = (Fits-lt-pow {w = w8} (h 0), are_bytes xs (λ k. h (suc k)))

sheet_found : (s : List ℕ) (sheet : Sheet) (p : ℕ) → read_sheet s ≡ found sheet p → sheet_in s ≡ sheet
unfolding sheet_in
sheet_found s sheet p e = ap sheet_or_none e

-- what `open` makes is accepted
pub opened : (a : Inside) → Found a.bytes.now a.directory a.book.now → ((k : ℕ) → Fits w8 (get_or a.bytes.now k 0)) → IsAccepted a
opened a f h =
    let e = sym (sheet_found a.bytes.now f.sheet f.end f.read) in
    let x = accepted_as a.bytes.now f.sheet (f.end, f.read) in
    record {
      allowed = subst SheetAllowed e x.allowed;
      packed = ap packed (sym e) ∙ x.same (are_bytes a.bytes.now h);
      accepted = (f.end, f.read ∙ ap (λ x. found x f.end) e);
      described = subst (λ x. Described a.bytes.now x a.directory a.book.now) e f.described;
    }

module _ {a : Inside} (i : IsAccepted a) {sheet : Sheet} (e : the_sheet a ≡ sheet) where
  -- what reading found out about the sheet that a clause sees
  pub described : Described (packed sheet) sheet a.directory a.book.now
  described = subst (λ x. Described (packed x) x a.directory a.book.now) e (subst (λ s. Described s (the_sheet a) a.directory a.book.now) (sym i.packed) i.described)

-- past the last policy there is no clause
module _ (sheet : Sheet) (p : ℕ) where
  pub no_clauses : length sheet.policies ≤ p → length (policy_at sheet p).clauses ≡ 0
  no_clauses l = ap (λ (x : Policy). length x.clauses) (get_or_past sheet.policies p _ l)

  pub policy_there : {k : ℕ} → k < length (policy_at sheet p).clauses → p < length sheet.policies
  policy_there {k} l = go (dec_lt p (length sheet.policies))
    where
      go : Dec (p < length sheet.policies) → p < length sheet.policies
      go (yes h) = h
      go (no h) = absurd (let z = no_clauses (omega arith) in omega arith)
