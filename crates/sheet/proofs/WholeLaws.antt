-- The whole sheet: its end, its fields in order, and its refusals 1, 10 and 11.
use Prim.Native.Nat.{ℕ, zero, suc, ◌+◌, ◌-◌, ◌*◌, ◌/◌, ◌%◌, ◌<◌, ◌≤◌}
use native.Mathlib.Omega.{arith}
use native.Mathlib.Nat.{zero-div}
use mathlib.Core.Path.{◌≡◌, refl, sym, ap, ◌∙◌, subst}
use mathlib.Core.Bool.{Bool, true, false, ◌&&◌}
use mathlib.Core.List.{List, []}
use lib.ListN.{length, get_or, get_or-eq_default}
use lib.Dec.{leb, eqb}
use borrow.Author.Tests.{le-leb, lt-leb, eq-eqb}
use Rattle.lists.specs.Lists.{every}
use Rattle.std.specs.Prelude.{Result}
use Rattle.std.specs.Result.{IsErrAnd}
use Rattle.std.proofs.lemmas.Result.{err_from_is_err_and}
use Rattle.refusals.specs.declared.Refusal.{Refusal}
use Rattle.refusals.specs.Refusals as refusals
use Rattle.bits.specs.Bits.{bit_at, number}
use Rattle.meaning.specs.Sheets.{Sheet, tables_serve}
use Rattle.meaning.specs.Sheets as sheets
use Rattle.meaning.specs.Reading.{Read, found, refused, on_read, counts, table_facts, policy, padding, nothing_more, sheet_fields, read_sheet, times}
use Rattle.meaning.specs.Reading as m
use Rattle.clauses.specs.declared.Facts.{Facts}
use Rattle.sheet.specs.declared.Directory.{Directory}
use Rattle.sheet.specs.Directory.{PolicyAt, Described, SheetRead}
use Rattle.sheet.specs.Fronts.{FrontIs, KeptBelow, PoliciesIn, policy_serves, Closes}
use Rattle.sheet.proofs.PolicyLaws.{table_kept}

-- past the end there are zero bits
number_past : (s : List ℕ) (p w : ℕ) → length s * 8 ≤ p → number s p w ≡ 0
unfolding number bit_at
number_past s p zero h = refl
number_past s p (suc w) h =
    let far : length s ≤ (p + w) / 8 = omega arith in
    rw (number_past s p w h, get_or-eq_default s 0 far, zero-div) (omega arith)

pub number_same : (s : List ℕ) {p q w v : ℕ} → p ≡ q → w ≡ v → number s p w ≡ number s q v
number_same s e h = cc

module _ (s : List ℕ) (p : ℕ) where
  -- the two tests of a sheet's end
  both : (a b : Bool) → eqb (number s p ((8 - p % 8) % 8)) 0 ≡ a → leb (length s * 8) (p + (8 - p % 8) % 8) ≡ b → Closes s p (a && b)
  unfolding padding nothing_more
  both true true e h = rw (e, h)
  both true false e h = rw (e, h)
  both false b e h = rw e

  pub closes_past : length s ≤ p / 8 → Closes s p true
  closes_past h = both true true (eq-eqb (number s p ((8 - p % 8) % 8)) 0 (number_past s p ((8 - p % 8) % 8) (omega arith))) (le-leb (length s * 8) (p + (8 - p % 8) % 8) (omega arith))

  pub closes_open : p % 8 < 1 → p / 8 < length s → Closes s p false
  closes_open z h = go (eqb (number s p ((8 - p % 8) % 8)) 0) refl
    where
      go : (a : Bool) → eqb (number s p ((8 - p % 8) % 8)) 0 ≡ a → Closes s p false
      go true e = both true false e (lt-leb (length s * 8) (p + (8 - p % 8) % 8) (omega arith))
      go false e = both false (leb (length s * 8) (p + (8 - p % 8) % 8)) e refl

  pub closes_more : 1 ≤ p % 8 → p / 8 + 1 < length s → Closes s p false
  closes_more z h = go (eqb (number s p ((8 - p % 8) % 8)) 0) refl
    where
      go : (a : Bool) → eqb (number s p ((8 - p % 8) % 8)) 0 ≡ a → Closes s p false
      go true e = both true false e (lt-leb (length s * 8) (p + (8 - p % 8) % 8) (omega arith))
      go false e = both false (leb (length s * 8) (p + (8 - p % 8) % 8)) e refl

  pub closes_here : (v : ℕ) → 1 ≤ p % 8 → length s ≤ p / 8 + 1 → v ≡ number s p (8 - p % 8) → Closes s p (eqb v 0)
  closes_here v z h e = go (eqb v 0) refl
    where
      same : (8 - p % 8) % 8 ≡ 8 - p % 8
      same = omega arith

      go : (a : Bool) → eqb v 0 ≡ a → Closes s p a
      go a k = subst (Closes s p) (and_true a) (both a true (ap (λ w. eqb (number s p w) 0) same ∙ ap (λ x. eqb x 0) (sym e) ∙ k) (le-leb (length s * 8) (p + (8 - p % 8) % 8) (omega arith)))
        where
          and_true : (a : Bool) → (a && true) ≡ a
          and_true true = refl
          and_true false = refl

-- the facts with policies
abbrev pub wholly : Sheet → List sheets.Policy → Sheet
wholly facts ps = record { columns = facts.columns; keys = facts.keys; tables = facts.tables; policies = ps }

abbrev pub nothing : sheets.Policy
nothing = record { restrictive = false; commands = 0; selector = sheets.all; clauses = [] }

-- the fields of a sheet, in order
module _ (s : List ℕ) where
  pub counts_stop : {x : ℕ} → counts s 0 ≡ refused x → sheet_fields s 0 ≡ refused x
  unfolding sheet_fields
  counts_stop e = simp e

  module _ {n : m.Counts} {a : ℕ} (N : counts s 0 ≡ found n a) where
    pub front_stop : {x : ℕ} → table_facts n s a ≡ refused x → sheet_fields s 0 ≡ refused x
    unfolding sheet_fields
    front_stop e = simp (N, e)

    module _ {facts : Sheet} {b : ℕ} (F : table_facts n s a ≡ found facts b) where
      pub policies_stop : {x : ℕ} → times n.policies (policy facts) s b ≡ refused x → sheet_fields s 0 ≡ refused x
      unfolding sheet_fields
      policies_stop e = simp (N, F, e)

      module _ {ps : List sheets.Policy} {d : ℕ} (P : times n.policies (policy facts) s b ≡ found ps d) where
        ending : sheet_fields s 0 ≡ on_read (on_read (padding s d) (λ u q. nothing_more s q)) (λ u o. found (wholly facts ps) o)
        unfolding sheet_fields
        ending = simp (N, F, P) (go (padding s d))
          where
            go : (r : Read (Unit {0})) → on_read r (λ u q. on_read (nothing_more s q) (λ v o. found (wholly facts ps) o)) ≡ on_read (on_read r (λ u q. nothing_more s q)) (λ u o. found (wholly facts ps) o)
            go (found u q) = refl
            go (refused x) = refl

        pub fields_open : Closes s d false → sheet_fields s 0 ≡ refused 10
        fields_open e = ending ∙ rw e

        pub fields_found : Closes s d true → sheet_fields s 0 ≡ found (wholly facts ps) (d + (8 - d % 8) % 8)
        fields_found e = ending ∙ rw e

-- what was read is described: the policies stand after the tables in the book
pub described_so : {s : List ℕ} {facts : Sheet} {ps : List sheets.Policy} {f : Facts} {count : ℕ} {b after : List ℕ} → FrontIs f b facts → KeptBelow 48 b after → PoliciesIn s facts after ps → count ≡ length ps
    → count ≤ 16 → Described s (wholly facts ps) (record { facts = f; policies = count }) after
described_so {s} {facts} {ps} {f} {count} {b} {after} F K P l few =
    record {
      facts = record { columns = F.facts.columns; keys = F.facts.keys; tables = F.facts.tables; kinds = record { columns = F.facts.kinds.columns; keys = F.facts.kinds.keys } };
      tables = F.few;
      table = λ t h. table_kept K t (omega (arith, F.few)) ∙ F.tables t h;
      policies = l;
      few = omega arith;
      policy = λ p h. subst (λ x. PolicyAt s x (get_or ps p nothing) after (48 + p * 12)) (sym F.bare) (P.at p h);
    }

-- the refusals of a sheet by itself
module _ (s : List ℕ) where
  pub too_long : 16384 < length s → read_sheet s ≡ refused 1
  unfolding read_sheet
  too_long h = simp (lt-leb (length s) 16384 h)

  module _ (short : length s ≤ 16384) where
    pub sheet_lost : {n : ℕ} → sheet_fields s 0 ≡ refused n → read_sheet s ≡ refused n
    unfolding read_sheet
    sheet_lost e = simp (le-leb (length s) 16384 short, e)

    module _ {sheet : Sheet} {end : ℕ} (e : sheet_fields s 0 ≡ found sheet end) where
      pub sheet_served : tables_serve sheet ≡ true → read_sheet s ≡ found sheet end
      unfolding read_sheet
      sheet_served t = simp (le-leb (length s) 16384 short, e, t)

      pub sheet_unserved : tables_serve sheet ≡ false → read_sheet s ≡ refused 11
      unfolding read_sheet
      sheet_unserved t = simp (le-leb (length s) 16384 short, e, t)

-- a refusal that is handed on
pub sheet_stops : (s b : List ℕ) (r : Result Directory Refusal) (e : Refusal) → IsErrAnd r (λ x. x ≡ e) → read_sheet s ≡ refused (refusals.number e) → SheetRead s b r
sheet_stops s b r e i h = let p = err_from_is_err_and r i in subst (SheetRead s b) (sym p.1) (h ∙ ap (λ x. refused (refusals.number x)) (sym p.2))

-- whether the tables serve, told of the facts that stand before the policies
pub served_so : (facts : Sheet) (ps : List sheets.Policy) {r : Bool} → r ≡ every (policy_serves facts) ps → r ≡ tables_serve (wholly facts ps)
unfolding tables_serve
served_so facts ps e = e
