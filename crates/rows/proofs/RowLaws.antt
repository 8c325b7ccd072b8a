-- A row, and a session: contents, and zero bits to the end of the byte.
use Prim.Native.Nat.{ℕ, ◌+◌, ◌-◌, ◌*◌, ◌/◌, ◌%◌, ◌<◌, ◌≤◌}
use native.Mathlib.Omega.{arith}
use native.Mathlib.Decide.{dec_lt}
use mathlib.Core.Path.{◌≡◌, refl, sym, ap, subst, ◌∙◌}
use mathlib.Core.Bool.{Bool, true, false, cond}
use mathlib.Core.List.{List}
use lib.ListN.{length, get_or, get_or-eq_default}
use lib.Dec.{eqb, leb}
use borrow.Author.Tests.{eq-eqb, ne_eqb, le-leb, lt-leb}
use Rattle.bits.specs.Bits.{number}
use Rattle.meaning.specs.declared.Content.{Content}
use Rattle.meaning.specs.declared.Content.TheVariants.{Null}
use Rattle.meaning.specs.Values.{Contents}
use Rattle.meaning.specs.Sheets.{Sheet, Table, holds}
use Rattle.meaning.specs.Reading.{Read, found, refused, on_read, contents, padding, nothing_more, row, read_session}
use Rattle.std.specs.Prelude.{Option, Some, None}
use Rattle.rows.specs.Held.{within, end_of, Filled, ContentsRead, ContentsHeld, RowHeld, RowRead, SessionHeld, SessionRead}

pub ends_within : {r : Option ℕ} {q : ℕ} (p m top : ℕ) → r ≡ Some q → within p m top r → (p ≤ q) × (q ≤ m) × (q ≤ top)
ends_within p m top e h = subst (within p m top) e h

-- what an answer tells of the reader
pub at_of : {A : Type 0} {r : Option ℕ} {q : ℕ} (m : Read A) → r ≡ end_of m → r ≡ Some q → (a : A) × (m ≡ found a q)
at_of {A} {r} {q} (found a o) e g = let h : Some o ≡ Some q = sym e ∙ g in let same : o ≡ q = cc in (a, ap (found a) same)
at_of {A} {r} {q} (refused n) e g = let h : None ≡ Some q = sym e ∙ g in let z : ◌≡◌ {A = ℕ} 0 1 = cc in absurd (omega arith)

pub not_of : {A : Type 0} {r : Option ℕ} (m : Read A) → r ≡ end_of m → r ≡ None → (n : ℕ) × (m ≡ refused n)
not_of {A} {r} (found a o) e g = let h : Some o ≡ None = sym e ∙ g in let z : ◌≡◌ {A = ℕ} 0 1 = cc in absurd (omega arith)
not_of {A} {r} (refused n) e g = (n, refl)

pub contents_end : (first n : ℕ) (before after : Contents) (r : Option ℕ) (m : Read (List Content)) → ContentsRead first n before after m r → r ≡ end_of m
contents_end first n before after r (found xs q) h = h.0
contents_end first n before after r (refused k) h = h

contents_filled : (first n : ℕ) (before after : Contents) (r : Option ℕ) {q : ℕ} {xs : List Content} (m : Read (List Content)) → m ≡ found xs q → ContentsRead first n before after m r → Filled first n xs before after
contents_filled first n before after r m e h = (subst (λ x. ContentsRead first n before after x r) e h).1

module _ (s : List ℕ) (p : ℕ) where
  abbrev w : ℕ
  w = (8 - p % 8) % 8

  -- "zero bits to the end of the byte"
  pub padded_zero : {b : ℕ} → b ≡ number s p w → b ≡ 0 → Some (p + w) ≡ end_of (padding s p)
  unfolding padding
  padded_zero bit z = simp (eq-eqb (number s p w) 0 (sym bit ∙ z))

  pub padded_one : {b : ℕ} → b ≡ number s p w → (b ≡ 0 → ⊥) → None ≡ end_of (padding s p)
  unfolding padding
  padded_one bit z = simp (ne_eqb (number s p w) 0 (λ e. z (bit ∙ e)))

  pub padding_end : (u : Unit {0}) (q : ℕ) → padding s p ≡ found u q → (p + 7) / 8 * 8 ≡ q
  unfolding padding
  padding_end u q e = go (eqb (number s p w) 0) e
    where
      go : (b : Bool) → cond b (found (tt {0}) (p + w)) (refused 10) ≡ found u q → (p + 7) / 8 * 8 ≡ q
      go true h = let same : p + w ≡ q = cc in omega arith
      go false h = let z : ◌≡◌ {A = ℕ} 0 1 = cc in absurd (omega arith)

  pub padding_ends : (u : Unit {0}) (q : ℕ) → padding s p ≡ found u q → q % 8 ≡ 0
  padding_ends u q e = let same = padding_end u q e in omega arith

row_held : (n q : ℕ) (xs : List Content) (before after : Contents) → q % 8 ≡ 0 → Filled 0 n xs before after → RowHeld n q (λ c. get_or xs c Null) before after
row_held n q xs before after w h =
    record {
      whole = w;
      columns = λ c k. let z : 0 + c ≡ c = omega arith in ap after (sym z) ∙ h.inside c k;
      none = λ c k. let e = h.size in get_or-eq_default xs Null (omega arith);
      others = λ v k. h.beyond v (omega arith);
    }

-- a row: its contents, and zero bits to the end of a byte
pub row_read : (n from : ℕ) (sheet : Sheet) (t : Table) (s : List ℕ) (before after : Contents) (p : ℕ) {first : ℕ} → first ≡ 0 → ContentsHeld first n before after (contents (holds t) 0 sheet.columns s from) p
    → RowRead n before after (row sheet t s from) ((p + 7) / 8 * 8)
unfolding row
row_read n from sheet t s before after p {first} z k x q is = go (contents (holds t) 0 sheet.columns s from) refl is
  where
    h : ContentsHeld 0 n before after (contents (holds t) 0 sheet.columns s from) p
    h = subst (λ m. ContentsHeld m n before after (contents (holds t) 0 sheet.columns s from) p) z k

    padded : (xs : List Content) (o : ℕ) (y : Read (Unit {0})) → padding s o ≡ y → Filled 0 n xs before after → p ≡ o → on_read y (λ u e. found (λ c. get_or xs c Null) e) ≡ found x q
        → ((p + 7) / 8 * 8 ≡ q) × RowHeld n q x before after
    padded xs o (found u e) j f same k =
        let ends : e ≡ q = cc in
        let cells : (λ c. get_or xs c Null) ≡ x = cc in
        let end = padding_end s o u e j in
        (omega arith, subst (λ y. RowHeld n q y before after) cells (subst (λ m. RowHeld n m (λ c. get_or xs c Null) before after) ends (row_held n e xs before after (padding_ends s o u e j) f)))
    padded xs o (refused m) j f same k = let z : ◌≡◌ {A = ℕ} 0 1 = cc in absurd (omega arith)

    go : (m : Read (List Content)) → contents (holds t) 0 sheet.columns s from ≡ m → on_read m (λ xs o. on_read (padding s o) (λ u e. found (λ c. get_or xs c Null) e)) ≡ found x q
        → ((p + 7) / 8 * 8 ≡ q) × RowHeld n q x before after
    go (found xs o) j k = let y = h xs o j in padded xs o (padding s o) refl y.1 y.0 k
    go (refused m) j k = let z : ◌≡◌ {A = ℕ} 0 1 = cc in absurd (omega arith)

session_held : (n : ℕ) (xs : List Content) (before after : Contents) → n ≤ 8 → Filled 16 n xs before after → SessionHeld (λ k. get_or xs k Null) before after
session_held n xs before after l h = record { keys = λ v k null. go v k null (dec_lt (v - 16) n); columns = λ v k. h.below v k }
  where
    go : (v : ℕ) → 16 ≤ v → ((u : ℕ) → 16 ≤ u → before u ≡ Null) → Dec (v - 16 < n) → after v ≡ get_or xs (v - 16) Null
    go v k null (yes d) = let z : 16 + (v - 16) ≡ v = omega arith in ap after (sym z) ∙ h.inside (v - 16) d
    go v k null (no d) = let e = h.size in h.beyond v (omega arith) ∙ null v k ∙ sym (get_or-eq_default xs Null (omega arith))

module _ (n : ℕ) (small : n ≤ 8) (sheet : Sheet) (s : List ℕ) (before after : Contents) (r : Option ℕ) {first : ℕ} (at : first ≡ 16) (read : ContentsRead first n before after (contents (λ k. true) 0 sheet.keys s 0) r) where
  abbrev keys : Read (List Content)
  keys = contents (λ k. true) 0 sheet.keys s 0

  h : ContentsRead 16 n before after keys r
  h = subst (λ m. ContentsRead m n before after keys r) at read

  abbrev then : List Content → ℕ → Read Contents
  then xs q = on_read (padding s q) (λ u o. on_read (nothing_more s o) (λ v end. found (λ k. get_or xs k Null) end))

  pub session_lost : r ≡ None → SessionRead before after (read_session sheet s) false
  unfolding read_session
  session_lost e = let z = not_of keys (contents_end 16 n before after r keys h) e in subst (λ x. SessionRead before after (on_read x then) false) (sym z.1) refl

  module _ {p : ℕ} {end : Option ℕ} (e : r ≡ Some p) (g : end ≡ end_of (padding s p)) where
    -- what follows the contents
    after_keys : (b : Bool) → ((xs : List Content) → Filled 16 n xs before after → SessionRead before after (then xs p) b) → SessionRead before after (read_session sheet s) b
    unfolding read_session
    after_keys b next =
        let z = at_of keys (contents_end 16 n before after r keys h) e in
        subst (λ x. SessionRead before after (on_read x then) b) (sym z.1) (next z.0 (contents_filled 16 n before after r keys z.1 h))

    pub session_padded : end ≡ None → SessionRead before after (read_session sheet s) false
    session_padded i =
        let y = not_of (padding s p) g i in
        after_keys false (λ xs f. subst (λ x. SessionRead before after (on_read x (λ u o. on_read (nothing_more s o) (λ v end. found (λ k. get_or xs k Null) end))) false) (sym y.1) refl)

    pub session_ends : {q : ℕ} → end ≡ Some q → SessionRead before after (read_session sheet s) (leb (length s) (q / 8))
    unfolding nothing_more
    session_ends {q} i =
        let y = at_of (padding s p) g i in
        after_keys (leb (length s) (q / 8)) (λ xs f.
        subst (λ x. SessionRead before after (on_read x (λ u o. on_read (nothing_more s o) (λ v end. found (λ k. get_or xs k Null) end))) (leb (length s) (q / 8))) (sym y.1)
        (subst (λ b. SessionRead before after (on_read (cond b (found (tt {0}) q) (refused 10)) (λ v end. found (λ k. get_or xs k Null) end)) (leb (length s) (q / 8))) same (go (leb (length s) (q / 8)) xs f)))
      where
        same : leb (length s) (q / 8) ≡ leb (length s * 8) q
        same = pick (dec_lt (q / 8) (length s))
          where
            pick : Dec (q / 8 < length s) → leb (length s) (q / 8) ≡ leb (length s * 8) q
            pick (yes l) = lt-leb (length s) (q / 8) l ∙ sym (lt-leb (length s * 8) q (omega arith))
            pick (no l) = le-leb (length s) (q / 8) (omega arith) ∙ sym (le-leb (length s * 8) q (omega arith))

        go : (b : Bool) (xs : List Content) → Filled 16 n xs before after → SessionRead before after (on_read (cond b (found (tt {0}) q) (refused 10)) (λ v end. found (λ k. get_or xs k Null) end)) b
        go true xs f = (refl, session_held n xs before after small f)
        go false xs f = refl

pub within_more : (from p m most top : ℕ) (r : Option ℕ) → from ≤ p → m ≤ most → within p m top r → within from most top r
within_more from p m most top (Some q) l k h = let a = h.0 in let b = h.1 in (omega arith, omega arith, h.2)
within_more from p m most top None l k h = tt
