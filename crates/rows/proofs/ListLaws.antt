-- A row list: what is read so far, and what is still to be read.
use Prim.Native.Nat.{ℕ, zero, suc, ◌+◌, ◌-◌, ◌*◌, ◌/◌, ◌%◌, ◌<◌, ◌≤◌}
use native.Mathlib.Omega.{arith}
use mathlib.Core.Path.{◌≡◌, refl, sym, ap, subst, ◌∙◌}
use mathlib.Core.Bool.{true, false}
use mathlib.Core.List.{List, [], ◌∷◌, ◌++◌, append_assoc, append-nil}
use lib.ListN.{length, take, drop}
use borrow.Author.Tests.{le-leb, lt-leb}
use Rattle.meaning.specs.Values.{Contents}
use Rattle.meaning.specs.Sheets.{Sheet, Table}
use Rattle.meaning.specs.Reading.{Read, found, refused, on_read, nothing_more, Row, row, rows, read_rows}
use Rattle.std.specs.Prelude.{Option, Some, None}
use Rattle.rows.specs.Held.{end_of, is_found, RowEnds}
use Rattle.rows.proofs.RowLaws.{at_of, not_of}

-- the row between two bit numbers
abbrev pub row_at : List ℕ → ℕ → ℕ → Contents → Row
row_at s p q x = record { bytes = take (q / 8 - p / 8) (drop (p / 8) s); columns = x }

-- the rows `done` are read, and the rest stands at bit number p; so many rows more may come
pub record Rowing (sheet : Sheet) (t : Table) (s : List ℕ) (p : ℕ) (done : List Row) : Type 0 where
  pub fuel : ℕ
  pub enough : length s * 8 ≤ p + fuel * 8
  pub rest : rows (length s) sheet t s 0 ≡ on_read (rows fuel sheet t s p) (λ more q. found (done ++ more) q)

pub rowing_starts : (sheet : Sheet) (t : Table) (s : List ℕ) → Rowing sheet t s 0 []
rowing_starts sheet t s = record { fuel = length s; enough = omega arith; rest = go (rows (length s) sheet t s 0) }
  where
    go : (m : Read (List Row)) → m ≡ on_read m (λ more q. found more q)
    go (found x q) = refl
    go (refused n) = refl

-- at the end there is no row more
no_more : (fuel : ℕ) (sheet : Sheet) (t : Table) (s : List ℕ) (p : ℕ) → length s ≤ p / 8 → rows fuel sheet t s p ≡ found [] p
unfolding rows nothing_more
no_more zero sheet t s p h = simp (le-leb (length s * 8) p (omega arith))
no_more (suc fuel) sheet t s p h = simp (le-leb (length s * 8) p (omega arith))

-- before it there is a row, and more after it
a_row : (fuel : ℕ) (sheet : Sheet) (t : Table) (s : List ℕ) (p : ℕ) → p / 8 < length s → rows (suc fuel) sheet t s p ≡ on_read (row sheet t s p) (λ x q. on_read (rows fuel sheet t s q) (λ more end. found (row_at s p q x ∷ more) end))
unfolding rows
a_row fuel sheet t s p h = simp (lt-leb (length s * 8) p (omega arith))

-- "A table that holds no column has .. only the empty list": a row of no bits leaves bytes over
stuck : (fuel : ℕ) (sheet : Sheet) (t : Table) (s : List ℕ) (p : ℕ) (x : Contents) → p / 8 < length s → row sheet t s p ≡ found x p → (n : ℕ) × (rows fuel sheet t s p ≡ refused n)
unfolding rows nothing_more
stuck zero sheet t s p x h e = (10, simp (lt-leb (length s * 8) p (omega arith)))
stuck (suc fuel) sheet t s p x h e =
    let i = stuck fuel sheet t s p x h e in
    (i.0, a_row fuel sheet t s p h ∙ ap (λ m. on_read m (λ x q. on_read (rows fuel sheet t s q) (λ more end. found (row_at s p q x ∷ more) end))) e ∙ ap (λ m. on_read m (λ more end. found (row_at s p p x ∷ more) end)) i.1)

module _ (sheet : Sheet) (t : Table) (s : List ℕ) (p : ℕ) (done : List Row) (g : Rowing sheet t s p done) where
  pub rowing_ends : length s ≤ p / 8 → rows (length s) sheet t s 0 ≡ found done p
  rowing_ends h = g.rest ∙ ap (λ m. on_read m (λ more q. found (done ++ more) q)) (no_more g.fuel sheet t s p h) ∙ ap (λ l. found l p) (append-nil done)

  module _ (h : p / 8 < length s) where
    -- so a row more may come
    next : (X : Type 0) → ((fuel : ℕ) → length s * 8 ≤ p + suc fuel * 8 → rows (length s) sheet t s 0 ≡ on_read (on_read (row sheet t s p) (λ x q. on_read (rows fuel sheet t s q) (λ more end. found (row_at s p q x ∷ more) end))) (λ more q. found (done ++ more) q) → X) → X
    next X then = go g.fuel g.enough g.rest
      where
        go : (fuel : ℕ) → length s * 8 ≤ p + fuel * 8 → rows (length s) sheet t s 0 ≡ on_read (rows fuel sheet t s p) (λ more q. found (done ++ more) q) → X
        go zero l e = absurd (omega arith)
        go (suc fuel) l e = then fuel l (e ∙ ap (λ m. on_read m (λ more q. found (done ++ more) q)) (a_row fuel sheet t s p h))

    pub rowing_lost : {n : ℕ} → row sheet t s p ≡ refused n → rows (length s) sheet t s 0 ≡ refused n
    rowing_lost {n} e =
        next (rows (length s) sheet t s 0 ≡ refused n) (λ fuel l r. r ∙ ap (λ m. on_read (on_read m (λ x q. on_read (rows fuel sheet t s q) (λ more end. found (row_at s p q x ∷ more) end))) (λ more q. found (done ++ more) q)) e)

    pub rowing_stuck : {x : Contents} → row sheet t s p ≡ found x p → (n : ℕ) × (rows (length s) sheet t s 0 ≡ refused n)
    rowing_stuck {x} e = let i = stuck g.fuel sheet t s p x h e in (i.0, g.rest ∙ ap (λ m. on_read m (λ more q. found (done ++ more) q)) i.1)

    pub rowing_on : {x : Contents} {q : ℕ} → row sheet t s p ≡ found x q → p + 8 ≤ q → Rowing sheet t s q (done ++ (row_at s p q x ∷ []))
    rowing_on {x} {q} e far =
        next (Rowing sheet t s q (done ++ (row_at s p q x ∷ []))) (λ fuel l r.
        record {
          fuel = fuel;
          enough = omega arith;
          rest = r ∙ ap (λ m. on_read (on_read m (λ x q. on_read (rows fuel sheet t s q) (λ more end. found (row_at s p q x ∷ more) end))) (λ more q. found (done ++ more) q)) e ∙ go (rows fuel sheet t s q);
        })
      where
        go : (m : Read (List Row)) → on_read (on_read m (λ more end. found (row_at s p q x ∷ more) end)) (λ more q. found (done ++ more) q) ≡ on_read m (λ more end. found ((done ++ (row_at s p q x ∷ [])) ++ more) end)
        go (found more end) = ap (λ l. found l end) (sym (append_assoc done (row_at s p q x ∷ []) more))
        go (refused n) = refl

-- "A row list has at most 65,536 bytes."
module _ (sheet : Sheet) (t : Table) (s : List ℕ) where
  pub list_short : length s ≤ 65536 → read_rows sheet t s ≡ rows (length s) sheet t s 0
  unfolding read_rows
  list_short h = simp (le-leb (length s) 65536 h)

  pub list_long : 65536 < length s → read_rows sheet t s ≡ refused 15
  unfolding read_rows
  list_long h = simp (lt-leb (length s) 65536 h)

-- what the code's answer on where a row ends tells
ends_end : (r : Option ℕ) (m : Read Contents) → RowEnds m r → r ≡ end_of m
ends_end r (found x q) h = h.0
ends_end r (refused k) h = h

-- Judging a list: the rows up to bit number p are of the form.
pub record Judging (sheet : Sheet) (t : Table) (s : List ℕ) (p : ℕ) : Type 0 where
  pub done : List Row
  pub rowing : Rowing sheet t s p done
  pub whole : p % 8 ≡ 0

pub judging_starts : (sheet : Sheet) (t : Table) (s : List ℕ) → Judging sheet t s 0
judging_starts sheet t s = record { done = []; rowing = rowing_starts sheet t s; whole = refl }

pub judged_long : (sheet : Sheet) (t : Table) (s : List ℕ) → 65536 < length s → false ≡ is_found (read_rows sheet t s)
judged_long sheet t s h = sym (ap is_found (list_long sheet t s h))

module _ (sheet : Sheet) (t : Table) (s : List ℕ) (p : ℕ) (short : length s ≤ 65536) (g : Judging sheet t s p) where
  pub judged_all : length s ≤ p / 8 → true ≡ is_found (read_rows sheet t s)
  judged_all h = sym (ap is_found (list_short sheet t s short ∙ rowing_ends sheet t s p g.done g.rowing h))

  module _ (h : p / 8 < length s) (r : Option ℕ) (read : RowEnds (row sheet t s p) r) where
    pub judged_lost : r ≡ None → false ≡ is_found (read_rows sheet t s)
    judged_lost e = sym (ap is_found (list_short sheet t s short ∙ rowing_lost sheet t s p g.done g.rowing h (not_of (row sheet t s p) (ends_end r (row sheet t s p) read) e).1))

    pub judged_stuck : {q : ℕ} → r ≡ Some q → p ≤ q → q ≤ p → false ≡ is_found (read_rows sheet t s)
    judged_stuck {q} e l m =
        let x = at_of (row sheet t s p) (ends_end r (row sheet t s p) read) e in
        let same : q ≡ p = omega arith in
        let i = rowing_stuck sheet t s p g.done g.rowing h (x.1 ∙ ap (found x.0) same) in
        sym (ap is_found (list_short sheet t s short ∙ i.1))

    pub judging_on : {q : ℕ} → r ≡ Some q → p < q → Judging sheet t s q
    judging_on {q} e l =
        let x = at_of (row sheet t s p) (ends_end r (row sheet t s p) read) e in
        let a = g.whole in
        let b = (subst (λ m. RowEnds m r) x.1 read).1 in
        record { done = g.done ++ (row_at s p q x.0 ∷ []); rowing = rowing_on sheet t s p g.done g.rowing h x.1 (omega arith); whole = b }
