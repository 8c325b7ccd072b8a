-- Where contents and rows end, without what they hold.
use Prim.Native.Nat.{ℕ, ◌+◌, ◌-◌, ◌^◌, ◌<◌, ◌≤◌}
use native.Mathlib.Numerals.{add-one}
use native.Mathlib.Omega.{arith}
use mathlib.Core.Path.{◌≡◌, refl, sym, ap, subst, ◌∙◌}
use mathlib.Core.Bool.{Bool, true, false, cond}
use mathlib.Core.List.{List, ◌∷◌}
use lib.ListN.{length, get_or, drop, drop_of_length-le}
use lib.Seq.{drop-cons}
use lib.Dec.{ltb}
use borrow.Author.Tests.{ltb-true, lt-ltb}
use Rattle.meaning.specs.declared.Content.{Content}
use Rattle.meaning.specs.declared.Content.TheVariants.{Null}
use Rattle.meaning.specs.Values.{Kind, integer, token, boolean, kind_number, last, raw}
use Rattle.meaning.specs.Sheets.{Sheet, Table, holds, member}
use Rattle.meaning.specs.Reading.{Read, found, refused, on_read, give, content, contents, padding, row}
use Rattle.std.specs.Prelude.{Option, Some, None}
use Rattle.rows.specs.declared.form.Form.{Form}
use Rattle.rows.specs.Held.{content_found, end_of, Fields, RowEnds}
use Rattle.rows.proofs.RowLaws.{at_of, not_of, padding_ends}

-- an answer with its content left out
abbrev pub ending : Option (Content × ℕ) → Option ℕ
ending (Some r) = Some r.1
ending None = None

pub ends_as : {r : Option (Content × ℕ)} (m : Read Content) → r ≡ content_found m → ending r ≡ end_of m
ends_as (found c q) e = ap ending e
ends_as (refused n) e = ap ending e

-- every 64 bits are an integer
pub integer_fits : (k : Kind) (x : ℕ) → kind_number k ≡ 0 → x < 2 ^ 64 → raw k x ≤ last k
integer_fits token x e l = absurd (omega arith)
integer_fits boolean x e l = absurd (omega arith)
integer_fits integer x e l = go (ltb x (2 ^ 63)) refl
  where
    go : (a : Bool) → ltb x (2 ^ 63) ≡ a → cond a (x + 2 ^ 63) (cond (ltb x (2 ^ 64)) (x - 2 ^ 63) x) ≤ 2 ^ 64 - 1
    go true h = omega (arith, ltb-true x (2 ^ 63) h)
    go false h = rw (lt-ltb x (2 ^ 64) l) (omega arith)

-- c contents are read, and the rest stands at bit number p
abbrev pub Goes : (ℕ → Bool) → List Kind → List ℕ → ℕ → ℕ → ℕ → Type 0
Goes f ks s from c p = end_of (contents f 0 ks s from) ≡ end_of (contents f c (drop c ks) s p)

drop_end : {A B : Type 0} (m : Read A) (g : A → B) → end_of (on_read m (λ a q. found (g a) q)) ≡ end_of m
drop_end (found a q) g = refl
drop_end (refused n) g = refl

module _ (form : Form) (f : ℕ → Bool) (ks : List Kind) (h : Fields form f ks) (s : List ℕ) (from c p : ℕ) (g : Goes f ks s from c p) where
  pub goes_done : c ≡ form.n → Some p ≡ end_of (contents f 0 ks s from)
  unfolding contents
  goes_done e =
      let m = h.count in
      let l : length ks ≤ c = omega arith in
      sym (g ∙ ap (λ l. end_of (contents f c l s p)) (drop_of_length-le ks l))

  module _ (l : c < form.n) where
    abbrev k : Kind
    k = get_or ks c integer

    head : Read Content
    head = cond (f c) (content k) (give Null) s p

    next : contents f c (drop c ks) s p ≡ on_read head (λ x q. on_read (contents f (c + 1) (drop (c + 1) ks) s q) (λ more r. found (x ∷ more) r))
    unfolding contents head
    next =
        let m = h.count in
        let i : c < length ks = omega arith in
        ap (λ l. contents f c l s p) (drop-cons ks c integer i) ∙ ap (λ i. on_read head (λ x q. on_read (contents f (c + 1) (drop i ks) s q) (λ more r. found (x ∷ more) r))) (sym (add-one c))

    on : {x : Content} {q : ℕ} → head ≡ found x q → Goes f ks s from (c + 1) q
    on {x} {q} e = g ∙ ap end_of (next ∙ ap (λ m. on_read m (λ x q. on_read (contents f (c + 1) (drop (c + 1) ks) s q) (λ more r. found (x ∷ more) r))) e) ∙ drop_end (contents f (c + 1) (drop (c + 1) ks) s q) (λ more. x ∷ more)

    pub goes_skips : {b : Bool} → b ≡ member 16 form.there c → b ≡ false → Goes f ks s from (c + 1) p
    unfolding head
    goes_skips i e = on (ap (λ b. cond b (content k) (give Null) s p) (h.which c l ∙ sym i ∙ e))

    module _ {b : Bool} (i : b ≡ member 16 form.there c) (e : b ≡ true) {r : Option ℕ} (read : (k : Kind) → kind_number k ≡ get_or form.kinds (form.first + c) 0 → r ≡ end_of (content k s p)) where
      is : head ≡ content k s p
      unfolding head
      is = ap (λ b. cond b (content k) (give Null) s p) (h.which c l ∙ sym i ∙ e)

      pub goes_on : {q : ℕ} → r ≡ Some q → Goes f ks s from (c + 1) q
      goes_on y = let x = at_of (content k s p) (read k (sym (h.kind c l))) y in on (is ∙ x.1)

      pub goes_lost : r ≡ None → None ≡ end_of (contents f 0 ks s from)
      goes_lost y =
          let x = not_of (content k s p) (read k (sym (h.kind c l))) y in
          sym (g ∙ ap end_of (next ∙ ap (λ m. on_read m (λ x q. on_read (contents f (c + 1) (drop (c + 1) ks) s q) (λ more r. found (x ∷ more) r))) (is ∙ x.1)))

-- and a row: its contents, and zero bits
module _ (sheet : Sheet) (t : Table) (s : List ℕ) (from : ℕ) {r : Option ℕ} (h : r ≡ end_of (contents (holds t) 0 sheet.columns s from)) where
  pub row_lost_end : r ≡ None → RowEnds (row sheet t s from) None
  unfolding row
  row_lost_end e =
      let z = not_of (contents (holds t) 0 sheet.columns s from) h e in
      subst (λ m. RowEnds (on_read m (λ xs q. on_read (padding s q) (λ u o. found (λ c. get_or xs c Null) o))) None) (sym z.1) refl

  pub row_ends_end : {p : ℕ} {end : Option ℕ} → r ≡ Some p → end ≡ end_of (padding s p) → RowEnds (row sheet t s from) end
  unfolding row
  row_ends_end {p} {end} e g =
      let z = at_of (contents (holds t) 0 sheet.columns s from) h e in
      subst (λ m. RowEnds (on_read m (λ xs q. on_read (padding s q) (λ u o. found (λ c. get_or xs c Null) o))) end) (sym z.1) (go (padding s p) refl g z.0)
    where
      go : (y : Read (Unit {0})) → padding s p ≡ y → end ≡ end_of y → (xs : List Content) → RowEnds (on_read y (λ u o. found (λ c. get_or xs c Null) o)) end
      go (found u q) i j xs = (j, padding_ends s p u q i)
      go (refused k) i j xs = j
