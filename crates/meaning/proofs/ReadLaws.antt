-- What is read of a session or a row list holds null or a value of its kind.
use Prim.Native.Nat.{ℕ, zero, suc, ◌+◌, ◌-◌, ◌*◌, ◌/◌, ◌≤◌}
use native.Mathlib.Nat.{add-zero}
use native.Mathlib.Omega.{arith}
use mathlib.Core.Path.{◌≡◌, refl, sym, ap, subst, ◌∙◌}
use mathlib.Core.Bool.{Bool, true, false, cond, true≢false}
use mathlib.Core.List.{List, [], ◌∷◌}
use lib.ListN.{length, get_or, take, drop}
use lib.Dec.{leb, eqb}
use borrow.Author.Tests.{leb-true, ltb-false}
use Rattle.meaning.specs.declared.Content.{Content}
use Rattle.meaning.specs.declared.Content.TheVariants.{Null, Value}
use Rattle.lists.specs.Lists.{All}
use Rattle.meaning.specs.Values.{Kind, integer, last, raw, Contents, Fits}
use Rattle.meaning.specs.Sheets.{Table, Sheet, holds}
use Rattle.meaning.specs.Reading.{Read, found, refused, on_read, give, need, field, value, content, contents, padding, nothing_more, Row, row, rows, read_rows, read_session}
use Rattle.meaning.specs.Questions.{Holds, IsSession}

-- what a reading is made of was found
pub read_split : {A B : Type 0} (m : Read A) (f : A → ℕ → Read B) (b : B) (q : ℕ) → on_read m f ≡ found b q → (a : A) × (p : ℕ) × (m ≡ found a p) × (f a p ≡ found b q)
read_split (found a p) f b q e = (a, p, refl, e)
read_split (refused n) f b q e = absurd (let z : ◌≡◌ {A = ℕ} 0 1 = cc in omega arith)

pub need_true : (ok : Bool) (n : ℕ) (s : List ℕ) (p q : ℕ) (u : Unit {0}) → need ok n s p ≡ found u q → ok ≡ true
need_true true n s p q u e = refl
need_true false n s p q u e = absurd (let z : ◌≡◌ {A = ℕ} 0 1 = cc in omega arith)

pub found_same : {A : Type 0} {a b : A} {p q : ℕ} → found a p ≡ found b q → a ≡ b
found_same e = cc

value_fits : (k : Kind) (s : List ℕ) (p n q : ℕ) → value k s p ≡ found n q → n ≤ last k
unfolding value
value_fits k s p n q e =
    let x = read_split (field 64 s p) _ n q e in
    let u = read_split (need (leb (raw k x.0) (last k)) 7 s x.1) _ n q x.3 in
    subst (λ m. m ≤ last k) (found_same u.3) (leb-true (raw k x.0) (last k) (need_true (leb (raw k x.0) (last k)) 7 s x.1 u.1 u.0 u.2))

content_fits : (k : Kind) (s : List ℕ) (p : ℕ) (c : Content) (q : ℕ) → content k s p ≡ found c q → Fits k c
unfolding content
content_fits k s p c q e =
    let x = read_split (field 1 s p) _ c q e in
    go (eqb x.0 0) x.1 x.3
  where
    go : (b : Bool) (r : ℕ) → cond b (give Null) (λ s p. on_read (value k s p) (λ n q. found (Value n) q)) s r ≡ found c q → Fits k c
    go true r h = subst (Fits k) (found_same h) tt
    go false r h = let y = read_split (value k s r) _ c q h in subst (Fits k) (found_same y.3) (value_fits k s r y.0 y.1 y.2)

-- the contents that are read, by number: in kind, null where nothing is there, null past the end
pub record HeldAt (there : ℕ → Bool) (i : ℕ) (ks : List Kind) (xs : List Content) (j : ℕ) : Type 0 where
  pub fits : Fits (get_or ks j integer) (get_or xs j Null)
  pub absent : there (i + j) ≡ false → get_or xs j Null ≡ Null
  pub past : length ks ≤ j → get_or xs j Null ≡ Null

pub contents_hold : (there : ℕ → Bool) (i : ℕ) (ks : List Kind) (s : List ℕ) (p : ℕ) (xs : List Content) (q : ℕ) → contents there i ks s p ≡ found xs q → (j : ℕ) → HeldAt there i ks xs j
unfolding contents
contents_hold there i [] s p xs q e j = subst (λ l. HeldAt there i [] l j) (found_same e) (record { fits = tt; absent = λ h. refl; past = λ h. refl })
contents_hold there i (k ∷ ks) s p xs q e j =
    let x = read_split (cond (there i) (content k) (give Null) s p) _ xs q e in
    let y = read_split (contents there (i + 1) ks s x.1) _ xs q x.3 in
    subst (λ l. HeldAt there i (k ∷ ks) l j) (found_same y.3)
    (go j x.0 x.1 x.2 y.0 (contents_hold there (i + 1) ks s x.1 y.0 y.1 y.2))
  where
    head : (b : Bool) (c : Content) (r : ℕ) → there i ≡ b → cond b (content k) (give Null) s p ≡ found c r → Fits k c × (there i ≡ false → c ≡ Null)
    head true c r t h = (content_fits k s p c r h, λ f. absurd (true≢false (sym t ∙ f)))
    head false c r t h = subst (λ d. Fits k d × (there i ≡ false → d ≡ Null)) (found_same h) (tt, λ f. refl)

    go : (j : ℕ) (c : Content) (r : ℕ) → cond (there i) (content k) (give Null) s p ≡ found c r → (ys : List Content) → ((m : ℕ) → HeldAt there (i + 1) ks ys m) → HeldAt there i (k ∷ ks) (c ∷ ys) j
    go zero c r h ys ih =
        record { fits = (head (there i) c r refl h).0; absent = λ f. (head (there i) c r refl h).1 (ap there (sym (add-zero i)) ∙ f); past = λ f. absurd (omega arith) }
    go (suc m) c r h ys ih = record { fits = (ih m).fits; absent = λ f. (ih m).absent (ap there (omega arith) ∙ f); past = λ f. (ih m).past (omega arith) }

pub row_holds : (sheet : Sheet) (t : Table) (s : List ℕ) (p : ℕ) (x : Contents) (q : ℕ) → row sheet t s p ≡ found x q → Holds (holds t) sheet.columns x
unfolding row
row_holds sheet t s p x q e =
    let c = read_split (contents (holds t) 0 sheet.columns s p) _ x q e in
    let d = read_split (padding s c.1) _ x q c.3 in
    let h = contents_hold (holds t) 0 sheet.columns s p c.0 c.1 c.2 in
    subst (Holds (holds t) sheet.columns) (found_same d.3) (record { fits = λ i. (h i).fits; absent = λ i f. let z : 0 + i ≡ i = omega arith in (h i).absent (ap (holds t) z ∙ f) })

rows_hold : (n : ℕ) (sheet : Sheet) (t : Table) (s : List ℕ) (p : ℕ) (rs : List Row) (q : ℕ) → rows n sheet t s p ≡ found rs q → All (λ r. Holds (holds t) sheet.columns r.columns) rs
unfolding rows
rows_hold zero sheet t s p rs q e =
    let x = read_split (nothing_more s p) _ rs q e in subst (All (λ r. Holds (holds t) sheet.columns r.columns)) (found_same x.3) tt
rows_hold (suc n) sheet t s p rs q e = go (leb (length s * 8) p) (rows_hold n sheet t s) e
  where
    go : (b : Bool) → ((p : ℕ) (rs : List Row) (q : ℕ) → rows n sheet t s p ≡ found rs q → All (λ r. Holds (holds t) sheet.columns r.columns) rs) → cond b (found [] p) (on_read (row sheet t s p) λ x q. on_read (rows n sheet t s q) λ more end. found (record { bytes = take (q / 8 - p / 8) (drop (p / 8) s); columns = x } ∷ more) end) ≡ found rs q → All (λ r. Holds (holds t) sheet.columns r.columns) rs
    go true ih h = subst (All (λ r. Holds (holds t) sheet.columns r.columns)) (found_same h) tt
    go false ih h =
        let x = read_split (row sheet t s p) _ rs q h in
        let y = read_split (rows n sheet t s x.1) _ rs q x.3 in
        subst (All (λ r. Holds (holds t) sheet.columns r.columns)) (found_same y.3)
        (row_holds sheet t s p x.0 x.1 x.2, ih x.1 y.0 y.1 y.2)

pub read_rows_hold : (sheet : Sheet) (t : Table) (s : List ℕ) (rs : List Row) (q : ℕ) → read_rows sheet t s ≡ found rs q → All (λ r. Holds (holds t) sheet.columns r.columns) rs
unfolding read_rows
read_rows_hold sheet t s rs q e = let x = read_split (need (leb (length s) 65536) 15 s 0) _ rs q e in rows_hold (length s) sheet t s x.1 rs q x.3

pub read_session_holds : (sheet : Sheet) (s : List ℕ) (key : Contents) (q : ℕ) → read_session sheet s ≡ found key q → IsSession sheet key
unfolding read_session
read_session_holds sheet s key q e =
    let c = read_split (contents (λ k. true) 0 sheet.keys s 0) _ key q e in
    let d = read_split (padding s c.1) _ key q c.3 in
    let f = read_split (nothing_more s d.1) _ key q d.3 in
    let h = contents_hold (λ k. true) 0 sheet.keys s 0 c.0 c.1 c.2 in
    subst (IsSession sheet) (found_same f.3) (record { fits = λ i. (h i).fits; absent = λ i g. (h i).past (omega (arith, ltb-false i (length sheet.keys) g)) })
