-- Contents one after another: what is read so far, what is still to be read, and what the arrays hold of it.
use Prim.Native.Nat.{ℕ, ◌+◌, ◌<◌, ◌≤◌}
use native.Mathlib.Numerals.{add-one}
use native.Mathlib.Decide.{dec_lt}
use native.Mathlib.Omega.{arith}
use mathlib.Core.Path.{◌≡◌, refl, sym, ap, subst, ◌∙◌}
use mathlib.Core.Bool.{Bool, true, false, cond}
use mathlib.Core.List.{List, [], ◌∷◌, ◌++◌, append_assoc, append-nil}
use lib.ListN.{length, get_or, drop, length-append, drop_of_length-le, get_or-append}
use lib.Seq.{drop-cons, get_or-append_seam}
use Rattle.meaning.specs.declared.Content.{Content}
use Rattle.meaning.specs.declared.Content.TheVariants.{Null}
use Rattle.meaning.specs.Values.{Kind, integer, kind_number, Contents}
use Rattle.meaning.specs.Sheets.{member}
use Rattle.meaning.specs.Reading.{Read, found, refused, on_read, give, content, contents}
use Rattle.std.specs.Prelude.{Option, Some, None}
use Rattle.rows.specs.declared.form.Form.{Form}
use Rattle.rows.specs.Held.{content_found, Fields, Sets, Filled, ContentsRead, ContentsHeld}
use Rattle.rows.proofs.ContentLaws.{found_of, lost_of}

-- one variable more
filled_more : (first c : ℕ) (xs : List Content) (x : Content) (before now after : Contents) → Filled first c xs before now → Sets (first + c) x now after → Filled first (c + 1) (xs ++ (x ∷ [])) before after
filled_more first c xs x before now after h e =
    let n = h.size in
    record {
      size = length-append xs (x ∷ []) ∙ omega arith;
      inside = λ i l. go i l (dec_lt i c);
      below = λ v l. e.others v (λ z. omega arith) ∙ h.below v l;
      beyond = λ v l. e.others v (λ z. omega arith) ∙ h.beyond v (omega arith);
    }
  where
    go : (i : ℕ) → i < c + 1 → Dec (i < c) → after (first + i) ≡ get_or (xs ++ (x ∷ [])) i Null
    go i l (yes m) =
        let n = h.size in
        e.others (first + i) (λ z. omega arith) ∙ h.inside i m ∙ sym (get_or-append xs (x ∷ []) Null i (omega arith))
    go i l (no m) =
        let n = h.size in
        let a : i ≡ c = omega arith in
        let b : i ≡ length xs = omega arith in
        ap (λ j. after (first + j)) a ∙ e.at ∙ sym (ap (λ j. get_or (xs ++ (x ∷ [])) j Null) b ∙ get_or-append_seam xs x [] Null)

-- c contents are read, and hold in `now`; the rest stands at bit number p
pub record Going (f : ℕ → Bool) (ks : List Kind) (s : List ℕ) (from first c p : ℕ) (before now : Contents) : Type 0 where
  pub xs : List Content
  pub filled : Filled first c xs before now
  pub rest : contents f 0 ks s from ≡ on_read (contents f c (drop c ks) s p) (λ more q. found (xs ++ more) q)

pub going_starts : (f : ℕ → Bool) (ks : List Kind) (s : List ℕ) (from first : ℕ) (before : Contents) → Going f ks s from first 0 from before before
going_starts f ks s from first before =
    record { xs = []; filled = record { size = refl; inside = λ i l. absurd (omega arith); below = λ v l. refl; beyond = λ v l. refl }; rest = go (contents f 0 ks s from) }
  where
    go : (m : Read (List Content)) → m ≡ on_read m (λ more q. found more q)
    go (found x q) = refl
    go (refused n) = refl

module _ (f : ℕ → Bool) (ks : List Kind) (s : List ℕ) (from first c p : ℕ) (before now : Contents) (g : Going f ks s from first c p before now) where
  -- the contents are read to the end
  ends : length ks ≡ c → contents f 0 ks s from ≡ found g.xs p
  unfolding contents
  ends e =
      let l : length ks ≤ c = omega arith in
      g.rest ∙ ap (λ l. on_read (contents f c l s p) (λ more q. found (g.xs ++ more) q)) (drop_of_length-le ks l) ∙ ap (λ l. found l p) (append-nil g.xs)

  pub going_ends : length ks ≡ c → ContentsRead first c before now (contents f 0 ks s from) (Some p)
  going_ends e = subst (λ m. ContentsRead first c before now m (Some p)) (sym (ends e)) (refl, g.filled)

  module _ (l : c < length ks) where
    abbrev head : Read Content
    head = cond (f c) (content (get_or ks c integer)) (give Null) s p

    -- the reader of the next content, and of those after it
    next : contents f c (drop c ks) s p ≡ on_read head (λ x q. on_read (contents f (c + 1) (drop (c + 1) ks) s q) (λ more r. found (x ∷ more) r))
    unfolding contents
    next = ap (λ l. contents f c l s p) (drop-cons ks c integer l) ∙ ap (λ i. on_read head (λ x q. on_read (contents f (c + 1) (drop i ks) s q) (λ more r. found (x ∷ more) r))) (sym (add-one c))

    pub going_on : {x : Content} {q : ℕ} {after : Contents} → head ≡ found x q → Sets (first + c) x now after → Going f ks s from first (c + 1) q before after
    going_on {x} {q} {after} h e =
        record {
          xs = g.xs ++ (x ∷ []);
          filled = filled_more first c g.xs x before now after g.filled e;
          rest = g.rest ∙ ap (λ m. on_read m (λ more r. found (g.xs ++ more) r)) (next ∙ ap (λ m. on_read m (λ x q. on_read (contents f (c + 1) (drop (c + 1) ks) s q) (λ more r. found (x ∷ more) r))) h) ∙ go (contents f (c + 1) (drop (c + 1) ks) s q);
        }
      where
        go : (m : Read (List Content)) → on_read (on_read m (λ more r. found (x ∷ more) r)) (λ more r. found (g.xs ++ more) r) ≡ on_read m (λ more r. found ((g.xs ++ (x ∷ [])) ++ more) r)
        go (found more r) = ap (λ l. found l r) (sym (append_assoc g.xs (x ∷ []) more))
        go (refused n) = refl

    pub going_lost : (m : ℕ) (after : Contents) {n : ℕ} → head ≡ refused n → ContentsRead first m before after (contents f 0 ks s from) None
    going_lost m after h =
        subst (λ r. ContentsRead first m before after r None)
        (sym (g.rest ∙ ap (λ m. on_read m (λ more r. found (g.xs ++ more) r)) (next ∙ ap (λ m. on_read m (λ x q. on_read (contents f (c + 1) (drop (c + 1) ks) s q) (λ more r. found (x ∷ more) r))) h)))
        refl

-- what the code tests, and the variable's content that it then reads
module _ (form : Form) (f : ℕ → Bool) (ks : List Kind) (h : Fields form f ks) (s : List ℕ) (from c p : ℕ) (before now : Contents) (g : Going f ks s from form.first c p before now) (l : c < form.n) where
  abbrev k : Kind
  k = get_or ks c integer

  inside : c < length ks
  inside = let e = h.count in omega arith

  -- a variable that is not there is null
  pub going_skips : {b : Bool} {after : Contents} → b ≡ member 16 form.there c → b ≡ false → Sets (form.first + c) Null now after → Going f ks s from form.first (c + 1) p before after
  going_skips {b} {after} i e w = going_on f ks s from form.first c p before now g inside (ap (λ b. cond b (content k) (give Null) s p) (h.which c l ∙ sym i ∙ e)) w

  module _ {b : Bool} (i : b ≡ member 16 form.there c) (e : b ≡ true) where
    head_is : {r : Read Content} → content k s p ≡ r → cond (f c) (content k) (give Null) s p ≡ r
    head_is j = ap (λ b. cond b (content k) (give Null) s p) (h.which c l ∙ sym i ∙ e) ∙ j

    module _ {r : Option (Content × ℕ)} (read : (k : Kind) → kind_number k ≡ get_or form.kinds (form.first + c) 0 → r ≡ content_found (content k s p)) where
      pub going_reads : {x : Content × ℕ} {after : Contents} → r ≡ Some x → Sets (form.first + c) x.0 now after → Going f ks s from form.first (c + 1) x.1 before after
      going_reads {x} {after} y w = going_on f ks s from form.first c p before now g inside (head_is (found_of (content k s p) (read k (sym (h.kind c l))) y)) w

      pub going_stops : (after : Contents) → r ≡ None → ContentsRead form.first form.n before after (contents f 0 ks s from) None
      going_stops after y =
          let z = lost_of (content k s p) (read k (sym (h.kind c l))) y in
          going_lost f ks s from form.first c p before now g inside form.n after (head_is z.1)

    -- contents that are of the form hold values of their kinds only
    pub going_value : {x : Content × ℕ} {xs : List Content} {q : ℕ} {after : Contents}
        → ((k : Kind) (y : Content) (o : ℕ) → kind_number k ≡ get_or form.kinds (form.first + c) 0 → content k s p ≡ found y o → (x.0 ≡ y) × (x.1 ≡ o)) → contents f 0 ks s from ≡ found xs q
        → Sets (form.first + c) x.0 now after → Going f ks s from form.first (c + 1) x.1 before after
    going_value {x} {xs} {q} {after} read whole w = go (content k s p) refl
      where
        go : (m : Read Content) → content k s p ≡ m → Going f ks s from form.first (c + 1) x.1 before after
        go (found y o) j =
            let is = read k y o (sym (h.kind c l)) j in
            going_on f ks s from form.first c p before now g inside (head_is (j ∙ ap (found y) (sym is.1) ∙ ap (λ y. found y x.1) (sym is.0))) w
        go (refused n) j =
            let none = going_lost f ks s from form.first c p before now g inside form.n after (head_is j) in
            let z : None ≡ Some q = (subst (λ m. ContentsRead form.first form.n before after m None) whole none).0 in
            absurd (cc)

-- all of them are read
pub going_done : (form : Form) (f : ℕ → Bool) (ks : List Kind) → Fields form f ks → (s : List ℕ) (from c p : ℕ) (before now : Contents)
    → Going f ks s from form.first c p before now → c ≡ form.n → ContentsRead form.first form.n before now (contents f 0 ks s from) (Some p)
going_done form f ks h s from c p before now g e =
    subst (λ m. ContentsRead form.first m before now (contents f 0 ks s from) (Some p)) e (going_ends f ks s from form.first c p before now g (h.count ∙ sym e))

-- and hold, where they are of the form
pub going_held : (form : Form) (f : ℕ → Bool) (ks : List Kind) → Fields form f ks → (s : List ℕ) (from c p : ℕ) (before now : Contents)
    → ((xs : List Content) (q : ℕ) → contents f 0 ks s from ≡ found xs q → Going f ks s from form.first c p before now) → c ≡ form.n → ContentsHeld form.first form.n before now (contents f 0 ks s from) p
going_held form f ks h s from c p before now g e xs q is =
    let d = going_done form f ks h s from c p before now (g xs q is) e in
    let both = subst (λ m. ContentsRead form.first form.n before now m (Some p)) is d in
    let same : p ≡ q = cc in (same, both.1)
