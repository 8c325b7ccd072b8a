-- A sheet's head, read field by field at a lent place, is the counts of the definitions.
use Rattle.std.proofs.Common.{ℕ, ◌<◌, ◌≤◌, ◌≡◌, refl, sym, ap, subst, ◌∙◌, Bool, true, false, ◌&&◌, List, ltb, leb, eqb, Result, Ok, Err, ◌⊎◌, inl, inr, arith}
use borrow.Author.Tests.{lt-ltb, le-ltb, le-leb, lt-leb, eq-eqb, ne_eqb, leb-true, ltb-true, ltb-false, eqb-true, eqb-false}
use Rattle.refusals.specs.declared.Refusal.{Refusal}
use Rattle.refusals.specs.declared.Refusal.TheVariants.{OtherEdition, WrongCount}
use Rattle.refusals.specs.Refusals.{number}
use Rattle.bits.specs.Fields.{place_at, pick, field_at}
use Rattle.bits.specs.declared.Place.{Place}
use Rattle.meaning.specs.Reading.{Read, found, refused, on_read, need, field, count, Counts, counts}
use Rattle.values.specs.Reads.{Got, Answers, answered, stopped, Reads}
use Rattle.values.proofs.ReadLaws.{got, lost, goes_on, ends, field_reads}
use Rattle.place.specs.Lent.{taken_of, place_after, Moves}
use Rattle.place.specs.declared.Counts as place
use Rattle.place.specs.Heads.{on_field, count_at, CountsAre}

-- a count by value, as the code comes to it
module _ (s : List ℕ) (p : Place) (w low high : ℕ) where
  pub count_lost : {e : Refusal} → Err e ≡ field_at s p w → Err e ≡ count_at s p w low high
  unfolding count_at
  count_lost g = rw (← g)

  module _ {n : ℕ} {q : Place} (g : Ok (n, q) ≡ field_at s p w) where
    pub count_wrong : (n < low) ⊎ (high < n) → Err WrongCount ≡ count_at s p w low high
    unfolding count_at
    count_wrong (inl h) = rw (← g, lt-ltb n low h)
    count_wrong (inr h) = rw (← g) (go (ltb n low))
      where
        go : (b : Bool) → ◌≡◌ {A = Result (ℕ × Place) Refusal} (Err WrongCount) (pick b (Err WrongCount) (pick (ltb high n) (Err WrongCount) (Ok (n, q))))
        go true = refl
        go false = rw (lt-ltb high n h)

    pub count_in : low ≤ n → n ≤ high → Ok (n, q) ≡ count_at s p w low high
    unfolding count_at
    count_in h i = rw (← g, le-ltb n low h, le-ltb high n i)

-- it is the definition's
pub count_reads : (s : List ℕ) (at : Place) (p w low high : ℕ) → 1 ≤ w → w ≤ 64 → at ≡ place_at p → Reads (count w low high s p) (count_at s at w low high)
unfolding count_at count
count_reads s at p w low high l h here = go (field_reads s at p w l h here refl)
  where
    judge : ℕ → Place → Result (ℕ × Place) Refusal
    judge n q = pick (ltb n low) (Err WrongCount) (pick (ltb high n) (Err WrongCount) (Ok (n, q)))

    tests : (n o : ℕ) {q : Place} (a b : Bool) → ltb n low ≡ a → ltb high n ≡ b → q ≡ place_at o
        → Reads (on_read (need (leb low n && leb n high) 4 s o) (λ x r. found n r)) (pick a (Err WrongCount) (pick b (Err WrongCount) (Ok (n, q))))
    tests n o true b e f k = rw (lt-leb low n (ltb-true _ _ e)) (stopped refl)
    tests n o false true e f k = rw (le-leb low n (ltb-false _ _ e), lt-leb n high (ltb-true _ _ f)) (stopped refl)
    tests n o false false e f k =
        rw (le-leb low n (ltb-false _ _ e), le-leb n high (ltb-false _ _ f)) (answered record { item = n; place = o; read = refl; here = k; holds = refl })

    go : {f : Result (ℕ × Place) Refusal} → Reads (field w s p) f → Reads (on_read (field w s p) (λ n q. on_read (need (leb low n && leb n high) 4 s q) (λ x r. found n r))) (on_field f judge)
    go (answered {b = n} {q = q} g) = rw g.read (rw (← g.holds) (tests n g.place (ltb n low) (ltb high n) refl refl g.here))
    go (stopped e) = rw e (stopped refl)

-- a reading m that was moved over: what is answered was found, and the place left is the one after it
pub moved : {m : Read ℕ} {f : Result (ℕ × Place) Refusal} {q : Place} {v : ℕ} (p : Place) → Reads m f → Moves f p (Ok v) q → Got m (λ x. v ≡ x) q
moved {m} {f} {q} {v} p (answered {b = n} {q = r} g) (e, h) =
    let i : v ≡ n = cc in
    record { item = g.item; place = g.place; read = g.read; here = h ∙ g.here; holds = i ∙ g.holds }
moved p (stopped r) (e, h) = let z : ◌≡◌ {A = ℕ} 0 1 = cc in absurd (omega arith)

pub moved_lost : {m : Read ℕ} {f : Result (ℕ × Place) Refusal} {q : Place} {x : Refusal} (p : Place) → Reads m f → Moves f p (Err x) q → m ≡ refused (number x)
moved_lost p (answered g) (e, h) = let z : ◌≡◌ {A = ℕ} 0 1 = cc in absurd (omega arith)
moved_lost {m} {f} {q} {x} p (stopped {e = y} r) (e, h) = let i : y ≡ x = cc in r ∙ ap (λ z. refused (number z)) i

abbrev pub start : Place
start = record { byte = 0; bit = 0 }

-- the counts that are still to be read, as their definition goes on
module _ (s : List ℕ) where
  abbrev policies_from : ℕ → ℕ → ℕ → ℕ → Read Counts
  policies_from x y z o = on_read (count 5 0 16 s o) (λ n o. found (record { columns = x; keys = y; tables = z; policies = n }) o)

  abbrev tables_from : ℕ → ℕ → ℕ → Read Counts
  tables_from x y o = on_read (count 5 1 16 s o) (policies_from x y)

  abbrev keys_from : ℕ → ℕ → Read Counts
  keys_from x o = on_read (count 4 1 8 s o) (tables_from x)

  abbrev columns_from : ℕ → Read Counts
  columns_from o = on_read (count 5 0 16 s o) keys_from

  reads : (p : Place) (o w low high : ℕ) → 1 ≤ w → w ≤ 64 → p ≡ place_at o → Reads (count w low high s o) (count_at s p w low high)
  reads p o w low high l h here = count_reads s p o w low high l h here

pub edition_lost : (s : List ℕ) {x : Refusal} {q : Place} → Moves (field_at s start 4) start (Err x) q → counts s 0 ≡ refused (number x)
unfolding counts
edition_lost s m = ends _ (moved_lost start (field_reads s start 0 4 (omega arith) (omega arith) refl refl) m)

-- the counts, one after another: each way on
module _ (s : List ℕ) {n : ℕ} {p : Place} (me : Moves (field_at s start 4) start (Ok n) p) where
  ge : Got (field 4 s 0) (λ x. n ≡ x) p
  ge = moved start (field_reads s start 0 4 (omega arith) (omega arith) refl refl) me

  pub edition_wrong : (n ≡ 1 → ⊥) → counts s 0 ≡ refused 3
  unfolding counts
  edition_wrong h = goes_on _ ge ∙ rw (← ge.holds, ne_eqb n 1 h)

  module _ (one : n ≡ 1) where
    at_columns : counts s 0 ≡ columns_from s ge.place
    unfolding counts
    at_columns = goes_on _ ge ∙ rw (← ge.holds, eq-eqb n 1 one)

    pub columns_lost : {x : Refusal} {u : Place} → Moves (count_at s p 5 0 16) p (Err x) u → counts s 0 ≡ refused (number x)
    columns_lost m = at_columns ∙ ends _ (moved_lost p (reads s p _ 5 0 16 (omega arith) (omega arith) ge.here) m)

    module _ {c : ℕ} {q : Place} (mc : Moves (count_at s p 5 0 16) p (Ok c) q) where
      gc : Got (count 5 0 16 s ge.place) (λ x. c ≡ x) q
      gc = moved p (reads s p _ 5 0 16 (omega arith) (omega arith) ge.here) mc

      at_keys : counts s 0 ≡ keys_from s c gc.place
      at_keys = at_columns ∙ goes_on _ gc ∙ ap (λ x. keys_from s x gc.place) (sym gc.holds)

      pub keys_lost : {x : Refusal} {u : Place} → Moves (count_at s q 4 1 8) q (Err x) u → counts s 0 ≡ refused (number x)
      keys_lost m = at_keys ∙ ends _ (moved_lost q (reads s q _ 4 1 8 (omega arith) (omega arith) gc.here) m)

      module _ {k : ℕ} {r : Place} (mk : Moves (count_at s q 4 1 8) q (Ok k) r) where
        gk : Got (count 4 1 8 s gc.place) (λ x. k ≡ x) r
        gk = moved q (reads s q _ 4 1 8 (omega arith) (omega arith) gc.here) mk

        at_tables : counts s 0 ≡ tables_from s c k gk.place
        at_tables = at_keys ∙ goes_on _ gk ∙ ap (λ x. tables_from s c x gk.place) (sym gk.holds)

        pub tables_lost : {x : Refusal} {u : Place} → Moves (count_at s r 5 1 16) r (Err x) u → counts s 0 ≡ refused (number x)
        tables_lost m = at_tables ∙ ends _ (moved_lost r (reads s r _ 5 1 16 (omega arith) (omega arith) gk.here) m)

        module _ {t : ℕ} {v : Place} (mt : Moves (count_at s r 5 1 16) r (Ok t) v) where
          gt : Got (count 5 1 16 s gk.place) (λ x. t ≡ x) v
          gt = moved r (reads s r _ 5 1 16 (omega arith) (omega arith) gk.here) mt

          at_policies : counts s 0 ≡ policies_from s c k t gt.place
          at_policies = at_tables ∙ goes_on _ gt ∙ ap (λ x. policies_from s c k x gt.place) (sym gt.holds)

          pub policies_lost : {x : Refusal} {u : Place} → Moves (count_at s v 5 0 16) v (Err x) u → counts s 0 ≡ refused (number x)
          policies_lost m = at_policies ∙ ends _ (moved_lost v (reads s v _ 5 0 16 (omega arith) (omega arith) gt.here) m)

          pub counts_got : {b : ℕ} {w : Place} → Moves (count_at s v 5 0 16) v (Ok b) w
              → Got (counts s 0) (CountsAre (record { columns = c; keys = k; tables = t; policies = b })) w
          counts_got {b} {w} m =
              let g : Got (count 5 0 16 s gt.place) (λ x. b ≡ x) w = moved v (reads s v _ 5 0 16 (omega arith) (omega arith) gt.here) m in
              record {
                item = record { columns = c; keys = k; tables = t; policies = g.item };
                place = g.place;
                read = at_policies ∙ goes_on _ g;
                here = g.here;
                holds = record { columns = refl; keys = refl; tables = refl; policies = g.holds };
              }

-- a count that was moved over is allowed
pub count_small : (s : List ℕ) (p : Place) (w low high : ℕ) {v : ℕ} {q : Place} → Moves (count_at s p w low high) p (Ok v) q → v ≤ high
unfolding count_at
count_small s p w low high {v} {q} (e, h) = go (field_at s p w) e
  where
    tests : (n : ℕ) (r : Place) (a b : Bool) → ltb high n ≡ b → Ok v ≡ taken_of (pick a (Err WrongCount) (pick b (Err WrongCount) (Ok (n, r)))) → v ≤ high
    tests n r true b f i = let z : ◌≡◌ {A = ℕ} 0 1 = cc in absurd (omega arith)
    tests n r false true f i = let z : ◌≡◌ {A = ℕ} 0 1 = cc in absurd (omega arith)
    tests n r false false f i = let j : v ≡ n = cc in let l : n ≤ high = ltb-false _ _ f in omega arith

    go : (f : Result (ℕ × Place) Refusal) → Ok v ≡ taken_of (on_field f (λ n r. pick (ltb n low) (Err WrongCount) (pick (ltb high n) (Err WrongCount) (Ok (n, r))))) → v ≤ high
    go (Ok (n, r)) i = tests n r (ltb n low) (ltb high n) refl i
    go (Err x) i = let z : ◌≡◌ {A = ℕ} 0 1 = cc in absurd (omega arith)

-- by value: what was found, or the refusal
module _ (s : List ℕ) (at : Place) (p w low high : ℕ) (l : 1 ≤ w) (h : w ≤ 64) (here : at ≡ place_at p) where
  pub count_got : {v : ℕ} {q : Place} → Ok (v, q) ≡ count_at s at w low high → Got (count w low high s p) (λ x. v ≡ x) q
  count_got g = got (subst (Reads (count w low high s p)) (sym g) (count_reads s at p w low high l h here))

  pub count_refused : {x : Refusal} → Err x ≡ count_at s at w low high → count w low high s p ≡ refused (number x)
  count_refused g = lost (subst (Reads (count w low high s p)) (sym g) (count_reads s at p w low high l h here))

-- a count that was read is allowed
pub count_at_most : (s : List ℕ) (p : Place) (w low high : ℕ) {v : ℕ} {q : Place} → Ok (v, q) ≡ count_at s p w low high → v ≤ high
count_at_most s p w low high e = count_small s p w low high (ap taken_of e, ap (λ f. place_after f p) e)

-- five answers in order: the first refusal, "3: edition other than 1" among them, or the counts
abbrev pub counts_of : Result ℕ Refusal → Result ℕ Refusal → Result ℕ Refusal → Result ℕ Refusal → Place → Result (place.Counts × Place) Refusal
counts_of (Err x) c d e w = Err x
counts_of (Ok k) (Err x) d e w = Err x
counts_of (Ok k) (Ok l) (Err x) e w = Err x
counts_of (Ok k) (Ok l) (Ok m) (Err x) w = Err x
counts_of (Ok k) (Ok l) (Ok m) (Ok o) w = Ok (record { columns = k; keys = l; tables = m; policies = o }, w)

abbrev pub head_of : Result ℕ Refusal → Result ℕ Refusal → Result ℕ Refusal → Result ℕ Refusal → Result ℕ Refusal → Place → Result (place.Counts × Place) Refusal
head_of (Err x) b c d e w = Err x
head_of (Ok n) b c d e w = pick (eqb n 1) (counts_of b c d e w) (Err OtherEdition)

-- a sheet's head, read field by field at the lent place, is the counts of the definitions
pub sheet_head_is : (s : List ℕ) {p q u v w : Place} (a b c d e : Result ℕ Refusal) → Moves (field_at s start 4) start a p → Moves (count_at s p 5 0 16) p b q → Moves (count_at s q 4 1 8) q c u
    → Moves (count_at s u 5 1 16) u d v → Moves (count_at s v 5 0 16) v e w → Answers (counts s 0) CountsAre (head_of a b c d e w)
sheet_head_is s (Err x) b c d e ma mb mc md me = stopped (edition_lost s ma)
sheet_head_is s {p} {q} {u} {v} {w} (Ok n) b c d e ma mb mc md me = go (eqb n 1) refl
  where
    four : (n ≡ 1) → (b c d e : Result ℕ Refusal) → Moves (count_at s p 5 0 16) p b q → Moves (count_at s q 4 1 8) q c u → Moves (count_at s u 5 1 16) u d v → Moves (count_at s v 5 0 16) v e w
        → Answers (counts s 0) CountsAre (counts_of b c d e w)
    four one (Err x) c d e mb mc md me = stopped (columns_lost s ma one mb)
    four one (Ok k) (Err x) d e mb mc md me = stopped (keys_lost s ma one mb mc)
    four one (Ok k) (Ok l) (Err x) e mb mc md me = stopped (tables_lost s ma one mb mc md)
    four one (Ok k) (Ok l) (Ok m) (Err x) mb mc md me = stopped (policies_lost s ma one mb mc md me)
    four one (Ok k) (Ok l) (Ok m) (Ok o) mb mc md me = answered (counts_got s ma one mb mc md me)

    go : (t : Bool) → eqb n 1 ≡ t → Answers (counts s 0) CountsAre (pick t (counts_of b c d e w) (Err OtherEdition))
    go true h = four (eqb-true n 1 h) b c d e mb mc md me
    go false h = stopped (edition_wrong s ma (eqb-false n 1 h))

-- what it says once the edition is judged: of the counts, or of another edition
module _ {A B : Type 0} {m : Read A} {H : B → A → Type 0} {n : ℕ} (x y : Result (B × Place) Refusal) where
  pub edition_one : n ≡ 1 → Answers m H (pick (eqb n 1) x y) → Answers m H x
  edition_one h = subst (λ t. Answers m H (pick t x y)) (eq-eqb n 1 h)

  pub edition_other : (n ≡ 1 → ⊥) → Answers m H (pick (eqb n 1) x y) → Answers m H y
  edition_other h = subst (λ t. Answers m H (pick t x y)) (ne_eqb n 1 h)

-- two fields, the second at the place that the first leaves
pub atom_fields_are : (s : List ℕ) (at : Place) {v o : Result ℕ Refusal} {p q : Place} → Moves (field_at s at 5) at v p → Moves (field_at s p 4) p o q
    → (v ≡ taken_of (field_at s at 5)) × (o ≡ taken_of (field_at s (place_after (field_at s at 5) at) 4)) × (q ≡ place_after (field_at s (place_after (field_at s at 5) at) 4) (place_after (field_at s at 5) at))
atom_fields_are s at (e, f) (g, h) = (e, g ∙ ap (λ z. taken_of (field_at s z 4)) f, h ∙ ap (λ z. place_after (field_at s z 4) z) f)

abbrev pub counts_on : ℕ → ℕ → ℕ → ℕ → Counts
counts_on c k t p = record { columns = c; keys = k; tables = t; policies = p }

-- a count that is found is allowed
found_count : (w low high : ℕ) (s : List ℕ) (p : ℕ) {B : Type 0} (k : ℕ → ℕ → Read B) (b : B) (q : ℕ) {X : Type 0}
    → ((n r : ℕ) → n ≤ high → k n r ≡ found b q → X) → on_read (count w low high s p) k ≡ found b q → X
unfolding count
found_count w low high s p {B} k b q {X} next e = from (field w s p) e
  where
    no_read : {n : ℕ} → ◌≡◌ {A = Read B} (refused n) (found b q) → X
    no_read g = let z : ◌≡◌ {A = ℕ} 0 1 = cc in absurd (omega arith)

    judged : (n r : ℕ) (a c : Bool) → leb n high ≡ c → on_read (on_read (need (a && c) 4 s r) (λ x r. found n r)) k ≡ found b q → X
    judged n r true true h g = next n r (leb-true n high h) g
    judged n r true false h g = no_read g
    judged n r false c h g = no_read g

    from : (m : Read ℕ) → on_read (on_read m (λ n r. on_read (need (leb low n && leb n high) 4 s r) (λ x r. found n r))) k ≡ found b q → X
    from (found n r) g = judged n r (leb low n) (leb n high) refl g
    from (refused n) g = no_read g

-- "0..16, 1..8, 1..16, 0..16": at most so many
pub record CountsSmall (n : Counts) : Type 0 where
  pub columns : n.columns ≤ 16
  pub keys : n.keys ≤ 8
  pub tables : n.tables ≤ 16
  pub policies : n.policies ≤ 16

pub counts_small : (s : List ℕ) (n : Counts) (q : ℕ) → counts s 0 ≡ found n q → CountsSmall n
unfolding counts
counts_small s n q e = from (field 4 s 0) e
  where
    no_read : {X : Type 0} {m : ℕ} → ◌≡◌ {A = Read Counts} (refused m) (found n q) → X
    no_read g = let z : ◌≡◌ {A = ℕ} 0 1 = cc in absurd (omega arith)

    rest : (o : ℕ) → columns_from s o ≡ found n q → CountsSmall n
    rest o = found_count 5 0 16 s o (keys_from s) n q λ x o hx. found_count 4 1 8 s o (tables_from s x) n q λ k o hk. found_count 5 1 16 s o (policies_from s x k) n q λ t o ht.
        found_count 5 0 16 s o (λ p o. found (counts_on x k t p) o) n q λ p o hp g.
        let same : counts_on x k t p ≡ n = cc in
        let a : x ≡ n.columns = ap (λ (z : Counts). z.columns) same in
        let b : k ≡ n.keys = ap (λ (z : Counts). z.keys) same in
        let c : t ≡ n.tables = ap (λ (z : Counts). z.tables) same in
        let d : p ≡ n.policies = ap (λ (z : Counts). z.policies) same in
        record { columns = omega arith; keys = omega arith; tables = omega arith; policies = omega arith }

    one : (o : ℕ) (b : Bool) → on_read (need b 3 s o) (λ z o. columns_from s o) ≡ found n q → CountsSmall n
    one o true g = rest o g
    one o false g = no_read g

    from : (m : Read ℕ) → on_read m (λ e o. on_read (need (eqb e 1) 3 s o) (λ z o. columns_from s o)) ≡ found n q → CountsSmall n
    from (found e o) g = one o (eqb e 1) g
    from (refused m) g = no_read g
