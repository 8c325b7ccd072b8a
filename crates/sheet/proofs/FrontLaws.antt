-- The front of a sheet: kinds, tables, by what is read for each.
use Prim.Native.Nat.{ℕ, zero, suc, ◌+◌, ◌*◌, ◌^◌, ◌<◌, ◌≤◌}
use native.Mathlib.Omega.{arith}
use native.Mathlib.Decide.{ℕ_discrete}
use mathlib.Core.Path.{◌≡◌, refl, sym, ap, subst, ◌∙◌}
use mathlib.Core.Bool.{true, false}
use mathlib.Core.List.{List, [], ◌∷◌, ◌++◌}
use lib.ListN.{length, get_or, set, length-append, length-set, get_or-append}
use lib.Seq.{get_or-set_same, get_or-set_other, get_or-append-add}
use borrow.Author.Tests.{lt-ltb, le-ltb}
use Rattle.std.specs.Prelude.{Result, Ok}
use Rattle.std.specs.Result.{IsErrAnd}
use Rattle.std.proofs.lemmas.Result.{err_from_is_err_and}
use Rattle.refusals.specs.declared.Refusal.{Refusal}
use Rattle.refusals.specs.Refusals.{number}
use Rattle.bits.specs.Fields.{bit_no, field_at}
use Rattle.bits.specs.declared.Place.{Place}
use Rattle.bits.proofs.Laws.{number_lt, field_is}
use Rattle.meaning.specs.Values.{Kind, integer, token, boolean, kind_number}
use Rattle.meaning.specs.Sheets.{Table}
use Rattle.meaning.specs.Allowed.{held_below}
use Rattle.meaning.specs.Reading.{Read, refused, field, kind, table}
use Rattle.values.specs.Reads.{Got}
use Rattle.sheet.specs.Directory.{table_in}
use Rattle.sheet.specs.Fronts.{Ends, KindsPut, TablesIn}

-- a kind, by its number
module _ (s : List ℕ) (p : ℕ) where
  pub kind_lost : {n : ℕ} → field 2 s p ≡ refused n → kind s p ≡ refused n
  unfolding kind
  kind_lost e = simp e

  module _ {v : ℕ} {q : Place} (g : Got (field 2 s p) (λ x. v ≡ x) q) where
    pub kind_high : 2 < v → kind s p ≡ refused 5
    unfolding kind
    kind_high h = let l : 2 < g.item = omega (arith, g.holds) in simp (g.read, le-ltb g.item 3 l)

    pub kind_got : v ≤ 2 → Got (kind s p) (λ k. v ≡ kind_number k) q
    unfolding kind
    kind_got h =
        let l : g.item ≤ 2 = omega (arith, g.holds) in
        record { item = _; place = g.place; read = simp (g.read, lt-ltb g.item 3 (omega arith)); here = g.here; holds = g.holds ∙ sym (go g.item l) }
      where
        go : (k : ℕ) → k ≤ 2 → kind_number (get_or (integer ∷ token ∷ boolean ∷ []) k integer) ≡ k
        go zero h = refl
        go (suc zero) h = refl
        go (suc (suc zero)) h = refl
        go (suc (suc (suc k))) h = absurd (omega arith)

-- one kind more is put
pub kinds_more : (from : ℕ) (given kinds : List ℕ) (ks : List Kind) (i : ℕ) (k : Kind) (v : ℕ) → KindsPut from given kinds ks → length ks ≡ i → from + i < length kinds → v ≡ kind_number k
    → KindsPut from given (set kinds (from + i) v) (ks ++ (k ∷ []))
kinds_more from given kinds ks i k v P l room e = record { before = before; here = here; after = after }
  where
    before : (j : ℕ) → j < from → get_or (set kinds (from + i) v) j 0 ≡ get_or given j 0
    before j h = get_or-set_other kinds (from + i) j v 0 (λ x. omega arith) ∙ P.before j h

    here : (j : ℕ) → j < length (ks ++ (k ∷ [])) → get_or (set kinds (from + i) v) (from + j) 0 ≡ kind_number (get_or (ks ++ (k ∷ [])) j integer)
    here j h = go (ℕ_discrete j i)
      where
        go : Dec (j ≡ i) → get_or (set kinds (from + i) v) (from + j) 0 ≡ kind_number (get_or (ks ++ (k ∷ [])) j integer)
        go (yes x) =
            let z : j ≡ length ks + 0 = omega arith in
            ap (λ y. get_or (set kinds (from + i) v) (from + y) 0) x ∙ get_or-set_same kinds (from + i) v 0 room ∙ e ∙ ap kind_number (sym (ap (λ y. get_or (ks ++ (k ∷ [])) y integer) z ∙ get_or-append-add ks (k ∷ []) 0 integer))
        go (no x) =
            let small : j < length ks = omega (arith, length-append ks (k ∷ [])) in
            get_or-set_other kinds (from + i) (from + j) v 0 (λ y. x (omega arith)) ∙ P.here j small ∙ ap kind_number (sym (get_or-append ks (k ∷ []) integer j small))

    after : (j : ℕ) → from + length (ks ++ (k ∷ [])) ≤ j → get_or (set kinds (from + i) v) j 0 ≡ get_or given j 0
    after j h =
        let far : from + length ks + 1 ≤ j = omega (arith, length-append ks (k ∷ [])) in
        get_or-set_other kinds (from + i) j v 0 (λ y. omega arith) ∙ P.after j (omega arith)

-- a table
module _ (c : ℕ) (s : List ℕ) (p : ℕ) where
  pub schema_lost : {n : ℕ} → field 6 s p ≡ refused n → table c s p ≡ refused n
  unfolding table
  schema_lost e = simp e

  module _ {x : ℕ} {q : Place} (X : Got (field 6 s p) (λ n. x ≡ n) q) where
    pub tags_lost : {n : ℕ} → field 8 s X.place ≡ refused n → table c s p ≡ refused n
    unfolding table
    tags_lost e = simp (X.read, e)

    module _ {g : ℕ} {r : Place} (G : Got (field 8 s X.place) (λ n. g ≡ n) r) where
      pub held_lost : {n : ℕ} → field 16 s G.place ≡ refused n → table c s p ≡ refused n
      unfolding table
      held_lost e = simp (X.read, G.read, e)

      module _ {h : ℕ} {o : Place} (H : Got (field 16 s G.place) (λ n. h ≡ n) o) where
        pub table_got : held_below c h ≡ true → Got (table c s p) (λ t. record { schema = x; tags = g; columns = h } ≡ t) o
        unfolding table
        table_got e =
            record {
              item = record { schema = x; tags = g; columns = h };
              place = H.place;
              read = simp (X.read, G.read, H.read) (rw (← X.holds, ← G.holds, ← H.holds, e));
              here = H.here;
              holds = refl;
            }

        pub table_high : held_below c h ≡ false → table c s p ≡ refused 6
        unfolding table
        table_high e = simp (X.read, G.read, H.read) (rw (← H.holds, e))

-- a field that is read at a place is below 2^w
pub field_low : (s : List ℕ) (at : Place) (w : ℕ) {v : ℕ} {q : Place} → Ok (v, q) ≡ field_at s at w → v < 2 ^ w
field_low s at w {v} {q} e = omega (arith, (field_is s at q w v (sym e)).0, number_lt s (bit_no at) w)

-- a refusal that is handed on where the answer is a place alone
pub ends_handed : {A : Type 0} {m : Read A} (H : A → Type 0) (r : Result Place Refusal) (e : Refusal) → IsErrAnd r (λ x. x ≡ e) → m ≡ refused (number e) → Ends m H r
ends_handed {A} {m} H r e i h = let p = err_from_is_err_and r i in subst (Ends m H) (sym p.1) (h ∙ ap (λ x. refused (number x)) (sym p.2))

-- what stands past the last table
abbrev none : Table
none = record { schema = 0; tags = 0; columns = 0 }

-- one more: its three cells, written one after another
module _ (b : List ℕ) (i x y z : ℕ) (room : 3 * i + 2 < length b) where
  abbrev one : List ℕ
  one = set b (3 * i) x

  abbrev two : List ℕ
  two = set one (3 * i + 1) y

  abbrev written : List ℕ
  written = set two (3 * i + 2) z

  under : (j : ℕ) → j < 3 * i → get_or written j 0 ≡ get_or b j 0
  under j h = get_or-set_other two (3 * i + 2) j z 0 (λ e. omega arith) ∙ get_or-set_other one (3 * i + 1) j y 0 (λ e. omega arith) ∙ get_or-set_other b (3 * i) j x 0 (λ e. omega arith)

  earlier : (t : ℕ) → t < i → table_in written t ≡ table_in b t
  earlier t h = λ k. record { schema = under (3 * t) (omega arith) k; tags = under (3 * t + 1) (omega arith) k; columns = under (3 * t + 2) (omega arith) k }

  schema_here : get_or written (3 * i) 0 ≡ x
  schema_here = get_or-set_other two (3 * i + 2) (3 * i) z 0 (λ e. omega arith) ∙ get_or-set_other one (3 * i + 1) (3 * i) y 0 (λ e. omega arith) ∙ get_or-set_same b (3 * i) x 0 (omega arith)

  tags_here : get_or written (3 * i + 1) 0 ≡ y
  tags_here = get_or-set_other two (3 * i + 2) (3 * i + 1) z 0 (λ e. omega arith) ∙ get_or-set_same one (3 * i + 1) y 0 (simp length-set (omega arith))

  columns_here : get_or written (3 * i + 2) 0 ≡ z
  columns_here = get_or-set_same two (3 * i + 2) z 0 (simp length-set room)

  pub tables_more : (ts : List Table) {t : Table} → TablesIn b ts → length ts ≡ i → record { schema = x; tags = y; columns = z } ≡ t → TablesIn written (ts ++ (t ∷ []))
  tables_more ts {t} T l e j h = go (ℕ_discrete j i)
    where
      this : table_in written i ≡ record { schema = x; tags = y; columns = z }
      this = λ k. record { schema = schema_here k; tags = tags_here k; columns = columns_here k }

      go : Dec (j ≡ i) → table_in written j ≡ get_or (ts ++ (t ∷ [])) j none
      go (yes s) =
          let last : j ≡ length ts + 0 = omega arith in
          ap (table_in written) s ∙ this ∙ e ∙ sym (ap (λ k. get_or (ts ++ (t ∷ [])) k none) last ∙ get_or-append-add ts (t ∷ []) 0 none)
      go (no n) =
          let small : j < length ts = omega (arith, length-append ts (t ∷ [])) in
          earlier j (omega arith) ∙ T j small ∙ sym (get_or-append ts (t ∷ []) none j small)
