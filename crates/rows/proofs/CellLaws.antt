-- What a variable holds, by whether it is there and by its value.
use Rattle.std.proofs.Common.{◌≡◌, ℕ, zero, suc, ◌<◌, ◌≤◌, Bool, true, false, cond, List, [], ◌∷◌, length, get_or, refl, sym, ap, ◌∙◌, arith, eqb}
use Rattle.std.proofs.Common.{get_or-set_same, get_or-set_other}
use Rattle.std.proofs.Math.ListN.{set, length-set, get_or-eq_default}
use borrow.Author.Tests.{eq-eqb, ne_eqb}
use Rattle.meaning.specs.Values.{Contents}
use Rattle.meaning.specs.declared.Content.{Content}
use Rattle.meaning.specs.declared.Content.TheVariants.{Null, Value}
use Rattle.meaning.specs.Atoms.{equals, is_value, passes}
use Rattle.rows.specs.Held.{held, cells, Sets}

pub held_by : (ps : List Bool) (vs : List ℕ) (v : ℕ) → length ps ≡ length vs → held (cells ps vs) v ≡ cond (get_or ps v false) (Value (get_or vs v 0)) Null
held_by [] vs v e = refl
held_by (p ∷ ps) [] v e = absurd (omega arith)
held_by (p ∷ ps) (n ∷ vs) zero e = refl
held_by (p ∷ ps) (n ∷ vs) (suc v) e = held_by ps vs v (omega arith)

-- an equality of what two variables hold
same_by : (e : Contents) (u : ℕ) (a b : Bool) (x y : ℕ) {c : Content} → c ≡ cond a (Value x) Null → e u ≡ cond b (Value y) Null → passes e (equals u) c ≡ cond a (cond b (eqb x y) false) false
same_by e u false b x y h k = ap (passes e (equals u)) h
same_by e u true false x y h k = ap (passes e (equals u)) h ∙ ap (is_value x) k
same_by e u true true x y h k = ap (passes e (equals u)) h ∙ ap (is_value x) k

module _ (ps : List Bool) (vs : List ℕ) {now : List Content} (is : cells ps vs ≡ now) (size : length ps ≡ length vs) (v : ℕ) where
  abbrev there : Bool
  there = get_or ps v false

  by_cells : held now v ≡ cond there (Value (get_or vs v 0)) Null
  by_cells = ap (λ xs. held xs v) (sym is) ∙ held_by ps vs v size

  pub held_value : there ≡ true → Value (get_or vs v 0) ≡ held now v
  held_value h = sym (by_cells ∙ ap (λ b. cond b (Value (get_or vs v 0)) Null) h)

  pub held_null : there ≡ false → Null ≡ held now v
  held_null h = sym (by_cells ∙ ap (λ b. cond b (Value (get_or vs v 0)) Null) h)

  pub held_past : length ps ≤ v → Null ≡ held now v
  held_past l = held_null (get_or-eq_default ps false l)

  pub sets_null : v < length ps → {x : Content} → x ≡ Null → Sets v x (held now) (held (cells (set ps v false) vs))
  sets_null l e =
      let n : length (set ps v false) ≡ length vs = simp length-set size in
      record {
        at = held_by (set ps v false) vs v n ∙ ap (λ b. cond b (Value (get_or vs v 0)) Null) (get_or-set_same ps v false false l) ∙ sym e;
        others = λ u o. held_by (set ps v false) vs u n ∙ ap (λ b. cond b (Value (get_or vs u 0)) Null) (get_or-set_other ps v u false false o) ∙ sym (held_by ps vs u size) ∙ ap (λ xs. held xs u) is;
      }

  pub sets_value : v < length ps → (k : ℕ) {x : Content} → x ≡ Value k → Sets v x (held now) (held (cells (set ps v true) (set vs v k)))
  sets_value l k e =
      let n : length (set ps v true) ≡ length (set vs v k) = simp length-set size in
      let m : v < length vs = omega arith in
      record {
        at = held_by (set ps v true) (set vs v k) v n ∙ (λ i. cond (get_or-set_same ps v true false l i) (Value (get_or-set_same vs v k 0 m i)) Null) ∙ sym e;
        others = λ u o. held_by (set ps v true) (set vs v k) u n ∙ (λ i. cond (get_or-set_other ps v u true false o i) (Value (get_or-set_other vs v u k 0 o i)) Null) ∙ sym (held_by ps vs u size) ∙ ap (λ xs. held xs u) is;
      }

module _ (ps : List Bool) (vs : List ℕ) {now : List Content} (is : cells ps vs ≡ now) (size : length ps ≡ length vs) (v u : ℕ) where
  same : passes (held now) (equals u) (held now v) ≡ cond (get_or ps v false) (cond (get_or ps u false) (eqb (get_or vs v 0) (get_or vs u 0)) false) false
  same = same_by (held now) u (get_or ps v false) (get_or ps u false) (get_or vs v 0) (get_or vs u 0) (by_cells ps vs is size v) (by_cells ps vs is size u)

  either : (a b : Bool) → cond a (cond b false false) false ≡ false
  either false b = refl
  either true false = refl
  either true true = refl

  pub same_past : length ps ≤ u → false ≡ passes (held now) (equals u) (held now v)
  same_past l = sym (same ∙ ap (λ b. cond (get_or ps v false) (cond b (eqb (get_or vs v 0) (get_or vs u 0)) false) false) (get_or-eq_default ps false l) ∙ either (get_or ps v false) false)

  pub same_differs : (get_or vs v 0 ≡ get_or vs u 0 → ⊥) → false ≡ passes (held now) (equals u) (held now v)
  same_differs h = sym (same ∙ ap (λ b. cond (get_or ps v false) (cond (get_or ps u false) b false) false) (ne_eqb (get_or vs v 0) (get_or vs u 0) h) ∙ either (get_or ps v false) (get_or ps u false))

  pub same_values : get_or vs v 0 ≡ get_or vs u 0 → get_or ps v false ≡ true → get_or ps u false ≡ passes (held now) (equals u) (held now v)
  same_values e h = sym (same ∙ (λ i. cond (h i) (cond (get_or ps u false) (eq-eqb (get_or vs v 0) (get_or vs u 0) e i) false) false) ∙ go (get_or ps u false))
    where
      go : (b : Bool) → cond b true false ≡ b
      go true = refl
      go false = refl

  pub same_null : get_or ps v false ≡ false → get_or ps v false ≡ passes (held now) (equals u) (held now v)
  same_null h = h ∙ sym (same ∙ ap (λ b. cond b (cond (get_or ps u false) (eqb (get_or vs v 0) (get_or vs u 0)) false) false) h)
