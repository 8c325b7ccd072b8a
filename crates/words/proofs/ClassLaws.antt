-- Labels of classes: equated variables get one, and variables with one label are equal wherever the atoms are met. Free of code; assumes nothing.
use Prim.Native.Nat.{ℕ, ◌+◌, ◌<◌}
use native.Mathlib.Omega.{arith}
use native.Mathlib.Decide.{ℕ_discrete}
use mathlib.Core.Path.{◌≡◌, refl, sym, ◌∙◌, ap, subst}
use mathlib.Core.Bool.{Bool, true, false}
use mathlib.Core.List.{List}
use lib.ListN.{length, get_or, set}
use lib.Seq.{get_or-set_same, get_or-set_other}
use lib.Dec.{eqb}
use borrow.Author.Count.{below_more}
use borrow.Author.Tests.{ne_eqb, eq-eqb}
use Rattle.words.specs.Meaning.{Content, var_at, op_at, other_at, atoms}
use Rattle.words.specs.Ties.{pick_n, mate_at, Met, renamed, Renames, Classes}

-- one more element of a list that is filled from the front: what each element has, by its place
pub fill_more : (P : ℕ → ℕ → Type 0) (out : List ℕ) (v x : ℕ) → v < length out → ((w : ℕ) → w < v → P w (get_or out w 0)) → P v x → (w : ℕ) → w < v + 1 → P w (get_or (set out v x) w 0)
fill_more P out v x l h e =
    below_more (λ w. P w (get_or (set out v x) w 0)) v (λ w d. subst (P w) (sym (get_or-set_other out v w x 0 (omega arith))) (h w d)) (subst (P v) (sym (get_or-set_same out v x 0 l)) e)

-- the same of a list that is filled by a rule
pub fill_step : (f : ℕ → ℕ) (out : List ℕ) (v x : ℕ) → v < length out → ((w : ℕ) → w < v → get_or out w 0 ≡ f w) → x ≡ f v → (w : ℕ) → w < v + 1 → get_or (set out v x) w 0 ≡ f w
fill_step f out v x l h e =
    below_more (λ w. get_or (set out v x) w 0 ≡ f w) v (λ w d. get_or-set_other out v w x 0 (omega arith) ∙ h w d) (get_or-set_same out v x 0 l ∙ e)

-- labels

pub at_label : (rep : List ℕ) {v w r : ℕ} → v ≡ w → get_or rep v 0 ≡ r → get_or rep w 0 ≡ r
at_label rep e q = ap (λ (k : ℕ). get_or rep k 0) (sym e) ∙ q

pick_same : (b : Bool) (a : ℕ) → pick_n b a a ≡ a
pick_same true a = refl
pick_same false a = refl

pub renamed_at : (a b l : ℕ) → l ≡ b → renamed a b l ≡ a
renamed_at a b l e = ap (λ (t : Bool). pick_n t a l) (eq-eqb l b e)

pub renamed_off : (a b l : ℕ) → (l ≡ b → ⊥) → renamed a b l ≡ l
renamed_off a b l ne = ap (λ (t : Bool). pick_n t a l) (ne_eqb l b ne)

pub mate_below : (s : List ℕ) (i : ℕ) → mate_at s i < 32
unfolding mate_at
mate_below s i = go (eqb (op_at s i) 0)
  where
    go : (b : Bool) → pick_n b (other_at s i) (var_at s i) < 32
    go true = omega arith
    go false = omega arith

-- atom i ties nothing new
pub classes_skip : (s rep : List ℕ) (i v p : ℕ) → v ≡ var_at s i → p ≡ mate_at s i → get_or rep v 0 ≡ get_or rep p 0 → Classes s i rep → Classes s (i + 1) rep
classes_skip s rep i v p ev ep q h =
    record {
      joined =
          below_more (λ k. get_or rep (var_at s k) 0 ≡ get_or rep (mate_at s k) 0) i h.joined
          (ap (λ (k : ℕ). get_or rep k 0) (sym ev) ∙ q ∙ ap (λ (k : ℕ). get_or rep k 0) ep);
      sound = h.sound;
    }

-- u and w, which atom i ties, get one label
module _ (s rep out : List ℕ) (i u w : ℕ) (lu : u < 32) (lw : w < 32) (same : (e : ℕ → Content) → ((k : ℕ) → k < atoms s → Met s k e) → e u ≡ e w) (h : Classes s i rep)
    (r : Renames (get_or rep u 0) (get_or rep w 0) rep out) where
  abbrev a : ℕ
  a = get_or rep u 0

  abbrev b : ℕ
  b = get_or rep w 0

  tied_now : get_or out u 0 ≡ get_or out w 0
  tied_now = r.at u lu ∙ pick_same (eqb a b) a ∙ sym (renamed_at a b b refl) ∙ sym (r.at w lw)

  still_sound : (e : ℕ → Content) → ((k : ℕ) → k < atoms s → Met s k e) → (x y : ℕ) → x < 32 → y < 32 → renamed a b (get_or rep x 0) ≡ renamed a b (get_or rep y 0) → Dec (get_or rep x 0 ≡ b) → Dec (get_or rep y 0 ≡ b) → e x ≡ e y
  still_sound e m x y lx ly q (yes f) (yes g) = h.sound e m x y lx ly (f ∙ sym g)
  still_sound e m x y lx ly q (yes f) (no g) =
      h.sound e m x w lx lw f ∙ sym (same e m) ∙ h.sound e m u y lu ly (sym (renamed_at a b (get_or rep x 0) f) ∙ q ∙ renamed_off a b (get_or rep y 0) g)
  still_sound e m x y lx ly q (no f) (yes g) =
      h.sound e m x u lx lu (sym (renamed_off a b (get_or rep x 0) f) ∙ q ∙ renamed_at a b (get_or rep y 0) g) ∙ same e m ∙ h.sound e m w y lw ly (sym g)
  still_sound e m x y lx ly q (no f) (no g) = h.sound e m x y lx ly (sym (renamed_off a b (get_or rep x 0) f) ∙ q ∙ renamed_off a b (get_or rep y 0) g)

  classes_more : get_or out (var_at s i) 0 ≡ get_or out (mate_at s i) 0 → Classes s (i + 1) out
  classes_more now-joined =
      record {
        joined =
            below_more (λ k. get_or out (var_at s k) 0 ≡ get_or out (mate_at s k) 0) i
            (λ k l. r.at (var_at s k) (omega arith) ∙ ap (renamed a b) (h.joined k l) ∙ sym (r.at (mate_at s k) (mate_below s k))) now-joined;
        sound = λ e m x y lx ly q. still_sound e m x y lx ly (sym (r.at x lx) ∙ q ∙ r.at y ly) (ℕ_discrete (get_or rep x 0) b) (ℕ_discrete (get_or rep y 0) b);
      }

module _ (s rep out : List ℕ) (i v p : ℕ) (ev : v ≡ var_at s i) (ep : p ≡ mate_at s i) (lv : v < 32) (lp : p < 32) (li : i < atoms s) (h : Classes s i rep) where
  tie : (e : ℕ → Content) → ((k : ℕ) → k < atoms s → Met s k e) → e v ≡ e p
  tie e m = ap e ev ∙ (m i li).1 ∙ ap e (sym ep)

  pub classes_left : Renames (get_or rep v 0) (get_or rep p 0) rep out → Classes s (i + 1) out
  classes_left r =
      classes_more s rep out i v p lv lp tie h r
      (ap (λ (k : ℕ). get_or out k 0) (sym ev) ∙ tied_now s rep out i v p lv lp tie h r ∙ ap (λ (k : ℕ). get_or out k 0) ep)

  pub classes_right : Renames (get_or rep p 0) (get_or rep v 0) rep out → Classes s (i + 1) out
  classes_right r =
      classes_more s rep out i p v lp lv (λ e m. sym (tie e m)) h r
      (ap (λ (k : ℕ). get_or out k 0) (sym ev) ∙ sym (tied_now s rep out i p v lp lv (λ e m. sym (tie e m)) h r) ∙ ap (λ (k : ℕ). get_or out k 0) ep)
