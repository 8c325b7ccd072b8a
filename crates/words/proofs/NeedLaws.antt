-- The mathematics of the least solution, free of code. Assumes nothing.
use Prim.Native.Nat.{ℕ, zero, suc, ◌+◌, ◌≤◌, ◌<◌}
use native.Mathlib.Omega.{arith}
use native.Mathlib.Decide.{ℕ_discrete}
use mathlib.Core.Path.{◌≡◌, refl, sym, ◌∙◌, ap, subst}
use mathlib.Core.Bool.{Bool, true, false, not}
use mathlib.Core.List.{List}
use lib.ListN.{length, get_or, set, length-set, replicate}
use lib.Dec.{eqb}
use borrow.Author.Count.{below_more}
use borrow.Author.Tests.{eqb-true, eqb-false, ne_eqb}
use lib.Seq.{get_or-set_same, get_or-set_other}
use Rattle.words.specs.Meaning.{Test, Test.test_null, Test.test_not_null, Content, Content.null, Content.value, allows, wants, passes, pick_test, test_of, var_at, op_at, test_at, atoms}
use Rattle.words.specs.Ties.{mate_at, Needs}

pub clash : {b : Bool} → b ≡ true → b ≡ false → ⊥
clash p q = let z : ◌≡◌ {A = ℕ} 0 1 = ap pick (sym p ∙ q) in omega arith
  where
    pick : Bool → ℕ
    pick true = 0
    pick false = 1

pub has_value : (c : Content) → (c ≡ null → ⊥) → (n : ℕ) × (c ≡ value n)
has_value null h = absurd (h refl)
has_value (value n) h = (n, refl)

pub no_null : (t : Test) (c : Content) → wants t ≡ true → passes t c → c ≡ null → ⊥
no_null t c w h z = let q : passes t null = subst (λ (x : Content). passes t x) z h in clash w q

pub allows_at : (t : Test) (c : Content) (n : ℕ) → passes t c → c ≡ value n → allows t n
allows_at t c n h e = subst (λ (x : Content). passes t x) e h

-- marks in a list

pub mark_new : (l : List Bool) (v : ℕ) → v < length l → get_or (set l v true) v false ≡ true
mark_new l v lt = get_or-set_same l v true false lt

pub mark_old : (l : List Bool) (v w : ℕ) → v < length l → get_or l w false ≡ true → get_or (set l v true) w false ≡ true
mark_old l v w lt h = go (ℕ_discrete w v)
  where
    go : Dec (w ≡ v) → get_or (set l v true) w false ≡ true
    go (yes e) = subst (λ (k : ℕ). get_or (set l v true) k false ≡ true) (sym e) (mark_new l v lt)
    go (no ne) = get_or-set_other l v w true false ne ∙ h

-- whoever holds of v and of every marked one holds of every one marked after v is
pub mark_all : (P : ℕ → Type 0) (l : List Bool) (v : ℕ) → P v → ((w : ℕ) → get_or l w false ≡ true → P w) → (w : ℕ) → get_or (set l v true) w false ≡ true → P w
mark_all P l v p h w m = go (ℕ_discrete w v)
  where
    go : Dec (w ≡ v) → P w
    go (yes e) = subst P (sym e) p
    go (no d) = h w (sym (get_or-set_other l v w true false d) ∙ m)

pub set_le : (x : List ℕ) (v m w : ℕ) → get_or x v 0 ≤ m → v < length x → get_or x w 0 ≤ get_or (set x v m) w 0
set_le x v m w l lt = go (ℕ_discrete w v)
  where
    go : Dec (w ≡ v) → get_or x w 0 ≤ get_or (set x v m) w 0
    go (yes e) = let q : get_or (set x v m) v 0 ≡ m = get_or-set_same x v m 0 lt in subst (λ (k : ℕ). get_or x k 0 ≤ get_or (set x v m) k 0) (sym e) (omega arith)
    go (no ne) = let q : get_or (set x v m) w 0 ≡ get_or x w 0 = get_or-set_other x v w m 0 ne in omega arith

-- whoever is at or above m at v, and at or above x elsewhere, is at or above x after m is put at v
pub set_under : (x : List ℕ) (v m n w : ℕ) → v < length x → (w ≡ v → m ≤ n) → get_or x w 0 ≤ n → get_or (set x v m) w 0 ≤ n
set_under x v m n w lt h l = go (ℕ_discrete w v)
  where
    go : Dec (w ≡ v) → get_or (set x v m) w 0 ≤ n
    go (yes e) =
        let q : get_or (set x v m) v 0 ≡ m = get_or-set_same x v m 0 lt in
        let r : m ≤ n = h e in
        subst (λ (k : ℕ). get_or (set x v m) k 0 ≤ n) (sym e) (omega arith)
    go (no ne) = let q : get_or (set x v m) w 0 ≡ get_or x w 0 = get_or-set_other x v w m 0 ne in omega arith

pub zero_at : (n v : ℕ) → ◌≡◌ {A = ℕ} (get_or (replicate n 0) v 0) 0
zero_at zero v = refl
zero_at (suc n) zero = refl
zero_at (suc n) (suc v) = zero_at n v

pub unmarked : (n v : ℕ) → get_or (replicate n false) v false ≡ false
unmarked zero v = refl
unmarked (suc n) zero = refl
unmarked (suc n) (suc v) = unmarked n v

-- the variables that cannot be null: one more atom

pub needs_skip : (s : List ℕ) (need0 need : List Bool) (i : ℕ) → Needs s i need0 need → wants (test_at s i) ≡ false → Needs s (i + 1) need0 need
needs_skip s need0 need i h f =
    record {
      kept = h.kept;
      wanted = below_more (λ k. wants (test_at s k) ≡ true → get_or need (var_at s k) false ≡ true) i h.wanted (λ w. absurd (clash w f));
      mates = below_more (λ k. wants (test_at s k) ≡ true → get_or need (mate_at s k) false ≡ true) i h.mates (λ w. absurd (clash w f));
      only = h.only;
    }

pub needs_add : (s : List ℕ) (need0 need : List Bool) (i v p : ℕ) → v ≡ var_at s i → p ≡ mate_at s i → v < length need → p < length need → i < atoms s → wants (test_at s i) ≡ true → Needs s i need0 need →
    Needs s (i + 1) need0 (set (set need v true) p true)
needs_add s need0 need i v p ev ep lv lp li f h =
    record {
      kept = λ w y. old w (h.kept w y);
      wanted =
          below_more (λ k. wants (test_at s k) ≡ true → get_or next (var_at s k) false ≡ true) i (λ k l w. old (var_at s k) (h.wanted k l w))
          (λ w. subst (λ (k : ℕ). get_or next k false ≡ true) ev (mark_old (set need v true) p v lp' (mark_new need v lv)));
      mates =
          below_more (λ k. wants (test_at s k) ≡ true → get_or next (mate_at s k) false ≡ true) i (λ k l w. old (mate_at s k) (h.mates k l w))
          (λ w. subst (λ (k : ℕ). get_or next k false ≡ true) ep (mark_new (set need v true) p lp'));
      only = λ floor e m.
          let a = h.only floor e m in
          let b = m.meets i li in
          let nv : e v ≡ null → ⊥ = λ z. no_null (test_at s i) (e (var_at s i)) f b.0 (ap e (sym ev) ∙ z) in
          let np : e p ≡ null → ⊥ = λ z. no_null (test_at s i) (e (var_at s i)) f b.0 (b.1 ∙ ap e (sym ep) ∙ z) in
          let all : (w : ℕ) → get_or next w false ≡ true → w < 32 → e w ≡ null → ⊥ =
          mark_all (λ w. w < 32 → e w ≡ null → ⊥) (set need v true) p (λ l. np) (mark_all (λ w. w < 32 → e w ≡ null → ⊥) need v (λ l. nv) (λ w y l. a.needed w l y)) in
          record { bounded = a.bounded; meets = a.meets; needed = λ w l y. all w y l; above = a.above };
    }
  where
    next : List Bool
    next = set (set need v true) p true

    lp' : p < length (set need v true)
    lp' = rw length-set lp

    old : (w : ℕ) → get_or need w false ≡ true → get_or next w false ≡ true
    old w y = mark_old (set need v true) p w lp' (mark_old need v w lv y)

-- which tests want a value

wants_pick : (b : Bool) (t u : Test) → wants t ≡ true → wants u ≡ true → wants (pick_test b t u) ≡ true
wants_pick true t u p q = p
wants_pick false t u p q = q

pub wants_rest : (op c x : ℕ) (f : ℕ → ℕ) → (op ≡ 7 → ⊥) → wants (test_of op c x f) ≡ true
wants_rest op c x f a =
    wants_pick (eqb op 1) _ _ refl
    (wants_pick (eqb op 2) _ _ refl
    (wants_pick (eqb op 3) _ _ refl
    (wants_pick (eqb op 4) _ _ refl
    (wants_pick (eqb op 5) _ _ refl
    (wants_pick (eqb op 6) _ _ refl (ap (λ (b : Bool). wants (pick_test b test_null test_not_null)) (ne_eqb op 7 a)))))))

pub wanting_law : (s : List ℕ) (i : ℕ) → not (eqb (op_at s i) 7) ≡ wants (test_at s i)
unfolding test_at
wanting_law s i = go (eqb (op_at s i) 7) refl
  where
    go : (b : Bool) → eqb (op_at s i) 7 ≡ b → not (eqb (op_at s i) 7) ≡ wants (test_at s i)
    go true e = rw (eqb-true (op_at s i) 7 e)
    go false e = ap not e ∙ sym (wants_rest (op_at s i) _ _ _ (eqb-false (op_at s i) 7 e))
