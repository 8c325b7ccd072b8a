-- When one variable can hold less than another: a cut of any such solution and the least one is a solution too. From the promise of the least
-- solution alone, free of code. Assumes nothing.
use Rattle.std.proofs.Common.{◌≡◌, ℕ, ◌+◌, ◌≤◌, ◌<◌, Bool, true, false, List, get_or, set, length-set, None, sym, ◌∙◌, ap, subst, arith, get_or-set_same, get_or-set_other}
use native.Mathlib.Decide.{ℕ_discrete}
use lib.Dec.{ltb}
use borrow.Author.Tests.{lt-ltb, le-ltb, ltb-true, ltb-false}
use Rattle.words.specs.Meaning.{Content, Content.null, Content.value, Sat, Ordered, passes, var_at, test_at}
use Rattle.reach.specs.Solution.{pick_c, contents, Asks, IsLeast, Solves, Lesser, Lowest}
use Rattle.reach.specs.declared.Solution.{Solution}
use Rattle.words.proofs.NeedLaws.{clash, has_value, mark_all, mark_old, mark_new, zero_at, unmarked}
use Rattle.reach.proofs.SolveLaws.{met_Met, Met_met, value_is, zeros, none}

-- The cut: above a threshold k the contents c, and elsewhere d. It is how two solutions make a third.
pick_w : Content → Content → ℕ → Content
pick_w null d k = d
pick_w (value n) d k = pick_c (ltb k n) (value n) d

pick_either : (P : Content → Type 0) (c d : Content) (k : ℕ) → P c → P d → P (pick_w c d k)
unfolding pick_w
pick_either P null d k p q = q
pick_either P (value n) d k p q = go (ltb k n)
  where
    go : (b : Bool) → P (pick_c b (value n) d)
    go true = p
    go false = q

pick_high : (c d : Content) (k n : ℕ) → c ≡ value n → k < n → pick_w c d k ≡ value n
unfolding pick_w
pick_high c d k n e l = ap (λ (x : Content). pick_w x d k) e ∙ ap (λ (b : Bool). pick_c b (value n) d) (lt-ltb k n l)

pick_low : (c d : Content) (k n : ℕ) → c ≡ value n → n ≤ k → pick_w c d k ≡ d
unfolding pick_w
pick_low c d k n e l = ap (λ (x : Content). pick_w x d k) e ∙ ap (λ (b : Bool). pick_c b (value n) d) (le-ltb k n l)

cut_sat : (s top : List ℕ) (e d : ℕ → Content) (k : ℕ) → Sat s top e → Sat s top d → Sat s top (λ v. pick_w (e v) (d v) k)
cut_sat s top e d k he hd =
    record {
      fits = λ v n l q. pick_either (λ c. (m : ℕ) → c ≡ value m → m ≤ get_or top v 0) (e v) (d v) k (λ m. he.fits v m l) (λ m. hd.fits v m l) n q;
      meets = λ i l.
          let a = met_Met s i e (he.meets i l) in
          let b = met_Met s i d (hd.meets i l) in
          Met_met s i (λ v. pick_w (e v) (d v) k)
          (pick_either (λ c. passes (test_at s i) c) (e (var_at s i)) (d (var_at s i)) k a.0 b.0, λ j. pick_w (a.1 j) (b.1 j) k);
    }

-- low is the least solution with u and w not null, and high the least in which w is above u's least value besides
module _ (s top : List ℕ) (u w : ℕ) (lu : u < 32) (lw : w < 32) where
  abbrev both : List Bool
  both = set (set none u true) w true

  both_only : (e : ℕ → Content) (p q : ℕ) → e u ≡ value p → e w ≡ value q → (v : ℕ) → get_or both v false ≡ true → e v ≡ null → ⊥
  both_only e p q eu ew =
      mark_all (λ v. e v ≡ null → ⊥) (set none u true) w (λ z. let b : ◌≡◌ {A = ℕ} 0 1 = cc in omega arith)
      (mark_all (λ v. e v ≡ null → ⊥) none u (λ z. let b : ◌≡◌ {A = ℕ} 0 1 = cc in omega arith) (λ v y. absurd (clash y (unmarked 32 v))))

  both_u : get_or both u false ≡ true
  both_u = mark_old (set none u true) w u (rw length-set lw) (mark_new none u lu)

  both_w : get_or both w false ≡ true
  both_w = mark_new (set none u true) w (rw length-set lw)

  asks_both : (e : ℕ → Content) → Ordered s top u w e → Asks both zeros e
  asks_both e o =
      record { needed = λ v l. both_only e o.p o.q o.holds_u o.holds_w v; above = λ v n l q. let z = zero_at 32 v in omega arith }

  -- what a solution has at a variable that it was asked not to have null
  there : (floor : List ℕ) (r : Solution) → IsLeast s top both floor r → (v : ℕ) → v < 32 → get_or both v false ≡ true → contents r.need r.x v ≡ value (get_or r.x v 0)
  there floor r h v l y =
      let a = has_value (contents r.need r.x v) (h.asks.needed v l y) in
      let b = value_is r.need r.x v a.0 a.1 in
      a.1 ∙ ap value (sym b.1)

  pub rises_yes : (floor : List ℕ) (r : Solution) → IsLeast s top both floor r → get_or r.x u 0 < get_or r.x w 0 → Lesser s top u w true
  rises_yes floor r h l = (
    contents r.need r.x,
    record { sat = h.sat; p = get_or r.x u 0; q = get_or r.x w 0; holds_u = there floor r h u lu both_u; holds_w = there floor r h w lw both_w; less = l },
  )

  pub lesser_none : Solves s top both zeros None → Lesser s top u w false
  lesser_none h = λ e o. h e o.sat (asks_both e o)

  module _ (low : Solution) (lo : Lowest s top u w low) where
    under_p : (e : ℕ → Content) (o : Ordered s top u w e) → get_or low.x u 0 ≤ o.p
    under_p e o = lo.least e o.sat (asks_both e o) u o.p lu o.holds_u

    pub rises_max : get_or top w 0 ≤ get_or low.x u 0 → Lesser s top u w false
    rises_max m = λ e o.
        let h = under_p e o in
        let b = o.sat.fits w o.q lw o.holds_w in
        let g = o.less in
        omega arith

    abbrev lifted : List ℕ
    lifted = set zeros w (get_or low.x u 0 + 1)

    module _ (e : ℕ → Content) (o : Ordered s top u w e) where
      least_there : ℕ → Content
      least_there = contents low.need low.x

      cut : ℕ → Content
      cut v = pick_w (e v) (least_there v) o.p

      cut_u : cut u ≡ value (get_or low.x u 0)
      unfolding cut least_there
      cut_u = pick_low (e u) (least_there u) o.p o.p o.holds_u (omega arith) ∙ there zeros low lo u lu both_u

      cut_w : cut w ≡ value o.q
      unfolding cut
      cut_w = pick_high (e w) (least_there w) o.p o.q o.holds_w o.less

      cut_fits : Sat s top cut
      unfolding cut least_there
      cut_fits = cut_sat s top e least_there o.p o.sat lo.sat

      cut_asks : Asks both lifted cut
      unfolding cut least_there
      cut_asks =
          record {
            needed = λ v l y.
                pick_either (λ c. c ≡ null → ⊥) (e v) (least_there v) o.p (both_only e o.p o.q o.holds_u o.holds_w v y) (lo.asks.needed v l y);
            above = λ v n l q. at v n q (ℕ_discrete v w);
          }
        where
          at : (v n : ℕ) → cut v ≡ value n → Dec (v ≡ w) → get_or lifted v 0 ≤ n
          at v n q (yes z) =
              let a : get_or lifted w 0 ≡ get_or low.x u 0 + 1 = get_or-set_same zeros w (get_or low.x u 0 + 1) 0 lw in
              let b : cut v ≡ cut w = ap cut z in
              let d : cut w ≡ value o.q = cut_w in
              let f : n ≡ o.q = cc in
              let g = under_p e o in
              let i = o.less in
              subst (λ (k : ℕ). get_or lifted k 0 ≤ n) (sym z) (omega arith)
          at v n q (no ne) =
              let a : get_or lifted v 0 ≡ get_or zeros v 0 = get_or-set_other zeros w v (get_or low.x u 0 + 1) 0 ne in
              let b = zero_at 32 v in
              omega arith

    pub rises_stuck : Solves s top both lifted None → Lesser s top u w false
    rises_stuck h = λ e o. h (cut e o) (cut_fits e o) (cut_asks e o)

    pub rises_by : (high : Solution) → IsLeast s top both lifted high → (b : Bool) → ltb (get_or high.x u 0) (get_or high.x w 0) ≡ b → Lesser s top u w b
    rises_by high h true q = rises_yes lifted high h (ltb-true _ _ q)
    rises_by high h false q = λ e o.
        let l = ltb-false (get_or high.x u 0) (get_or high.x w 0) q in
        let a = h.least (cut e o) (cut_fits e o) (cut_asks e o) u (get_or low.x u 0) lu (cut_u e o) in
        let b = h.asks.above w (get_or high.x w 0) lw (there lifted high h w lw both_w) in
        let d : get_or lifted w 0 ≡ get_or low.x u 0 + 1 = get_or-set_same zeros w (get_or low.x u 0 + 1) 0 lw in
        omega arith
