-- When two variables can hold different values, and when they can differ at all, null counted as one more value. From the
-- promise of the least solution alone, free of code. Assumes nothing.
use Rattle.std.proofs.Common.{◌≡◌, ℕ, ◌<◌, Bool, true, false, not, List, get_or, set, length-set, None, refl, sym, ◌∙◌, ap, subst, arith}
use native.Mathlib.Decide.{dec_lt}
use Rattle.words.specs.Meaning.{Content, Content.null, Content.value, Sat, Differ}
use Rattle.words.specs.Ties.{Tied}
use Rattle.reach.specs.Solution.{contents, Asks, IsLeast, Solves, Lesser, Apart, Lowest, NullBeside, Parts}
use Rattle.reach.specs.declared.Solution.{Solution}
use Rattle.words.proofs.NeedLaws.{clash, has_value, mark_all, mark_old, mark_new, zero_at, unmarked}
use Rattle.reach.proofs.SolveLaws.{met_Met, null_there, value_there, value_is, zeros, none, asks_nothing}

-- less is different
pub apart_yes : (s top : List ℕ) (u w : ℕ) {b : Bool} → b ≡ true → Lesser s top u w b → Apart s top u w true
apart_yes s top u w d h =
    let g : Lesser s top u w true = subst (λ (b : Bool). Lesser s top u w b) d h in
    let o = g.1 in
    (g.0, record { sat = o.sat; p = o.p; q = o.q; holds_u = o.holds_u; holds_w = o.holds_w; differ = let l = o.less in λ e. omega arith })

pub apart_back : (s top : List ℕ) (u w : ℕ) → Apart s top w u true → Apart s top u w true
apart_back s top u w h =
    let o = h.1 in
    (h.0, record { sat = o.sat; p = o.q; q = o.p; holds_u = o.holds_w; holds_w = o.holds_u; differ = λ e. o.differ (sym e) })

-- different is less one way or the other
pub apart_other : (s top : List ℕ) (u w : ℕ) (b : Bool) → Lesser s top u w false → Lesser s top w u b → Apart s top u w b
apart_other s top u w true f h =
    let o = h.1 in
    (h.0, record { sat = o.sat; p = o.q; q = o.p; holds_u = o.holds_w; holds_w = o.holds_u; differ = let l = o.less in λ e. omega arith })
apart_other s top u w false f g = λ e o. go e o (dec_lt o.p o.q)
  where
    go : (e : ℕ → Content) (o : Differ s top u w e) → Dec (o.p < o.q) → ⊥
    go e o (yes l) = f e (record { sat = o.sat; p = o.p; q = o.q; holds_u = o.holds_u; holds_w = o.holds_w; less = l })
    go e o (no l) =
        let ne = o.differ in
        g e (record { sat = o.sat; p = o.q; q = o.p; holds_u = o.holds_w; holds_w = o.holds_u; less = omega arith })

-- the least solution with u and w not null

module _ (s top : List ℕ) (u w : ℕ) (lu : u < 32) (lw : w < 32) where
  abbrev both : List Bool
  both = set (set none u true) w true

  asks_pair : (e : ℕ → Content) → (e u ≡ null → ⊥) → (e w ≡ null → ⊥) → Asks both zeros e
  asks_pair e nu nw =
      record {
        needed = λ v l. mark_all (λ v. e v ≡ null → ⊥) (set none u true) w nw (mark_all (λ v. e v ≡ null → ⊥) none u nu (λ v y. absurd (clash y (unmarked 32 v)))) v;
        above = λ v n l q. let z = zero_at 32 v in omega arith;
      }

  pair_u : get_or both u false ≡ true
  pair_u = mark_old (set none u true) w u (rw length-set lw) (mark_new none u lu)

  pair_w : get_or both w false ≡ true
  pair_w = mark_new (set none u true) w (rw length-set lw)

  -- who asks for no null in either has none in either
  has_pair : (e : ℕ → Content) → Asks both zeros e → (e u ≡ null → ⊥) × (e w ≡ null → ⊥)
  has_pair e a = (a.needed u lu pair_u, a.needed w lw pair_w)

-- the same solution answers what asks the same
least_same : (s top : List ℕ) (need1 need2 : List Bool) (floor : List ℕ) (r : Solution) → Asks need2 floor (contents r.need r.x) → ((e : ℕ → Content) → Asks need2 floor e → Asks need1 floor e) → IsLeast s top need1 floor r → IsLeast s top need2 floor r
least_same s top need1 need2 floor r f g h =
    record {
      sat = h.sat;
      asks = f;
      least = λ e m a. h.least e m (g e a);
      surely = λ v l y e m a. h.surely v l y e m (g e a);
    }

pub lowest_back : (s top : List ℕ) (u w : ℕ) → u < 32 → w < 32 → (low : Solution) → Lowest s top u w low → Lowest s top w u low
lowest_back s top u w lu lw low lo =
    least_same s top _ _ zeros low (let b = has_pair s top u w lu lw _ lo.asks in asks_pair s top w u lw lu (contents low.need low.x) b.1 b.0)
    (λ e a. let b = has_pair s top w u lw lu e a in asks_pair s top u w lu lw e b.1 b.0) lo

module _ (s top : List ℕ) (u w : ℕ) (lu : u < 32) (lw : w < 32) where
  pub apart_none : Solves s top (both s top u w lu lw) zeros None → Apart s top u w false
  apart_none h = λ e o.
      h e o.sat
      (asks_pair s top u w lu lw e (λ z. let g = o.holds_u in let q : ◌≡◌ {A = ℕ} 0 1 = cc in omega arith) (λ z. let g = o.holds_w in let q : ◌≡◌ {A = ℕ} 0 1 = cc in omega arith))

  module _ (low : Solution) where
    pub splits_yes : Lowest s top u w low → (get_or low.x u 0 ≡ get_or low.x w 0 → ⊥) → Apart s top u w true
    splits_yes lo ne = (
      contents low.need low.x,
      record {
        sat = lo.sat;
        p = get_or low.x u 0;
        q = get_or low.x w 0;
        holds_u = holds u lu (pair_u s top u w lu lw);
        holds_w = holds w lw (pair_w s top u w lu lw);
        differ = ne;
      },
    )
      where
        holds : (v : ℕ) → v < 32 → get_or (both s top u w lu lw) v false ≡ true → contents low.need low.x v ≡ value (get_or low.x v 0)
        holds v l y =
            let a = has_value (contents low.need low.x v) (lo.asks.needed v l y) in
            let b = value_is low.need low.x v a.0 a.1 in
            a.1 ∙ ap value (sym b.1)

    -- the least solution of all, where it has neither null, is the least in which neither is null
    pub lowest_of : IsLeast s top none zeros low → get_or low.need u false ≡ true → get_or low.need w false ≡ true → Lowest s top u w low
    lowest_of h yu yw =
        least_same s top _ _ zeros low (asks_pair s top u w lu lw (contents low.need low.x) (never u yu) (never w yw)) (λ e a. asks_nothing e) h
      where
        never : (v : ℕ) → get_or low.need v false ≡ true → contents low.need low.x v ≡ null → ⊥
        never v y z = let g : contents low.need low.x v ≡ value (get_or low.x v 0) = value_there low.need low.x v y in let q : ◌≡◌ {A = ℕ} 0 1 = cc in omega arith

pub splits_tied : (s top : List ℕ) (u w : ℕ) → Tied s u w → Apart s top u w false
splits_tied s top u w t e o =
    let q : e u ≡ e w = t e (λ i l. met_Met s i e (o.sat.meets i l)) in
    let a = o.holds_u in
    let b = o.holds_w in
    let d : o.p ≡ o.q = cc in
    o.differ d

-- null beside a value

module _ (s top : List ℕ) (u w : ℕ) (lu : u < 32) (lw : w < 32) where
  asks_one : (e : ℕ → Content) → (e w ≡ null → ⊥) → Asks (set none w true) zeros e
  asks_one e nw =
      record { needed = λ v l. mark_all (λ v. e v ≡ null → ⊥) none w nw (λ v y. absurd (clash y (unmarked 32 v))) v; above = λ v n l q. let z = zero_at 32 v in omega arith }

  pub beside_by : (r : Solution) → IsLeast s top (set none w true) zeros r → (b : Bool) → get_or r.need u false ≡ b → NullBeside s top u w (not b)
  beside_by r h false z = (contents r.need r.x, h.sat, null_there r.need r.x u z, h.asks.needed w lw (mark_new none w lw))
  beside_by r h true y = λ e m z nw. h.surely u lu y e m (asks_one e nw) z

  pub beside_none : Solves s top (set none w true) zeros None → NullBeside s top u w false
  beside_none h = λ e m z nw. h e m (asks_one e nw)

-- different, null counted as one more value

module _ (s top : List ℕ) (u w : ℕ) where
  pub parts_beside : {b : Bool} → b ≡ true → NullBeside s top u w b → Parts s top u w true
  parts_beside d h =
      let g : NullBeside s top u w true = subst (λ (b : Bool). NullBeside s top u w b) d h in
      (g.0, g.1, λ q. g.3 (sym q ∙ g.2))

  pub parts_back : Parts s top w u true → Parts s top u w true
  parts_back h = (h.0, h.1, λ q. h.2 (sym q))

  pub parts_apart : {b : Bool} → b ≡ true → Apart s top u w b → Parts s top u w true
  parts_apart d h =
      let g : Apart s top u w true = subst (λ (b : Bool). Apart s top u w b) d h in
      let o = g.1 in
      (g.0, o.sat, λ q. o.differ (let a = o.holds_u in let b = o.holds_w in cc))

  pub parts_by : NullBeside s top u w false → NullBeside s top w u false → (b : Bool) → Apart s top u w b → Parts s top u w b
  parts_by f g true h =
      let o = h.1 in
      (h.0, o.sat, λ q. o.differ (let a = o.holds_u in let b = o.holds_w in cc))
  parts_by f g false h = λ e m ne. go e m ne (e u) (e w) refl refl
    where
      go : (e : ℕ → Content) → Sat s top e → (e u ≡ e w → ⊥) → (c d : Content) → e u ≡ c → e w ≡ d → ⊥
      go e m ne null null p q = ne (p ∙ sym q)
      go e m ne null (value n) p q = f e m p (λ z. let i : ◌≡◌ {A = ℕ} 0 1 = cc in omega arith)
      go e m ne (value n) null p q = g e m q (λ z. let i : ◌≡◌ {A = ℕ} 0 1 = cc in omega arith)
      go e m ne (value k) (value n) p q = h e (record { sat = m; p = k; q = n; holds_u = p; holds_w = q; differ = λ z. ne (p ∙ ap value z ∙ sym q) })

  pub parts_none : Solves s top none zeros None → Parts s top u w false
  parts_none h = λ e m ne. h e m (asks_nothing e)

  -- the least solution of all tells where it has u null and w not
  pub parts_left : (low : Solution) → IsLeast s top none zeros low → get_or low.need u false ≡ false → get_or low.need w false ≡ true → Parts s top u w true
  parts_left low h z y = (
    contents low.need low.x,
    h.sat,
    (λ q.
        let a : contents low.need low.x u ≡ null = null_there low.need low.x u z in
        let b : contents low.need low.x w ≡ value (get_or low.x w 0) = value_there low.need low.x w y in
        let i : ◌≡◌ {A = ℕ} 0 1 = cc in
        omega arith),
  )

  pub parts_neither : u < 32 → w < 32 → (low : Solution) → IsLeast s top none zeros low → get_or low.need u false ≡ true → get_or low.need w false ≡ true → (b : Bool) → Apart s top u w b → Parts s top u w b
  parts_neither lu lw low h yu yw b a = parts_by (λ e m z nn. h.surely u lu yu e m (asks_nothing e) z) (λ e m z nn. h.surely w lw yw e m (asks_nothing e) z) b a
