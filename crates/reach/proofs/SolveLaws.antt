-- From the search to the meaning: what `solve` and `satisfiable` rest on, free of code. Assumes nothing.
use Rattle.std.proofs.Common.{◌≡◌, ℕ, ◌<◌, ◌^◌, Bool, true, false, List, get_or, replicate, Option, Some, None, refl, sym, ◌∙◌, ap, subst, arith}
use Rattle.std.specs.Option.{is_some}
use lib.Dec.{eqb}
use borrow.Author.Tests.{eqb-true}
use Rattle.words.specs.Meaning.{Test, Content, Sat, Test.one_of, Test.none_of, Test.test_at_most, Test.test_at_least, Test.under, Test.over, Test.test_null, Test.test_not_null, Content.null, Content.value, Atom.equals, Atom.holds, allows, wants, passes, same, met, pick_atom, var_at, op_at, other_at, test_at, atom_at, atoms}
use Rattle.words.specs.Ties.{pick_n, mate_at, Met, Model, Needs}
use Rattle.reach.specs.Solution.{Settled, Within, pick_c, contents, Asks, IsLeast, Solves, Answers}
use Rattle.reach.specs.declared.Solution.{Solution}
use Rattle.words.proofs.NeedLaws.{clash, has_value, zero_at, unmarked}

-- the atom's two forms mean the same

same_out : (a b : Content) → same a b → passes test_not_null a × (a ≡ b)
same_out null b h = absurd h
same_out (value m) null h = absurd h
same_out (value m) (value n) h = (tt, ap value h)

same_in : (a b : Content) → passes test_not_null a → a ≡ b → same a b
same_in null b h e = absurd (clash refl h)
same_in (value m) null h e = absurd (let z : ◌≡◌ {A = ℕ} 0 1 = cc in omega arith)
same_in (value m) (value n) h e = cc

equals_test : (s : List ℕ) (i : ℕ) → eqb (op_at s i) 0 ≡ true → test_at s i ≡ test_not_null
unfolding test_at
equals_test s i e = rw (eqb-true (op_at s i) 0 e)

pub met_Met : (s : List ℕ) (i : ℕ) (e : ℕ → Content) → met (atom_at s i) e → Met s i e
unfolding atom_at mate_at
met_Met s i e = go (eqb (op_at s i) 0) refl
  where
    go : (b : Bool) → eqb (op_at s i) 0 ≡ b → met (pick_atom b (equals (var_at s i) (other_at s i)) (holds (var_at s i) (test_at s i))) e → passes (test_at s i) (e (var_at s i)) × (e (var_at s i) ≡ e (pick_n b (other_at s i) (var_at s i)))
    go true q h =
        let g = same_out (e (var_at s i)) (e (other_at s i)) h in
        (subst (λ (t : Test). passes t (e (var_at s i))) (sym (equals_test s i q)) g.0, g.1)
    go false q h = (h, refl)

pub Met_met : (s : List ℕ) (i : ℕ) (e : ℕ → Content) → Met s i e → met (atom_at s i) e
unfolding atom_at mate_at
Met_met s i e = go (eqb (op_at s i) 0) refl
  where
    go : (b : Bool) → eqb (op_at s i) 0 ≡ b → passes (test_at s i) (e (var_at s i)) × (e (var_at s i) ≡ e (pick_n b (other_at s i) (var_at s i))) → met (pick_atom b (equals (var_at s i) (other_at s i)) (holds (var_at s i) (test_at s i))) e
    go true q h = same_in (e (var_at s i)) (e (other_at s i)) (subst (λ (t : Test). passes t (e (var_at s i))) (equals_test s i q) h.0) h.1
    go false q h = h.0

-- an atom that wants no value equates nothing, and allows none
pub own_mate : (s : List ℕ) (i : ℕ) → wants (test_at s i) ≡ false → mate_at s i ≡ var_at s i
unfolding mate_at
own_mate s i f = go (eqb (op_at s i) 0) refl
  where
    go : (b : Bool) → eqb (op_at s i) 0 ≡ b → pick_n b (other_at s i) (var_at s i) ≡ var_at s i
    go true q = absurd (clash (ap wants (equals_test s i q)) f)
    go false q = refl

no_value : (t : Test) (n : ℕ) → wants t ≡ false → allows t n → ⊥
no_value (one_of c f) n w h = clash refl w
no_value (none_of c f) n w h = clash refl w
no_value (test_at_most x) n w h = clash refl w
no_value (test_at_least x) n w h = clash refl w
no_value (under x) n w h = clash refl w
no_value (over x) n w h = clash refl w
no_value test_null n w h = h
no_value test_not_null n w h = clash refl w

-- the contents that are read off

pub null_there : (need : List Bool) (x : List ℕ) (v : ℕ) → get_or need v false ≡ false → contents need x v ≡ null
null_there need x v e = ap (λ (b : Bool). pick_c b (value (get_or x v 0)) null) e

pub value_there : (need : List Bool) (x : List ℕ) (v : ℕ) → get_or need v false ≡ true → contents need x v ≡ value (get_or x v 0)
value_there need x v e = ap (λ (b : Bool). pick_c b (value (get_or x v 0)) null) e

pub value_is : (need : List Bool) (x : List ℕ) (v n : ℕ) → contents need x v ≡ value n → (get_or need v false ≡ true) × (get_or x v 0 ≡ n)
value_is need x v n e = go (get_or need v false) refl
  where
    go : (b : Bool) → get_or need v false ≡ b → (get_or need v false ≡ true) × (get_or x v 0 ≡ n)
    go true z = let c : contents need x v ≡ value (get_or x v 0) = value_there need x v z in (z, cc)
    go false z = let a : contents need x v ≡ null = null_there need x v z in let b : ◌≡◌ {A = ℕ} 0 1 = cc in absurd (omega arith)

-- what solve shows

module _ (s top : List ℕ) (need0 : List Bool) (floor : List ℕ) (need : List Bool) (bound : (v : ℕ) → get_or top v 0 < 2 ^ 64) (nd : Needs s (atoms s) need0 need) where
  model : (e : ℕ → Content) → Sat s top e → Asks need0 floor e → Model s need floor e
  model e h a =
      nd.only floor e
      record {
        bounded = λ v n l q. let b = bound v in let c = h.fits v n l q in omega arith;
        meets = λ i l. met_Met s i e (h.meets i l);
        needed = a.needed;
        above = a.above;
      }

  pub solves_stuck : ((e : ℕ → Content) → Model s need floor e → ⊥) → Solves s top need0 floor None
  solves_stuck f e h a = f e (model e h a)

  module _ (x : List ℕ) (st : Settled s need floor x) where
    met_there : (i : ℕ) → i < atoms s → Met s i (contents need x)
    met_there i li = go (wants (test_at s i)) refl
      where
        go : (b : Bool) → wants (test_at s i) ≡ b → Met s i (contents need x)
        go true w =
            let y = nd.wanted i li w in
            let g = st.yes i li y in
            let a = value_there need x (var_at s i) y in
            let b = value_there need x (mate_at s i) (nd.mates i li w) in
            (subst (λ (c : Content). passes (test_at s i) c) (sym a) g.0, a ∙ ap value g.1 ∙ sym b)
        go false w = at (get_or need (var_at s i) false) refl
          where
            at : (b : Bool) → get_or need (var_at s i) false ≡ b → Met s i (contents need x)
            at false z = (subst (λ (c : Content). passes (test_at s i) c) (sym (null_there need x (var_at s i) z)) w, ap (contents need x) (sym (own_mate s i w)))
            at true y = absurd (no_value (test_at s i) _ w (st.yes i li y).0)

    pub solves_yes : {b : Bool} → b ≡ true → Within need x top b → IsLeast s top need0 floor (record { need = need; x = x })
    solves_yes d h =
        let w : Within need x top true = subst (λ (c : Bool). Within need x top c) d h in
        record {
          sat =
              record {
                fits = λ v n l e. let g = value_is need x v n e in let b = w v l g.0 in let d = g.1 in omega arith;
                meets = λ i l. Met_met s i (contents need x) (met_there i l);
              };
          asks =
              record {
                needed = λ v l y z.
                    let a : contents need x v ≡ value (get_or x v 0) = value_there need x v (nd.kept v y) in
                    let b : ◌≡◌ {A = ℕ} 0 1 = cc in
                    omega arith;
                above = λ v n l e. let g = value_is need x v n e in let d = g.1 in let b = st.rises v in omega arith;
              };
          least = λ e h a. st.least e (model e h a);
          surely = λ v l y e h a. (model e h a).needed v l y;
        }

    pub solves_out : {b : Bool} → b ≡ false → Within need x top b → Solves s top need0 floor None
    solves_out q v e h a =
        let w : Within need x top false = subst (λ (c : Bool). Within need x top c) q v in
        let m = model e h a in
        let b = has_value (e w.0) (m.needed w.0 w.1 w.2) in
        let d = st.least e m w.0 b.0 w.1 b.1 in
        let f = h.fits w.0 b.0 w.1 b.1 in
        let g = w.3 in
        omega arith

abbrev pub zeros : List ℕ
zeros = replicate 32 0

abbrev pub none : List Bool
none = replicate 32 false

pub asks_nothing : (e : ℕ → Content) → Asks none zeros e
asks_nothing e = record { needed = λ v l y. absurd (clash y (unmarked 32 v)); above = λ v n l q. let z = zero_at 32 v in omega arith }

pub answers : (s top : List ℕ) (f : Option Solution) → Solves s top none zeros f → Answers s top (is_some f)
answers s top (Some r) h = (contents r.need r.x, h.sat)
answers s top None h = λ e m. h e m (asks_nothing e)
