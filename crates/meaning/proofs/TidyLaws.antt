-- Steps 2 to 4 keep what a live clause means.
use Prim.Native.Nat.{ℕ, ◌+◌, ◌-◌, ◌^◌, ◌≤◌, min}
use native.Mathlib.Omega.{arith}
use mathlib.Core.Path.{◌≡◌, refl, sym, ap, ◌∙◌}
use mathlib.Core.Bool.{Bool, true, false, cond, not, ◌&&◌, ◌||◌, true≢false}
use mathlib.Core.List.{List, [], ◌∷◌, map}
use lib.Dec.{ltb, leb, eqb}
use borrow.Author.Tests.{ltb-true, ltb-false, leb-true, eqb-true, eq-eqb, lt-ltb, le-leb}
use Rattle.meaning.specs.declared.Content.{Content}
use Rattle.meaning.specs.declared.Content.TheVariants.{Null, Value}
use Rattle.lists.specs.Lists.{any, keep, ascend}
use Rattle.lists.proofs.BoolLaws.{alike, both, join}
use Rattle.meaning.specs.Values.{Kind, Contents}
use Rattle.meaning.specs.Atoms.{Order, at_most, at_least, is_below, is_above, Operator, equals, in_list, not_in_list, order, is_null, is_not_null, Atom, Clause, among, is_value, passes, met, clause_met}
use Rattle.meaning.specs.Packed.{atom_bits}
use Rattle.meaning.specs.Steps.{on, oriented, orient, closed, tightened, tighten, spares, is_common, shared, merged, atom_before, tidied}
use Rattle.lists.proofs.OrderLaws.{lex_same}
use Rattle.meaning.proofs.AtomLaws.{atom_same}
use Rattle.lists.proofs.AscendLaws.{ascend_every, ascend_any}

-- Step 2
module _ (e : Contents) where
  self_equal : (u : ℕ) (c : Content) → e u ≡ c → passes e is_not_null c ≡ passes e (equals u) c
  self_equal u Null h = refl
  self_equal u (Value n) h = sym (ap (is_value n) h ∙ eq-eqb n n refl)

  turned : (u v : ℕ) (c d : Content) → e u ≡ c → e v ≡ d → passes e (equals v) c ≡ passes e (equals u) d
  turned u v Null Null p q = refl
  turned u v Null (Value n) p q = sym (ap (is_value n) p)
  turned u v (Value m) Null p q = ap (is_value m) q
  turned u v (Value m) (Value n) p q =
      ap (is_value m) q ∙ alike (eqb m n) (eqb n m) (λ h. eq-eqb n m (sym (eqb-true m n h))) (λ h. eq-eqb m n (sym (eqb-true n m h))) ∙ sym (ap (is_value n) p)

  oriented_met : (v : ℕ) (o : Operator) → met e (oriented v o) ≡ passes e o (e v)
  oriented_met v (equals u) = go (eqb v u) refl (ltb u v)
    where
      go : (a : Bool) → eqb v u ≡ a → (b : Bool) → met e (cond a (on v is_not_null) (cond b (on u (equals v)) (on v (equals u)))) ≡ passes e (equals u) (e v)
      go true h b = self_equal u (e v) (ap e (sym (eqb-true v u h)))
      go false h true = turned u v (e u) (e v) refl refl
      go false h false = refl
  oriented_met v (in_list ns) = refl
  oriented_met v (not_in_list ns) = refl
  oriented_met v (order o n) = refl
  oriented_met v is_null = refl
  oriented_met v is_not_null = refl

-- Step 3, an atom that some content of at most 2^64 - 1 meets
among_ascend : (n : ℕ) (ns : List ℕ) → among n (ascend ltb ns) ≡ among n ns
among_ascend n ns = ascend_any (eqb n) ltb (λ a b p q. ap (eqb n) (same a b (ltb-false a b p) (ltb-false b a q))) ns
  where
    same : (a b : ℕ) → b ≤ a → a ≤ b → a ≡ b
    same a b p q = omega arith

-- the common values
pub keep_more : (f : ℕ → Bool) (n : ℕ) (ns : List ℕ) → f n ≡ true → among n ns ≡ true → among n (keep f ns) ≡ true
keep_more f n [] t h = h
keep_more f n (m ∷ ns) t h = go (eqb n m) refl (f m) refl h (keep_more f n ns t)
  where
    go : (a : Bool) → eqb n m ≡ a → (b : Bool) → f m ≡ b → (a || among n ns) ≡ true → (among n ns ≡ true → among n (keep f ns) ≡ true) → among n (cond b (m ∷ keep f ns) (keep f ns)) ≡ true
    go true p true q h ih = ap (λ z. z || among n (keep f ns)) p
    go true p false q h ih = absurd (true≢false (sym t ∙ ap f (eqb-true n m p) ∙ q))
    go false p true q h ih = ap (λ z. z || among n (keep f ns)) p ∙ ih h
    go false p false q h ih = ih h

module _ (e : Contents) where
  closed_met : (w : Contents) (o : Order) (m : ℕ) (d : Content) → ((n : ℕ) → d ≡ Value n → n ≤ 2 ^ 64 - 1) → passes w (order o m) d ≡ true → (c : Content) → passes e (closed o m) c ≡ passes e (order o m) c
  closed_met w o m Null s h c = absurd (true≢false (sym h))
  closed_met w at_most m (Value d) s h c = refl
  closed_met w at_least m (Value d) s h c = refl
  closed_met w is_below m (Value d) s h Null = refl
  closed_met w is_below m (Value d) s h (Value n) =
      let l = ltb-true d m h in
      alike (leb n (m - 1)) (ltb n m) (λ x. let y = leb-true n (m - 1) x in lt-ltb n m (omega arith)) (λ x. let y = ltb-true n m x in le-leb n (m - 1) (omega arith))
  closed_met w is_above m (Value d) s h Null = refl
  closed_met w is_above m (Value d) s h (Value n) =
      let l = ltb-true m d h in
      let t = s d refl in
      alike (leb (min (m + 1) (2 ^ 64 - 1)) n) (ltb m n)
      (λ x. let y = leb-true (min (m + 1) (2 ^ 64 - 1)) n x in lt-ltb m n (omega arith))
      (λ x. let y = ltb-true m n x in le-leb (min (m + 1) (2 ^ 64 - 1)) n (omega arith))

  tightened_met : (w : Contents) (o : Operator) (d : Content) → ((n : ℕ) → d ≡ Value n → n ≤ 2 ^ 64 - 1) → passes w o d ≡ true → (c : Content) → passes e (tightened o) c ≡ passes e o c
  tightened_met w (equals u) d s h c = refl
  tightened_met w (in_list ns) d s h Null = refl
  tightened_met w (in_list ns) d s h (Value n) = among_ascend n ns
  tightened_met w (not_in_list ns) d s h Null = refl
  tightened_met w (not_in_list ns) d s h (Value n) = ap not (among_ascend n ns)
  tightened_met w (order o m) d s h c = closed_met w o m d s h c
  tightened_met w is_null d s h c = refl
  tightened_met w is_not_null d s h c = refl

  -- the clause that w meets, atom by atom
  first_met : (w : Contents) → ((v n : ℕ) → w v ≡ Value n → n ≤ 2 ^ 64 - 1) → (c : Clause) → clause_met w c ≡ true → clause_met e (map tighten (map orient c)) ≡ clause_met e c
  first_met w s [] h = refl
  first_met w s (a ∷ c) h =
      let p = both (met w a) (clause_met w c) h in
      let o = orient a in
      let q : met e (tighten o) ≡ met e o = tightened_met w o.operator (w o.variable) (s o.variable) (oriented_met w a.variable a.operator ∙ p.0) (e o.variable) in
      ap (λ z. z && clause_met e (map tighten (map orient c))) (q ∙ oriented_met e a.variable a.operator) ∙ ap (λ z. met e a && z) (first_met w s c p.1)

  -- the common values
  keep_less : (g f : ℕ → Bool) (ns : List ℕ) → any g (keep f ns) ≡ true → any g ns ≡ true
  keep_less g f [] h = h
  keep_less g f (n ∷ ns) h = go (f n) (g n) h (keep_less g f ns)
    where
      go : (a b : Bool) → any g (cond a (n ∷ keep f ns) (keep f ns)) ≡ true → (any g (keep f ns) ≡ true → any g ns ≡ true) → (g n || any g ns) ≡ true
      go a b h ih = pick (g n) refl a h ih
        where
          pick : (x : Bool) → g n ≡ x → (a : Bool) → any g (cond a (n ∷ keep f ns) (keep f ns)) ≡ true → (any g (keep f ns) ≡ true → any g ns ≡ true) → (x || any g ns) ≡ true
          pick true t a h ih = refl
          pick false t true h ih = ih (ap (λ z. z || any g (keep f ns)) (sym t) ∙ h)
          pick false t false h ih = ih h

  spared : (n : ℕ) (o : Operator) → passes e o (Value n) ≡ true → spares n o ≡ true
  spared n (equals u) h = refl
  spared n (in_list ns) h = h
  spared n (not_in_list ns) h = refl
  spared n (order o m) h = refl
  spared n is_null h = refl
  spared n is_not_null h = refl

  common_true : (v n : ℕ) → e v ≡ Value n → (c : Clause) → clause_met e c ≡ true → is_common c v n ≡ true
  common_true v n x [] h = refl
  common_true v n x (a ∷ c) h =
      let p = both (met e a) (clause_met e c) h in
      join (cond (eqb a.variable v) (spares n a.operator) true) (is_common c v n) (go (eqb a.variable v) refl p.0) (common_true v n x c p.1)
    where
      go : (b : Bool) → eqb a.variable v ≡ b → met e a ≡ true → cond b (spares n a.operator) true ≡ true
      go true q m = spared n a.operator (ap (passes e a.operator) (sym (ap e (eqb-true a.variable v q) ∙ x)) ∙ m)
      go false q m = refl

  shared_less : (c : Clause) (v : ℕ) (o : Operator) (d : Content) → passes e (shared c v o) d ≡ true → passes e o d ≡ true
  shared_less c v (equals u) d h = h
  shared_less c v (in_list ns) Null h = h
  shared_less c v (in_list ns) (Value n) h = keep_less (eqb n) (is_common c v) ns h
  shared_less c v (not_in_list ns) d h = h
  shared_less c v (order o m) d h = h
  shared_less c v is_null d h = h
  shared_less c v is_not_null d h = h

  shared_more : (c : Clause) → clause_met e c ≡ true → (v : ℕ) (o : Operator) (d : Content) → e v ≡ d → passes e o d ≡ true → passes e (shared c v o) d ≡ true
  shared_more c k v (equals u) d x h = h
  shared_more c k v (in_list ns) Null x h = h
  shared_more c k v (in_list ns) (Value n) x h = keep_more (is_common c v) n ns (common_true v n x c k) h
  shared_more c k v (not_in_list ns) d x h = h
  shared_more c k v (order o m) d x h = h
  shared_more c k v is_null d x h = h
  shared_more c k v is_not_null d x h = h

  abbrev sharing : Clause → Atom → Atom
  sharing c a = on a.variable (shared c a.variable a.operator)

  merged_less : (c as' : Clause) → clause_met e (map (sharing c) as') ≡ true → clause_met e as' ≡ true
  merged_less c [] h = h
  merged_less c (a ∷ as') h =
      let p = both (met e (sharing c a)) (clause_met e (map (sharing c) as')) h in
      join (met e a) (clause_met e as') (shared_less c a.variable a.operator (e a.variable) p.0) (merged_less c as' p.1)

  merged_more : (c : Clause) → clause_met e c ≡ true → (as' : Clause) → clause_met e as' ≡ true → clause_met e (map (sharing c) as') ≡ true
  merged_more c k [] h = h
  merged_more c k (a ∷ as') h =
      let p = both (met e a) (clause_met e as') h in
      join (met e (sharing c a)) (clause_met e (map (sharing c) as')) (shared_more c k a.variable a.operator (e a.variable) refl p.0) (merged_more c k as' p.1)

  merged_met : (c : Clause) → clause_met e (merged c) ≡ clause_met e c
  merged_met c = alike (clause_met e (merged c)) (clause_met e c) (merged_less c c) (λ h. merged_more c h c h)

  -- steps 2 to 4
  pub tidied_met : (kind : ℕ → Kind) (w : Contents) → ((v n : ℕ) → w v ≡ Value n → n ≤ 2 ^ 64 - 1) → (c : Clause) → clause_met w c ≡ true → clause_met e (tidied kind c) ≡ clause_met e c
  unfolding tidied
  tidied_met kind w s c h =
      ascend_every (met e) (atom_before kind) (λ a b p q. ap (met e) (atom_same kind a b (lex_same (atom_bits kind a) (atom_bits kind b) p q))) (merged (map tighten (map orient c)))
      ∙ merged_met (map tighten (map orient c))
      ∙ first_met w s c h
