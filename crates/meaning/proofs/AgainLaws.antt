-- Steps 2 to 4 leave what they made as it is.
use Prim.Native.Nat.{ℕ, ◌≤◌, ◌<◌}
use native.Mathlib.Omega.{arith}
use mathlib.Core.Path.{◌≡◌, refl, ap, sym, ◌∙◌}
use mathlib.Core.Bool.{Bool, true, false, cond}
use mathlib.Core.List.{List, [], ◌∷◌, map}
use lib.Dec.{ltb, eqb}
use borrow.Author.Tests.{ltb-true, ltb-false, le-ltb, eqb-true, eqb-false, eq-eqb, ne_eqb}
use Rattle.lists.specs.Lists.{keep, All, ascend}
use Rattle.meaning.specs.Values.{Kind}
use Rattle.meaning.specs.Atoms.{Order, at_most, at_least, is_below, is_above, Operator, equals, in_list, not_in_list, order, is_null, is_not_null, Atom, Clause}
use Rattle.meaning.specs.Packed.{atom_bits}
use Rattle.meaning.specs.Steps.{on, oriented, orient, closed, tightened, tighten, spares, is_common, shared, merged, atom_before, tidied}
use Rattle.meaning.proofs.AtomLaws.{atom_same}
use Rattle.lists.proofs.BoolLaws.{both, join}
use Rattle.meaning.proofs.TidyLaws.{keep_more}
use Rattle.lists.proofs.SubLaws.{Sub, sub_all}
use Rattle.lists.proofs.OrderLaws.{Total, Ascends, all_map, all_ascend, sub_ascends, ascend_ascends, ascend_same, by_key, numbers}

module _ {A : Type 0} where
  pub map_same : (g : A → A) (xs : List A) → All (λ x. g x ≡ x) xs → map g xs ≡ xs
  map_same g [] h = refl
  map_same g (x ∷ xs) h = ap (λ t. t ∷ map g xs) h.0 ∙ ap (λ t. x ∷ t) (map_same g xs h.1)

  pub all_over : (P Q : A → Type 0) (g : A → A) → ((x : A) → P x → Q (g x)) → (xs : List A) → All P xs → All Q (map g xs)
  all_over P Q g f [] h = tt
  all_over P Q g f (x ∷ xs) h = (f x h.0, all_over P Q g f xs h.1)

  pub all_any : (P : A → Type 0) → ((x : A) → P x) → (xs : List A) → All P xs
  all_any P f [] = tt
  all_any P f (x ∷ xs) = (f x, all_any P f xs)

  pub keep_sub : (f : A → Bool) (xs : List A) → Sub (keep f xs) xs
  keep_sub f [] = Sub.none
  keep_sub f (x ∷ xs) = go (f x) (keep_sub f xs)
    where
      go : (b : Bool) → Sub (keep f xs) xs → Sub (cond b (x ∷ keep f xs) (keep f xs)) (x ∷ xs)
      go true s = Sub.taken s
      go false s = Sub.left_out s

  keep_all : (f : A → Bool) (xs : List A) → All (λ x. f x ≡ true) (keep f xs)
  keep_all f [] = tt
  keep_all f (x ∷ xs) = go (f x) refl (keep_all f xs)
    where
      go : (b : Bool) → f x ≡ b → All (λ z. f z ≡ true) (keep f xs) → All (λ z. f z ≡ true) (cond b (x ∷ keep f xs) (keep f xs))
      go true e h = (e, h)
      go false e h = h

  keep_same : (f : A → Bool) (xs : List A) → All (λ x. f x ≡ true) xs → keep f xs ≡ xs
  keep_same f [] h = refl
  keep_same f (x ∷ xs) h = rw h.0 (ap (λ t. x ∷ t) (keep_same f xs h.1))

-- Step 2: the lower variable number stands left
abbrev IsOriented : ℕ → Operator → Type 0
IsOriented v (equals u) = v < u
IsOriented v (in_list ns) = Unit {0}
IsOriented v (not_in_list ns) = Unit {0}
IsOriented v (order o n) = Unit {0}
IsOriented v is_null = Unit {0}
IsOriented v is_not_null = Unit {0}

oriented_is : (v : ℕ) (o : Operator) → IsOriented (oriented v o).variable (oriented v o).operator
oriented_is v (equals u) = go (eqb v u) refl (ltb u v) refl
  where
    go : (a : Bool) → eqb v u ≡ a → (b : Bool) → ltb u v ≡ b →
        IsOriented (cond a (on v is_not_null) (cond b (on u (equals v)) (on v (equals u)))).variable (cond a (on v is_not_null) (cond b (on u (equals v)) (on v (equals u)))).operator
    go true e b f = tt
    go false e true f = ltb-true u v f
    go false e false f = let n = eqb-false v u e in omega (arith, n, ltb-false u v f)
oriented_is v (in_list ns) = tt
oriented_is v (not_in_list ns) = tt
oriented_is v (order o n) = tt
oriented_is v is_null = tt
oriented_is v is_not_null = tt

oriented_same : (v : ℕ) (o : Operator) → IsOriented v o → oriented v o ≡ on v o
oriented_same v (equals u) h =
    let n : v ≡ u → ⊥ = λ q. omega arith in
    let m : v ≤ u = omega arith in
    rw (ne_eqb v u n, le-ltb u v m)
oriented_same v (in_list ns) h = refl
oriented_same v (not_in_list ns) h = refl
oriented_same v (order o n) h = refl
oriented_same v is_null h = refl
oriented_same v is_not_null h = refl

-- Step 3, of one atom: no "below" or "above", and list values ascend, each once
abbrev IsClosed : Order → Type 0
IsClosed at_most = Unit {0}
IsClosed at_least = Unit {0}
IsClosed is_below = ⊥
IsClosed is_above = ⊥

abbrev IsTight : Operator → Type 0
IsTight (equals u) = Unit {0}
IsTight (in_list ns) = Ascends ltb ns
IsTight (not_in_list ns) = Ascends ltb ns
IsTight (order o n) = IsClosed o
IsTight is_null = Unit {0}
IsTight is_not_null = Unit {0}

closed_is : (o : Order) (n : ℕ) → IsTight (closed o n)
closed_is at_most n = tt
closed_is at_least n = tt
closed_is is_below n = tt
closed_is is_above n = tt

closed_same : (o : Order) (n : ℕ) → IsClosed o → closed o n ≡ order o n
closed_same at_most n h = refl
closed_same at_least n h = refl
closed_same is_below n h = absurd h
closed_same is_above n h = absurd h

tightened_is : (o : Operator) → IsTight (tightened o)
tightened_is (equals u) = tt
tightened_is (in_list ns) = ascend_ascends ltb numbers ns
tightened_is (not_in_list ns) = ascend_ascends ltb numbers ns
tightened_is (order o n) = closed_is o n
tightened_is is_null = tt
tightened_is is_not_null = tt

tightened_same : (o : Operator) → IsTight o → tightened o ≡ o
tightened_same (equals u) h = refl
tightened_same (in_list ns) h = ap in_list (ascend_same ltb numbers ns h)
tightened_same (not_in_list ns) h = ap not_in_list (ascend_same ltb numbers ns h)
tightened_same (order o n) h = closed_same o n h
tightened_same is_null h = refl
tightened_same is_not_null h = refl

closed_oriented : (v : ℕ) (o : Order) (n : ℕ) → IsOriented v (closed o n)
closed_oriented v at_most n = tt
closed_oriented v at_least n = tt
closed_oriented v is_below n = tt
closed_oriented v is_above n = tt

tightened_oriented : (v : ℕ) (o : Operator) → IsOriented v o → IsOriented v (tightened o)
tightened_oriented v (equals u) h = h
tightened_oriented v (in_list ns) h = tt
tightened_oriented v (not_in_list ns) h = tt
tightened_oriented v (order o n) h = closed_oriented v o n
tightened_oriented v is_null h = tt
tightened_oriented v is_not_null h = tt

-- Step 3, of the in-lists: the values of each are the common values of c
abbrev listed : Operator → List ℕ
listed (equals u) = []
listed (in_list ns) = ns
listed (not_in_list ns) = []
listed (order o n) = []
listed is_null = []
listed is_not_null = []

module _ (c : Clause) where
  -- what steps 2 and 3 make of an atom of c
  pub record Tidy (a : Atom) : Type 0 where
    pub is_oriented : IsOriented a.variable a.operator
    pub is_tight : IsTight a.operator
    pub has_common : (n : ℕ) → is_common c a.variable n ≡ true → spares n a.operator ≡ true
    pub only_common : All (λ n. is_common c a.variable n ≡ true) (listed a.operator)

  abbrev sharing : Atom → Atom
  sharing a = on a.variable (shared c a.variable a.operator)

  shared_tidy : (v : ℕ) (o : Operator) → IsOriented v o → IsTight o → ((n : ℕ) → is_common c v n ≡ true → spares n o ≡ true) → Tidy (on v (shared c v o))
  shared_tidy v (equals u) h t f = record { is_oriented = h; is_tight = tt; has_common = λ n e. refl; only_common = tt }
  shared_tidy v (in_list ns) h t f =
      record { is_oriented = tt; is_tight = sub_ascends ltb (keep_sub (is_common c v) ns) t; has_common = λ n e. keep_more (is_common c v) n ns e (f n e); only_common = keep_all (is_common c v) ns }
  shared_tidy v (not_in_list ns) h t f = record { is_oriented = tt; is_tight = t; has_common = λ n e. refl; only_common = tt }
  shared_tidy v (order o n) h t f = record { is_oriented = tt; is_tight = t; has_common = λ n e. refl; only_common = tt }
  shared_tidy v is_null h t f = record { is_oriented = tt; is_tight = tt; has_common = λ n e. refl; only_common = tt }
  shared_tidy v is_not_null h t f = record { is_oriented = tt; is_tight = tt; has_common = λ n e. refl; only_common = tt }

  -- as' are some of the atoms of c
  merged_tidy : (as' : Clause) → All (λ a. IsOriented a.variable a.operator × IsTight a.operator) as' → ((v n : ℕ) → is_common c v n ≡ true → is_common as' v n ≡ true) → All Tidy (map sharing as')
  merged_tidy [] h f = tt
  merged_tidy (a ∷ as') h f = (
    shared_tidy a.variable a.operator h.0.0 h.0.1 (λ n e. sym (ap (λ b. cond b (spares n a.operator) true) (eq-eqb a.variable a.variable refl)) ∙ (split a.variable n e).0),
    merged_tidy as' h.1 (λ v n e. (split v n e).1),
  )
    where
      split : (v n : ℕ) → is_common c v n ≡ true → (cond (eqb a.variable v) (spares n a.operator) true ≡ true) × (is_common as' v n ≡ true)
      split v n e = both (cond (eqb a.variable v) (spares n a.operator) true) (is_common as' v n) (f v n e)

  common_stays : (us : Clause) → All Tidy us → (v n : ℕ) → is_common c v n ≡ true → is_common us v n ≡ true
  common_stays [] h v n e = refl
  common_stays (u ∷ us) h v n e = join (cond (eqb u.variable v) (spares n u.operator) true) (is_common us v n) (go (eqb u.variable v) refl) (common_stays us h.1 v n e)
    where
      go : (b : Bool) → eqb u.variable v ≡ b → cond b (spares n u.operator) true ≡ true
      go true q = h.0.has_common n (ap (λ x. is_common c x n) (eqb-true u.variable v q) ∙ e)
      go false q = refl

  shared_same : (us : Clause) → All Tidy us → (v : ℕ) (o : Operator) → All (λ n. is_common c v n ≡ true) (listed o) → shared us v o ≡ o
  shared_same us h v (equals u) k = refl
  shared_same us h v (in_list ns) k = ap in_list (keep_same (is_common us v) ns (all_map (λ n. is_common c v n ≡ true) (λ n. is_common us v n ≡ true) ns (common_stays us h v) k))
  shared_same us h v (not_in_list ns) k = refl
  shared_same us h v (order o n) k = refl
  shared_same us h v is_null k = refl
  shared_same us h v is_not_null k = refl

  merged_same : (us : Clause) → All Tidy us → merged us ≡ us
  merged_same us h =
      map_same (λ a. on a.variable (shared us a.variable a.operator)) us
      (all_map Tidy (λ a. on a.variable (shared us a.variable a.operator) ≡ a) us (λ a t. ap (on a.variable) (shared_same us h a.variable a.operator t.only_common)) h)

  firsts_same : (us : Clause) → All Tidy us → map tighten (map orient us) ≡ us
  firsts_same us h =
      ap (map tighten) (map_same orient us (all_map Tidy (λ a. orient a ≡ a) us (λ a t. oriented_same a.variable a.operator t.is_oriented) h))
      ∙ map_same tighten us (all_map Tidy (λ a. tighten a ≡ a) us (λ a t. ap (on a.variable) (tightened_same a.operator t.is_tight)) h)

pub atoms_total : (kind : ℕ → Kind) → Total (atom_before kind)
atoms_total kind = by_key (atom_bits kind) (atom_same kind)

abbrev pub firsts : Clause → Clause
firsts c = map tighten (map orient c)

pub tidied_tidy : (kind : ℕ → Kind) (c : Clause) → All (Tidy (firsts c)) (tidied kind c)
unfolding tidied
tidied_tidy kind c = all_ascend (atom_before kind) (Tidy (firsts c)) (merged (firsts c)) (merged_tidy (firsts c) (firsts c) made (λ v n e. e))
  where
    made : All (λ a. IsOriented a.variable a.operator × IsTight a.operator) (firsts c)
    made =
        all_over (λ a. IsOriented a.variable a.operator) (λ a. IsOriented a.variable a.operator × IsTight a.operator) tighten (λ a h. (tightened_oriented a.variable a.operator h, tightened_is a.operator)) (map orient c)
        (all_over (λ a. Unit {0}) (λ a. IsOriented a.variable a.operator) orient (λ a h. oriented_is a.variable a.operator) c (all_any (λ a. Unit {0}) (λ a. tt) c))

pub tidied_ascends : (kind : ℕ → Kind) (c : Clause) → Ascends (atom_before kind) (tidied kind c)
unfolding tidied
tidied_ascends kind c = ascend_ascends (atom_before kind) (atoms_total kind) (merged (firsts c))

-- what is left of a tidied clause is tidied
pub tidied_same : (kind : ℕ → Kind) (c d : Clause) → Sub d (tidied kind c) → tidied kind d ≡ d
unfolding tidied
tidied_same kind c d s =
    let t : All (Tidy (firsts c)) d = sub_all (Tidy (firsts c)) s (tidied_tidy kind c) in
    ap (λ z. ascend (atom_before kind) (merged z)) (firsts_same (firsts c) d t)
    ∙ ap (ascend (atom_before kind)) (merged_same (firsts c) d t)
    ∙ ascend_same (atom_before kind) (atoms_total kind) d (sub_ascends (atom_before kind) s (tidied_ascends kind c))
