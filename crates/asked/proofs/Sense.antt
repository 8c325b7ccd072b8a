-- The engine's conjunctions in the document's words, free of code. Assumes nothing.
use Prim.Native.Nat.{ℕ, zero, suc, ◌+◌, ◌*◌, ◌%◌, ◌≤◌, ◌<◌}
use native.Mathlib.Omega.{arith}
use native.Mathlib.Nat.{not-suc-le-zero}
use mathlib.Core.Path.{◌≡◌, refl, sym, ◌∙◌, ap, subst}
use mathlib.Core.Bool.{Bool, true, false, cond, not, ◌||◌}
use mathlib.Core.List.{List, [], ◌∷◌, ◌++◌}
use lib.ListN.{get_or}
use lib.Dec.{eqb}
use borrow.Author.Count.{below_more}
use borrow.Author.Tests.{ltb-true, leb-true, eqb-true, lt-ltb, le-leb, eq-eqb}
use Rattle.words.specs.Meaning as e
use Rattle.words.specs.Meaning.{Test.one_of, Test.none_of, Test.test_at_most, Test.test_at_least, Test.under, Test.over, Test.test_null, Test.test_not_null, Content.null, Content.value, Atom.holds, wants, pick_test, pick_atom, test_at, atom_at, var_at, op_at, other_at, atoms, Sat}
use Rattle.meaning.specs.declared.Content.{Content}
use Rattle.meaning.specs.declared.Content.TheVariants.{Null, Value}
use Rattle.lists.specs.Lists.{every}
use Rattle.lists.proofs.BoolLaws.{both, join, every_append}
use Rattle.meaning.specs.Values.{Contents}
use Rattle.meaning.specs.Atoms.{at_most, at_least, is_below, is_above, Operator, equals, in_list, not_in_list, order, is_null, is_not_null, among, is_value, passes, met, clause_met}
use Rattle.meaning.specs.Steps.{on}
use Rattle.asked.specs.Words.{numbers_at, word_atom, word_atoms}
use Rattle.words.proofs.NeedLaws.{clash}

-- each follows from the other
abbrev pub Same : Type 0 → Type 0 → Type 0
Same P Q = (P → Q) × (Q → P)

-- what the engine says that a variable holds, and back
abbrev pub told : e.Content → Content
told null = Null
told (value n) = Value n

abbrev pub said : Content → e.Content
said Null = null
said (Value n) = value n

pub told_said : (x : Content) → told (said x) ≡ x
told_said Null = refl
told_said (Value n) = refl

pub said_told : (x : e.Content) → said (told x) ≡ x
said_told null = refl
said_told (value n) = refl

-- lists

or_left : (a b : Bool) → a ≡ true → (a || b) ≡ true
or_left true b p = refl
or_left false b p = absurd (clash p refl)

or_right : (a b : Bool) → b ≡ true → (a || b) ≡ true
or_right true b p = refl
or_right false b p = p

found : (s : List ℕ) (x p c : ℕ) → ((k : ℕ) × (k < c) × (get_or s (p + k) 0 ≡ x)) → among x (numbers_at s p c) ≡ true
found s x p zero h = absurd (not-suc-le-zero h.1)
found s x p (suc c) h = go (found s x (p + 1) c) h.0 h.1 h.2
  where
    go : (((k : ℕ) × (k < c) × (get_or s (p + 1 + k) 0 ≡ x)) → among x (numbers_at s (p + 1) c) ≡ true) → (k : ℕ) → k < suc c → get_or s (p + k) 0 ≡ x → among x (numbers_at s p (suc c)) ≡ true
    go ih zero l q = or_left (eqb x (get_or s p 0)) _ (eq-eqb x (get_or s p 0) (sym q ∙ ap (λ (i : ℕ). get_or s i 0) (let z : p + 0 ≡ p = omega arith in z)))
    go ih (suc k) l q = or_right (eqb x (get_or s p 0)) _ (ih (k, omega arith, ap (λ (i : ℕ). get_or s i 0) (let z : p + 1 + k ≡ p + suc k = omega arith in z) ∙ q))

finds : (s : List ℕ) (x p c : ℕ) → among x (numbers_at s p c) ≡ true → (k : ℕ) × (k < c) × (get_or s (p + k) 0 ≡ x)
finds s x p zero h = absurd (clash h refl)
finds s x p (suc c) h = go (finds s x (p + 1) c) (eqb x (get_or s p 0)) refl h
  where
    go : (among x (numbers_at s (p + 1) c) ≡ true → (k : ℕ) × (k < c) × (get_or s (p + 1 + k) 0 ≡ x)) → (b : Bool) → eqb x (get_or s p 0) ≡ b → (b || among x (numbers_at s (p + 1) c)) ≡ true → (k : ℕ) × (k < suc c) × (get_or s (p + k) 0 ≡ x)
    go ih true q g = (0, omega arith, ap (λ (i : ℕ). get_or s i 0) (let z : p + 0 ≡ p = omega arith in z) ∙ sym (eqb-true x (get_or s p 0) q))
    go ih false q g =
        let r = ih g in
        (r.0 + 1, omega arith, ap (λ (i : ℕ). get_or s i 0) (let z : p + (r.0 + 1) ≡ p + 1 + r.0 = omega arith in z) ∙ r.2)

-- each test on what one variable holds

module _ (m : Contents) where
  empty : (t : e.Test) (o : Operator) → wants t ≡ true → passes m o Null ≡ false → Same (wants t ≡ false) (passes m o Null ≡ true)
  empty t o w f = ((λ h. absurd (clash w h)), (λ h. absurd (clash h f)))

  in_same : (s : List ℕ) (p c : ℕ) (x : e.Content) → Same (e.passes (one_of c (λ k. get_or s (p + k) 0)) x) (passes m (in_list (numbers_at s p c)) (told x) ≡ true)
  in_same s p c null = empty (one_of c (λ k. get_or s (p + k) 0)) (in_list (numbers_at s p c)) refl refl
  in_same s p c (value n) = (found s n p c, finds s n p c)

  out_same : (s : List ℕ) (p c : ℕ) (x : e.Content) → Same (e.passes (none_of c (λ k. get_or s (p + k) 0)) x) (passes m (not_in_list (numbers_at s p c)) (told x) ≡ true)
  out_same s p c null = empty (none_of c (λ k. get_or s (p + k) 0)) (not_in_list (numbers_at s p c)) refl refl
  out_same s p c (value n) = ((λ h. go h (among n (numbers_at s p c)) refl), λ q k l z. back q (found s n p c (k, l, z)))
    where
      go : ((k : ℕ) → k < c → get_or s (p + k) 0 ≡ n → ⊥) → (b : Bool) → among n (numbers_at s p c) ≡ b → not b ≡ true
      go h true q = let r = finds s n p c q in absurd (h r.0 r.1 r.2)
      go h false q = refl

      back : not (among n (numbers_at s p c)) ≡ true → among n (numbers_at s p c) ≡ true → ⊥
      back q r = clash q (ap not r)

  most_same : (y : ℕ) (x : e.Content) → Same (e.passes (test_at_most y) x) (passes m (order at_most y) (told x) ≡ true)
  most_same y null = empty (test_at_most y) (order at_most y) refl refl
  most_same y (value n) = (le-leb n y, leb-true n y)

  least_same : (y : ℕ) (x : e.Content) → Same (e.passes (test_at_least y) x) (passes m (order at_least y) (told x) ≡ true)
  least_same y null = empty (test_at_least y) (order at_least y) refl refl
  least_same y (value n) = (le-leb y n, leb-true y n)

  under_same : (y : ℕ) (x : e.Content) → Same (e.passes (under y) x) (passes m (order is_below y) (told x) ≡ true)
  under_same y null = empty (under y) (order is_below y) refl refl
  under_same y (value n) = (lt-ltb n y, ltb-true n y)

  over_same : (y : ℕ) (x : e.Content) → Same (e.passes (over y) x) (passes m (order is_above y) (told x) ≡ true)
  over_same y null = empty (over y) (order is_above y) refl refl
  over_same y (value n) = (lt-ltb y n, ltb-true y n)

  null_same : (x : e.Content) → Same (e.passes test_null x) (passes m is_null (told x) ≡ true)
  null_same null = ((λ h. refl), λ h. refl)
  null_same (value n) = (absurd, λ h. clash h refl)

  some_same : (x : e.Content) → Same (e.passes test_not_null x) (passes m is_not_null (told x) ≡ true)
  some_same null = empty test_not_null is_not_null refl refl
  some_same (value n) = ((λ h. refl), λ h. tt)

equal_same : (d : ℕ → e.Content) (u : ℕ) (x y : e.Content) → y ≡ d u → Same (e.same x y) (passes (λ v. told (d v)) (equals u) (told x) ≡ true)
equal_same d u null y q = (absurd, λ h. clash h refl)
equal_same d u (value n) null q = (absurd, λ h. clash h (ap (λ z. is_value n (told z)) (sym q)))
equal_same d u (value n) (value k) q = (
  (λ h. ap (λ z. is_value n (told z)) (sym q) ∙ eq-eqb n k h),
  λ h. eqb-true n k (ap (λ z. is_value n (told z)) q ∙ h),
)

-- an atom in words
by_operator : (s : List ℕ) (d : ℕ → e.Content) (v u p c x : ℕ) (b0 b1 b2 b3 b4 b5 b6 b7 : Bool) →
    Same
    (e.met
    (pick_atom b0 (e.Atom.equals v u)
    (holds v
    (pick_test b1 (one_of c (λ k. get_or s (p + k) 0))
    (pick_test b2 (none_of c (λ k. get_or s (p + k) 0)) (pick_test b3 (test_at_most x) (pick_test b4 (test_at_least x) (pick_test b5 (under x) (pick_test b6 (over x) (pick_test b7 test_null test_not_null)))))))))
    d)
    (met (λ w. told (d w))
    (on v
    (cond b0 (equals u)
    (cond b1 (in_list (numbers_at s p c))
    (cond b2 (not_in_list (numbers_at s p c)) (cond b3 (order at_most x) (cond b4 (order at_least x) (cond b5 (order is_below x) (cond b6 (order is_above x) (cond b7 is_null is_not_null)))))))))
    ≡ true)
by_operator s d v u p c x true b1 b2 b3 b4 b5 b6 b7 = equal_same d u (d v) (d u) refl
by_operator s d v u p c x false true b2 b3 b4 b5 b6 b7 = in_same (λ w. told (d w)) s p c (d v)
by_operator s d v u p c x false false true b3 b4 b5 b6 b7 = out_same (λ w. told (d w)) s p c (d v)
by_operator s d v u p c x false false false true b4 b5 b6 b7 = most_same (λ w. told (d w)) x (d v)
by_operator s d v u p c x false false false false true b5 b6 b7 = least_same (λ w. told (d w)) x (d v)
by_operator s d v u p c x false false false false false true b6 b7 = under_same (λ w. told (d w)) x (d v)
by_operator s d v u p c x false false false false false false true b7 = over_same (λ w. told (d w)) x (d v)
by_operator s d v u p c x false false false false false false false true = null_same (λ w. told (d w)) (d v)
by_operator s d v u p c x false false false false false false false false = some_same (λ w. told (d w)) (d v)

met_same : (s : List ℕ) (i : ℕ) (d : ℕ → e.Content) → Same (e.met (atom_at s i) d) (met (λ v. told (d v)) (word_atom s i) ≡ true)
unfolding atom_at test_at word_atom
met_same s i d =
    by_operator s d (var_at s i) (other_at s i) (i * 11 + 3) (get_or s (i * 11 + 2) 0 % 9) (get_or s (i * 11 + 3) 0) (eqb (op_at s i) 0) (eqb (op_at s i) 1) (eqb (op_at s i) 2) (eqb (op_at s i) 3)
    (eqb (op_at s i) 4) (eqb (op_at s i) 5) (eqb (op_at s i) 6) (eqb (op_at s i) 7)

-- clauses

-- two clauses are met together when each is
pub every_parts : {A : Type 0} (f : A → Bool) (xs ys : List A) → every f (xs ++ ys) ≡ true → (every f xs ≡ true) × (every f ys ≡ true)
every_parts f xs ys e = both (every f xs) (every f ys) (sym (every_append f xs ys) ∙ e)

pub append_every : {A : Type 0} (f : A → Bool) (xs ys : List A) → every f xs ≡ true → every f ys ≡ true → every f (xs ++ ys) ≡ true
append_every f xs ys p q = every_append f xs ys ∙ join (every f xs) (every f ys) p q

words_met : (s : List ℕ) (n : ℕ) (m : Contents) → ((i : ℕ) → i < n → met m (word_atom s i) ≡ true) → clause_met m (word_atoms s n) ≡ true
words_met s zero m h = refl
words_met s (suc n) m h =
    append_every (met m) (word_atoms s n) (word_atom s n ∷ []) (words_met s n m (λ i l. h i (omega arith))) (join (met m (word_atom s n)) true (h n (omega arith)) refl)

met_words : (s : List ℕ) (n : ℕ) (m : Contents) → clause_met m (word_atoms s n) ≡ true → (i : ℕ) → i < n → met m (word_atom s i) ≡ true
met_words s zero m h i l = absurd (not-suc-le-zero l)
met_words s (suc n) m h i l =
    let a = every_parts (met m) (word_atoms s n) (word_atom s n ∷ []) h in
    below_more (λ k. met m (word_atom s k) ≡ true) n (met_words s n m a.0) (both (met m (word_atom s n)) true a.1).0 i (omega arith)

-- the conjunction is met, and within the ranges
pub sat_met : (s top : List ℕ) (d : ℕ → e.Content) → Sat s top d → clause_met (λ v. told (d v)) (word_atoms s (atoms s)) ≡ true
sat_met s top d h = words_met s (atoms s) (λ v. told (d v)) (λ i l. (met_same s i d).0 (h.meets i l))

pub met_sat : (s top : List ℕ) (m : Contents) → ((v n : ℕ) → v < 32 → m v ≡ Value n → n ≤ get_or top v 0) → clause_met m (word_atoms s (atoms s)) ≡ true → Sat s top (λ v. said (m v))
met_sat s top m fits h =
    let back : ◌≡◌ {A = Contents} (λ v. told (said (m v))) m = (λ j v. told_said (m v) j) in
    record {
      fits = λ v n l q. fits v n l (sym (told_said (m v)) ∙ ap told q);
      meets = λ i l. (met_same s i (λ v. said (m v))).1 (subst (λ (k : Contents). met k (word_atom s i) ≡ true) (sym back) (met_words s (atoms s) m h i l));
    }
