-- What steps 2 and 3 make of an atom by value, by its operator's number.
use Prim.Native.Nat.{ℕ, ◌+◌, ◌≤◌, min}
use mathlib.Core.Path.{◌≡◌, refl, ap, sym, ◌∙◌}
use mathlib.Core.Bool.{Bool, true, false, cond}
use mathlib.Core.List.{List}
use native.Mathlib.Omega.{arith}
use lib.ListN.{take, get_or}
use lib.Dec.{eqb, ltb}
use borrow.Author.Tests.{eqb-true, eqb-false, eq-eqb, ne_eqb}
use Rattle.lists.specs.Lists.{keep, ascend}
use Rattle.meaning.specs.declared.Atom.{Atom}
use Rattle.meaning.specs.Atoms as m
use Rattle.meaning.specs.Atoms.{Order, at_most, at_least, is_below, is_above, Operator, equals, in_list, not_in_list, order, is_null, is_not_null}
use Rattle.meaning.specs.Packed.{order_number, operator_number}
use Rattle.meaning.specs.Steps.{on, oriented, orient, tightened, tighten, spares, is_common, shared}
use Rattle.meaning.specs.Views.{operator_of, atom_of}

-- an operator that a number stands for, case by case
module _ (P : Operator → Type 0) (op u n : ℕ) (ns : List ℕ) where
  pub by_operator : (op ≡ 0 → P (equals u)) → (op ≡ 1 → P (in_list ns)) → (op ≡ 2 → P (not_in_list ns)) → ((o : Order) → op ≡ order_number o → P (order o n))
      → (op ≡ 7 → P is_null) → (8 ≤ op → P is_not_null) → P (operator_of op u n ns)
  by_operator e i o r z k = go (eqb op 0) refl (eqb op 1) refl (eqb op 2) refl (eqb op 3) refl (eqb op 4) refl (eqb op 5) refl (eqb op 6) refl (eqb op 7) refl
    where
      go : (b0 : Bool) → eqb op 0 ≡ b0 → (b1 : Bool) → eqb op 1 ≡ b1 → (b2 : Bool) → eqb op 2 ≡ b2 → (b3 : Bool) → eqb op 3 ≡ b3
          → (b4 : Bool) → eqb op 4 ≡ b4 → (b5 : Bool) → eqb op 5 ≡ b5 → (b6 : Bool) → eqb op 6 ≡ b6 → (b7 : Bool) → eqb op 7 ≡ b7
          → P (cond b0 (equals u) (cond b1 (in_list ns) (cond b2 (not_in_list ns) (cond b3 (order at_most n) (cond b4 (order at_least n) (cond b5 (order is_below n) (cond b6 (order is_above n) (cond b7 is_null is_not_null))))))))
      go true e0 b1 e1 b2 e2 b3 e3 b4 e4 b5 e5 b6 e6 b7 e7 = e (eqb-true op 0 e0)
      go false e0 true e1 b2 e2 b3 e3 b4 e4 b5 e5 b6 e6 b7 e7 = i (eqb-true op 1 e1)
      go false e0 false e1 true e2 b3 e3 b4 e4 b5 e5 b6 e6 b7 e7 = o (eqb-true op 2 e2)
      go false e0 false e1 false e2 true e3 b4 e4 b5 e5 b6 e6 b7 e7 = r at_most (eqb-true op 3 e3)
      go false e0 false e1 false e2 false e3 true e4 b5 e5 b6 e6 b7 e7 = r at_least (eqb-true op 4 e4)
      go false e0 false e1 false e2 false e3 false e4 true e5 b6 e6 b7 e7 = r is_below (eqb-true op 5 e5)
      go false e0 false e1 false e2 false e3 false e4 false e5 true e6 b7 e7 = r is_above (eqb-true op 6 e6)
      go false e0 false e1 false e2 false e3 false e4 false e5 false e6 true e7 = z (eqb-true op 7 e7)
      go false e0 false e1 false e2 false e3 false e4 false e5 false e6 false e7 =
          k (past 7 (past 6 (past 5 (past 4 (past 3 (past 2 (past 1 (past 0 (omega arith) e0) e1) e2) e3) e4) e5) e6) e7)
        where
          past : (i : ℕ) → i ≤ op → eqb op i ≡ false → i + 1 ≤ op
          past i h f = omega (arith, eqb-false op i f)

-- the operator of an atom by value
abbrev pub operator_at : ℕ → Atom → Operator
operator_at op a = operator_of op a.other (get_or a.values 0 0) (take a.count a.values)

pub atom_by : (a : Atom) (op : ℕ) → a.operator ≡ op → atom_of a ≡ on a.variable (operator_at op a)
unfolding atom_of
atom_by a op e = ap (λ (z : ℕ). on a.variable (operator_at z a)) e

-- step 2 leaves all but equalities
pub orient_other : (a : Atom) → (a.operator ≡ 0 → ⊥) → atom_of a ≡ orient (atom_of a)
unfolding atom_of
orient_other a h =
    sym (by_operator (λ o. oriented a.variable o ≡ on a.variable o) a.operator a.other (get_or a.values 0 0) (take a.count a.values)
    (λ e. absurd (h e)) (λ e. refl) (λ e. refl) (λ o e. refl) (λ e. refl) (λ e. refl))

-- an equality with itself, with a lower variable, with a higher one
module _ (a : Atom) (e : a.operator ≡ 0) where
  equality : orient (atom_of a) ≡ oriented a.variable (equals a.other)
  equality = ap orient (atom_by a 0 e)

  pub orient_self : a.variable ≡ a.other → on a.variable is_not_null ≡ orient (atom_of a)
  orient_self h = sym (equality ∙ rw (eq-eqb _ _ h))

  pub orient_turned : (a.variable ≡ a.other → ⊥) → ltb a.other a.variable ≡ true → on a.other (equals a.variable) ≡ orient (atom_of a)
  orient_turned h l = sym (equality ∙ rw (ne_eqb _ _ h, l))

  pub orient_same : (a.variable ≡ a.other → ⊥) → ltb a.other a.variable ≡ false → atom_of a ≡ orient (atom_of a)
  orient_same h l = atom_by a 0 e ∙ sym (equality ∙ rw (ne_eqb _ _ h, l))

-- step 3 of an atom with a number of its own
pub tighten_at : (a : Atom) (op : ℕ) → a.operator ≡ op → on a.variable (tightened (operator_at op a)) ≡ tighten (atom_of a)
tighten_at a op e = ap tighten (sym (atom_by a op e))

-- and of the others
pub tighten_other : (a : Atom) → (a.operator ≡ 5 → ⊥) → (a.operator ≡ 6 → ⊥) → (a.operator ≡ 1 → ⊥) → (a.operator ≡ 2 → ⊥) → atom_of a ≡ tighten (atom_of a)
unfolding atom_of
tighten_other a five six one two =
    sym (ap (on a.variable) (by_operator (λ o. tightened o ≡ o) a.operator a.other (get_or a.values 0 0) (take a.count a.values)
    (λ e. refl) (λ e. absurd (one e)) (λ e. absurd (two e)) orders (λ e. refl) (λ e. refl)))
  where
    orders : (o : Order) → a.operator ≡ order_number o → tightened (order o (get_or a.values 0 0)) ≡ order o (get_or a.values 0 0)
    orders at_most e = refl
    orders at_least e = refl
    orders is_below e = absurd (five e)
    orders is_above e = absurd (six e)

-- the merging of in-lists leaves all but in-lists; and an atom that is no in_list spares every value
pub share_other : (c : m.Clause) (a : Atom) → (a.operator ≡ 1 → ⊥) → atom_of a ≡ on (atom_of a).variable (shared c (atom_of a).variable (atom_of a).operator)
unfolding atom_of
share_other c a h =
    sym (ap (on a.variable) (by_operator (λ o. shared c a.variable o ≡ o) a.operator a.other (get_or a.values 0 0) (take a.count a.values)
    (λ e. refl) (λ e. absurd (h e)) (λ e. refl) (λ o e. refl) (λ e. refl) (λ e. refl)))

pub spare_other : (a : Atom) (n : ℕ) → (a.operator ≡ 1 → ⊥) → true ≡ spares n (atom_of a).operator
unfolding atom_of
spare_other a n h =
    sym (by_operator (λ o. spares n o ≡ true) a.operator a.other (get_or a.values 0 0) (take a.count a.values)
    (λ e. refl) (λ e. absurd (h e)) (λ e. refl) (λ o e. refl) (λ e. refl) (λ e. refl))

-- an operator's number, every one past 7 being 8
pub number_is : (a : Atom) → operator_number (atom_of a).operator ≡ min a.operator 8
unfolding atom_of
number_is a =
    by_operator (λ o. operator_number o ≡ min a.operator 8) a.operator a.other (get_or a.values 0 0) (take a.count a.values)
    (λ e. omega arith) (λ e. omega arith) (λ e. omega arith) orders (λ e. omega arith) (λ e. omega arith)
  where
    orders : (o : Order) → a.operator ≡ order_number o → order_number o ≡ min a.operator 8
    orders at_most e = omega arith
    orders at_least e = omega arith
    orders is_below e = omega arith
    orders is_above e = omega arith

-- has an in_list on v the value n? where the atom is on another variable, where it is no in_list, where it is one
module _ (a : Atom) (v n : ℕ) where
  pub spare_away : (a.variable ≡ v → ⊥) → true ≡ cond (eqb (atom_of a).variable v) (spares n (atom_of a).operator) true
  unfolding atom_of
  spare_away h = sym (rw (ne_eqb a.variable v h))

  pub spare_none : a.variable ≡ v → (a.operator ≡ 1 → ⊥) → true ≡ cond (eqb (atom_of a).variable v) (spares n (atom_of a).operator) true
  unfolding atom_of
  spare_none h i = spare_other a n i ∙ sym (rw (eq-eqb a.variable v h))

  pub spare_list : a.variable ≡ v → a.operator ≡ 1 → m.among n (take a.count a.values) ≡ cond (eqb (atom_of a).variable v) (spares n (atom_of a).operator) true
  unfolding atom_of
  spare_list h i = sym (ap (λ (x : m.Atom). cond (eqb x.variable v) (spares n x.operator) true) (atom_by a 1 i) ∙ rw (eq-eqb a.variable v h))

pub share_list : (c : m.Clause) (a : Atom) → a.operator ≡ 1 → on a.variable (in_list (keep (is_common c a.variable) (take a.count a.values))) ≡ on (atom_of a).variable (shared c (atom_of a).variable (atom_of a).operator)
share_list c a e = sym (ap (λ (x : m.Atom). on x.variable (shared c x.variable x.operator)) (atom_by a 1 e))

-- an atom with another list
module _ (a b : Atom) (v : b.variable ≡ a.variable) (o : b.operator ≡ a.operator) where
  listed : (op : ℕ) → a.operator ≡ op → (ns : List ℕ) → take b.count b.values ≡ ns → atom_of b ≡ on a.variable (operator_of op b.other (get_or b.values 0 0) ns)
  listed op e ns l =
      atom_by b op (o ∙ e) ∙ ap (λ (w : ℕ). on w (operator_at op b)) v ∙ ap (λ t. on a.variable (operator_of op b.other (get_or b.values 0 0) t)) l

  pub tighten_list : 1 ≤ a.operator → a.operator ≤ 2 → take b.count b.values ≡ ascend ltb (take a.count a.values) → atom_of b ≡ tighten (atom_of a)
  tighten_list h k l = go (eqb a.operator 1) refl
    where
      go : (t : Bool) → eqb a.operator 1 ≡ t → atom_of b ≡ tighten (atom_of a)
      go true e = let i = eqb-true a.operator 1 e in listed 1 i _ l ∙ tighten_at a 1 i
      go false e =
          let i : a.operator ≡ 2 = omega (arith, eqb-false a.operator 1 e) in
          listed 2 i _ l ∙ tighten_at a 2 i

pub share_with : (c : m.Clause) (a b : Atom) → a.operator ≡ 1 → b.variable ≡ a.variable → b.operator ≡ a.operator → take b.count b.values ≡ keep (is_common c a.variable) (take a.count a.values)
    → atom_of b ≡ on (atom_of a).variable (shared c (atom_of a).variable (atom_of a).operator)
share_with c a b e v o l = listed a b v o 1 e _ l ∙ share_list c a e
