-- A turned atom by value, free of code. Assumes nothing.
use Prim.Native.Nat.{ℕ}
use mathlib.Core.Path.{◌≡◌, refl, sym, ◌∙◌, ap, subst}
use mathlib.Core.Bool.{Bool, true, false, cond}
use mathlib.Core.List.{List}
use lib.ListN.{get_or, take}
use lib.Dec.{eqb}
use borrow.Author.Tests.{eqb-true}
use Rattle.meaning.specs.Atoms.{at_most, at_least, is_below, is_above, equals, in_list, not_in_list, order, is_null, is_not_null}
use Rattle.meaning.specs.Steps.{on}
use Rattle.meaning.specs.declared.Atom.{Atom}
use Rattle.meaning.specs.Views.{test_of, operator_of, atom_of}
use Rattle.asked.specs.Asked.{turned_by, turned, turned_number}
use Rattle.asked.proofs.Laying.{both}

-- a turned atom by value

pub turned_there : (a b : Atom) → b.variable ≡ a.variable → b.operator ≡ turned_number a.operator → b.other ≡ a.other → b.count ≡ a.count → b.values ≡ a.values → atom_of b ≡ turned (atom_of a)
unfolding atom_of
turned_there a b ev eo eu ec es =
    both on ev
    ((λ j. operator_of (eo j) (eu j) (get_or (es j) 0 0) (take (ec j) (es j)))
    ∙ go (eqb a.operator 0) refl)
  where
    go : (z : Bool) → eqb a.operator 0 ≡ z → operator_of (turned_number a.operator) a.other (get_or a.values 0 0) (take a.count a.values) ≡ turned_by (operator_of a.operator a.other (get_or a.values 0 0) (take a.count a.values))
    go true q =
        let z = eqb-true a.operator 0 q in
        subst (λ (k : ℕ). operator_of (turned_number k) a.other (get_or a.values 0 0) (take a.count a.values) ≡ turned_by (operator_of k a.other (get_or a.values 0 0) (take a.count a.values))) (sym z) refl
    go false q =
        chain a.other (get_or a.values 0 0) (take a.count a.values) (eqb a.operator 1) (eqb a.operator 2) (eqb a.operator 3) (eqb a.operator 4) (eqb a.operator 5) (eqb a.operator 6) (eqb a.operator 7)
        ∙ sym (ap (λ (b : Bool). turned_by (cond b (equals a.other) (test_of a.operator (get_or a.values 0 0) (take a.count a.values)))) q)
      where
        chain : (u x : ℕ) (xs : List ℕ) (b1 b2 b3 b4 b5 b6 b7 : Bool) → operator_of (cond b1 2 (cond b2 1 (cond b3 6 (cond b4 5 (cond b5 4 (cond b6 3 (cond b7 8 7))))))) u x xs
            ≡ turned_by (cond b1 (in_list xs) (cond b2 (not_in_list xs) (cond b3 (order at_most x) (cond b4 (order at_least x) (cond b5 (order is_below x) (cond b6 (order is_above x) (cond b7 is_null is_not_null)))))))
        chain u x xs true b2 b3 b4 b5 b6 b7 = refl
        chain u x xs false true b3 b4 b5 b6 b7 = refl
        chain u x xs false false true b4 b5 b6 b7 = refl
        chain u x xs false false false true b5 b6 b7 = refl
        chain u x xs false false false false true b6 b7 = refl
        chain u x xs false false false false false true b7 = refl
        chain u x xs false false false false false false true = refl
        chain u x xs false false false false false false false = refl
