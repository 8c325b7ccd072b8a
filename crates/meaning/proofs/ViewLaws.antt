-- Atoms by value: when an atom by value is met.
use Prim.Native.Nat.{ℕ}
use mathlib.Core.Path.{◌≡◌, refl, sym, ap, ◌∙◌}
use mathlib.Core.Bool.{Bool, true, false, cond}
use mathlib.Core.List.{List}
use lib.ListN.{get_or, take}
use lib.Dec.{eqb}
use borrow.Author.Tests.{eqb-true}
use Rattle.meaning.specs.declared.Content.{Content}
use Rattle.meaning.specs.declared.Content.TheVariants.{Null, Value}
use Rattle.meaning.specs.declared.Atom.{Atom}
use Rattle.meaning.specs.Values.{Contents}
use Rattle.meaning.specs.Atoms.{at_most, at_least, is_below, is_above, equals, in_list, not_in_list, order, is_null, is_not_null, is_value, passes, met}
use Rattle.meaning.specs.Views.{test_of, operator_of, operator_of_atom, atom_of, value_passes}

-- of null only "is null" is met
pub null_passes : (e : Contents) (op u n : ℕ) (ns : List ℕ) → passes e (operator_of op u n ns) Null ≡ eqb op 7
null_passes e op u n ns = go (eqb op 7) refl
  where
    other : (a b c d f g h : Bool) →
        passes e (cond a (equals u) (cond b (in_list ns) (cond c (not_in_list ns) (cond d (order at_most n) (cond f (order at_least n) (cond g (order is_below n) (cond h (order is_above n) is_not_null))))))) Null ≡ false
    other true b c d f g h = refl
    other false true c d f g h = refl
    other false false true d f g h = refl
    other false false false true f g h = refl
    other false false false false true g h = refl
    other false false false false false true h = refl
    other false false false false false false true = refl
    other false false false false false false false = refl

    go : (i : Bool) → eqb op 7 ≡ i → passes e (operator_of op u n ns) Null ≡ eqb op 7
    go true k = ap (λ x. passes e (operator_of x u n ns) Null) (eqb-true op 7 k) ∙ sym k
    go false k = rw k (other (eqb op 0) (eqb op 1) (eqb op 2) (eqb op 3) (eqb op 4) (eqb op 5) (eqb op 6))

-- an atom is met as its operator passes; an equality looks at one more variable
pub met_by : (a : Atom) (x y : Content) (e : Contents) → e a.variable ≡ x → e a.other ≡ y → met e (atom_of a) ≡ passes (λ u. y) (operator_of_atom a) x
unfolding atom_of
met_by a x y e p q = ap (passes e (operator_of_atom a)) p ∙ go (eqb a.operator 0) x
  where
    tests : (a b c d f g h : Bool) (n : ℕ) (ns : List ℕ) (x : Content) →
        passes e (cond a (in_list ns) (cond b (not_in_list ns) (cond c (order at_most n) (cond d (order at_least n) (cond f (order is_below n) (cond g (order is_above n) (cond h is_null is_not_null))))))) x
        ≡ passes (λ u. y) (cond a (in_list ns) (cond b (not_in_list ns) (cond c (order at_most n) (cond d (order at_least n) (cond f (order is_below n) (cond g (order is_above n) (cond h is_null is_not_null))))))) x
    tests true b c d f g h n ns Null = refl
    tests true b c d f g h n ns (Value v) = refl
    tests false true c d f g h n ns Null = refl
    tests false true c d f g h n ns (Value v) = refl
    tests false false true d f g h n ns Null = refl
    tests false false true d f g h n ns (Value v) = refl
    tests false false false true f g h n ns Null = refl
    tests false false false true f g h n ns (Value v) = refl
    tests false false false false true g h n ns Null = refl
    tests false false false false true g h n ns (Value v) = refl
    tests false false false false false true h n ns Null = refl
    tests false false false false false true h n ns (Value v) = refl
    tests false false false false false false true n ns Null = refl
    tests false false false false false false true n ns (Value v) = refl
    tests false false false false false false false n ns Null = refl
    tests false false false false false false false n ns (Value v) = refl

    go : (b : Bool) (x : Content) → passes e (cond b (equals a.other) (test_of a.operator (get_or a.values 0 0) (take a.count a.values))) x ≡ passes (λ u. y) (cond b (equals a.other) (test_of a.operator (get_or a.values 0 0) (take a.count a.values))) x
    go true Null = refl
    go true (Value v) = ap (is_value v) q
    go false z = tests (eqb a.operator 1) (eqb a.operator 2) (eqb a.operator 3) (eqb a.operator 4) (eqb a.operator 5) (eqb a.operator 6) (eqb a.operator 7) _ _ z

-- an atom on null, and on a value
pub met_null : (a : Atom) (x y : Content) (e : Contents) → x ≡ Null → e a.variable ≡ x → e a.other ≡ y → eqb a.operator 7 ≡ met e (atom_of a)
met_null a x y e z p q = sym (met_by a x y e p q ∙ ap (passes (λ u. y) (operator_of_atom a)) z ∙ null_passes (λ u. y) a.operator a.other _ _)

pub met_value : (a : Atom) (x y : Content) (n : ℕ) (r : Bool) (e : Contents) → x ≡ Value n → r ≡ value_passes a n y → e a.variable ≡ x → e a.other ≡ y → r ≡ met e (atom_of a)
unfolding value_passes
met_value a x y n r e z h p q = h ∙ sym (met_by a x y e p q ∙ ap (passes (λ u. y) (operator_of_atom a)) z)
