-- An atom is known by its bits: so sorting atoms by their bits drops only repeats.
use Prim.Native.Nat.{ℕ, ◌≤◌}
use native.Mathlib.Omega.{arith}
use mathlib.Core.Path.{◌≡◌, refl, sym, ap, ◌∙◌}
use mathlib.Core.List.{◌++◌}
use lib.ListN.{length}
use lib.Dec.{lit≤}
use Rattle.lists.specs.Lists.{each}
use Rattle.meaning.specs.Values.{Kind, raw}
use Rattle.meaning.specs.Atoms.{Order, at_most, at_least, is_below, is_above, Operator, equals, in_list, not_in_list, order, is_null, is_not_null, Atom}
use Rattle.bits.specs.Bits.{bits}
use Rattle.meaning.specs.Packed.{value_bits, order_number, operator_number, operand_bits, atom_bits}
use Rattle.bits.proofs.BitLaws.{bits_same, fields}
use Rattle.meaning.proofs.BitLaws.{raw_same, values_same}

order_same : (x y : Order) → order_number x ≡ order_number y → x ≡ y
order_same at_most at_most e = refl
order_same at_most at_least e = absurd (omega arith)
order_same at_most is_below e = absurd (omega arith)
order_same at_most is_above e = absurd (omega arith)
order_same at_least at_most e = absurd (omega arith)
order_same at_least at_least e = refl
order_same at_least is_below e = absurd (omega arith)
order_same at_least is_above e = absurd (omega arith)
order_same is_below at_most e = absurd (omega arith)
order_same is_below at_least e = absurd (omega arith)
order_same is_below is_below e = refl
order_same is_below is_above e = absurd (omega arith)
order_same is_above at_most e = absurd (omega arith)
order_same is_above at_least e = absurd (omega arith)
order_same is_above is_below e = absurd (omega arith)
order_same is_above is_above e = refl

order_range : (x : Order) → (3 ≤ order_number x) × (order_number x ≤ 6)
order_range at_most = (lit≤ tt, lit≤ tt)
order_range at_least = (lit≤ tt, lit≤ tt)
order_range is_below = (lit≤ tt, lit≤ tt)
order_range is_above = (lit≤ tt, lit≤ tt)

operator_same : (k : Kind) (o p : Operator) → operator_number o ≡ operator_number p → operand_bits k o ≡ operand_bits k p → o ≡ p
operator_same k (equals u) (equals w) e f = ap equals (bits_same 4 u w f)
operator_same k (equals u) (in_list ns) e f = absurd (omega arith)
operator_same k (equals u) (not_in_list ns) e f = absurd (omega arith)
operator_same k (equals u) (order y n) e f = absurd (omega (arith, order_range y))
operator_same k (equals u) is_null e f = absurd (omega arith)
operator_same k (equals u) is_not_null e f = absurd (omega arith)
operator_same k (in_list ms) (equals w) e f = absurd (omega arith)
operator_same k (in_list ms) (in_list ns) e f = let r = fields 3 (length ms) (length ns) (each (value_bits k) ms) (each (value_bits k) ns) f in ap in_list (values_same k ms ns r.0 r.1)
operator_same k (in_list ms) (not_in_list ns) e f = absurd (omega arith)
operator_same k (in_list ms) (order y n) e f = absurd (omega (arith, order_range y))
operator_same k (in_list ms) is_null e f = absurd (omega arith)
operator_same k (in_list ms) is_not_null e f = absurd (omega arith)
operator_same k (not_in_list ms) (equals w) e f = absurd (omega arith)
operator_same k (not_in_list ms) (in_list ns) e f = absurd (omega arith)
operator_same k (not_in_list ms) (not_in_list ns) e f = let r = fields 3 (length ms) (length ns) (each (value_bits k) ms) (each (value_bits k) ns) f in ap not_in_list (values_same k ms ns r.0 r.1)
operator_same k (not_in_list ms) (order y n) e f = absurd (omega (arith, order_range y))
operator_same k (not_in_list ms) is_null e f = absurd (omega arith)
operator_same k (not_in_list ms) is_not_null e f = absurd (omega arith)
operator_same k (order x m) (equals w) e f = absurd (omega (arith, order_range x))
operator_same k (order x m) (in_list ns) e f = absurd (omega (arith, order_range x))
operator_same k (order x m) (not_in_list ns) e f = absurd (omega (arith, order_range x))
operator_same k (order x m) (order y n) e f = ap (λ z. order z m) (order_same x y e) ∙ ap (order y) (raw_same k m n (bits_same 63 (raw k m) (raw k n) f))
operator_same k (order x m) is_null e f = absurd (omega (arith, order_range x))
operator_same k (order x m) is_not_null e f = absurd (omega (arith, order_range x))
operator_same k is_null (equals w) e f = absurd (omega arith)
operator_same k is_null (in_list ns) e f = absurd (omega arith)
operator_same k is_null (not_in_list ns) e f = absurd (omega arith)
operator_same k is_null (order y n) e f = absurd (omega (arith, order_range y))
operator_same k is_null is_null e f = refl
operator_same k is_null is_not_null e f = absurd (omega arith)
operator_same k is_not_null (equals w) e f = absurd (omega arith)
operator_same k is_not_null (in_list ns) e f = absurd (omega arith)
operator_same k is_not_null (not_in_list ns) e f = absurd (omega arith)
operator_same k is_not_null (order y n) e f = absurd (omega (arith, order_range y))
operator_same k is_not_null is_null e f = absurd (omega arith)
operator_same k is_not_null is_not_null e f = refl

pub atom_same : (kind : ℕ → Kind) (a b : Atom) → atom_bits kind a ≡ atom_bits kind b → a ≡ b
atom_same kind a b e =
    let r = fields 4 a.variable b.variable (bits 4 (operator_number a.operator) ++ operand_bits (kind a.variable) a.operator) (bits 4 (operator_number b.operator) ++ operand_bits (kind b.variable) b.operator) e in
    let q = fields 3 (operator_number a.operator) (operator_number b.operator) (operand_bits (kind a.variable) a.operator) (operand_bits (kind b.variable) b.operator) r.1 in
    let o : a.operator ≡ b.operator = operator_same (kind a.variable) a.operator b.operator q.0 (q.1 ∙ ap (λ v. operand_bits (kind v) b.operator) (sym r.0)) in
    λ i. record { variable = r.0 i; operator = o i }
