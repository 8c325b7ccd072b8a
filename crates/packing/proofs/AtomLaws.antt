-- The parts of an atom and of a clause, as their bits have them.
use Prim.Native.Nat.{ℕ, zero, suc, ◌^◌, ◌<◌, min}
use mathlib.Core.Path.{◌≡◌, refl, sym, ap, subst, ◌∙◌}
use mathlib.Core.List.{List, [], ◌∷◌, ◌++◌, map}
use native.Mathlib.Omega.{arith}
use lib.ListN.{length, get_or}
use Rattle.bits.specs.Bits.{bits}
use Rattle.meaning.specs.declared.Atom.{Atom}
use Rattle.meaning.specs.Values.{Kind, integer, token, boolean, kind_number}
use Rattle.meaning.specs.Packed.{operator_number, operand_bits, atom_bits}
use Rattle.meaning.specs.Views.{atom_of}
use Rattle.steps.specs.Lists.{kind_from, kind_by}
use Rattle.steps.proofs.AtomLaws.{atom_by, number_is}
use Rattle.packing.specs.Wrote.{InFive, Wrote}
use Rattle.packing.proofs.WroteLaws.{wrote_both, wrote_as}

-- the variable and the second variable have five bits
pub five_first : (a : Atom) → InFive (atom_of a) → a.variable < 2 ^ 5
unfolding atom_of
five_first a h = h.0

pub five_second : (a : Atom) → a.operator ≡ 0 → InFive (atom_of a) → a.other < 2 ^ 5
five_second a e h = let g = subst InFive (atom_by a 0 e) h in g.1.0

pub kind_small : (k : Kind) → kind_number k < 2 ^ 2
kind_small integer = omega arith
kind_small token = omega arith
kind_small boolean = omega arith

pub kind_got : (ks : List Kind) (i : ℕ) → i < length ks → get_or (map kind_number ks) i 0 ≡ kind_number (get_or ks i integer)
kind_got [] i h = absurd (omega arith)
kind_got (k ∷ ks) zero h = refl
kind_got (k ∷ ks) (suc i) h = kind_got ks i (omega arith)

-- an atom is its variable, its operator's number and its operand
pub atom_written : (o bs s : List ℕ) (p : ℕ) (kinds : List ℕ) (a : Atom) (op k : ℕ) → op ≡ min a.operator 8 → k ≡ get_or kinds a.variable 0
    → Wrote o (((bs ++ bits 5 a.variable) ++ bits 4 op) ++ operand_bits (kind_from k) (atom_of a).operator) s p → Wrote o (bs ++ atom_bits (kind_by kinds) (atom_of a)) s p
unfolding atom_of kind_by
atom_written o bs s p kinds a op k e f w =
    let v : List ℕ = bits 5 a.variable in
    let x : List ℕ = operand_bits (kind_from k) (atom_of a).operator in
    wrote_as o bs (v ++ (bits 4 op ++ x)) (atom_bits (kind_by kinds) (atom_of a)) s p
    (ap (λ (n : ℕ). v ++ (bits 4 n ++ x)) (e ∙ sym (number_is a)) ∙ ap (λ (n : ℕ). v ++ (bits 4 (operator_number (atom_of a).operator) ++ operand_bits (kind_from n) (atom_of a).operator)) f)
    (wrote_both o bs v (bits 4 op ++ x) s p (wrote_both o (bs ++ v) (bits 4 op) x s p w))
