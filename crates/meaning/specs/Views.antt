-- Atoms and clauses by value, as the document's atoms and clauses. Every struct stands for one: an operator number past 8 is "is not null", a list
-- has at most the eight values that there are, a clause at most the eight atoms.
use Rattle.std.specs.Prelude.{ℕ, ◌+◌, ◌<◌, ◌≡◌, Bool, cond, List, map, get_or, take, eqb}
use Rattle.meaning.specs.declared.Content.{Content}
use Rattle.meaning.specs.declared.Content.TheVariants.{Value}
use Rattle.meaning.specs.declared.Atom.{Atom}
use Rattle.meaning.specs.declared.Clause.{Clause}
use Rattle.meaning.specs.Values.{integer, kind_number}
use Rattle.meaning.specs.Atoms as m
use Rattle.meaning.specs.Atoms.{at_most, at_least, is_below, is_above, Operator, equals, in_list, not_in_list, order, is_null, is_not_null, passes}
use Rattle.meaning.specs.Sheets.{Sheet}
use Rattle.meaning.specs.Steps.{on}

-- the operator other than equality that a number stands for, with a bound n and a list ns
abbrev pub test_of : ℕ → ℕ → List ℕ → Operator
test_of op n ns =
    cond (eqb op 1) (in_list ns)
    (cond (eqb op 2) (not_in_list ns)
    (cond (eqb op 3) (order at_most n)
    (cond (eqb op 4) (order at_least n)
    (cond (eqb op 5) (order is_below n)
    (cond (eqb op 6) (order is_above n)
    (cond (eqb op 7) is_null is_not_null))))))

-- any operator, with a second variable u
abbrev pub operator_of : ℕ → ℕ → ℕ → List ℕ → Operator
operator_of op u n ns = cond (eqb op 0) (equals u) (test_of op n ns)

abbrev pub operator_of_atom : Atom → Operator
operator_of_atom a = operator_of a.operator a.other (get_or a.values 0 0) (take a.count a.values)

unfoldable pub atom_of : Atom → m.Atom
atom_of a = on a.variable (operator_of_atom a)

abbrev pub clause_of : Clause → m.Clause
clause_of c = map atom_of (take c.count c.atoms)

-- does the value n pass the atom's operator, where the second variable of an equality holds y?
unfoldable pub value_passes : Atom → ℕ → Content → Bool
value_passes a n y = passes (λ u. y) (operator_of_atom a) (Value n)

-- the kinds of a sheet's variables by their numbers, columns from 0 and keys from 16 on; integer where there is no such variable
pub record KindsAre (sheet : Sheet) (kinds : List ℕ) : Type 0 where
  pub columns : (c : ℕ) → c < 16 → get_or kinds c 0 ≡ kind_number (get_or sheet.columns c integer)
  pub keys : (k : ℕ) → k < 8 → get_or kinds (k + 16) 0 ≡ kind_number (get_or sheet.keys k integer)
