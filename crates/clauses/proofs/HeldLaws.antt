-- The columns that an atom uses, as the code asks for them.
use Prim.Native.Nat.{ℕ, ◌<◌, ◌≤◌}
use native.Mathlib.Omega.{arith}
use mathlib.Core.Path.{◌≡◌, refl, sym, ap, ◌∙◌}
use mathlib.Core.Bool.{Bool, true, false, cond, ◌&&◌}
use mathlib.Core.List.{List, []}
use lib.ListN.{get_or, take}
use lib.Dec.{eqb}
use borrow.Author.Tests.{lt-ltb, le-ltb, ne_eqb}
use Rattle.lists.proofs.BoolLaws.{and_last}
use Rattle.meaning.specs.declared.Atom.{Atom}
use Rattle.meaning.specs.Atoms as m
use Rattle.meaning.specs.Sheets.{member, second}
use Rattle.meaning.specs.Views.{atom_of}
use Rattle.clauses.specs.Facts.{column_held, atom_held}

-- an atom's variables
module _ (columns : ℕ) (a : Atom) where
  pub both_held : {x y : Bool} → a.operator < 1 → x ≡ column_held columns a.variable → y ≡ column_held columns a.other → (x && y) ≡ atom_held columns (atom_of a)
  unfolding atom_of
  both_held {x} {y} h e f = let z : a.operator ≡ 0 = omega arith in rw (z, e, f) (and_last (column_held columns a.variable) (column_held columns a.other))

  none_second : (b c d e f g h : Bool) (n : ℕ) (ns : List ℕ) →
      second (cond b (m.in_list ns) (cond c (m.not_in_list ns) (cond d (m.order m.at_most n) (cond e (m.order m.at_least n) (cond f (m.order m.is_below n) (cond g (m.order m.is_above n) (cond h m.is_null m.is_not_null))))))) ≡ []
  none_second true c d e f g h n ns = refl
  none_second false true d e f g h n ns = refl
  none_second false false true e f g h n ns = refl
  none_second false false false true f g h n ns = refl
  none_second false false false false true g h n ns = refl
  none_second false false false false false true h n ns = refl
  none_second false false false false false false true n ns = refl
  none_second false false false false false false false n ns = refl

  pub one_held : {x : Bool} → 1 ≤ a.operator → x ≡ column_held columns a.variable → x ≡ atom_held columns (atom_of a)
  unfolding atom_of
  one_held {x} h e =
      rw (ne_eqb a.operator 0 (λ z. omega arith), none_second (eqb a.operator 1) (eqb a.operator 2) (eqb a.operator 3) (eqb a.operator 4) (eqb a.operator 5) (eqb a.operator 6) (eqb a.operator 7) (get_or a.values 0 0) (take a.count a.values)) (e ∙ go (column_held columns a.variable))
    where
      go : (p : Bool) → p ≡ (p && true)
      go true = refl
      go false = refl

-- a column below 16 is looked up, a key is not
pub held_column : {x : Bool} (columns v : ℕ) → v < 16 → x ≡ member 16 columns v → x ≡ column_held columns v
held_column columns v h e = e ∙ sym (ap (λ b. cond b (member 16 columns v) true) (lt-ltb v 16 h))

pub held_key : (columns v : ℕ) → 16 ≤ v → true ≡ column_held columns v
held_key columns v h = simp (le-ltb v 16 h)
