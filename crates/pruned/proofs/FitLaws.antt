-- The variables of a clause stay the sheet's through steps 2 to 5.
use Prim.Native.Nat.{ℕ}
use mathlib.Core.Bool.{Bool, true, false, cond}
use mathlib.Core.List.{List, [], ◌∷◌, map}
use lib.Dec.{ltb, eqb}
use Rattle.lists.specs.Lists.{All, Each}
use Rattle.lists.proofs.SubLaws.{sub_all, prunes_sub}
use Rattle.lists.proofs.OrderLaws.{all_ascend}
use Rattle.meaning.specs.Values.{Kind}
use Rattle.meaning.specs.Atoms.{Order, at_most, at_least, is_below, is_above, Operator, equals, in_list, not_in_list, order, is_null, is_not_null, Atom, Clause}
use Rattle.meaning.specs.Sheets.{Sheet, kind_of, second}
use Rattle.meaning.specs.Steps.{on, oriented, orient, closed, tightened, tighten, shared, merged, atom_before, tidied, NormalClause}
use Rattle.meaning.proofs.AgainLaws.{all_over}
use Rattle.asked.specs.Asked.{There, every_column}
use Rattle.pruned.specs.Pruned.{Fits}

module _ (sheet : Sheet) where
  abbrev pub Has : List ℕ → Type 0
  Has vs = All (There (every_column sheet) sheet) vs

  abbrev pub AtomFits : Atom → Type 0
  AtomFits a = Has (a.variable ∷ second a.operator)

  oriented_fits : (v : ℕ) (o : Operator) → Has (v ∷ second o) → AtomFits (oriented v o)
  oriented_fits v (equals u) h = go (eqb v u) (ltb u v)
    where
      go : (a b : Bool) → AtomFits (cond a (on v is_not_null) (cond b (on u (equals v)) (on v (equals u))))
      go true b = (h.0, tt)
      go false true = (h.1.0, (h.0, tt))
      go false false = h
  oriented_fits v (in_list ns) h = h
  oriented_fits v (not_in_list ns) h = h
  oriented_fits v (order o n) h = h
  oriented_fits v is_null h = h
  oriented_fits v is_not_null h = h

  closed_fits : (v : ℕ) (o : Order) (n : ℕ) → Has (v ∷ []) → Has (v ∷ second (closed o n))
  closed_fits v at_most n h = h
  closed_fits v at_least n h = h
  closed_fits v is_below n h = h
  closed_fits v is_above n h = h

  tightened_fits : (v : ℕ) (o : Operator) → Has (v ∷ second o) → Has (v ∷ second (tightened o))
  tightened_fits v (equals u) h = h
  tightened_fits v (in_list ns) h = h
  tightened_fits v (not_in_list ns) h = h
  tightened_fits v (order o n) h = closed_fits v o n h
  tightened_fits v is_null h = h
  tightened_fits v is_not_null h = h

  shared_fits : (c : Clause) (v : ℕ) (o : Operator) → Has (v ∷ second o) → Has (v ∷ second (shared c v o))
  shared_fits c v (equals u) h = h
  shared_fits c v (in_list ns) h = h
  shared_fits c v (not_in_list ns) h = h
  shared_fits c v (order o n) h = h
  shared_fits c v is_null h = h
  shared_fits c v is_not_null h = h

  pub tidied_fits : (kind : ℕ → Kind) (c : Clause) → Fits sheet c → Fits sheet (tidied kind c)
  unfolding tidied
  tidied_fits kind c h =
      let d = map tighten (map orient c) in
      all_ascend (atom_before kind) AtomFits (merged d)
      (all_over AtomFits AtomFits (λ a. on a.variable (shared d a.variable a.operator)) (λ a k. shared_fits d a.variable a.operator k) d
      (all_over AtomFits AtomFits tighten (λ a k. tightened_fits a.variable a.operator k) (map orient c)
      (all_over AtomFits AtomFits orient (λ a k. oriented_fits a.variable a.operator k) c h)))

  pub normal_fits : (c d : Clause) → NormalClause sheet c d → Fits sheet c → Fits sheet d
  normal_fits c d n h = sub_all AtomFits (prunes_sub n) (tidied_fits (kind_of sheet) c h)

  pub each_fits : {cs ds : List Clause} → Each (NormalClause sheet) cs ds → All (Fits sheet) cs → All (Fits sheet) ds
  each_fits Each.none h = tt
  each_fits (Each.one {a = c} {b = d} n e) h = (normal_fits c d n h.0, each_fits e h.1)
