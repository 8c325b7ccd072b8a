-- Lists, operands and atoms, by what is read for them.
use Prim.Native.Nat.{ℕ, zero, suc, ◌<◌, ◌≤◌}
use native.Mathlib.Omega.{arith}
use mathlib.Core.Path.{◌≡◌, refl, ◌∙◌}
use mathlib.Core.List.{List, []}
use Rattle.meaning.specs.Values.{Kind}
use Rattle.meaning.specs.Sheets.{Sheet, kind_of}
use Rattle.meaning.specs.Views.{operator_of}
use Rattle.meaning.specs.Reading.{found, refused, on_read, count, times, value, values, mate, operand, atom, clause}
use Rattle.meaning.specs.Allowed.{facts_of}
use Rattle.bits.specs.declared.Place.{Place}
use Rattle.values.specs.Reads.{Got}
use Rattle.values.proofs.ReadLaws.{goes_on}
use Rattle.meaning.specs.Steps.{on}
use Rattle.place.specs.Heads.{atom_head}
use Rattle.place.specs.declared.AtomHead.{AtomHead}
use Rattle.place.proofs.AtomHeadLaws.{atom_by_head}
use Rattle.clauses.specs.declared.Facts.{Facts}
use Rattle.clauses.specs.Facts.{FactsAre}

-- a list: its count, and then so many values
module _ (k : Kind) (s : List ℕ) (p : ℕ) where
  pub values_lost : {n : ℕ} → count 4 1 8 s p ≡ refused n → values k s p ≡ refused n
  unfolding values
  values_lost e = simp e

  pub values_of : {n : ℕ} {q : Place} (g : Got (count 4 1 8 s p) (λ x. n ≡ x) q) → values k s p ≡ times n (value k) s g.place
  unfolding values
  values_of g = goes_on _ g ∙ rw (← g.holds)

-- what follows an operator's number o on the variable v, as an operator
module _ (facts : Sheet) (v o : ℕ) (s : List ℕ) (p : ℕ) where
  pub operand_mate : (n : ℕ) (ns : List ℕ) → o < 1 → operand facts v o s p ≡ on_read (mate facts v s p) (λ u q. found (operator_of o u n ns) q)
  unfolding operand
  operand_mate n ns h = let e : o ≡ 0 = omega arith in rw e

  pub operand_list : (u n : ℕ) → 1 ≤ o → o < 3 → operand facts v o s p ≡ on_read (values (kind_of facts v) s p) (λ ns q. found (operator_of o u n ns) q)
  unfolding operand
  operand_list u n l h = go o l h
    where
      go : (o : ℕ) → 1 ≤ o → o < 3 → operand facts v o s p ≡ on_read (values (kind_of facts v) s p) (λ ns q. found (operator_of o u n ns) q)
      go zero l h = absurd (omega arith)
      go (suc zero) l h = refl
      go (suc (suc zero)) l h = refl
      go (suc (suc (suc o))) l h = absurd (omega arith)

  pub operand_bound : (u : ℕ) (ns : List ℕ) → 3 ≤ o → o < 7 → operand facts v o s p ≡ on_read (value (kind_of facts v) s p) (λ n q. found (operator_of o u n ns) q)
  unfolding operand
  operand_bound u ns l h = go o l h
    where
      go : (o : ℕ) → 3 ≤ o → o < 7 → operand facts v o s p ≡ on_read (value (kind_of facts v) s p) (λ n q. found (operator_of o u n ns) q)
      go zero l h = absurd (omega arith)
      go (suc zero) l h = absurd (omega arith)
      go (suc (suc zero)) l h = absurd (omega arith)
      go (suc (suc (suc zero))) l h = refl
      go (suc (suc (suc (suc zero)))) l h = refl
      go (suc (suc (suc (suc (suc zero))))) l h = refl
      go (suc (suc (suc (suc (suc (suc zero)))))) l h = refl
      go (suc (suc (suc (suc (suc (suc (suc o))))))) l h = absurd (omega arith)

  pub operand_none : (u n : ℕ) (ns : List ℕ) → 7 ≤ o → o < 9 → operand facts v o s p ≡ found (operator_of o u n ns) p
  unfolding operand
  operand_none u n ns l h = go o l h
    where
      go : (o : ℕ) → 7 ≤ o → o < 9 → operand facts v o s p ≡ found (operator_of o u n ns) p
      go zero l h = absurd (omega arith)
      go (suc zero) l h = absurd (omega arith)
      go (suc (suc zero)) l h = absurd (omega arith)
      go (suc (suc (suc zero))) l h = absurd (omega arith)
      go (suc (suc (suc (suc zero)))) l h = absurd (omega arith)
      go (suc (suc (suc (suc (suc zero))))) l h = absurd (omega arith)
      go (suc (suc (suc (suc (suc (suc zero)))))) l h = absurd (omega arith)
      go (suc (suc (suc (suc (suc (suc (suc zero))))))) l h = refl
      go (suc (suc (suc (suc (suc (suc (suc (suc zero)))))))) l h = refl
      go (suc (suc (suc (suc (suc (suc (suc (suc (suc o))))))))) l h = absurd (omega arith)

  pub mate_refused : {n : ℕ} → o < 1 → mate facts v s p ≡ refused n → operand facts v o s p ≡ refused n
  mate_refused h e = operand_mate 0 [] h ∙ rw e

  pub list_refused : {n : ℕ} → 1 ≤ o → o < 3 → values (kind_of facts v) s p ≡ refused n → operand facts v o s p ≡ refused n
  list_refused l h e = operand_list 0 0 l h ∙ rw e

  pub bound_refused : {n : ℕ} → 3 ≤ o → o < 7 → value (kind_of facts v) s p ≡ refused n → operand facts v o s p ≡ refused n
  bound_refused l h e = operand_bound 0 [] l h ∙ rw e

-- an atom: its head, and what follows
module _ (facts : Sheet) (s : List ℕ) (p : ℕ) where
  pub atom_lost : {n : ℕ} → atom_head facts s p ≡ refused n → atom facts s p ≡ refused n
  atom_lost e = atom_by_head facts s p ∙ rw e

  pub atom_goes_on : {h : AtomHead} {q : Place} (g : Got (atom_head facts s p) (λ x. h ≡ x) q) → atom facts s p ≡ on_read (operand facts h.variable h.operator s g.place) (λ x r. found (on h.variable x) r)
  atom_goes_on g = atom_by_head facts s p ∙ goes_on _ g ∙ rw (← g.holds)

-- a clause: its count, and then so many atoms
module _ (facts : Sheet) (s : List ℕ) (p : ℕ) where
  pub clause_lost : {n : ℕ} → count 4 0 8 s p ≡ refused n → clause facts s p ≡ refused n
  unfolding clause
  clause_lost e = simp e

  pub clause_of : {n : ℕ} {q : Place} (g : Got (count 4 0 8 s p) (λ x. n ≡ x) q) → clause facts s p ≡ times n (atom facts) s g.place
  unfolding clause
  clause_of g = goes_on _ g ∙ rw (← g.holds)

-- the facts of a sheet are those of the sheet without its policies
pub facts_only : {sheet : Sheet} {f : Facts} → FactsAre sheet f → FactsAre (facts_of sheet) f
facts_only F = record { columns = F.columns; keys = F.keys; tables = F.tables; kinds = record { columns = F.kinds.columns; keys = F.kinds.keys } }
