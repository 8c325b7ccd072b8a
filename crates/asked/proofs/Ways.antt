-- Others imply an atom where none of the ways in which it fails is left, free of code. Assumes nothing.
use Prim.Native.Nat.{ℕ}
use mathlib.Core.Path.{◌≡◌, refl, sym, ◌∙◌, ap, subst}
use mathlib.Core.Bool.{Bool, true, false, not}
use mathlib.Core.List.{List, [], ◌∷◌, ◌++◌}
use lib.Dec.{eqb}
use borrow.Author.Tests.{eqb-true, eqb-false}
use Rattle.lists.specs.Lists.{All}
use Rattle.meaning.specs.Atoms as m
use Rattle.meaning.specs.Atoms.{Operator, equals, in_list, not_in_list, order, is_null, is_not_null, passes}
use Rattle.meaning.specs.Steps.{on}
use Rattle.meaning.specs.Sheets as sheets
use Rattle.meaning.specs.Sheets.{Sheet}
use Rattle.meaning.specs.Questions.{ClauseCovers, LiveClause}
use Rattle.meaning.specs.declared.Atom.{Atom}
use Rattle.meaning.specs.Views.{atom_of}
use Rattle.lists.specs.Decides.{Decides}
use Rattle.asked.specs.Asked.{There, Uses, every_column, Tells, Differs, turned_by, turned}
use Rattle.words.proofs.NeedLaws.{clash}
use Rattle.asked.proofs.FailLaws.{turned_fails, Plain, null_fails, other_null_fails, way_taken, way_apart, covers_plain, covers_null, covers_equals, equals_there, null_there, plain_there, not_null, equals_not_null}

-- which variables the ways use
pub uses_append : (held : ℕ → Bool) (sheet : Sheet) (c d : m.Clause) → Uses held sheet c → Uses held sheet d → Uses held sheet (c ++ d)
uses_append held sheet [] d p q = q
uses_append held sheet (a ∷ c) d p q = (p.0, uses_append held sheet c d p.1 q)

pub turned_second : (o : Operator) → sheets.second (turned_by o) ≡ []
turned_second (equals u) = refl
turned_second (in_list ns) = refl
turned_second (not_in_list ns) = refl
turned_second (order o n) = refl
turned_second is_null = refl
turned_second is_not_null = refl

abbrev pub Live : List ℕ → m.Clause → Bool → Type 0
Live top c r = Tells top c (λ sheet. LiveClause sheet c) r

abbrev pub Covered : List ℕ → m.Clause → m.Atom → Bool → Type 0
Covered top others a r = Tells top (a ∷ others) (λ sheet. ClauseCovers sheet (a ∷ []) others) r

pub answer_yes : {P : Type 0} → P → Decides P true
answer_yes p = record { yes = λ q. p; no = λ q. absurd (clash refl q) }

pub answer_no : {P : Type 0} → (P → ⊥) → Decides P false
answer_no p = record { yes = λ q. absurd (clash q refl); no = λ q. p }

module _ (top : List ℕ) (others : m.Clause) (a : m.Atom) where
  pub uses_turned : (sheet : Sheet) → Uses (every_column sheet) sheet (a ∷ others) → Uses (every_column sheet) sheet (others ++ (turned a ∷ []))
  uses_turned sheet u =
      uses_append (every_column sheet) sheet others (turned a ∷ []) u.1 ((u.0.0, subst (All (There (every_column sheet) sheet)) (sym (turned_second a.operator)) tt), tt)

  pub uses_null : (sheet : Sheet) (v : ℕ) → There (every_column sheet) sheet v → Uses (every_column sheet) sheet (a ∷ others) → Uses (every_column sheet) sheet (others ++ (on v is_null ∷ []))
  uses_null sheet v t u = uses_append (every_column sheet) sheet others (on v is_null ∷ []) u.1 ((t, tt), tt)

  pub there_other : (sheet : Sheet) (u : ℕ) → a.operator ≡ equals u → Uses (every_column sheet) sheet (a ∷ others) → There (every_column sheet) sheet u
  there_other sheet u o us = (subst (λ (p : Operator). All (There (every_column sheet) sheet) (sheets.second p)) o us.0.1).0

  -- a way is taken: turned, its variable null, its other variable null, apart
  pub turned_yes : (r : Bool) → r ≡ true → Live top (others ++ (turned a ∷ [])) r → Covered top others a false
  turned_yes r e h sheet g u =
      answer_no (way_taken sheet others a (turned a) (λ m. turned_fails m a.operator (m a.variable)) ((h sheet g (uses_turned sheet u)).yes e))

  pub null_yes : (r : Bool) → (a.operator ≡ is_null → ⊥) → r ≡ true → Live top (others ++ (on a.variable is_null ∷ [])) r → Covered top others a false
  null_yes r ne e h sheet g u =
      answer_no (way_taken sheet others a (on a.variable is_null) (λ m. null_fails m a.operator (m a.variable) ne) ((h sheet g (uses_null sheet a.variable u.0.0 u)).yes e))

  pub other_yes : (r : Bool) (w : ℕ) → a.operator ≡ equals w → r ≡ true → Live top (others ++ (on w is_null ∷ [])) r → Covered top others a false
  other_yes r w o e h sheet g u =
      answer_no
      (way_taken sheet others a (on w is_null)
      (λ m p q. other_null_fails m w (m a.variable) (m w) refl p (sym (ap (λ (x : Operator). passes m x (m a.variable)) o) ∙ q))
      ((h sheet g (uses_null sheet w (there_other sheet w o u) u)).yes e))

  pub uses_apart : (sheet : Sheet) (w : ℕ) → a.operator ≡ equals w → Uses (every_column sheet) sheet (a ∷ others) → Uses (every_column sheet) sheet (on a.variable (equals w) ∷ others)
  uses_apart sheet w o u = ((u.0.0, (there_other sheet w o u, tt)), u.1)

  pub apart_yes : (r : Bool) (w : ℕ) → a.operator ≡ equals w → r ≡ true → Tells top (on a.variable (equals w) ∷ others) (λ sheet. Differs sheet others a.variable w) r → Covered top others a false
  apart_yes r w o e h sheet g u = answer_no (way_apart sheet others a w o ((h sheet g (uses_apart sheet w o u)).yes e))

  -- none is
  pub plain_no : (r q : Bool) → Plain a.operator → r ≡ false → Live top (others ++ (on a.variable is_null ∷ [])) r → q ≡ false → Live top (others ++ (turned a ∷ [])) q → Covered top others a true
  plain_no r q p e h f k sheet g u =
      answer_yes (covers_plain sheet others a p ((h sheet g (uses_null sheet a.variable u.0.0 u)).no e) ((k sheet g (uses_turned sheet u)).no f))

  pub null_no : (r : Bool) → a.operator ≡ is_null → r ≡ false → Live top (others ++ (turned a ∷ [])) r → Covered top others a true
  null_no r o e h sheet g u = answer_yes (covers_null sheet others a o ((h sheet g (uses_turned sheet u)).no e))

  pub equals_no : (r q d : Bool) (w : ℕ) → a.operator ≡ equals w → r ≡ false → Live top (others ++ (on a.variable is_null ∷ [])) r → q ≡ false → Live top (others ++ (on w is_null ∷ [])) q →
      d ≡ false → Tells top (on a.variable (equals w) ∷ others) (λ sheet. Differs sheet others a.variable w) d → Covered top others a true
  equals_no r q d w o e h f k z l sheet g u =
      answer_yes
      (covers_equals sheet others a w o ((h sheet g (uses_null sheet a.variable u.0.0 u)).no e) ((k sheet g (uses_null sheet w (there_other sheet w o u) u)).no f)
      ((l sheet g (uses_apart sheet w o u)).no z))

-- the returns of `implies`: n, k, t are the atoms that the code made

module _ (top : List ℕ) (others : m.Clause) (a : Atom) where
  pub as_turned : (t : Atom) (r : Bool) → atom_of t ≡ turned (atom_of a) → Live top (others ++ (atom_of t ∷ [])) r → Live top (others ++ (turned (atom_of a) ∷ [])) r
  as_turned t r q h = subst (λ (x : m.Atom). Live top (others ++ (x ∷ [])) r) q h

  pub as_null : (n : Atom) (v : ℕ) (r : Bool) → atom_of n ≡ on v is_null → Live top (others ++ (atom_of n ∷ [])) r → Live top (others ++ (on v is_null ∷ [])) r
  as_null n v r q h = subst (λ (x : m.Atom). Live top (others ++ (x ∷ [])) r) q h

  pub own : (atom_of a).variable ≡ a.variable
  unfolding atom_of
  own = refl

  pub implies_turned_yes : (t : Atom) (r : Bool) → atom_of t ≡ turned (atom_of a) → Live top (others ++ (atom_of t ∷ [])) r → r ≡ true → Covered top others (atom_of a) false
  implies_turned_yes t r q h e = turned_yes top others (atom_of a) r e (as_turned t r q h)

  pub implies_null : (t : Atom) (r : Bool) → atom_of t ≡ turned (atom_of a) → Live top (others ++ (atom_of t ∷ [])) r → a.operator ≡ 7 → Covered top others (atom_of a) (not r)
  implies_null t true q h o = implies_turned_yes t true q h refl
  implies_null t false q h o = null_no top others (atom_of a) false (null_there a o) refl (as_turned t false q h)

  pub is_not : (a.operator ≡ 7 → ⊥) → (atom_of a).operator ≡ is_null → ⊥
  is_not o = go (eqb a.operator 0) refl
    where
      go : (b : Bool) → eqb a.operator 0 ≡ b → (atom_of a).operator ≡ is_null → ⊥
      go true q e = equals_not_null a.other (sym (equals_there a (eqb-true a.operator 0 q)) ∙ e)
      go false q e = not_null (atom_of a).operator (plain_there a (eqb-false a.operator 0 q) o) e

  pub implies_null_yes : (n : Atom) (r : Bool) → atom_of n ≡ on a.variable is_null → Live top (others ++ (atom_of n ∷ [])) r → r ≡ true → (a.operator ≡ 7 → ⊥) → Covered top others (atom_of a) false
  unfolding own atom_of
  implies_null_yes n r q h e o = null_yes top others (atom_of a) r (is_not o) e (as_null n a.variable r q h)

  pub implies_other_yes : (n : Atom) (r : Bool) → atom_of n ≡ on a.other is_null → Live top (others ++ (atom_of n ∷ [])) r → r ≡ true → a.operator ≡ 0 → Covered top others (atom_of a) false
  implies_other_yes n r q h e o = other_yes top others (atom_of a) r a.other (equals_there a o) e (as_null n a.other r q h)

  pub implies_apart_yes : (r : Bool) → Tells top (on a.variable (equals a.other) ∷ others) (λ sheet. Differs sheet others a.variable a.other) r → r ≡ true → a.operator ≡ 0 → Covered top others (atom_of a) false
  unfolding atom_of
  implies_apart_yes r h e o = apart_yes top others (atom_of a) r a.other (equals_there a o) e h

  pub implies_plain : (n t : Atom) (r q : Bool) → atom_of n ≡ on a.variable is_null → Live top (others ++ (atom_of n ∷ [])) r → r ≡ false → atom_of t ≡ turned (atom_of a) → Live top (others ++ (atom_of t ∷ [])) q →
      (a.operator ≡ 0 → ⊥) → (a.operator ≡ 7 → ⊥) → Covered top others (atom_of a) (not q)
  unfolding atom_of
  implies_plain n t r true en hn e et ht z s = implies_turned_yes t true et ht refl
  implies_plain n t r false en hn e et ht z s = plain_no top others (atom_of a) r false (plain_there a z s) e (as_null n a.variable r en hn) refl (as_turned t false et ht)

  pub implies_equals : (n k : Atom) (r q d : Bool) → atom_of n ≡ on a.variable is_null → Live top (others ++ (atom_of n ∷ [])) r → r ≡ false → atom_of k ≡ on a.other is_null → Live top (others ++ (atom_of k ∷ [])) q → q ≡ false →
      Tells top (on a.variable (equals a.other) ∷ others) (λ sheet. Differs sheet others a.variable a.other) d → a.operator ≡ 0 → Covered top others (atom_of a) (not d)
  unfolding atom_of
  implies_equals n k r q true en hn e ek hk f h o = implies_apart_yes true h refl o
  implies_equals n k r q false en hn e ek hk f h o =
      equals_no top others (atom_of a) r q false a.other (equals_there a o) e (as_null n a.variable r en hn) f (as_null k a.other q ek hk) refl h
