-- How far the searches over a policy's clauses have got, and what they may answer.
use Rattle.std.specs.Prelude.{ℕ, zero, suc, ◌+◌, ◌<◌, ◌≤◌, ◌≡◌, Bool, true, false, List, [], ◌∷◌, ◌++◌, length, get_or}
use Rattle.std.proofs.Common.{arith, sym, subst}
use native.Mathlib.Decide.{ℕ_discrete}
use mathlib.Core.Bool.{true≢false}
use Rattle.lists.specs.Lists.{All, One}
use Rattle.lists.specs.Decides.{Decides}
use Rattle.lists.proofs.ListLaws.{all_append, all_at}
use Rattle.meaning.specs.Atoms.{Clause}
use Rattle.meaning.specs.Sheets.{Sheet}
use Rattle.meaning.specs.Allowed.{SheetAllowed}
use Rattle.meaning.specs.Questions.{LiveClause, ClauseCovers, PolicyCovers}
use Rattle.sheet.proofs.AcceptedLaws.{policy_there}
use Rattle.asked.specs.Asked.{Ranges, Uses, every_column, Tells}
use Rattle.asked.proofs.UseLaws.{policy_used}
use Rattle.covering.specs.Covering.{clauses_at, CoveredBy}

module _ {A : Type 0} (P : A → Type 0) (d : A) where
  one_at : (xs : List A) (i : ℕ) → i < length xs → P (get_or xs i d) → One P xs
  one_at [] i l p = absurd (omega arith)
  one_at (x ∷ xs) zero l p = One.here p
  one_at (x ∷ xs) (suc i) l p = One.later (one_at xs i (omega arith) p)

  one_where : {xs : List A} → One P xs → (i : ℕ) × (i < length xs) × P (get_or xs i d)
  one_where (One.here p) = (zero, omega arith, p)
  one_where (One.later o) = let r = one_where o in (suc r.0, omega (arith, r.1), r.2)

  all_from : (xs : List A) → ((i : ℕ) → i < length xs → P (get_or xs i d)) → All P xs
  all_from [] h = tt
  all_from (x ∷ xs) h = (h zero (omega arith), all_from xs (λ i l. h (suc i) (omega arith)))

-- what holds of each number below i, and of i
pub below_more : (P : ℕ → Type 0) (i : ℕ) → ((j : ℕ) → j < i → P j) → P i → (j : ℕ) → j < i + 1 → P j
below_more P i h p j l = go (ℕ_discrete j i)
  where
    go : Dec (j ≡ i) → P j
    go (yes e) = subst P (sym e) p
    go (no e) = h j (omega arith)

-- what is told of a clause that stands in policy p, as clause i: it has the sheet's variables
module _ (sheet : Sheet) (allowed : SheetAllowed sheet) (p i : ℕ) (l : i < length (clauses_at sheet p)) where
  pub clause_uses : Uses (every_column sheet) sheet (get_or (clauses_at sheet p) i [])
  clause_uses = all_at (Uses (every_column sheet) sheet) [] (clauses_at sheet p) i l (policy_used sheet allowed p (policy_there sheet p l))

  pub told_of : {c : Clause} (P : Clause → Type 0) {r : Bool} → c ≡ get_or (clauses_at sheet p) i [] → (Uses (every_column sheet) sheet c → Decides (P c) r) → Decides (P (get_or (clauses_at sheet p) i [])) r
  told_of P {r} e told = subst (λ z. Decides (P z) r) e (told (subst (Uses (every_column sheet) sheet) (sym e) clause_uses))

  pub covers_told : (c : Clause) {q : Clause} {top : List ℕ} {r : Bool} → q ≡ get_or (clauses_at sheet p) i [] → Tells top (q ++ c) (λ s. ClauseCovers s q c) r → Ranges sheet top → Uses (every_column sheet) sheet c →
      Decides (ClauseCovers sheet (get_or (clauses_at sheet p) i []) c) r
  covers_told c {q} e told ranges uses = told_of (λ z. ClauseCovers sheet z c) e (λ u. told sheet ranges (all_append _ q c u uses))

module _ (sheet : Sheet) (a : ℕ) (c : Clause) where
  -- the first i clauses of policy a do not cover c
  abbrev pub Uncovered : ℕ → Type 0
  Uncovered i = (j : ℕ) → j < i → ClauseCovers sheet (get_or (clauses_at sheet a) j []) c → ⊥

  pub covered_by : (i : ℕ) → i < length (clauses_at sheet a) → ClauseCovers sheet (get_or (clauses_at sheet a) i []) c → Decides (CoveredBy sheet a c) true
  covered_by i l h = record { yes = λ e. one_at (λ x. ClauseCovers sheet x c) [] (clauses_at sheet a) i l h; no = λ e. absurd (true≢false e) }

  pub none_covers : (i : ℕ) → length (clauses_at sheet a) ≤ i → Uncovered i → Decides (CoveredBy sheet a c) false
  none_covers i l h =
      record { yes = λ e. absurd (true≢false (sym e)); no = λ e o. let w = one_where (λ x. ClauseCovers sheet x c) [] o in h w.0 (omega (arith, w.1)) w.2 }

module _ (sheet : Sheet) (a b : ℕ) where
  -- clause j of policy b is covered by a single clause of policy a, or nobody meets it
  abbrev pub Spared : ℕ → Type 0
  Spared j = LiveClause sheet (get_or (clauses_at sheet b) j []) → CoveredBy sheet a (get_or (clauses_at sheet b) j [])

  pub all_spared : (i : ℕ) → length (clauses_at sheet b) ≤ i → ((j : ℕ) → j < i → Spared j) → Decides (PolicyCovers sheet (clauses_at sheet a) (clauses_at sheet b)) true
  all_spared i l h =
      record { yes = λ e. all_from (λ c. LiveClause sheet c → CoveredBy sheet a c) [] (clauses_at sheet b) (λ j g. h j (omega arith)); no = λ e. absurd (true≢false e) }

  pub one_left : (i : ℕ) → i < length (clauses_at sheet b) → (Spared i → ⊥) → Decides (PolicyCovers sheet (clauses_at sheet a) (clauses_at sheet b)) false
  one_left i l h =
      record { yes = λ e. absurd (true≢false (sym e)); no = λ e w. h (all_at (λ x. LiveClause sheet x → CoveredBy sheet a x) [] (clauses_at sheet b) i l w) }
