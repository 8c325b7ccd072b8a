-- The branches of a table and command, from what each of the 16 policies' places has: its role, its clause count, its clauses.
use Rattle.std.specs.Prelude.{ℕ, zero, suc, ◌+◌, ◌*◌, ◌<◌, ◌≤◌, min, ◌≡◌, cond, List, [], ◌∷◌, ◌++◌, length, get_or, eqb, Option, MatchOption}
use Rattle.meaning.specs.Atoms.{Clause}
use Rattle.meaning.specs.Sheets as m
use Rattle.meaning.specs.Sheets.{Sheet, policy_at, applies, joined, choices}
use Rattle.branches.specs.declared.Branch.{Branch}
use Rattle.branches.specs.declared.Digits.{Digits}
use Rattle.branches.specs.declared.Permitted.{Permitted}

-- what f gives for each number below n, one after another
abbrev pub up_to : {A : Type 0} → (ℕ → List A) → ℕ → List A
up_to f zero = []
up_to f (suc n) = up_to f n ++ f n

-- the role of a policy: 0 not counted, 1 permissive, 2 restrictive
unfoldable pub role_of : Sheet → ℕ → ℕ → m.Policy → ℕ
role_of sheet t command p = cond (applies sheet t command p) (cond p.restrictive 2 1) 0

-- the clauses that a policy brings as a permissive one, and the list of clauses that it brings as a restrictive one
abbrev pub permits : ℕ → List Clause → List Clause
permits role cs = cond (eqb role 1) cs []

abbrev pub restricts : ℕ → List Clause → List (List Clause)
restricts role cs = cond (eqb role 2) (cs ∷ []) []

-- "A branch is one clause of the permissive policies with one clause of each restrictive one."
module _ (roles : List ℕ) (clauses : ℕ → List Clause) where
  abbrev pub permitted : ℕ → List Clause
  permitted p = permits (get_or roles p 0) (clauses p)

  abbrev pub restricting : ℕ → List (List Clause)
  restricting p = restricts (get_or roles p 0) (clauses p)

  unfoldable pub branches_of : List Clause
  branches_of = joined (up_to permitted 16) (choices (up_to restricting 16))

-- "N is the sum of the permissive policies' clause counts times the product of the restrictive ones' counts (a product of none is 1)."
abbrev pub term : ℕ → ℕ → ℕ
term role count = cond (eqb role 1) (min count 8) 0

abbrev pub factor : ℕ → ℕ → ℕ
factor role count = cond (eqb role 2) (min count 8) 1

module _ (roles counts : List ℕ) where
  abbrev pub sum_to : ℕ → ℕ
  sum_to zero = 0
  sum_to (suc p) = sum_to p + term (get_or roles p 0) (get_or counts p 0)

  abbrev pub product_to : ℕ → ℕ
  product_to zero = 1
  product_to (suc p) = product_to p * factor (get_or roles p 0) (get_or counts p 0)

-- each policy has as many clauses as its count says, at most 8
abbrev pub Sized : List ℕ → (ℕ → List Clause) → Type 0
Sized counts clauses = (p : ℕ) → p < 16 → (length (clauses p) ≡ get_or counts p 0) × (length (clauses p) ≤ 8)

-- the clause that the slots pick of policy p; a slot of 8 picks none, for no clause has that number
abbrev pub picked : (ℕ → List Clause) → List ℕ → ℕ → Clause
picked clauses slots p = get_or (clauses p) (get_or slots p 0) []

-- the conjunction of a branch: its permissive clause, and then its restrictive ones in sheet order
abbrev pub besides : (ℕ → List Clause) → Branch → ℕ → Clause
besides clauses b p = cond (eqb p b.policy) [] (picked clauses b.slots p)

abbrev pub conjunction : (ℕ → List Clause) → Branch → Clause
conjunction clauses b = picked clauses b.slots b.policy ++ up_to (besides clauses b) 16

-- r has the restrictive clauses of branch k, and is the number of its permissive clause
pub record Splits (roles counts : List ℕ) (k : ℕ) (r : Digits) : Type 0 where
  pub none : (p : ℕ) → p < 16 → (get_or roles p 0 ≡ 2 → ⊥) → get_or r.slots p 0 ≡ 8
  pub picks : (clauses : ℕ → List Clause) → Sized counts clauses → (front : List Clause) →
      k < length (joined front (choices (up_to (restricting roles clauses) 16))) →
      (r.rest < length front) × (get_or front r.rest [] ++ up_to (picked clauses r.slots) 16 ≡ get_or (joined front (choices (up_to (restricting roles clauses) 16))) k [])

-- r is where permissive clause k stands
pub record Finds (roles counts : List ℕ) (k : ℕ) (r : Permitted) : Type 0 where
  pub there : r.policy < 16
  pub finds : (clauses : ℕ → List Clause) → Sized counts clauses → k < length (up_to (permitted roles clauses) 16) →
      (get_or roles r.policy 0 ≡ 1) × (get_or (clauses r.policy) r.clause [] ≡ get_or (up_to (permitted roles clauses) 16) k [])

-- the same, where there is such a clause
abbrev pub FindsIfThere : List ℕ → List ℕ → ℕ → Option Permitted → Type 0
FindsIfThere roles counts k r = MatchOption r ((clauses : ℕ → List Clause) → Sized counts clauses → k < length (up_to (permitted roles clauses) 16) → ⊥) (Finds roles counts k)

-- r is branch k
pub record Picks (roles counts : List ℕ) (k : ℕ) (r : Branch) : Type 0 where
  pub there : r.policy < 16
  pub picks : (clauses : ℕ → List Clause) → Sized counts clauses → k < length (branches_of roles clauses) → conjunction clauses r ≡ get_or (branches_of roles clauses) k []

-- the roles and counts of a sheet's policies for a table and command; past the last policy there is none
pub record RolesAre (sheet : Sheet) (t command : ℕ) (roles : List ℕ) : Type 0 where
  pub counted : (p : ℕ) → p < length sheet.policies → get_or roles p 0 ≡ role_of sheet t command (policy_at sheet p)
  pub past : (p : ℕ) → length sheet.policies ≤ p → get_or roles p 0 ≡ 0

pub record CountsAre (sheet : Sheet) (counts : List ℕ) : Type 0 where
  pub counted : (p : ℕ) → p < length sheet.policies → get_or counts p 0 ≡ length (policy_at sheet p).clauses
  pub past : (p : ℕ) → length sheet.policies ≤ p → get_or counts p 0 ≡ 0

abbrev pub clauses_of : Sheet → ℕ → List Clause
clauses_of sheet p = (policy_at sheet p).clauses
