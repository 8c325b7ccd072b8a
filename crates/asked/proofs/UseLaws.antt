-- An accepted sheet's clauses have only variables that are there: those of the sheet, and, where a policy applies to a table, those that the
-- table's rows and the sessions have. Free of code; assumes nothing.
use Prim.Native.Nat.{ℕ, ◌<◌}
use native.Mathlib.Omega.{arith}
use mathlib.Core.Path.{◌≡◌, refl, sym, ◌∙◌, ap}
use mathlib.Core.Bool.{Bool, true, false, cond, ◌&&◌}
use mathlib.Core.List.{List, [], ◌∷◌, ◌++◌, map}
use lib.ListN.{length}
use lib.Dec.{ltb}
use borrow.Author.Tests.{lt-ltb}
use Rattle.lists.specs.Lists.{every, keep, each, All}
use Rattle.lists.proofs.BoolLaws.{both}
use Rattle.lists.proofs.NumberLaws.{every_at}
use Rattle.lists.proofs.OrderLaws.{all_map}
use Rattle.meaning.specs.Atoms.{Operator, equals, in_list, not_in_list, order, is_null, is_not_null, Clause}
use Rattle.meaning.specs.Sheets.{Table, Policy, Sheet, table_at, policy_at, holds, matches, applies, permissive, restrictive, joined, choices, branches, second, columns_held, tables_serve}
use Rattle.meaning.specs.Allowed.{IsVariable, OperatorAllowed, ClauseAllowed, facts_of, SheetAllowed}
use Rattle.lists.proofs.ListLaws.{all_append, all_at}
use Rattle.asked.specs.Asked.{There, Uses, every_column}

module _ {A : Type 0} where
  all_both : (P Q R : A → Type 0) → ((x : A) → P x → Q x → R x) → (xs : List A) → All P xs → All Q xs → All R xs
  all_both P Q R f [] h g = tt
  all_both P Q R f (x ∷ xs) h g = (f x h.0 g.0, all_both P Q R f xs h.1 g.1)

  every_all : (f : A → Bool) (xs : List A) → every f xs ≡ true → All (λ x. f x ≡ true) xs
  every_all f [] h = tt
  every_all f (x ∷ xs) h = let g = both (f x) (every f xs) h in (g.0, every_all f xs g.1)

-- an atom's variables are the sheet's
variables : (facts : Sheet) (v : ℕ) (o : Operator) → IsVariable facts v → OperatorAllowed facts v o → All (IsVariable facts) (v ∷ second o)
variables facts v (equals u) h g = (h, (g.0, tt))
variables facts v (in_list ns) h g = (h, tt)
variables facts v (not_in_list ns) h g = (h, tt)
variables facts v (order o n) h g = (h, tt)
variables facts v is_null h g = (h, tt)
variables facts v is_not_null h g = (h, tt)

any_there : (sheet : Sheet) (v : ℕ) → IsVariable (facts_of sheet) v → There (every_column sheet) sheet v
any_there sheet v h = record { number = h.0; has = h.1 }

held_there : (sheet : Sheet) (table : Table) (v : ℕ) → IsVariable (facts_of sheet) v → cond (ltb v 16) (holds table v) true ≡ true → There (holds table) sheet v
held_there sheet table v h g = record { number = h.0; has = go (ltb v 16) _ _ _ h.1 g }
  where
    go : (b x y z : Bool) → cond b x z ≡ true → cond b y true ≡ true → cond b y z ≡ true
    go true x y z p q = q
    go false x y z p q = p

clause_used : (sheet : Sheet) (c : Clause) → ClauseAllowed (facts_of sheet) c → Uses (every_column sheet) sheet c
clause_used sheet c h =
    all_map _ _ c (λ a g. all_map _ _ (a.variable ∷ second a.operator) (any_there sheet) (variables (facts_of sheet) a.variable a.operator g.0 g.1)) h.1

clause_held : (sheet : Sheet) (table : Table) (c : Clause) → ClauseAllowed (facts_of sheet) c → every (λ a. every (λ v. cond (ltb v 16) (holds table v) true) (a.variable ∷ second a.operator)) c ≡ true → Uses (holds table) sheet c
clause_held sheet table c h e =
    all_both _ _ _
    (λ a g k.
    all_both _ _ _ (held_there sheet table) (a.variable ∷ second a.operator) (variables (facts_of sheet) a.variable a.operator g.0 g.1)
    (every_all (λ v. cond (ltb v 16) (holds table v) true) (a.variable ∷ second a.operator) k))
    c h.1 (every_all (λ a. every (λ v. cond (ltb v 16) (holds table v) true) (a.variable ∷ second a.operator)) c e)

-- "Covers and normal form know no table": every clause of every policy has only variables of the sheet
pub policies_used : (sheet : Sheet) → SheetAllowed sheet → All (λ p. All (Uses (every_column sheet) sheet) p.clauses) sheet.policies
policies_used sheet h = all_map _ _ sheet.policies (λ p g. all_map _ _ p.clauses (clause_used sheet) g.4) h.each_policy

pub policy_used : (sheet : Sheet) → SheetAllowed sheet → (p : ℕ) → p < length sheet.policies → All (Uses (every_column sheet) sheet) (policy_at sheet p).clauses
policy_used sheet h p l = all_at (λ x. All (Uses (every_column sheet) sheet) x.clauses) _ sheet.policies p l (policies_used sheet h)

-- "a selector matches a table without a column that the policy's atoms use" is refused: where a selector matches, the table has the columns
pub table_used : (sheet : Sheet) → SheetAllowed sheet → (t : ℕ) → t < length sheet.tables →
    All (λ p. matches t (table_at sheet t) p.selector ≡ true → All (Uses (holds (table_at sheet t)) sheet) p.clauses) sheet.policies
unfolding tables_serve
table_used sheet h t l =
    all_both _ _ _
    (λ p g s m.
    all_both _ _ _ (clause_held sheet (table_at sheet t)) p.clauses g.4
    (every_all (every λ a. every (λ v. cond (ltb v 16) (holds (table_at sheet t) v) true) (a.variable ∷ second a.operator)) p.clauses
    (served p m (every_at (λ u. cond (matches u (table_at sheet u) p.selector) (columns_held (table_at sheet u) p) true) 0 (length sheet.tables) t s (omega arith) (omega arith)))))
    sheet.policies h.each_policy (every_all _ sheet.policies h.serves)
  where
    served : (p : Policy) → matches t (table_at sheet t) p.selector ≡ true → cond (matches t (table_at sheet t) p.selector) (columns_held (table_at sheet t) p) true ≡ true → columns_held (table_at sheet t) p ≡ true
    served p m e = sym (ap (λ (b : Bool). cond b (columns_held (table_at sheet t) p) true) m) ∙ e

pub applied_used : (sheet : Sheet) → SheetAllowed sheet → (t command p : ℕ) → t < length sheet.tables → p < length sheet.policies → applies sheet t command (policy_at sheet p) ≡ true →
    All (Uses (holds (table_at sheet t)) sheet) (policy_at sheet p).clauses
applied_used sheet h t command p lt lp a =
    all_at (λ x. matches t (table_at sheet t) x.selector ≡ true → All (Uses (holds (table_at sheet t)) sheet) x.clauses) _ sheet.policies p lp (table_used sheet h t lt)
    (both (matches t (table_at sheet t) (policy_at sheet p).selector) _ a).0

-- every branch of a table that is there has only the table's variables

module _ (U : Clause → Type 0) (join : (c d : Clause) → U c → U d → U (c ++ d)) where
  beside : (c : Clause) (ds : List Clause) → U c → All U ds → All U (map (λ d. c ++ d) ds)
  beside c [] h g = tt
  beside c (d ∷ ds) h g = (join c d h g.0, beside c ds h g.1)

  joined_all : (cs ds : List Clause) → All U cs → All U ds → All U (joined cs ds)
  joined_all [] ds h g = tt
  joined_all (c ∷ cs) ds h g = all_append U (map (λ d. c ++ d) ds) (joined cs ds) (beside c ds h.0 g) (joined_all cs ds h.1 g)

  choices_all : (css : List (List Clause)) → U [] → All (All U) css → All U (choices css)
  choices_all [] n h = (n, tt)
  choices_all (cs ∷ css) n h = joined_all cs (choices css) h.0 (choices_all css n h.1)

  flat_all : (css : List (List Clause)) → All (All U) css → All U (each (λ cs. cs) css)
  flat_all [] h = tt
  flat_all (cs ∷ css) h = all_append U cs (each (λ ds. ds) css) h.0 (flat_all css h.1)

  kept_all : (f : Policy → Bool) (M : Policy → Type 0) → ((p : Policy) → f p ≡ true → M p) → (ps : List Policy) → All (λ p. M p → All U p.clauses) ps → All (All U) (map (λ p. p.clauses) (keep f ps))
  kept_all f M m [] h = tt
  kept_all f M m (p ∷ ps) h = go (f p) refl (kept_all f M m ps h.1)
    where
      go : (b : Bool) → f p ≡ b → All (All U) (map (λ p. p.clauses) (keep f ps)) → All (All U) (map (λ p. p.clauses) (cond b (p ∷ keep f ps) (keep f ps)))
      go true e ih = (h.0 (m p e), ih)
      go false e ih = ih

pub branches_used : (sheet : Sheet) → SheetAllowed sheet → (t command : ℕ) → t < length sheet.tables → All (Uses (holds (table_at sheet t)) sheet) (branches sheet t command)
unfolding branches
branches_used sheet h t command l =
    joined_all U join (each (λ cs. cs) (permissive sheet t command)) (choices (restrictive sheet t command))
    (flat_all U join (permissive sheet t command) (kept_all U join (λ p. cond p.restrictive false (applies sheet t command p)) M (λ p e. matched p (allows p.restrictive _ e)) sheet.policies (table_used sheet h t l)))
    (choices_all U join (restrictive sheet t command) tt
    (kept_all U join (λ p. p.restrictive && applies sheet t command p) M (λ p e. matched p (both p.restrictive _ e).1) sheet.policies (table_used sheet h t l)))
  where
    U : Clause → Type 0
    U = Uses (holds (table_at sheet t)) sheet

    M : Policy → Type 0
    M p = matches t (table_at sheet t) p.selector ≡ true

    join : (c d : Clause) → Uses (holds (table_at sheet t)) sheet c → Uses (holds (table_at sheet t)) sheet d → Uses (holds (table_at sheet t)) sheet (c ++ d)
    join c d = all_append _ c d

    allows : (r a : Bool) → cond r false a ≡ true → a ≡ true
    allows true a e = absurd (let z : ◌≡◌ {A = ℕ} 0 1 = cc in omega arith)
    allows false a e = e

    matched : (p : Policy) → applies sheet t command p ≡ true → matches t (table_at sheet t) p.selector ≡ true
    matched p e = (both (matches t (table_at sheet t) p.selector) _ e).0

-- "keys K": "1..8", so that key 0 is there
pub key_there : (sheet : Sheet) → SheetAllowed sheet → (held : ℕ → Bool) → There held sheet 16
key_there sheet h held = record { number = omega arith; has = lt-ltb 0 (length sheet.keys) (let k = h.keys.0 in omega arith) }
