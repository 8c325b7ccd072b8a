-- The definitions of admission mean what the document says of their edges; tightening a sheet never admits more.
use Prim.Native.Nat.{ℕ}
use mathlib.Core.Path.{◌≡◌, refl, sym, ap, ◌∙◌}
use mathlib.Core.Bool.{Bool, true, false, cond, ◌&&◌, ◌||◌, or-true}
use mathlib.Core.List.{List, [], ◌∷◌, map}
use lib.ListN.{get_or}
use Rattle.lists.specs.Lists.{every, any, keep}
use Rattle.lists.proofs.BoolLaws.{both, join}
use Rattle.meaning.specs.Values.{Contents}
use Rattle.meaning.specs.Atoms.{clause_met, policy_met}
use Rattle.meaning.specs.Sheets.{Table, Policy, Sheet, matches, member, permissive, restrictive, admits}
use Rattle.meaning.specs.Tightening.{Tightens, Tighter}

-- "one without atoms is always met"
pub empty_clause_met : (e : Contents) → clause_met e [] ≡ true
empty_clause_met e = refl

-- "one without clauses never is"
pub empty_policy_unmet : (e : Contents) → policy_met e [] ≡ false
empty_policy_unmet e = refl

-- "With no permissive policy nothing is admitted."
pub none_permissive : (sheet : Sheet) (t command : ℕ) (e : Contents) → permissive sheet t command ≡ [] → admits sheet t command e ≡ false
none_permissive sheet t command e h = ap (λ ps. any (policy_met e) ps && every (policy_met e) (restrictive sheet t command)) h

-- "every restrictive one is met": one that is not met admits nothing
pub restrictive_unmet : (sheet : Sheet) (t command : ℕ) (e : Contents) → every (policy_met e) (restrictive sheet t command) ≡ false → admits sheet t command e ≡ false
restrictive_unmet sheet t command e h = ap (λ b. any (policy_met e) (permissive sheet t command) && b) h ∙ shut (any (policy_met e) (permissive sheet t command))
  where
    shut : (b : Bool) → (b && false) ≡ false
    shut true = refl
    shut false = refl

-- of policies that count by a test, those that are met
module _ (e : Contents) (counts : Policy → Bool) where
  abbrev opened : List Policy → Bool
  opened ps = any (policy_met e) (map (λ p. p.clauses) (keep (λ p. cond p.restrictive false (counts p)) ps))

  abbrev barred : List Policy → Bool
  barred ps = every (policy_met e) (map (λ p. p.clauses) (keep (λ p. p.restrictive && counts p) ps))

  -- a permissive policy that is left is one that was there
  opened_before : {ps qs : List Policy} → Tightens ps qs → opened qs ≡ true → opened ps ≡ true
  opened_before Tightens.done h = h
  opened_before (Tightens.same {p} {ps} {qs} t) h = go (cond p.restrictive false (counts p)) (opened_before t) h
    where
      first : (b : Bool) → (opened qs ≡ true → opened ps ≡ true) → (b || opened qs) ≡ true → (b || opened ps) ≡ true
      first true ih h = refl
      first false ih h = ih h

      go : (b : Bool) → (opened qs ≡ true → opened ps ≡ true)
          → any (policy_met e) (map (λ x. x.clauses) (cond b (p ∷ keep (λ x. cond x.restrictive false (counts x)) qs) (keep (λ x. cond x.restrictive false (counts x)) qs))) ≡ true
          → any (policy_met e) (map (λ x. x.clauses) (cond b (p ∷ keep (λ x. cond x.restrictive false (counts x)) ps) (keep (λ x. cond x.restrictive false (counts x)) ps))) ≡ true
      go true ih h = first (policy_met e p.clauses) ih h
      go false ih h = ih h
  opened_before (Tightens.taken_out {p} {ps} {qs} r t) h = go (cond p.restrictive false (counts p)) (opened_before t h)
    where
      go : (b : Bool) → opened ps ≡ true → any (policy_met e) (map (λ x. x.clauses) (cond b (p ∷ keep (λ x. cond x.restrictive false (counts x)) ps) (keep (λ x. cond x.restrictive false (counts x)) ps))) ≡ true
      go true k = ap (λ b. policy_met e p.clauses || b) k ∙ or-true (policy_met e p.clauses)
      go false k = k
  opened_before (Tightens.added {q} {ps} {qs} r t) h = opened_before t (rw r at h)

  -- a restrictive policy that was there is there still
  barred_before : {ps qs : List Policy} → Tightens ps qs → barred qs ≡ true → barred ps ≡ true
  barred_before Tightens.done h = h
  barred_before (Tightens.same {p} {ps} {qs} t) h = go (p.restrictive && counts p) (barred_before t) h
    where
      go : (b : Bool) → (barred qs ≡ true → barred ps ≡ true)
          → every (policy_met e) (map (λ x. x.clauses) (cond b (p ∷ keep (λ x. x.restrictive && counts x) qs) (keep (λ x. x.restrictive && counts x) qs))) ≡ true
          → every (policy_met e) (map (λ x. x.clauses) (cond b (p ∷ keep (λ x. x.restrictive && counts x) ps) (keep (λ x. x.restrictive && counts x) ps))) ≡ true
      go true ih h = let r = both (policy_met e p.clauses) (barred qs) h in join (policy_met e p.clauses) (barred ps) r.0 (ih r.1)
      go false ih h = ih h
  barred_before (Tightens.taken_out {p} {ps} {qs} r t) h = rw r (barred_before t h)
  barred_before (Tightens.added {q} {ps} {qs} r t) h = barred_before t (rest (q.restrictive && counts q) h)
    where
      rest : (b : Bool) → every (policy_met e) (map (λ x. x.clauses) (cond b (q ∷ keep (λ x. x.restrictive && counts x) qs) (keep (λ x. x.restrictive && counts x) qs))) ≡ true → barred qs ≡ true
      rest true h = (both (policy_met e q.clauses) (barred qs) h).1
      rest false h = h

-- adding a restrictive policy or taking out a permissive one never admits more
pub tighter_admits : (sheet other : Sheet) → Tighter sheet other → (t command : ℕ) (e : Contents) → admits other t command e ≡ true → admits sheet t command e ≡ true
tighter_admits sheet other h t command e k =
    let counts : Policy → Bool = λ p. matches t (get_or sheet.tables t (record { schema = 0; tags = 0; columns = 0 })) p.selector && member 4 p.commands command in
    let l : (opened e counts other.policies && barred e counts other.policies) ≡ true =
    ap
    (λ (ts : List Table).
    opened e (λ p. matches t (get_or ts t (record { schema = 0; tags = 0; columns = 0 })) p.selector && member 4 p.commands command) other.policies
    && barred e (λ p. matches t (get_or ts t (record { schema = 0; tags = 0; columns = 0 })) p.selector && member 4 p.commands command) other.policies)
    (sym h.tables) ∙ k in
    let r = both (opened e counts other.policies) (barred e counts other.policies) l in
    join (opened e counts sheet.policies) (barred e counts sheet.policies) (opened_before e counts h.policies r.0) (barred_before e counts h.policies r.1)
