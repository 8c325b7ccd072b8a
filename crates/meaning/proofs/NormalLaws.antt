-- The six steps keep what a policy means, and so what a sheet admits.
use Prim.Native.Nat.{ℕ, ◌-◌, ◌^◌, ◌≤◌}
use mathlib.Core.Path.{◌≡◌, refl, ap, subst, ◌∙◌}
use mathlib.Core.Bool.{Bool, true, false, cond, ◌&&◌, ◌||◌, or-true}
use mathlib.Core.List.{List, [], ◌∷◌, map}
use lib.ListN.{get_or}
use lib.Dec.{ltb, lit≤}
use native.Mathlib.Nat.{le_trans}
use Rattle.meaning.specs.declared.Content.{Content}
use Rattle.meaning.specs.declared.Content.TheVariants.{Value}
use Rattle.lists.specs.Lists.{every, any, keep, All, One, Keeps, Each}
use Rattle.meaning.specs.Values.{Kind, integer, token, boolean, last, Fits, Contents, with}
use Rattle.meaning.specs.Atoms.{Clause, met, clause_met, policy_met}
use Rattle.meaning.specs.Sheets.{Policy, Sheet, kind_of, matches, member, applies, permissive, restrictive, admits}
use Rattle.meaning.specs.Questions.{IsAnyRow, IsSession, LiveClause, ClauseCovers}
use Rattle.meaning.specs.Steps.{NormalClause, clause_before, NormalClauses, NormalPolicy, NormalSheet}
use Rattle.lists.proofs.PruneLaws.{prunes_every, prunes_any, sort_any, keeps_any}
use Rattle.lists.proofs.BoolLaws.{both}
use Rattle.meaning.proofs.TidyLaws.{tidied_met}

last_top : (k : Kind) → last k ≤ 2 ^ 64 - 1
last_top integer = lit≤ tt
last_top token = lit≤ tt
last_top boolean = lit≤ tt

fits_top : (k : Kind) (c : Content) (n : ℕ) → Fits k c → c ≡ Value n → n ≤ 2 ^ 64 - 1
fits_top k c n f e = let h : Fits k (Value n) = subst (Fits k) e f in let t = last_top k in le_trans h t

module _ (sheet : Sheet) where
  small : (row session : Contents) → IsAnyRow sheet row → IsSession sheet session → (v n : ℕ) → with row session v ≡ Value n → n ≤ 2 ^ 64 - 1
  small row session r s v n e = go (ltb v 16) e
    where
      go : (b : Bool) → cond b (row v) (session (v - 16)) ≡ Value n → n ≤ 2 ^ 64 - 1
      go true h = fits_top (get_or sheet.columns v integer) (row v) n (r.fits v) h
      go false h = fits_top (get_or sheet.keys (v - 16) integer) (session (v - 16)) n (s.fits (v - 16)) h

  module _ (row session : Contents) (r : IsAnyRow sheet row) (s : IsSession sheet session) where
    abbrev e : Contents
    e = with row session

    pub clause_met_lem : (c d : Clause) → LiveClause sheet c → NormalClause sheet c d → clause_met e d ≡ clause_met e c
    clause_met_lem c d l n =
        prunes_every (met e) (λ a others. ClauseCovers sheet (a ∷ []) others) (λ a others h m. (both (met e a) true (h row session r s m)).0) n
        ∙ tidied_met e (kind_of sheet) (with l.row l.session) (small l.row l.session l.is_row l.is_session) c l.meets

    each_met : {cs ds : List Clause} → All (LiveClause sheet) cs → Each (NormalClause sheet) cs ds → any (clause_met e) ds ≡ any (clause_met e) cs
    each_met l Each.none = refl
    each_met l (Each.one {a = c} {b = d} {xs = cs} {bs = ds} n more) = ap (λ z. z || any (clause_met e) ds) (clause_met_lem c d l.0 n) ∙ ap (λ z. clause_met e c || z) (each_met l.1 more)

    keeps_all : {cs ds : List Clause} → Keeps (LiveClause sheet) cs ds → All (LiveClause sheet) ds
    keeps_all Keeps.done = tt
    keeps_all (Keeps.kept p k) = (p, keeps_all k)
    keeps_all (Keeps.dropped p k) = keeps_all k

    one_any : (c : Clause) (others : List Clause) → One (λ d. ClauseCovers sheet d c) others → clause_met e c ≡ true → any (clause_met e) others ≡ true
    one_any c [] o m = elim o [ ]
    one_any c (d ∷ others) (One.here h) m = ap (λ z. z || any (clause_met e) others) (h row session r s m)
    one_any c (d ∷ others) (One.later o) m = ap (λ z. clause_met e d || z) (one_any c others o m) ∙ or-true (clause_met e d)

    clauses_met : {cs ds : List Clause} → NormalClauses sheet cs ds → policy_met e ds ≡ policy_met e cs
    clauses_met {cs} {ds} n =
        prunes_any (clause_met e) (λ c others. One (λ d. ClauseCovers sheet d c) others) one_any n.step_6
        ∙ sort_any (clause_met e) (clause_before (kind_of sheet)) n.tidy
        ∙ each_met (keeps_all n.step_1) n.steps_2_5
        ∙ keeps_any (clause_met e) (LiveClause sheet) (λ c m. record { row = row; session = session; is_row = r; is_session = s; meets = m }) n.step_1

    -- the policies of the normal sheet that a test chooses, against those of the sheet
    module _ (f g : Policy → Bool) (same : (p q : Policy) → NormalPolicy sheet p q → g q ≡ f p) where
      chosen_any : {ps qs : List Policy} → Each (NormalPolicy sheet) ps qs → any (policy_met e) (map (λ p. p.clauses) (keep g qs)) ≡ any (policy_met e) (map (λ p. p.clauses) (keep f ps))
      chosen_any Each.none = refl
      chosen_any (Each.one {a = p} {b = q} {xs = ps} {bs = qs} n more) = ap (λ b. any (policy_met e) (map (λ x. x.clauses) (cond b (q ∷ keep g qs) (keep g qs)))) (same p q n) ∙ go (f p) (chosen_any more)
        where
          go : (b : Bool) → any (policy_met e) (map (λ x. x.clauses) (keep g qs)) ≡ any (policy_met e) (map (λ x. x.clauses) (keep f ps)) →
              any (policy_met e) (map (λ x. x.clauses) (cond b (q ∷ keep g qs) (keep g qs))) ≡ any (policy_met e) (map (λ x. x.clauses) (cond b (p ∷ keep f ps) (keep f ps)))
          go true ih = ap (λ z. z || any (policy_met e) (map (λ x. x.clauses) (keep g qs))) (clauses_met n.clauses) ∙ ap (λ z. policy_met e p.clauses || z) ih
          go false ih = ih

      chosen_every : {ps qs : List Policy} → Each (NormalPolicy sheet) ps qs → every (policy_met e) (map (λ p. p.clauses) (keep g qs)) ≡ every (policy_met e) (map (λ p. p.clauses) (keep f ps))
      chosen_every Each.none = refl
      chosen_every (Each.one {a = p} {b = q} {xs = ps} {bs = qs} n more) = ap (λ b. every (policy_met e) (map (λ x. x.clauses) (cond b (q ∷ keep g qs) (keep g qs)))) (same p q n) ∙ go (f p) (chosen_every more)
        where
          go : (b : Bool) → every (policy_met e) (map (λ x. x.clauses) (keep g qs)) ≡ every (policy_met e) (map (λ x. x.clauses) (keep f ps)) →
              every (policy_met e) (map (λ x. x.clauses) (cond b (q ∷ keep g qs) (keep g qs))) ≡ every (policy_met e) (map (λ x. x.clauses) (cond b (p ∷ keep f ps) (keep f ps)))
          go true ih = ap (λ z. z && every (policy_met e) (map (λ x. x.clauses) (keep g qs))) (clauses_met n.clauses) ∙ ap (λ z. policy_met e p.clauses && z) ih
          go false ih = ih

    -- The normal form admits what its sheet does.
    pub normal_admits_any : (normal : Sheet) → NormalSheet sheet normal → (t command : ℕ) → admits normal t command e ≡ admits sheet t command e
    normal_admits_any normal n t command =
        ap (λ z. z && every (policy_met e) (restrictive normal t command))
        (chosen_any (λ p. cond p.restrictive false (applies sheet t command p)) (λ p. cond p.restrictive false (applies normal t command p)) (λ p q m i. cond (m.restrictive i) false (applied p q m i)) n.policies)
        ∙ ap (λ z. any (policy_met e) (permissive sheet t command) && z)
        (chosen_every (λ p. p.restrictive && applies sheet t command p) (λ p. p.restrictive && applies normal t command p) (λ p q m i. m.restrictive i && applied p q m i) n.policies)
      where
        applied : (p q : Policy) → NormalPolicy sheet p q → applies normal t command q ≡ applies sheet t command p
        applied p q m = λ i. matches t (get_or (n.tables i) t (record { schema = 0; tags = 0; columns = 0 })) (m.selector i) && member 4 (m.commands i) command
