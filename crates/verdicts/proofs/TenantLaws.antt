-- Document 000's theorem 8.1 as a corollary, and what it does not see. (01, "Traps in the trade papers": "Its theorem 8.1 looks for the tenant
-- atom in every permissive clause. That is enough but not needed: a restrictive clause, or equality through a second column, isolates too.")
use Prim.Native.Nat.{ℕ, ◌-◌, ◌<◌}
use native.Mathlib.Omega.{arith}
use mathlib.Core.Path.{◌≡◌, refl, sym, ap, subst, ◌∙◌}
use mathlib.Core.Bool.{Bool, true, false, cond, ◌&&◌, ◌||◌, true≢false}
use mathlib.Core.List.{List, [], ◌∷◌}
use borrow.Author.Tests.{lt-ltb, eqb-true}
use Rattle.lists.specs.Lists.{every, any, All, One}
use Rattle.lists.proofs.BoolLaws.{both}
use Rattle.meaning.specs.declared.Content.{Content}
use Rattle.meaning.specs.declared.Content.TheVariants.{Null, Value}
use Rattle.meaning.specs.Values.{token, Contents, with}
use Rattle.meaning.specs.Atoms.{Operator, equals, in_list, Atom, Clause, is_value, passes, met, clause_met, policy_met}
use Rattle.meaning.specs.Sheets.{Sheet, permissive, admits}
use Rattle.meaning.specs.Questions.{IsIsolated}
use Rattle.meaning.specs.Steps.{on}
use Rattle.meaning.specs.Cases.{t, f, key_0, t_is_key_0, permits, restricts, sheet_of}

-- the clause has the tenant atom: column c = key 0
abbrev pub TenantAtom : ℕ → Clause → Type 0
TenantAtom c cl = One (λ a. a ≡ on c (equals 16)) cl

-- "every permissive clause for table T contains the atom col('tenant_id') = session('app.tenant_id')"
abbrev pub EachHasIt : Sheet → ℕ → ℕ → ℕ → Type 0
EachHasIt sheet table command c = All (All (TenantAtom c)) (permissive sheet table command)

either : (a b : Bool) (A : Type 0) → (a || b) ≡ true → (a ≡ true → A) → (b ≡ true → A) → A
either true b A e f g = f refl
either false b A e f g = g e

-- one that passes has what all have
any_has : {A : Type 0} (P : A → Type 0) (B : Type 0) (f : A → Bool) (xs : List A) → All P xs → any f xs ≡ true → ((x : A) → P x → f x ≡ true → B) → B
any_has P B f [] h e k = absurd (true≢false (sym e))
any_has P B f (x ∷ xs) h e k = either (f x) (any f xs) B e (k x h.0) (λ g. any_has P B f xs h.1 g k)

-- an equality that is met
pub equal_is : (e : Contents) (u : ℕ) (c : Content) → passes e (equals u) c ≡ true → c ≡ e u
equal_is e u Null h = absurd (true≢false (sym h))
equal_is e u (Value n) h = go (e u) h
  where
    go : (d : Content) → is_value n d ≡ true → Value n ≡ d
    go Null q = absurd (true≢false (sym q))
    go (Value m) q = ap Value (eqb-true n m q)

-- an atom of a clause that is met is met
atom_met : (e : Contents) (a : Atom) {c : Clause} → One (λ b. b ≡ a) c → clause_met e c ≡ true → met e a ≡ true
atom_met e a (One.here {x} {xs} q) h = subst (λ b. met e b ≡ true) q (both (met e x) (every (met e) xs) h).0
atom_met e a (One.later {x} {xs} o) h = atom_met e a o (both (met e x) (every (met e) xs) h).1

tenant_is : (c : ℕ) → c < 16 → (row session : Contents) (cl : Clause) → TenantAtom c cl → clause_met (with row session) cl ≡ true → row c ≡ session 0
tenant_is c l row session cl h m =
    sym (ap (λ (b : Bool). cond b (row c) (session (c - 16))) (lt-ltb c 16 l)) ∙ equal_is (with row session) 16 (with row session c) (atom_met (with row session) (on c (equals 16)) h m)

-- Theorem 8.1: where each permissive clause that counts has the tenant atom, the table is isolated.
pub theorem_8_1 : (sheet : Sheet) (table command c : ℕ) → c < 16 → EachHasIt sheet table command c → IsIsolated sheet table command
theorem_8_1 sheet table command c l h row one two a b other = other (sym (tenant one a.admitted) ∙ tenant two b.admitted)
  where
    tenant : (session : Contents) → admits sheet table command (with row session) ≡ true → row c ≡ session 0
    tenant session e =
        any_has (All (TenantAtom c)) (row c ≡ session 0) (policy_met (with row session)) (permissive sheet table command) h (both (any (policy_met (with row session)) (permissive sheet table command)) _ e).0
        (λ cs k m. any_has (TenantAtom c) (row c ≡ session 0) (clause_met (with row session)) cs k m (λ cl x n. tenant_is c l row session cl x n))

-- {t = key 0} or {f in [1]}, with a restrictive {t = key 0} besides: one permissive clause has no tenant atom, yet the table is isolated
abbrev pub by_restriction : Sheet
by_restriction = sheet_of (permits (t_is_key_0 ∷ (on f (in_list (1 ∷ [])) ∷ []) ∷ []) ∷ restricts (t_is_key_0 ∷ []) ∷ [])

other_atom : (c n : ℕ) (ns : List ℕ) → on n (in_list ns) ≡ on c (equals 16) → ⊥
other_atom c n ns e = let q : ◌≡◌ {A = Operator} (in_list ns) (equals 16) = ap (λ a. a.operator) e in let z : ◌≡◌ {A = ℕ} 0 1 = cc in omega arith

lone : (c : ℕ) (a : Atom) → TenantAtom c (a ∷ []) → a ≡ on c (equals 16)
lone c a (One.here e) = e
lone c a (One.later o) = elim o [ ]

pub restriction_unseen : (c : ℕ) → EachHasIt by_restriction 0 0 c → ⊥
restriction_unseen c h = other_atom c f (1 ∷ []) (lone c (on f (in_list (1 ∷ []))) h.0.1.0)

pub restriction_isolates : IsIsolated by_restriction 0 0
restriction_isolates row one two a b other = other (sym (tenant one a.admitted) ∙ tenant two b.admitted)
  where
    tenant : (session : Contents) → admits by_restriction 0 0 (with row session) ≡ true → row t ≡ session 0
    tenant session e =
        equal_is (with row session) key_0 (row t)
        (go (passes (with row session) (equals key_0) (row t)) (both (any (policy_met (with row session)) (permissive by_restriction 0 0)) _ e).1)
      where
        go : (p : Bool) → (((p && true) || false) && true) ≡ true → p ≡ true
        go true q = refl
        go false q = absurd (true≢false (sym q))

-- {t = key 0} or {t = u, u = key 0}, of two token columns: no column's atom is in both clauses, yet the table is isolated
abbrev pub through_second : Sheet
through_second =
    record {
      columns = token ∷ token ∷ [];
      keys = token ∷ [];
      tables = record { schema = 0; tags = 0; columns = 0xC000 } ∷ [];
      policies = permits ((on 0 (equals 16) ∷ []) ∷ (on 0 (equals 1) ∷ on 1 (equals 16) ∷ []) ∷ []) ∷ [];
    }

of_atom : (v u c : ℕ) → on v (equals u) ≡ on c (equals 16) → (v ≡ c) × (u ≡ 16)
of_atom v u c e = (ap (λ a. a.variable) e, go (ap (λ a. a.operator) e))
  where
    go : ◌≡◌ {A = Operator} (equals u) (equals 16) → u ≡ 16
    go q = cc

second_lacks : (c : ℕ) → 0 ≡ c → TenantAtom c (on 0 (equals 1) ∷ on 1 (equals 16) ∷ []) → ⊥
second_lacks c z (One.here e) = let x = (of_atom 0 1 c e).1 in omega arith
second_lacks c z (One.later (One.here e)) = let x = (of_atom 1 16 c e).0 in omega arith
second_lacks c z (One.later (One.later o)) = elim o [ ]

pub second_unseen : (c : ℕ) → EachHasIt through_second 0 0 c → ⊥
second_unseen c h = second_lacks c (of_atom 0 16 c (lone c (on 0 (equals 16)) h.0.0)).0 h.0.1.0

pub second_isolates : IsIsolated through_second 0 0
second_isolates row one two a b other = other (sym (tenant one a.admitted) ∙ tenant two b.admitted)
  where
    tenant : (session : Contents) → admits through_second 0 0 (with row session) ≡ true → row 0 ≡ session 0
    tenant session e =
        go (passes (with row session) (equals 16) (row 0)) (passes (with row session) (equals 1) (row 0)) (passes (with row session) (equals 16) (row 1)) e (equal_is (with row session) 16 (row 0)) (equal_is (with row session) 1 (row 0))
        (equal_is (with row session) 16 (row 1))
      where
        go : (p q r : Bool) → ((((p && true) || ((q && (r && true)) || false)) || false) && true) ≡ true → (p ≡ true → row 0 ≡ session 0) → (q ≡ true → row 0 ≡ row 1) → (r ≡ true → row 1 ≡ session 0) → row 0 ≡ session 0
        go true q r e x y z = x refl
        go false true true e x y z = y refl ∙ z refl
        go false true false e x y z = absurd (true≢false (sym e))
        go false false r e x y z = absurd (true≢false (sym e))
