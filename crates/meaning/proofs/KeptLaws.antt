-- The normal form of a sheet that is allowed is allowed: so, packed, it is accepted.
use Prim.Native.Nat.{ℕ, ◌+◌, ◌-◌, ◌^◌, ◌<◌, ◌≤◌, min}
use native.Mathlib.Omega.{arith}
use native.Mathlib.Nat.{le_trans}
use mathlib.Core.Path.{◌≡◌, refl, sym, ap, subst, ◌∙◌}
use mathlib.Core.Bool.{Bool, true, false, cond, ◌&&◌, true≢false}
use mathlib.Core.List.{List, [], ◌∷◌, map}
use lib.ListN.{length, get_or}
use lib.Dec.{ltb, eqb}
use Rattle.meaning.specs.declared.Content.{Content}
use Rattle.meaning.specs.declared.Content.TheVariants.{Null, Value}
use Rattle.lists.specs.Lists.{numbers_from, every, All, Each, insert, inserts, ascend, sort}
use Rattle.meaning.specs.Values.{Kind, integer, token, boolean, kind_number, last, Contents, with}
use Rattle.meaning.specs.Atoms.{Order, at_most, at_least, is_below, is_above, Operator, equals, in_list, not_in_list, order, is_null, is_not_null, Atom, Clause, passes, met, clause_met}
use Rattle.meaning.specs.Sheets.{Table, Policy, Sheet, kind_of, holds, matches, second, columns_held, tables_serve}
use Rattle.meaning.specs.Packed.{clause_bits, packed}
use Rattle.meaning.specs.Questions.{LiveClause}
use Rattle.meaning.specs.Steps.{on, oriented, orient, closed, tightened, tighten, is_common, shared, merged, atom_before, tidied, NormalClause, clause_before, NormalClauses, NormalPolicy, NormalSheet}
use Rattle.meaning.specs.Allowed.{TableAllowed, Nests, IsVariable, ValuesAllowed, OperatorAllowed, AtomAllowed, ClauseAllowed, PolicyAllowed, facts_of, SheetAllowed}
use Rattle.meaning.specs.Demands.{Accepted}
use Rattle.lists.proofs.BoolLaws.{both, join}
use Rattle.lists.proofs.SubLaws.{sub_all, keeps_all, keeps_sub, prunes_sub}
use Rattle.lists.proofs.OrderLaws.{all_map, all_ascend, sort_all}
use Rattle.meaning.proofs.AgainLaws.{all_over, keep_sub}
use Rattle.meaning.proofs.TwiceLaws.{normal_live}
use Rattle.lists.proofs.LengthLaws.{sub_length, ascend_length, sort_length, each_length}
use Rattle.meaning.proofs.ShorterLaws.{tidied_length, never_longer}
use Rattle.meaning.proofs.SheetLaws.{accepted_as, allowed_accepted}

-- What holds of each live clause of a policy, and so of its normal form, holds of each clause of the policy's normal form.
pub clauses_carry : (sheet : Sheet) (C D : Clause → Type 0) → ((c d : Clause) → LiveClause sheet c → NormalClause sheet c d → C c → D d) → {cs ds : List Clause} → NormalClauses sheet cs ds → All C cs → All D ds
clauses_carry sheet C D f n h = sub_all D (prunes_sub n.step_6) (sort_all (clause_bits (kind_of sheet)) D n.tidy (go (keeps_all n.step_1) (sub_all C (keeps_sub n.step_1) h) n.steps_2_5))
  where
    go : {cs ds : List Clause} → All (LiveClause sheet) cs → All C cs → Each (NormalClause sheet) cs ds → All D ds
    go l h Each.none = tt
    go l h (Each.one {a = c} {b = d} r e) = (f c d l.0 r h.0, go l.1 h.1 e)

-- what steps 2 and 3 keep of an atom
pub record Stays (P : Atom → Type 0) : Type 0 where
  pub orients : (a : Atom) → P a → P (orient a)
  pub tightens : (a : Atom) → P a → P (tighten a)
  pub shares : (c : Clause) (a : Atom) → P a → P (on a.variable (shared c a.variable a.operator))

tidied_stays : (P : Atom → Type 0) → Stays P → (kind : ℕ → Kind) (c : Clause) → All P c → All P (tidied kind c)
unfolding tidied
tidied_stays P st kind c h =
    all_ascend (atom_before kind) P (merged (map tighten (map orient c)))
    (all_over P P (λ a. on a.variable (shared (map tighten (map orient c)) a.variable a.operator)) (st.shares (map tighten (map orient c))) (map tighten (map orient c))
    (all_over P P tighten st.tightens (map orient c) (all_over P P orient st.orients c h)))

pub clause_stays : (P : Atom → Type 0) → Stays P → (sheet : Sheet) (c d : Clause) → NormalClause sheet c d → All P c → All P d
clause_stays P st sheet c d n h = sub_all P (prunes_sub n) (tidied_stays P st (kind_of sheet) c h)

-- Refusals 4 to 7. An in_list may be without values here: that one of a live clause is not comes after.
module _ (facts : Sheet) where
  abbrev OperatorLoose : ℕ → Operator → Type 0
  OperatorLoose v (equals u) = IsVariable facts u × (kind_number (kind_of facts v) ≡ kind_number (kind_of facts u))
  OperatorLoose v (in_list ns) = (length ns ≤ 8) × All (λ n. n ≤ last (kind_of facts v)) ns
  OperatorLoose v (not_in_list ns) = ValuesAllowed (kind_of facts v) ns
  OperatorLoose v (order o n) = (kind_number (kind_of facts v) ≡ 0) × (n ≤ last (kind_of facts v))
  OperatorLoose v is_null = Unit {0}
  OperatorLoose v is_not_null = Unit {0}

  abbrev Loose : Atom → Type 0
  Loose a = IsVariable facts a.variable × OperatorLoose a.variable a.operator

  allowed_loose : (v : ℕ) (o : Operator) → OperatorAllowed facts v o → OperatorLoose v o
  allowed_loose v (equals u) h = h
  allowed_loose v (in_list ns) h = (h.1, h.2)
  allowed_loose v (not_in_list ns) h = h
  allowed_loose v (order o n) h = h
  allowed_loose v is_null h = h
  allowed_loose v is_not_null h = h

  -- an in_list that is met has a value
  loose_allowed : (e : Contents) (v : ℕ) (o : Operator) (c : Content) → passes e o c ≡ true → OperatorLoose v o → OperatorAllowed facts v o
  loose_allowed e v (equals u) c m h = h
  loose_allowed e v (in_list []) Null m h = absurd (true≢false (sym m))
  loose_allowed e v (in_list []) (Value n) m h = absurd (true≢false (sym m))
  loose_allowed e v (in_list (n ∷ ns)) c m h = (omega arith, h.0, h.1)
  loose_allowed e v (not_in_list ns) c m h = h
  loose_allowed e v (order o n) c m h = h
  loose_allowed e v is_null c m h = h
  loose_allowed e v is_not_null c m h = h

  oriented_loose : (v : ℕ) (o : Operator) → IsVariable facts v → OperatorLoose v o → Loose (oriented v o)
  oriented_loose v (equals u) i h = go (eqb v u) (ltb u v)
    where
      go : (a b : Bool) → Loose (cond a (on v is_not_null) (cond b (on u (equals v)) (on v (equals u))))
      go true b = (i, tt)
      go false true = (h.0, (i, sym h.1))
      go false false = (i, h)
  oriented_loose v (in_list ns) i h = (i, h)
  oriented_loose v (not_in_list ns) i h = (i, h)
  oriented_loose v (order o n) i h = (i, h)
  oriented_loose v is_null i h = (i, h)
  oriented_loose v is_not_null i h = (i, h)

  next_up : (k : Kind) (n : ℕ) → kind_number k ≡ 0 → min (n + 1) (2 ^ 64 - 1) ≤ last k
  next_up integer n h = omega arith
  next_up token n h = absurd (omega arith)
  next_up boolean n h = absurd (omega arith)

  closed_loose : (v : ℕ) (o : Order) (n : ℕ) → kind_number (kind_of facts v) ≡ 0 → n ≤ last (kind_of facts v) → OperatorLoose v (closed o n)
  closed_loose v at_most n i h = (i, h)
  closed_loose v at_least n i h = (i, h)
  closed_loose v is_below n i h = (i, omega arith)
  closed_loose v is_above n i h = (i, next_up (kind_of facts v) n i)

  -- a list with a value keeps one
  insert_some : (x : ℕ) (ys : List ℕ) → 1 ≤ length (insert ltb x ys)
  insert_some x [] = omega arith
  insert_some x (y ∷ ys) = go (ltb x y) (ltb y x)
    where
      go : (a b : Bool) → 1 ≤ length (cond a (x ∷ y ∷ ys) (cond b (y ∷ insert ltb x ys) (y ∷ ys)))
      go true b = omega arith
      go false true = omega arith
      go false false = omega arith

  inserts_some : (acc xs : List ℕ) → 1 ≤ length acc → 1 ≤ length (inserts ltb acc xs)
  inserts_some acc [] h = h
  inserts_some acc (x ∷ xs) h = inserts_some (insert ltb x acc) xs (insert_some x acc)

  ascend_some : (ns : List ℕ) → 1 ≤ length ns → 1 ≤ length (ascend ltb ns)
  ascend_some [] h = absurd (omega arith)
  ascend_some (n ∷ ns) h = inserts_some (n ∷ []) ns (omega arith)

  tightened_loose : (v : ℕ) (o : Operator) → OperatorLoose v o → OperatorLoose v (tightened o)
  tightened_loose v (equals u) h = h
  tightened_loose v (in_list ns) h = (le_trans (ascend_length ltb ns) h.0, all_ascend ltb (λ n. n ≤ last (kind_of facts v)) ns h.1)
  tightened_loose v (not_in_list ns) h = (ascend_some ns h.0, le_trans (ascend_length ltb ns) h.1, all_ascend ltb (λ n. n ≤ last (kind_of facts v)) ns h.2)
  tightened_loose v (order o n) h = closed_loose v o n h.0 h.1
  tightened_loose v is_null h = h
  tightened_loose v is_not_null h = h

  shared_loose : (c : Clause) (v : ℕ) (o : Operator) → OperatorLoose v o → OperatorLoose v (shared c v o)
  shared_loose c v (equals u) h = h
  shared_loose c v (in_list ns) h = (le_trans (sub_length (keep_sub (is_common c v) ns)) h.0, sub_all (λ n. n ≤ last (kind_of facts v)) (keep_sub (is_common c v) ns) h.1)
  shared_loose c v (not_in_list ns) h = h
  shared_loose c v (order o n) h = h
  shared_loose c v is_null h = h
  shared_loose c v is_not_null h = h

  loose_stays : Stays Loose
  loose_stays =
      record {
        orients = λ a h. oriented_loose a.variable a.operator h.0 h.1;
        tightens = λ a h. (h.0, tightened_loose a.variable a.operator h.1);
        shares = λ c a h. (h.0, shared_loose c a.variable a.operator h.1);
      }

  met_allowed : (e : Contents) (c : Clause) → clause_met e c ≡ true → All Loose c → All (AtomAllowed facts) c
  met_allowed e [] m h = tt
  met_allowed e (a ∷ c) m h =
      let b = both (met e a) (clause_met e c) m in
      ((h.0.0, loose_allowed e a.variable a.operator (e a.variable) b.0 h.0.1), met_allowed e c b.1 h.1)

  clause_allowed : (sheet : Sheet) (c d : Clause) → LiveClause sheet c → NormalClause sheet c d → ClauseAllowed facts c → ClauseAllowed facts d
  clause_allowed sheet c d l n h =
      let live = normal_live sheet c d l n in
      let s : length d ≤ length (tidied (kind_of sheet) c) = sub_length (prunes_sub n) in
      let t = tidied_length (kind_of sheet) c in
      let m : length c ≤ 8 = h.0 in (
        omega arith,
        met_allowed (with live.row live.session) d live.meets
            (clause_stays Loose loose_stays sheet c d n (all_map (AtomAllowed facts) Loose c (λ a g. (g.0, allowed_loose a.variable a.operator g.1)) h.1)),
      )

  clauses_count : (sheet : Sheet) {cs ds : List Clause} → NormalClauses sheet cs ds → length ds ≤ length cs
  clauses_count sheet {cs} {ds} n =
      let a : length ds ≤ length (sort (clause_before (kind_of sheet)) n.tidy) = sub_length (prunes_sub n.step_6) in
      let b = sort_length (clause_before (kind_of sheet)) n.tidy in
      let c : length n.tidy ≡ length n.live = each_length n.steps_2_5 in
      let d : length n.live ≤ length cs = sub_length (keeps_sub n.step_1) in
      omega arith

  policy_allowed : (sheet : Sheet) (p q : Policy) → NormalPolicy sheet p q → PolicyAllowed facts p → PolicyAllowed facts q
  policy_allowed sheet p q n h =
      let c = clauses_count sheet n.clauses in
      let m : length p.clauses ≤ 8 = h.3 in (
        subst (λ z. 0 < z) (sym n.commands) h.0,
        subst (λ z. z < 2 ^ 4) (sym n.commands) h.1,
        subst (Nests facts 6) (sym n.selector) h.2,
        omega arith,
        clauses_carry sheet (ClauseAllowed facts) (ClauseAllowed facts) (clause_allowed sheet) n.clauses h.4,
      )

  policies_allowed : (sheet : Sheet) {ps qs : List Policy} → Each (NormalPolicy sheet) ps qs → All (PolicyAllowed facts) ps → All (PolicyAllowed facts) qs
  policies_allowed sheet Each.none h = tt
  policies_allowed sheet (Each.one {a = p} {b = q} n e) h = (policy_allowed sheet p q n h.0, policies_allowed sheet e h.1)

-- Refusal 11: the normal form uses no column that its sheet does not.
module _ {A : Type 0} (f : A → Bool) where
  every_all : (xs : List A) → every f xs ≡ true → All (λ x. f x ≡ true) xs
  every_all [] h = tt
  every_all (x ∷ xs) h = let b = both (f x) (every f xs) h in (b.0, every_all xs b.1)

  all_every : (xs : List A) → All (λ x. f x ≡ true) xs → every f xs ≡ true
  all_every [] h = refl
  all_every (x ∷ xs) h = join (f x) (every f xs) h.0 (all_every xs h.1)

module _ (table : Table) where
  abbrev has : ℕ → Bool
  has v = cond (ltb v 16) (holds table v) true

  abbrev held : Atom → Bool
  held a = every has (a.variable ∷ second a.operator)

  oriented_held : (v : ℕ) (o : Operator) → every has (v ∷ second o) ≡ true → held (oriented v o) ≡ true
  oriented_held v (equals u) h = go (eqb v u) (ltb u v)
    where
      one : (has v ≡ true) × ((has u && true) ≡ true)
      one = both (has v) (has u && true) h

      go : (a b : Bool) → held (cond a (on v is_not_null) (cond b (on u (equals v)) (on v (equals u)))) ≡ true
      go true b = join (has v) true one.0 refl
      go false true = join (has u) (has v && true) (both (has u) true one.1).0 (join (has v) true one.0 refl)
      go false false = h
  oriented_held v (in_list ns) h = h
  oriented_held v (not_in_list ns) h = h
  oriented_held v (order o n) h = h
  oriented_held v is_null h = h
  oriented_held v is_not_null h = h

  closed_held : (v : ℕ) (o : Order) (n : ℕ) → every has (v ∷ []) ≡ true → every has (v ∷ second (closed o n)) ≡ true
  closed_held v at_most n h = h
  closed_held v at_least n h = h
  closed_held v is_below n h = h
  closed_held v is_above n h = h

  tightened_held : (v : ℕ) (o : Operator) → every has (v ∷ second o) ≡ true → every has (v ∷ second (tightened o)) ≡ true
  tightened_held v (equals u) h = h
  tightened_held v (in_list ns) h = h
  tightened_held v (not_in_list ns) h = h
  tightened_held v (order o n) h = closed_held v o n h
  tightened_held v is_null h = h
  tightened_held v is_not_null h = h

  shared_held : (c : Clause) (v : ℕ) (o : Operator) → every has (v ∷ second o) ≡ true → every has (v ∷ second (shared c v o)) ≡ true
  shared_held c v (equals u) h = h
  shared_held c v (in_list ns) h = h
  shared_held c v (not_in_list ns) h = h
  shared_held c v (order o n) h = h
  shared_held c v is_null h = h
  shared_held c v is_not_null h = h

  held_stays : Stays (λ a. held a ≡ true)
  held_stays =
      record {
        orients = λ a h. oriented_held a.variable a.operator h;
        tightens = λ a h. tightened_held a.variable a.operator h;
        shares = λ c a h. shared_held c a.variable a.operator h;
      }

  policy_held : (sheet : Sheet) (p q : Policy) → NormalPolicy sheet p q → columns_held table p ≡ true → columns_held table q ≡ true
  policy_held sheet p q n h =
      all_every (every held) q.clauses
      (clauses_carry sheet (λ c. every held c ≡ true) (λ d. every held d ≡ true) (λ c d l m k. all_every held d (clause_stays (λ a. held a ≡ true) held_stays sheet c d m (every_all held c k))) n.clauses (every_all (every held) p.clauses h))

abbrev at : List Table → ℕ → Table
at ts t = get_or ts t (record { schema = 0; tags = 0; columns = 0 })

abbrev serves : List Table → Policy → Bool
serves ts p = every (λ t. cond (matches t (at ts t) p.selector) (columns_held (at ts t) p) true) (numbers_from 0 (length ts))

pub serves_stays : (sheet normal : Sheet) → NormalSheet sheet normal → tables_serve sheet ≡ true → tables_serve normal ≡ true
unfolding tables_serve
serves_stays sheet normal n h = ap (λ ts. every (serves ts) normal.policies) n.tables ∙ all_every (serves sheet.tables) normal.policies (go n.policies (every_all (serves sheet.tables) sheet.policies h))
  where
    one : (ts : List Table) (p q : Policy) → NormalPolicy sheet p q → (t : ℕ) → cond (matches t (at ts t) p.selector) (columns_held (at ts t) p) true ≡ true → cond (matches t (at ts t) q.selector) (columns_held (at ts t) q) true ≡ true
    one ts p q m t k = ap (λ z. cond (matches t (at ts t) z) (columns_held (at ts t) q) true) m.selector ∙ pick (matches t (at ts t) p.selector) k
      where
        pick : (b : Bool) → cond b (columns_held (at ts t) p) true ≡ true → cond b (columns_held (at ts t) q) true ≡ true
        pick true k = policy_held (at ts t) sheet p q m k
        pick false k = refl

    go : {ps qs : List Policy} → Each (NormalPolicy sheet) ps qs → All (λ p. serves sheet.tables p ≡ true) ps → All (λ q. serves sheet.tables q ≡ true) qs
    go Each.none k = tt
    go (Each.one {a = p} {b = q} m e) k = (
      all_every (λ t. cond (matches t (at sheet.tables t) q.selector) (columns_held (at sheet.tables t) q) true) (numbers_from 0 (length sheet.tables))
          (all_map (λ t. cond (matches t (at sheet.tables t) p.selector) (columns_held (at sheet.tables t) p) true ≡ true) (λ t. cond (matches t (at sheet.tables t) q.selector) (columns_held (at sheet.tables t) q) true ≡ true) (numbers_from 0 (length sheet.tables))
          (one sheet.tables p q m) (every_all (λ t. cond (matches t (at sheet.tables t) p.selector) (columns_held (at sheet.tables t) p) true) (numbers_from 0 (length sheet.tables)) k.0)),
      go e k.1,
    )

pub normal_allowed : (sheet normal : Sheet) → NormalSheet sheet normal → SheetAllowed sheet → SheetAllowed normal
normal_allowed sheet normal n h =
    let facts : facts_of sheet ≡ facts_of normal = λ i. record { columns = sym n.columns i; keys = sym n.keys i; tables = sym n.tables i; policies = [] } in
    let c : length normal.policies ≡ length sheet.policies = each_length n.policies in
    let m = h.policies in
    let s = h.short in
    let l = never_longer sheet normal n in
    record {
      columns = subst (λ z. length z ≤ 16) (sym n.columns) h.columns;
      keys = subst (λ z. (1 ≤ length z) × (length z ≤ 8)) (sym n.keys) h.keys;
      tables = subst (λ z. (1 ≤ length z) × (length z ≤ 16)) (sym n.tables) h.tables;
      policies = omega arith;
      each_table = subst (λ z. All (TableAllowed (length z.columns)) z.tables) facts h.each_table;
      each_policy = subst (λ z. All (PolicyAllowed z) normal.policies) facts (policies_allowed (facts_of sheet) sheet n.policies h.each_policy);
      serves = serves_stays sheet normal n h.serves;
      short = omega arith;
    }

-- Demand 2: the packed normal form of an accepted sheet is accepted as that normal form.
pub normal_accepted : (s : List ℕ) (sheet normal : Sheet) → Accepted s sheet → NormalSheet sheet normal → Accepted (packed normal) normal
normal_accepted s sheet normal a n = allowed_accepted normal (normal_allowed sheet normal n (accepted_as s sheet a).allowed)
