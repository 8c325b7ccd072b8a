-- The definitions give each marked case its answer. (01, "Marked cases")
use Prim.Native.Nat.{ℕ, zero, suc, ◌-◌, ◌<◌, ◌≤◌}
use native.Mathlib.Omega.{arith}
use mathlib.Core.Path.{◌≡◌, refl, sym, ap, subst, ◌∙◌}
use mathlib.Core.Bool.{Bool, true, false, ◌&&◌, ◌||◌, true≢false}
use mathlib.Core.List.{List, [], ◌∷◌}
use lib.ListN.{get_or}
use lib.Dec.{ltb, leb, eqb, lit<, lit≤}
use borrow.Author.Tests.{ltb-true, leb-true, eqb-true, eq-eqb}
use Rattle.meaning.specs.declared.Content.{Content}
use Rattle.meaning.specs.declared.Content.TheVariants.{Null, Value}
use Rattle.meaning.specs.declared.Isolation.TheVariants.{Isolated, Leaks}
use Rattle.lists.specs.Lists.{any, One, Keeps, Prunes, Each}
use Rattle.meaning.specs.Values.{Kind, last, integer, boolean, token, Contents, Fits, with, OtherTenant}
use Rattle.meaning.specs.Atoms.{at_most, at_least, is_below, is_above, equals, in_list, not_in_list, order, Clause, is_value, passes, clause_met, policy_met}
use Rattle.meaning.specs.Sheets.{Policy, Sheet, permissive, admits, branches, holds, table_at, tables_serve}
use Rattle.bits.specs.Bits.{bits, spelled, bytes_from, bytes_of, bit_at, number}
use Rattle.meaning.specs.Packed.{sheet_bits, packed}
use Rattle.meaning.specs.Reading.{read_sheet, field, count, kind, table, number_below, selector_node, selector, variable, value, values, mate, operand, atom, clause, policy, padding, nothing_more, counts, table_facts, sheet_fields}
use Rattle.meaning.specs.Questions.{IsRow, IsSession, IsAnyRow, Leak, LiveClause, ClauseCovers}
use Rattle.meaning.specs.Steps.{on, tidied, NormalClauses}
use Rattle.meaning.specs.Cases.{null_x_hidden, none_admitted, becomes, verdict, x, f, t, key_0, int, t_is_key_0, sheet_of, Says, marked_cases, MarkedCases}

-- contents written as a list, the first for number 0
abbrev listed : List Content → Contents
listed cs i = get_or cs i Null

abbrev FitAll : List Kind → List Content → Type 0
FitAll ks [] = Unit {0}
FitAll [] (c ∷ cs) = ⊥
FitAll (k ∷ ks) (c ∷ cs) = Fits k c × FitAll ks cs

listed_fits : (ks : List Kind) (cs : List Content) → FitAll ks cs → (i : ℕ) → Fits (get_or ks i integer) (listed cs i)
listed_fits ks [] h i = tt
listed_fits [] (c ∷ cs) h i = absurd h
listed_fits (k ∷ ks) (c ∷ cs) h zero = h.0
listed_fits (k ∷ ks) (c ∷ cs) h (suc i) = listed_fits ks cs h.1 i

-- a row of x, f, t, for the table and for no table, and a session of key 0
abbrev kinds : List Kind
kinds = integer ∷ boolean ∷ token ∷ []

row_is : (ps : List Policy) (a b c : Content) → FitAll kinds (a ∷ b ∷ c ∷ []) → IsRow (sheet_of ps) 0 (listed (a ∷ b ∷ c ∷ []))
row_is ps a b c h = record { fits = listed_fits kinds (a ∷ b ∷ c ∷ []) h; absent = away }
  where
    away : (i : ℕ) → holds (table_at (sheet_of ps) 0) i ≡ false → listed (a ∷ b ∷ c ∷ []) i ≡ Null
    away zero e = absurd (true≢false e)
    away (suc zero) e = absurd (true≢false e)
    away (suc (suc zero)) e = absurd (true≢false e)
    away (suc (suc (suc i))) e = refl

any_row_is : (ps : List Policy) (a b c : Content) → FitAll kinds (a ∷ b ∷ c ∷ []) → IsAnyRow (sheet_of ps) (listed (a ∷ b ∷ c ∷ []))
any_row_is ps a b c h = record { fits = listed_fits kinds (a ∷ b ∷ c ∷ []) h; absent = away }
  where
    away : (i : ℕ) → ltb i 3 ≡ false → listed (a ∷ b ∷ c ∷ []) i ≡ Null
    away zero e = absurd (true≢false e)
    away (suc zero) e = absurd (true≢false e)
    away (suc (suc zero)) e = absurd (true≢false e)
    away (suc (suc (suc i))) e = refl

session_is : (ps : List Policy) (k : Content) → Fits token k → IsSession (sheet_of ps) (listed (k ∷ []))
session_is ps k h = record { fits = listed_fits (token ∷ []) (k ∷ []) (h, tt); absent = away }
  where
    away : (i : ℕ) → ltb i 1 ≡ false → listed (k ∷ []) i ≡ Null
    away zero e = absurd (true≢false e)
    away (suc i) e = refl

both : (a b : Bool) → (a && b) ≡ true → (a ≡ true) × (b ≡ true)
both true b e = (refl, e)
both false b e = absurd (true≢false (sym e))

-- what meeting an atom says of what its variable holds
in_one : (e : Contents) (n : ℕ) (c : Content) → passes e (in_list (n ∷ [])) c ≡ true → c ≡ Value n
in_one e n Null h = absurd (true≢false (sym h))
in_one e n (Value m) h = go (eqb m n) refl h
  where
    go : (b : Bool) → eqb m n ≡ b → (b || false) ≡ true → Value m ≡ Value n
    go true q r = ap Value (eqb-true m n q)
    go false q r = absurd (true≢false (sym r))

pub equal_is : (e : Contents) (u : ℕ) (c : Content) → passes e (equals u) c ≡ true → c ≡ e u
equal_is e u Null h = absurd (true≢false (sym h))
equal_is e u (Value n) h = go (e u) h
  where
    go : (d : Content) → is_value n d ≡ true → Value n ≡ d
    go Null q = absurd (true≢false (sym q))
    go (Value m) q = ap Value (eqb-true n m q)

-- the sheets of the table, in its order
abbrev policies_at : ℕ → List Policy
policies_at n = (get_or marked_cases n (record { policies = []; answer = none_admitted })).policies

abbrev sheet_at : ℕ → Sheet
sheet_at n = sheet_of (policies_at n)

-- {x = x} with x null: hidden
x_is_x : Says (sheet_at 0) null_x_hidden
x_is_x row session h = rw h

-- no clause covers, where there is none
none_covers : {P : Clause → Type 0} → One P [] → ⊥
none_covers = elim [ ]

-- a row with x alone, and the session of no tenant
abbrev with_x : ℕ → Contents
with_x n = listed (Value n ∷ Null ∷ Null ∷ [])

abbrev nobody : Contents
nobody = listed (Null ∷ [])

module _ (ps : List Policy) where
  x_row : (n : ℕ) → n ≤ last integer → IsAnyRow (sheet_of ps) (with_x n)
  x_row n h = any_row_is ps (Value n) Null Null (h, (tt, (tt, tt)))

  no_session : IsSession (sheet_of ps) nobody
  no_session = session_is ps Null tt

  live_x : (c : Clause) (n : ℕ) → n ≤ last integer → clause_met (with (with_x n) nobody) c ≡ true → LiveClause (sheet_of ps) c
  live_x c n h e = record { row = with_x n; session = nobody; is_row = x_row n h; is_session = no_session; meets = e }

  -- what the row with x alone meets it must, where it is covered
  not_covered : (p q : Clause) (n : ℕ) → n ≤ last integer → clause_met (with (with_x n) nobody) q ≡ true → clause_met (with (with_x n) nobody) p ≡ false → ClauseCovers (sheet_of ps) p q → ⊥
  not_covered p q n h e g c = true≢false (sym (c (with_x n) nobody (x_row n h) no_session e) ∙ g)

-- x in [3, 3, 1] and x in [1, 5]: x in [1]
in_lists : Says (sheet_at 3) (becomes ((on x (in_list (int 1 ∷ [])) ∷ []) ∷ []))
unfolding tidied bits
in_lists =
    record {
      live = (on x (in_list (int 3 ∷ int 3 ∷ int 1 ∷ [])) ∷ on x (in_list (int 1 ∷ int 5 ∷ [])) ∷ []) ∷ [];
      tidy = (on x (in_list (int 1 ∷ [])) ∷ []) ∷ [];
      step_1 = Keeps.kept (live_x (policies_at 3) _ (int 1) (lit≤ tt) refl) Keeps.done;
      steps_2_5 = Each.one (Prunes.kept Prunes.done (not_covered (policies_at 3) (on x (in_list (int 1 ∷ [])) ∷ []) [] 0 (lit≤ tt) refl refl)) Each.none;
      step_6 = Prunes.kept Prunes.done none_covers;
    }

-- a policy of one clause that nobody meets is left with none
all_dropped : (sheet : Sheet) (c : Clause) → (LiveClause sheet c → ⊥) → NormalClauses sheet (c ∷ []) []
all_dropped sheet c h = record { live = []; tidy = []; step_1 = Keeps.dropped h Keeps.done; steps_2_5 = Each.none; step_6 = Prunes.done }

-- what the clause wants of the content of one variable, no content of its kind gives
never_above : (c : Content) → Fits integer c → (e : Contents) → (passes e (order is_above (int 9223372036854775807)) c && true) ≡ true → ⊥
never_above Null h e m = true≢false (sym m)
never_above (Value n) h e m = let l = ltb-true (int 9223372036854775807) n (both _ true m).0 in omega arith

never_below : (c : Content) → Fits integer c → (e : Contents) → (passes e (order is_below (int 0 - 9223372036854775808)) c && true) ≡ true → ⊥
never_below Null h e m = true≢false (sym m)
never_below (Value n) h e m = let l = ltb-true n (int 0 - 9223372036854775808) (both _ true m).0 in omega arith

neither : (c : Content) → Fits boolean c → (e : Contents) → (passes e (not_in_list (0 ∷ [])) c && (passes e (not_in_list (1 ∷ [])) c && true)) ≡ true → ⊥
neither Null h e m = true≢false (sym m)
neither (Value zero) h e m = true≢false (sym m)
neither (Value (suc zero)) h e m = true≢false (sym m)
neither (Value (suc (suc n))) h e m = omega arith

above_max : Says (sheet_at 4) (becomes [])
above_max = all_dropped (sheet_at 4) _ (λ l. never_above (l.row x) (l.is_row.fits x) (with l.row l.session) l.meets)

below_min : Says (sheet_at 5) (becomes [])
below_min = all_dropped (sheet_at 5) _ (λ l. never_below (l.row x) (l.is_row.fits x) (with l.row l.session) l.meets)

no_boolean : Says (sheet_at 6) (becomes [])
no_boolean = all_dropped (sheet_at 6) _ (λ l. neither (l.row f) (l.is_row.fits f) (with l.row l.session) l.meets)

-- {x in [4]} or {x at least 4, x at most 4}: the first stays alone
exactly : (c : Content) (e : Contents) (n : ℕ) → (passes e (order at_most n) c && (passes e (order at_least n) c && true)) ≡ true → (passes e (in_list (n ∷ [])) c && true) ≡ true
exactly Null e n h = absurd (true≢false (sym h))
exactly (Value m) e n h =
    let a = both (leb m n) _ h in
    let b = both (leb n m) true a.1 in
    let l = leb-true m n a.0 in
    let g = leb-true n m b.0 in
    let q : eqb m n ≡ true = eq-eqb m n (omega arith) in
    rw q

abbrev range_4 : Clause
range_4 = on x (order at_most (int 4)) ∷ on x (order at_least (int 4)) ∷ []

first_stays : Says (sheet_at 7) (becomes ((on x (in_list (int 4 ∷ [])) ∷ []) ∷ []))
unfolding tidied bits
first_stays =
    let ps = policies_at 7 in
    record {
      live = (on x (in_list (int 4 ∷ [])) ∷ []) ∷ (on x (order at_least (int 4)) ∷ on x (order at_most (int 4)) ∷ []) ∷ [];
      tidy = (on x (in_list (int 4 ∷ [])) ∷ []) ∷ range_4 ∷ [];
      step_1 = Keeps.kept (live_x ps _ (int 4) (lit≤ tt) refl) (Keeps.kept (live_x ps _ (int 4) (lit≤ tt) refl) Keeps.done);
      steps_2_5 =
          Each.one (Prunes.kept Prunes.done (not_covered ps (on x (in_list (int 4 ∷ [])) ∷ []) [] 0 (lit≤ tt) refl refl))
          (Each.one
          (Prunes.kept (Prunes.kept Prunes.done (not_covered ps (on x (order at_least (int 4)) ∷ []) (on x (order at_most (int 4)) ∷ []) 0 (lit≤ tt) refl refl))
          (not_covered ps (on x (order at_most (int 4)) ∷ []) (on x (order at_least (int 4)) ∷ []) (int 5) (lit≤ tt) refl refl))
          Each.none);
      step_6 = Prunes.kept (Prunes.dropped Prunes.done (One.here (λ row session r s m. exactly (row x) (with row session) (int 4) m))) none_covers;
    }

-- Key 0 in [7] alone: isolated
key_in_list : Says (sheet_at 8) (verdict Isolated)
key_in_list row u w a b other = other (seven u a.admitted ∙ sym (seven w b.admitted))
  where
    seven : (s : Contents) → admits (sheet_at 8) 0 0 (with row s) ≡ true → s 0 ≡ Value 7
    seven s h = in_one (with row s) 7 (s 0) (go (passes (with row s) (in_list (7 ∷ [])) (s 0)) h)
      where
        go : (p : Bool) → ((((p && true) || false) || false) && true) ≡ true → p ≡ true
        go true e = refl
        go false e = absurd (true≢false (sym e))

-- a row of f and t, and a session of a tenant
abbrev with_f_t : Content → ℕ → Contents
with_f_t c n = listed (Null ∷ c ∷ Value n ∷ [])

abbrev tenant : ℕ → Contents
tenant n = listed (Value n ∷ [])

f_t_row : (ps : List Policy) (c : Content) (n : ℕ) → Fits boolean c → n ≤ last token → IsRow (sheet_of ps) 0 (with_f_t c n)
f_t_row ps c n b h = row_is ps Null c (Value n) (tt, (b, (h, tt)))

of_tenant : (ps : List Policy) (n : ℕ) → n ≤ last token → IsSession (sheet_of ps) (tenant n)
of_tenant ps n h = session_is ps (Value n) h

others : (n : ℕ) → OtherTenant (tenant n) nobody
others n e = let z : ◌≡◌ {A = ℕ} 0 1 = cc in omega arith

-- t in [7] alone: leaks 0 0
t_in_list : Says (sheet_at 9) (verdict (Leaks 0 0))
unfolding branches
t_in_list =
    let ps = policies_at 9 in
    record {
      leak =
          record {
            row = with_f_t Null 7;
            one = tenant 0;
            two = nobody;
            is_row = f_t_row ps Null 7 tt (lit≤ tt);
            is_session_one = of_tenant ps 0 (lit≤ tt);
            is_session_two = no_session ps;
            other_tenant = others 0;
            a_there = lit< tt;
            b_there = lit< tt;
            meets_a = refl;
            meets_b = refl;
          };
      no_earlier_a = λ c d h l. omega arith;
      no_earlier_b = λ d h l. omega arith;
    }

-- {t = key 0} in both sessions: one tenant
one_tenant : (row u w : Contents) → clause_met (with row u) t_is_key_0 ≡ true → clause_met (with row w) t_is_key_0 ≡ true → OtherTenant u w → ⊥
one_tenant row u w a b other =
    other (sym (equal_is (with row u) key_0 (row t) (both _ true a).0) ∙ equal_is (with row w) key_0 (row t) (both _ true b).0)

-- so the pair (0, 0) does not leak where branch 0 is {t = key 0}
first_pair : (sheet : Sheet) → get_or (branches sheet 0 0) 0 [] ≡ t_is_key_0 → (d : ℕ) → d < 1 → Leak sheet 0 0 0 d → ⊥
first_pair sheet e zero h l =
    one_tenant l.row l.one l.two (subst (λ c. clause_met (with l.row l.one) c ≡ true) e l.meets_a) (subst (λ c. clause_met (with l.row l.two) c ≡ true) e l.meets_b) l.other_tenant
first_pair sheet e (suc d) h l = omega arith

-- {t = key 0} or {f in [1]}: leaks 0 1
open_by_f : Says (sheet_at 10) (verdict (Leaks 0 1))
unfolding branches
open_by_f =
    let ps = policies_at 10 in
    record {
      leak =
          record {
            row = with_f_t (Value 1) 7;
            one = tenant 7;
            two = nobody;
            is_row = f_t_row ps (Value 1) 7 (lit≤ tt) (lit≤ tt);
            is_session_one = of_tenant ps 7 (lit≤ tt);
            is_session_two = no_session ps;
            other_tenant = others 7;
            a_there = lit< tt;
            b_there = lit< tt;
            meets_a = refl;
            meets_b = refl;
          };
      no_earlier_a = λ c d h l. omega arith;
      no_earlier_b = first_pair (sheet_at 10) refl;
    }

-- With a restrictive {t = key 0} besides: isolated
closed_by_t : Says (sheet_at 11) (verdict Isolated)
closed_by_t row u w a b other = one_tenant row u w (met_by u a.admitted) (met_by w b.admitted) other
  where
    met_by : (s : Contents) → admits (sheet_at 11) 0 0 (with row s) ≡ true → clause_met (with row s) t_is_key_0 ≡ true
    met_by s h = go (clause_met (with row s) t_is_key_0) (both (any (policy_met (with row s)) (permissive (sheet_at 11) 0 0)) ((clause_met (with row s) t_is_key_0 || false) && true) h).1
      where
        go : (p : Bool) → ((p || false) && true) ≡ true → p ≡ true
        go true e = refl
        go false e = absurd (true≢false (sym e))

-- {t = key 0} or {key 0 is null}: leaks 0 1
open_to_nobody : Says (sheet_at 12) (verdict (Leaks 0 1))
unfolding branches
open_to_nobody =
    let ps = policies_at 12 in
    record {
      leak =
          record {
            row = with_f_t Null 7;
            one = tenant 7;
            two = nobody;
            is_row = f_t_row ps Null 7 tt (lit≤ tt);
            is_session_one = of_tenant ps 7 (lit≤ tt);
            is_session_two = no_session ps;
            other_tenant = others 7;
            a_there = lit< tt;
            b_there = lit< tt;
            meets_a = refl;
            meets_b = refl;
          };
      no_earlier_a = λ c d h l. omega arith;
      no_earlier_b = first_pair (sheet_at 12) refl;
    }

-- The one theorem: each case's sheet is accepted, and the definitions give each answer.
pub marked_cases_lem : MarkedCases
unfolding read_sheet bit_at number field count kind table number_below selector_node selector variable value values mate operand atom clause policy padding nothing_more counts table_facts sheet_fields tables_serve bits spelled bytes_from bytes_of sheet_bits packed
marked_cases_lem = (
  ((_, refl), x_is_x),
  (
    ((_, refl), λ row session. refl),
    (
      ((_, refl), λ row session. refl),
      (
        ((_, refl), in_lists),
        (
          ((_, refl), above_max),
          (
            ((_, refl), below_min),
            (((_, refl), no_boolean), (((_, refl), first_stays), (((_, refl), key_in_list), (((_, refl), t_in_list), (((_, refl), open_by_f), (((_, refl), closed_by_t), (((_, refl), open_to_nobody), tt))))))),
          ),
        ),
      ),
    ),
  ),
)
