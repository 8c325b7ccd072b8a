-- 01, "Traps in the trade papers", of the normal form.
use Prim.Native.Nat.{ℕ, ◌<◌}
use mathlib.Core.Path.{◌≡◌, refl, sym, ap, ◌∙◌}
use mathlib.Core.Bool.{Bool, true, false, cond, true≢false}
use mathlib.Core.List.{List, [], ◌∷◌}
use native.Mathlib.Omega.{arith}
use lib.ListN.{length, get_or}
use lib.Dec.{ltb, eqb}
use borrow.Author.Tests.{eq-eqb, eqb-true, lt-ltb, ltb-false}
use Rattle.lists.specs.Lists.{All, Keeps, Prunes, Each, sort}
use Rattle.lists.proofs.LengthLaws.{each_length}
use Rattle.meaning.specs.declared.Content.TheVariants.{Null, Value}
use Rattle.meaning.specs.Values.{Kind, integer, token, boolean, Fits, Contents, with}
use Rattle.meaning.specs.Atoms.{equals, in_list, is_not_null, Clause, met, clause_met, policy_met}
use Rattle.meaning.specs.Sheets.{Policy, Sheet, kind_of}
use Rattle.meaning.specs.Questions.{IsAnyRow, IsSession, ClauseCovers, LiveClause}
use Rattle.meaning.specs.Steps.{on, orient, clause_before, NormalPolicy, NormalSheet}

-- "Document 000 turns column = itself into true. On null it isn't met."
pub self_equality_null : (e : Contents) (x : ℕ) → e x ≡ Null → met e (on x (equals x)) ≡ false
self_equality_null e x h = rw h

pub self_equality_becomes : (x : ℕ) → orient (on x (equals x)) ≡ on x is_not_null
self_equality_becomes x = rw (eq-eqb x x refl)

-- "It may absorb `= true` into "is not null". False is not null; this is never done.": a row with 0 in the column is not null there
module _ (sheet : Sheet) (c : ℕ) (small : c < 16) (there : c < length sheet.columns) where
  abbrev false_row : Contents
  false_row v = cond (eqb v c) (Value 0) Null

  false_row_lem : IsAnyRow sheet false_row
  false_row_lem = record { fits = λ i. fit (get_or sheet.columns i integer) (eqb i c); absent = λ i e. gone i (eqb i c) refl e }
    where
      fit : (k : Kind) (b : Bool) → Fits k (cond b (Value 0) Null)
      fit integer true = omega arith
      fit token true = omega arith
      fit boolean true = omega arith
      fit k false = tt

      gone : (i : ℕ) (b : Bool) → eqb i c ≡ b → ltb i (length sheet.columns) ≡ false → cond b (Value 0) Null ≡ Null
      gone i true e f = absurd (omega (arith, eqb-true i c e, ltb-false i (length sheet.columns) f))
      gone i false e f = refl

  no_session : IsSession sheet (λ k. Null)
  no_session = record { fits = λ i. tt; absent = λ i e. refl }

  holds_false : with false_row (λ k. Null) c ≡ Value 0
  holds_false = rw (lt-ltb c 16 small, eq-eqb c c refl)

  pub true_not_absorbed : ClauseCovers sheet (on c (in_list (1 ∷ [])) ∷ []) (on c is_not_null ∷ []) → ⊥
  true_not_absorbed h =
      let m : clause_met (with false_row (λ k. Null)) (on c is_not_null ∷ []) ≡ true = rw holds_false in
      let n : clause_met (with false_row (λ k. Null)) (on c (in_list (1 ∷ [])) ∷ []) ≡ false = rw holds_false in
      true≢false (sym (h false_row (λ k. Null) false_row_lem no_session m) ∙ n)

-- "It flags an emptied policy as an error. Removing an emptied restrictive policy would open the table.": every policy stays, and one that
-- nobody meets stays as a policy without clauses, which nobody meets
pub policies_stay : (sheet normal : Sheet) → NormalSheet sheet normal → length normal.policies ≡ length sheet.policies
policies_stay sheet normal n = each_length n.policies

none_kept : {P : Clause → Type 0} {cs ds : List Clause} → Keeps P cs ds → All (λ c. P c → ⊥) cs → ds ≡ []
none_kept Keeps.done h = refl
none_kept (Keeps.kept p k) h = absurd (h.0 p)
none_kept (Keeps.dropped n k) h = none_kept k h.1

none_each : {R : Clause → Clause → Type 0} {cs ds : List Clause} → Each R cs ds → cs ≡ [] → ds ≡ []
none_each Each.none e = refl
none_each (Each.one r k) e = absurd (let z : ◌≡◌ {A = ℕ} 0 1 = cc in omega arith)

none_pruned : {Q : Clause → List Clause → Type 0} {front cs ds : List Clause} → Prunes Q front cs ds → cs ≡ [] → ds ≡ []
none_pruned Prunes.done e = refl
none_pruned (Prunes.dropped p q) e = absurd (let z : ◌≡◌ {A = ℕ} 0 1 = cc in omega arith)
none_pruned (Prunes.kept p q) e = absurd (let z : ◌≡◌ {A = ℕ} 0 1 = cc in omega arith)

pub emptied_stays : (sheet : Sheet) (p q : Policy) → NormalPolicy sheet p q → All (λ c. LiveClause sheet c → ⊥) p.clauses → (q.restrictive ≡ p.restrictive) × ((e : Contents) → policy_met e q.clauses ≡ false)
emptied_stays sheet p q n h =
    let live : n.clauses.live ≡ [] = none_kept n.clauses.step_1 h in
    let tidy : n.clauses.tidy ≡ [] = none_each n.clauses.steps_2_5 live in
    let left : q.clauses ≡ [] = none_pruned n.clauses.step_6 (ap (sort (clause_before (kind_of sheet))) tidy) in
    (n.restrictive, λ e. ap (policy_met e) left)
