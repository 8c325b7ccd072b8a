-- No two replies can satisfy a call's promise. (01, "Proofs to be read aloud")
use Prim.Native.Nat.{ℕ, ◌<◌}
use native.Mathlib.Omega.{arith}
use mathlib.Core.Path.{◌≡◌, refl, sym, ap, subst, ◌∙◌}
use mathlib.Core.Bool.{Bool, true, false}
use mathlib.Core.List.{List, []}
use lib.ListN.{length}
use lib.Dec.{ltb, leb}
use borrow.Author.Tests.{ltb-true, ltb-false}
use Rattle.std.specs.Prelude.{Result, Ok, Err, IsOkAnd}
use Rattle.refusals.specs.declared.Refusal.{Refusal}
use Rattle.meaning.specs.declared.Listed.{Listed}
use Rattle.meaning.specs.declared.Life.TheVariants.{Live, Dead}
use Rattle.meaning.specs.declared.Isolation.TheVariants.{Isolated, Leaks}
use Rattle.meaning.specs.declared.Cover.TheVariants.{Covers, Misses}
use Rattle.lists.specs.Lists.{Each, Prunes, One, sort}
use Rattle.meaning.specs.Atoms.{Clause}
use Rattle.meaning.specs.Sheets.{Policy, Sheet, kind_of, branch_count}
use Rattle.meaning.specs.Packed.{packed}
use Rattle.meaning.specs.Reading.{Row}
use Rattle.meaning.specs.Questions.{FirstLeak, Leak, ClauseCovers}
use Rattle.meaning.specs.Steps.{NormalClause, NormalClauses, NormalPolicy, NormalSheet, clause_before}
use Rattle.meaning.specs.Replies.{Asked, asks, refuses, Replies, Refused, Untouched, WritesRows, WritesForm, row_bytes, over, rows_listed, asked_normal, asked_rows, asked_table, asked_verdict, asked_covers, ListingReply, NormalFormReply, LifeOf, DeadReply, IsolationOf, IsolatedReply, CoverOf, CoversReply, BranchesReply}
use Rattle.meaning.specs.Demands.{Unique}
use Rattle.lists.proofs.ListLaws.{keeps_one, prunes_one, each_one}
use Rattle.meaning.proofs.LeakLaws.{leak_not_isolated}
use Rattle.meaning.proofs.NumberedLaws.{same_number}

-- a call has one reply where each refusal and each answer has one
replies_one : {A R : Type 0} (F : ℕ → R → Type 0) (P : A → R → Type 0) → ((n : ℕ) → Unique (F n)) → ((a : A) → Unique (P a)) → (x : Asked A) → Unique (λ r. Replies x (λ n. F n r) (λ a. P a r))
replies_one F P f u (asks a) r r' p q = u a r r' p q
replies_one F P f u (refuses n) r r' p q = f n r r' p q

is_one : {R : Type 0} (a : R) → Unique (λ r. r ≡ a)
is_one a r r' p q = p ∙ sym q

pair_one : {A B : Type 0} (a : A) (b : B) → Unique {R = A × B} (λ r. (r.0 ≡ a) × (r.1 ≡ b))
pair_one a b r r' p q = λ i. ((p.0 ∙ sym q.0) i, (p.1 ∙ sym q.1) i)

-- a number has one refusal
refused_one : {A : Type 0} (n : ℕ) → Unique {R = Result A Refusal} (Refused n)
refused_one n (Ok a) r p q = absurd p
refused_one n (Err e) (Ok a) p q = absurd q
refused_one n (Err e) (Err f) p q = ap Err (same_number e f (p ∙ sym q))

-- so has a refusal that leaves the output as found
untouched_one : {A : Type 0} (n : ℕ) (out : List ℕ) → Unique {R = Result A Refusal × List ℕ} (λ r. Untouched n r.0 out r.1)
untouched_one n out r r' p q = λ i. (refused_one n r.0 r'.0 p.0 q.0 i, (p.1 ∙ sym q.1) i)

-- a verdict has one reply where it has one answer
verdict_one : {A : Type 0} (P : A → Type 0) → Unique P → Unique {R = Result A Refusal} (λ r. IsOkAnd r P)
verdict_one P u (Ok a) (Ok b) p q = ap Ok (u a b p q)
verdict_one P u (Ok a) (Err e) p q = absurd q
verdict_one P u (Err e) r p q = absurd p

pub listing_one : (s : List ℕ) (t command : ℕ) (session list out : List ℕ) → Unique {R = Result Listed Refusal × List ℕ} (λ r. ListingReply s t command session list out r.0 r.1)
unfolding ListingReply
listing_one s t command session list out =
    replies_one {R = Result Listed Refusal × List ℕ} (λ n r. Untouched n r.0 out r.1) (λ (rows : List Row) r. WritesRows rows r.0 out r.1)
    (λ n. untouched_one n out) (λ rows. pair_one (Ok (rows_listed rows)) (over (row_bytes rows) out)) (asked_rows s t command session list out)

-- the six steps have one result
clauses_one : (sheet : Sheet) {cs ds es : List Clause} → NormalClauses sheet cs ds → NormalClauses sheet cs es → ds ≡ es
clauses_one sheet {cs} {ds} {es} n m =
    let lives : n.live ≡ m.live = keeps_one n.step_1 m.step_1 in
    let steps : Each (NormalClause sheet) m.live n.tidy = subst (λ l. Each (NormalClause sheet) l n.tidy) lives n.steps_2_5 in
    let tidies : n.tidy ≡ m.tidy = each_one (λ a b c x y. prunes_one x y) steps m.steps_2_5 in
    prunes_one (subst (λ l. Prunes (λ c others. One (λ d. ClauseCovers sheet d c) others) [] (sort (clause_before (kind_of sheet)) l) ds) tidies n.step_6) m.step_6

policy_one : (sheet : Sheet) (p q r : Policy) → NormalPolicy sheet p q → NormalPolicy sheet p r → q ≡ r
policy_one sheet p q r n m =
    λ i. record {
      restrictive = (n.restrictive ∙ sym m.restrictive) i;
      commands = (n.commands ∙ sym m.commands) i;
      selector = (n.selector ∙ sym m.selector) i;
      clauses = clauses_one sheet n.clauses m.clauses i;
    }

pub normal_one : (sheet normal other : Sheet) → NormalSheet sheet normal → NormalSheet sheet other → normal ≡ other
normal_one sheet normal other n m =
    λ i. record {
      columns = (n.columns ∙ sym m.columns) i;
      keys = (n.keys ∙ sym m.keys) i;
      tables = (n.tables ∙ sym m.tables) i;
      policies = each_one (policy_one sheet) n.policies m.policies i;
    }

pub normal_form_one : (s out : List ℕ) → Unique {R = Result ℕ Refusal × List ℕ} (λ r. NormalFormReply s out r.0 r.1)
unfolding NormalFormReply
normal_form_one s out =
    replies_one {R = Result ℕ Refusal × List ℕ} (λ n r. Untouched n r.0 out r.1) (λ (sheet : Sheet) r. (normal : Sheet) × NormalSheet sheet normal × Form normal r) (λ n. untouched_one n out)
    (λ sheet r r' p q. form_one p.0 (leb (length (packed p.0)) (length s)) r r' p.2 (subst (λ x. Form x r') (normal_one sheet q.0 p.0 q.1 p.1) q.2))
    (asked_normal s out)
  where
    Form : Sheet → Result ℕ Refusal × List ℕ → Type 0
    Form normal r = WritesForm (leb (length (packed normal)) (length s)) normal r.0 out r.1

    form_one : (normal : Sheet) (b : Bool) → Unique {R = Result ℕ Refusal × List ℕ} (λ r. WritesForm b normal r.0 out r.1)
    form_one normal true = pair_one (Ok (length (packed normal))) (over (packed normal) out)
    form_one normal false = untouched_one 16 out

pub dead_one : (s : List ℕ) (t command : ℕ) → Unique (DeadReply s t command)
unfolding DeadReply
dead_one s t command = replies_one Refused (λ sheet r. IsOkAnd r (LifeOf sheet t command)) refused_one (λ sheet. verdict_one (LifeOf sheet t command) (one sheet)) (asked_verdict s t command)
  where
    one : (sheet : Sheet) → Unique (LifeOf sheet t command)
    one sheet Live Live p q = refl
    one sheet Live Dead p q = absurd (q p.0 p.1 p.2)
    one sheet Dead Live p q = absurd (p q.0 q.1 q.2)
    one sheet Dead Dead p q = refl

-- of two numbers neither of which is below the other
same : (a b : ℕ) → (a < b → ⊥) → (b < a → ⊥) → a ≡ b
same a b p q = go (ltb a b) refl (ltb b a) refl
  where
    go : (x : Bool) → ltb a b ≡ x → (y : Bool) → ltb b a ≡ y → a ≡ b
    go true e y f = absurd (p (ltb-true a b e))
    go false e true f = absurd (q (ltb-true b a f))
    go false e false f = omega (arith, ltb-false a b e, ltb-false b a f)

pub isolated_one : (s : List ℕ) (t command : ℕ) → Unique (IsolatedReply s t command)
unfolding IsolatedReply
isolated_one s t command = replies_one Refused (λ sheet r. IsOkAnd r (IsolationOf sheet t command)) refused_one (λ sheet. verdict_one (IsolationOf sheet t command) (one sheet)) (asked_verdict s t command)
  where
    first : (sheet : Sheet) (a b c d : ℕ) → FirstLeak sheet t command a b → FirstLeak sheet t command c d → Leaks a b ≡ Leaks c d
    first sheet a b c d p q =
        let e : a ≡ c = same a c (λ h. q.no_earlier_a a b h p.leak) (λ h. p.no_earlier_a c d h q.leak) in
        let f : b ≡ d = same b d (λ h. q.no_earlier_b b h (subst (λ x. Leak sheet t command x b) e p.leak)) (λ h. p.no_earlier_b d h (subst (λ x. Leak sheet t command x d) (sym e) q.leak)) in
        cc

    one : (sheet : Sheet) → Unique (IsolationOf sheet t command)
    one sheet Isolated Isolated p q = refl
    one sheet Isolated (Leaks a b) p q = absurd (leak_not_isolated sheet t command a b q.leak p)
    one sheet (Leaks a b) Isolated p q = absurd (leak_not_isolated sheet t command a b p.leak q)
    one sheet (Leaks a b) (Leaks c d) p q = first sheet a b c d p q

pub covers_one : (s : List ℕ) (a b : ℕ) → Unique (CoversReply s a b)
unfolding CoversReply
covers_one s a b = replies_one Refused (λ sheet r. IsOkAnd r (CoverOf sheet a b)) refused_one (λ sheet. verdict_one (CoverOf sheet a b) (one sheet)) (asked_covers s a b)
  where
    one : (sheet : Sheet) → Unique (CoverOf sheet a b)
    one sheet Covers Covers p q = refl
    one sheet Covers Misses p q = absurd (q p)
    one sheet Misses Covers p q = absurd (p q)
    one sheet Misses Misses p q = refl

pub branches_one : (s : List ℕ) (t command : ℕ) → Unique (BranchesReply s t command)
unfolding BranchesReply
branches_one s t command =
    replies_one Refused (λ (sheet : Sheet) r. r ≡ Ok (branch_count sheet t command)) refused_one (λ sheet. is_one (Ok (branch_count sheet t command))) (asked_table s t command)
