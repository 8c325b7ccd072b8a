-- What an answered verdict says: exactly the document's question, from the numbers that a host sees.
use Prim.Native.Nat.{ℕ}
use native.Mathlib.Omega.{arith}
use mathlib.Core.Path.{◌≡◌, refl, sym, ap, subst, ◌∙◌}
use mathlib.Core.Bool.{Bool, true, false, ◌&&◌}
use mathlib.Core.Logic.{◌↔◌}
use mathlib.Core.List.{List}
use lib.ListN.{length}
use lib.Dec.{ltb, leb}
use Rattle.std.specs.Prelude.{Result, Ok, Err}
use Rattle.refusals.specs.declared.Refusal.{Refusal}
use Rattle.meaning.specs.declared.Life.{Life}
use Rattle.meaning.specs.declared.Life.TheVariants.{Live, Dead}
use Rattle.meaning.specs.declared.Isolation.{Isolation}
use Rattle.meaning.specs.declared.Isolation.TheVariants.{Isolated, Leaks}
use Rattle.meaning.specs.declared.Cover.{Cover}
use Rattle.meaning.specs.declared.Cover.TheVariants.{Covers, Misses}
use Rattle.meaning.specs.Sheets.{Sheet, policy_at, branch_count}
use Rattle.meaning.specs.Reading.{read_sheet}
use Rattle.meaning.specs.Questions.{IsDead, IsIsolated, FirstLeak, PolicyCovers}
use Rattle.meaning.specs.Replies.{Asked, asks, refuses, ◌>>=◌, ◌>>◌, need, whole, asked_table, asked_verdict, asked_covers, Replies, Refused, LifeOf, IsolationOf, CoverOf, life_numbers, isolation_numbers, cover_numbers, branch_numbers, DeadReply, IsolatedReply, CoversReply, BranchesReply}
use Rattle.meaning.specs.Demands.{Accepted}
use Rattle.meaning.proofs.LeakLaws.{leak_not_isolated}
use Rattle.fiddlecomet.specs.declared.numbers.LifeNumbers.{LifeNumbers}
use Rattle.fiddlecomet.specs.declared.numbers.IsolationNumbers.{IsolationNumbers}
use Rattle.fiddlecomet.specs.declared.numbers.CoverNumbers.{CoverNumbers}
use Rattle.fiddlecomet.specs.declared.numbers.CountNumbers.{CountNumbers}
use Rattle.fiddlecomet.specs.Numbers.{life_of, isolation_of, cover_of, count_of, DeadNumbers, IsolatedNumbers, CoversNumbers, BranchesNumbers}
use Rattle.fiddlecomet.proofs.AnswerLaws.{no_refusal}

-- what a question is asked of, if it is asked of something, is the sheet that was accepted
abbrev Of : Sheet → Asked Sheet → Type 0
Of sheet x = (other : Sheet) → x ≡ asks other → other ≡ sheet

then_of : (sheet : Sheet) (m : Asked Sheet) (f : Sheet → Asked Sheet) → Of sheet m → ((x : Sheet) → x ≡ sheet → Of sheet (f x)) → Of sheet (m >>= f)
then_of sheet (asks x) f g h other e = h x (g x refl) other e
then_of sheet (refuses n) f g h other e = absurd (let z : ◌≡◌ {A = ℕ} 0 1 = cc in omega arith)

need_of : (sheet : Sheet) (ok : Bool) (n : ℕ) (x : Sheet) → x ≡ sheet → Of sheet (need ok n >> asks x)
need_of sheet true n x h other e = (let o : x ≡ other = cc in sym o) ∙ h
need_of sheet false n x h other e = absurd (let z : ◌≡◌ {A = ℕ} 0 1 = cc in omega arith)

whole_of : (s : List ℕ) (sheet : Sheet) → Accepted s sheet → Of sheet (whole (read_sheet s))
whole_of s sheet a other e = let o : asks sheet ≡ asks other = sym (ap whole a.1) ∙ e in let p : sheet ≡ other = cc in sym p

table_of : (s : List ℕ) (sheet : Sheet) → Accepted s sheet → (t command : ℕ) → Of sheet (asked_table s t command)
unfolding asked_table
table_of s sheet a t command = then_of sheet (whole (read_sheet s)) _ (whole_of s sheet a) (λ x e. need_of sheet (ltb t (length x.tables) && leb command 3) 12 x e)

verdict_of : (s : List ℕ) (sheet : Sheet) → Accepted s sheet → (t command : ℕ) → Of sheet (asked_verdict s t command)
unfolding asked_verdict
verdict_of s sheet a t command = then_of sheet (asked_table s t command) _ (table_of s sheet a t command) (λ x e. need_of sheet (leb (branch_count x t command) 256) 13 x e)

covers_of : (s : List ℕ) (sheet : Sheet) → Accepted s sheet → (a b : ℕ) → Of sheet (asked_covers s a b)
unfolding asked_covers
covers_of s sheet h a b = then_of sheet (whole (read_sheet s)) _ (whole_of s sheet h) (λ x e. need_of sheet (ltb a (length x.policies) && ltb b (length x.policies)) 12 x e)

-- so an answer is about that sheet
answer_of : (sheet : Sheet) (x : Asked Sheet) → Of sheet x → {A : Type 0} (P : Sheet → A → Type 0) (a : A) → Replies x (λ n. Refused n (Ok a)) (λ y. P y a) → P sheet a
answer_of sheet (asks other) h P a r = subst (λ y. P y a) (h other refl) r
answer_of sheet (refuses n) h P a r = absurd r

module _ (s : List ℕ) (sheet : Sheet) (accepted : Accepted s sheet) where
  module _ (t command : ℕ) where
    -- "Dead: no row and session is admitted."
    pub dead_exact : (r : LifeNumbers) → DeadNumbers s t command r → r.refusal ≡ 0 → (r.dead ≡ 1) ↔ IsDead sheet t command
    unfolding DeadReply
    dead_exact r x z = go x.reply x.replies x.numbers
      where
        says : (l : Life) → DeadReply s t command (Ok l) → LifeOf sheet t command l
        says l d = answer_of sheet (asked_verdict s t command) (verdict_of s sheet accepted t command) (λ y. LifeOf y t command) l d

        go : (l : Result Life Refusal) → DeadReply s t command l → life_of r ≡ life_numbers l → (r.dead ≡ 1) ↔ IsDead sheet t command
        go (Ok Live) d e = let h = says Live d in (λ o. absurd (cc), λ i. absurd (i h.0 h.1 h.2))
        go (Ok Dead) d e = (λ o. says Dead d, λ i. cc)
        go (Err f) d e = absurd (no_refusal {n = r.refusal} f (cc) z)

    isolation_of_lem : (l : Isolation) → IsolatedReply s t command (Ok l) → IsolationOf sheet t command l
    unfolding IsolatedReply
    isolation_of_lem l d = answer_of sheet (asked_verdict s t command) (verdict_of s sheet accepted t command) (λ y. IsolationOf y t command) l d

    -- demand 3: "called isolated for a command exactly when no row is admitted for two sessions of different tenants"
    pub isolated_exact : (r : IsolationNumbers) → IsolatedNumbers s t command r → r.refusal ≡ 0 → (r.leaks ≡ 0) ↔ IsIsolated sheet t command
    isolated_exact r x z = go x.reply x.replies x.numbers
      where
        go : (l : Result Isolation Refusal) → IsolatedReply s t command l → isolation_of r ≡ isolation_numbers l → (r.leaks ≡ 0) ↔ IsIsolated sheet t command
        go (Ok Isolated) d e = (λ o. isolation_of_lem Isolated d, λ i. cc)
        go (Ok (Leaks a b)) d e = (λ o. absurd (cc), λ i. absurd (leak_not_isolated sheet t command a b (isolation_of_lem (Leaks a b) d).leak i))
        go (Err f) d e = absurd (no_refusal {n = r.refusal} f (cc) z)

    -- "otherwise the first two clause choices that leak are named"
    pub leak_first : (r : IsolationNumbers) → IsolatedNumbers s t command r → r.refusal ≡ 0 → r.leaks ≡ 1 → FirstLeak sheet t command r.a r.b
    leak_first r x z o = go x.reply x.replies x.numbers
      where
        go : (l : Result Isolation Refusal) → IsolatedReply s t command l → isolation_of r ≡ isolation_numbers l → FirstLeak sheet t command r.a r.b
        go (Ok Isolated) d e = absurd (cc)
        go (Ok (Leaks a b)) d e =
            let p : a ≡ r.a = cc in
            let q : b ≡ r.b = cc in
            subst (λ y. FirstLeak sheet t command r.a y) q (subst (λ y. FirstLeak sheet t command y b) p (isolation_of_lem (Leaks a b) d))
        go (Err f) d e = absurd (no_refusal {n = r.refusal} f (cc) z)

    -- "N is the sum .. times the product .."
    pub count_exact : (r : CountNumbers) → BranchesNumbers s t command r → r.refusal ≡ 0 → r.count ≡ branch_count sheet t command
    unfolding BranchesReply
    count_exact r x z = go x.reply x.replies x.numbers
      where
        go : (l : Result ℕ Refusal) → BranchesReply s t command l → count_of r ≡ branch_numbers l → r.count ≡ branch_count sheet t command
        go (Ok n) d e =
            let h : ◌≡◌ {A = Result ℕ Refusal} (Ok n) (Ok (branch_count sheet t command)) =
            answer_of sheet (asked_table s t command) (table_of s sheet accepted t command) (λ y m. ◌≡◌ {A = Result ℕ Refusal} (Ok m) (Ok (branch_count y t command))) n d in
            cc
        go (Err f) d e = absurd (no_refusal {n = r.refusal} f (cc) z)

  -- "Policy A covers policy B when each clause of B that some row and session meets is covered by a single clause of A."
  pub covers_exact : (a b : ℕ) (r : CoverNumbers) → CoversNumbers s a b r → r.refusal ≡ 0 → (r.covers ≡ 1) ↔ PolicyCovers sheet (policy_at sheet a).clauses (policy_at sheet b).clauses
  unfolding CoversReply
  covers_exact a b r x z = go x.reply x.replies x.numbers
    where
      says : (l : Cover) → CoversReply s a b (Ok l) → CoverOf sheet a b l
      says l d = answer_of sheet (asked_covers s a b) (covers_of s sheet accepted a b) (λ y. CoverOf y a b) l d

      go : (l : Result Cover Refusal) → CoversReply s a b l → cover_of r ≡ cover_numbers l → (r.covers ≡ 1) ↔ PolicyCovers sheet (policy_at sheet a).clauses (policy_at sheet b).clauses
      go (Ok Covers) d e = (λ o. says Covers d, λ i. cc)
      go (Ok Misses) d e = (λ o. absurd (cc), λ i. absurd (says Misses d i))
      go (Err f) d e = absurd (no_refusal {n = r.refusal} f (cc) z)
