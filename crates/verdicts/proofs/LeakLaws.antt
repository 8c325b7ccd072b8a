-- The search for the first leaking pair and the search for a live branch: how far they have got, and what they may answer.
use Rattle.std.specs.Prelude.{ℕ, ◌+◌, ◌-◌, ◌<◌, ◌≤◌, ◌≡◌, Bool, true, false, List, length, get_or, set, replicate}
use Rattle.std.proofs.Common.{arith, sym, subst, ◌∙◌}
use native.Mathlib.Decide.{ℕ_discrete, dec_lt}
use mathlib.Core.Bool.{true≢false}
use lib.ListN.{get_or-replicate}
use lib.Seq.{get_or-set_same, get_or-set_other}
use Rattle.lists.specs.Decides.{Decides}
use Rattle.meaning.specs.Values.{with}
use Rattle.meaning.specs.Sheets.{branches}
use Rattle.meaning.specs.Questions.{IsLive, IsIsolated, Leak, FirstLeak}
use Rattle.meaning.proofs.BranchLaws.{branches_counted}
use Rattle.meaning.proofs.LeakLaws.{branch_admits, admitted_branch, no_leak_isolated}
use Rattle.verdicts.specs.Questions.{Posed, number_of, branch_at, Met, OtherMeets, TellsMark, Marks}

module _ (p : Posed) where
  there : (k : ℕ) → k < number_of p → k < length (branches p.sheet p.table p.command)
  there k l = subst (λ z. k < z) (sym (branches_counted p.sheet p.table p.command)) l

  counted : (k : ℕ) → k < length (branches p.sheet p.table p.command) → k < number_of p
  counted k l = subst (λ z. k < z) (branches_counted p.sheet p.table p.command) l

  -- the two sessions change places
  pub leak_symmetric : (a b : ℕ) → Leak p.sheet p.table p.command a b → Leak p.sheet p.table p.command b a
  leak_symmetric a b l =
      record {
        row = l.row;
        one = l.two;
        two = l.one;
        is_row = l.is_row;
        is_session_one = l.is_session_two;
        is_session_two = l.is_session_one;
        other_tenant = λ e. l.other_tenant (sym e);
        a_there = l.b_there;
        b_there = l.a_there;
        meets_a = l.meets_b;
        meets_b = l.meets_a;
      }

  pub both_leak : (a b : ℕ) → a < number_of p → b < number_of p → OtherMeets p (branch_at p a) (branch_at p b) → Leak p.sheet p.table p.command a b
  both_leak a b la lb x =
      record {
        row = x.row;
        one = x.one;
        two = x.two;
        is_row = x.is_row;
        is_session_one = x.is_one;
        is_session_two = x.is_two;
        other_tenant = x.also;
        a_there = there a la;
        b_there = there b lb;
        meets_a = x.meets_a;
        meets_b = x.meets_b;
      }

  pub leak_both : (a b : ℕ) → Leak p.sheet p.table p.command a b → OtherMeets p (branch_at p a) (branch_at p b)
  leak_both a b l =
      record {
        row = l.row;
        one = l.one;
        two = l.two;
        is_row = l.is_row;
        is_one = l.is_session_one;
        is_two = l.is_session_two;
        meets_a = l.meets_a;
        meets_b = l.meets_b;
        also = l.other_tenant;
      }

  -- a branch of a leaking pair is met
  pub leak_met : (a b : ℕ) → Leak p.sheet p.table p.command a b → Met p a
  leak_met a b l = record { row = l.row; session = l.one; is_row = l.is_row; is_session = l.is_session_one; meets = l.meets_a }

  -- a live branch is a live table
  pub live_by : (k : ℕ) → k < number_of p → Met p k → IsLive p.sheet p.table p.command
  live_by k l m = (m.row, m.session, record { is_row = m.is_row; is_session = m.is_session; admitted = branch_admits p.sheet p.table p.command (with m.row m.session) k (there k l) m.meets })

  pub none_live : ((k : ℕ) → k < number_of p → Met p k → ⊥) → IsLive p.sheet p.table p.command → ⊥
  none_live h x =
      let a = admitted_branch p.sheet p.table p.command (with x.0 x.1) x.2.admitted in
      h a.0 (counted a.0 a.1) (record { row = x.0; session = x.1; is_row = x.2.is_row; is_session = x.2.is_session; meets = a.2 })

  -- no pair (c, d) with c at most d before (a, b) leaks
  pub record Quiet (a b : ℕ) : Type 0 where
    pub earlier : (c d : ℕ) → c < a → c ≤ d → Leak p.sheet p.table p.command c d → ⊥
    pub here : (d : ℕ) → a ≤ d → d < b → Leak p.sheet p.table p.command a d → ⊥

  -- and so none before it at all, for leaking is symmetric
  pub quiet_before : (a b c d : ℕ) → Quiet a b → c < a → Leak p.sheet p.table p.command c d → ⊥
  quiet_before a b c d q l k = go (dec_lt d c)
    where
      go : Dec (d < c) → ⊥
      go (yes h) = q.earlier d c (omega arith) (omega arith) (leak_symmetric c d k)
      go (no h) = q.earlier c d l (omega arith) k

  pub quiet_here : (a b d : ℕ) → Quiet a b → d < b → Leak p.sheet p.table p.command a d → ⊥
  quiet_here a b d q l k = go (dec_lt d a)
    where
      go : Dec (d < a) → ⊥
      go (yes h) = q.earlier d a h (omega arith) (leak_symmetric a d k)
      go (no h) = q.here d (omega arith) l k

  -- "A leak is named by the first pair"
  pub leak_first : (a b : ℕ) → Quiet a b → Leak p.sheet p.table p.command a b → FirstLeak p.sheet p.table p.command a b
  leak_first a b q k = record { leak = k; no_earlier_a = λ c d l. quiet_before a b c d q l; no_earlier_b = λ d l. quiet_here a b d q l }

  pub quiet_row : (a b : ℕ) → Quiet a b → number_of p ≤ b → Quiet (a + 1) (a + 1)
  quiet_row a b q le = record { earlier = λ c d l g k. go c d l g k (ℕ_discrete c a); here = λ d g l k. absurd (omega arith) }
    where
      go : (c d : ℕ) → c < a + 1 → c ≤ d → Leak p.sheet p.table p.command c d → Dec (c ≡ a) → ⊥
      go c d l g k (yes e) = let n = counted d k.b_there in q.here d (omega arith) (omega arith) (subst (λ z. Leak p.sheet p.table p.command z d) e k)
      go c d l g k (no e) = q.earlier c d (omega arith) g k

  pub quiet_all : (a b : ℕ) → Quiet a b → number_of p ≤ a → IsIsolated p.sheet p.table p.command
  quiet_all a b q le = no_leak_isolated p.sheet p.table p.command (λ c d k. let n = counted c k.a_there in quiet_before a b c d q (omega arith) k)

  -- a branch that is met makes the table live; where none of them is, it is dead
  pub met_live : (k : ℕ) → k < number_of p → Met p k → Decides (IsLive p.sheet p.table p.command) true
  met_live k l m = record { yes = λ e. live_by k l m; no = λ e. absurd (true≢false e) }

  pub unmet_dead : (k : ℕ) → number_of p ≤ k → ((j : ℕ) → j < k → Met p j → ⊥) → Decides (IsLive p.sheet p.table p.command) false
  unmet_dead k l h = record { yes = λ e. absurd (true≢false (sym e)); no = λ e x. none_live (λ j g m. h j (omega arith) m) x }

  -- the marks: what is not judged yet is marked 1, which says nothing
  pub marked_1 : (k : ℕ) → TellsMark p k 1
  marked_1 k = record { unmet = λ e m. absurd (omega arith); anchored = λ c e. absurd (omega arith) }

  pub marks_start : Marks p (replicate 256 1)
  marks_start k l g = subst (TellsMark p k) (sym (get_or-replicate 256 k 1 0 l)) (marked_1 k)

  pub marks_next : (marks : List ℕ) (k x : ℕ) → k < length marks → TellsMark p k x → Marks p marks → Marks p (set marks k x)
  marks_next marks k x i told had j l g = go (ℕ_discrete j k)
    where
      go : Dec (j ≡ k) → TellsMark p j (get_or (set marks k x) j 0)
      go (yes e) = subst (λ n. TellsMark p n (get_or (set marks k x) n 0)) (sym e) (subst (TellsMark p k) (sym (get_or-set_same marks k x 0 i)) told)
      go (no e) = subst (TellsMark p j) (sym (get_or-set_other marks k j x 0 e)) (had j l g)

  -- two sessions that meet branches with their tenant in the same column, for one row, are of the same tenant
  pub passed_anchored : (a b : ℕ) {x y : ℕ} → TellsMark p a x → TellsMark p b y → 1 < x → x ≡ y → Decides (Leak p.sheet p.table p.command a b) false
  passed_anchored a b {x} m n z e =
      let i : x ≡ x - 2 + 2 = omega arith in
      record { yes = λ f. absurd (true≢false (sym f)); no = λ f k. k.other_tenant (sym (m.anchored (x - 2) i k.row k.one k.meets_a) ∙ n.anchored (x - 2) (sym e ∙ i) k.row k.two k.meets_b) }

  -- the answer on what is laid is the answer on the pair
  pub leaking_told : (a b : ℕ) {r : Bool} → a < number_of p → b < number_of p → Decides (OtherMeets p (branch_at p a) (branch_at p b)) r → Decides (Leak p.sheet p.table p.command a b) r
  leaking_told a b la lb x = record { yes = λ e. both_leak a b la lb (x.yes e); no = λ e k. x.no e (leak_both a b k) }
