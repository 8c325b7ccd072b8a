-- Struck-out values as marks counted from a low bound: the first place without a mark is the first value that is free. Free of code; assumes nothing.
use Rattle.std.proofs.Common.{◌≡◌, ℕ, ◌+◌, ◌*◌, ◌-◌, ◌%◌, ◌≤◌, ◌<◌, Bool, true, false, List, get_or, replicate, zero, suc, Some, None, refl, sym, subst, arith, below_more}
use native.Mathlib.Decide.{ℕ_discrete}
use native.Mathlib.Nat.{not-suc-le-zero}
use Rattle.words.proofs.NeedLaws.{clash, unmarked}
use Rattle.words.specs.Meaning.{Test, Test.none_of, allows, op_at, test_at, atoms}
use Rattle.least.specs.Least.{Allowed, Of, Strikes, Marks, Gap, FirstFree}
use Rattle.least.proofs.TestLaws.{as_out}

-- the values of a class

pub marks_none : (s rep : List ℕ) (r x : ℕ) → Marks s rep r x 0 (replicate 2112 false)
marks_none s rep r x = record { free = λ j l z i d. absurd (not-suc-le-zero d); struck = λ j m. absurd (clash m (unmarked 2112 j)) }

pub marks_skip : (s rep : List ℕ) (r x i : ℕ) (marks : List Bool) → (Of s rep r i → op_at s i ≡ 2 → ⊥) → Marks s rep r x i marks → Marks s rep r x (i + 1) marks
marks_skip s rep r x i marks ne h =
    record {
      free = λ j l z. below_more (λ k. Of s rep r k → op_at s k ≡ 2 → allows (test_at s k) (x + j)) i (h.free j l z) (λ a b. absurd (ne a b));
      struck = h.struck;
    }

pub marks_add : (s rep : List ℕ) (r x i : ℕ) (old marks : List Bool) → i < atoms s → Of s rep r i → op_at s i ≡ 2 → Strikes s i x (get_or s (i * 11 + 2) 0 % 9) old marks → Marks s rep r x i old → Marks s rep r x (i + 1) marks
marks_add s rep r x i old marks li o e g h =
    record {
      free = λ j l z.
          below_more (λ k. Of s rep r k → op_at s k ≡ 2 → allows (test_at s k) (x + j)) i (h.free j l (g.free j l z).0)
          (λ a b. subst (λ (t : Test). allows t (x + j)) (sym (as_out s i e)) (g.free j l z).1);
      struck = λ j m. at j m (get_or old j false) refl;
    }
  where
    at : (j : ℕ) → get_or marks j false ≡ true → (b : Bool) → get_or old j false ≡ b → Allowed s rep r (x + j) → ⊥
    at j m true z a = h.struck j z a
    at j m false z a =
        let q : allows (none_of (get_or s (i * 11 + 2) 0 % 9) (λ k. get_or s (i * 11 + 3 + k) 0)) (x + j) = subst (λ (t : Test). allows t (x + j)) (as_out s i e) (a i li o) in
        let k = g.struck j m z in
        q k.0 k.1 k.2

-- the values from x on, where none below x are left
module _ (s rep : List ℕ) (r low high x : ℕ) (marks : List Bool) (j : ℕ) (lx : low ≤ x) (seen : (n : ℕ) → low ≤ n → Allowed s rep r n → x ≤ n) (h : Marks s rep r x (atoms s) marks)
    (g : Gap marks j) where
  pub free_past : (n : ℕ) → low ≤ n → Allowed s rep r n → x + j ≤ n
  free_past n l a = let d = seen n l a in go d (ℕ_discrete (x + j - n) 0)
    where
      go : x ≤ n → Dec (x + j - n ≡ 0) → x + j ≤ n
      go d (yes q) = omega arith
      go d (no q) =
          absurd (h.struck (n - x) (g.full (n - x) (omega (arith, q))) (subst (λ (m : ℕ). Allowed s rep r m) (let e : n ≡ x + (n - x) = omega arith in e) a))

  pub free_found : j < 2112 → x + j ≤ high → FirstFree s rep r low high (Some (x + j))
  free_found l d = (omega arith, d, (λ i li o e. h.free j l (g.free l) i li o e), free_past)

  pub free_none : high - x < j → x ≤ high → FirstFree s rep r low high None
  free_none l d = λ n ln lh a. let p = free_past n ln a in omega arith
