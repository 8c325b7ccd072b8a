-- By the variable, then by the operator.
use Rattle.std.proofs.Common.{◌≡◌, ◌∙◌, sym, ap, not, ℕ, Bool, true, false, refl}
use lib.Dec.{eqb}
use borrow.Author.Tests.{eq-eqb, eqb-true}
use Rattle.steps.proofs.AtomLaws.{spare_away, spare_none, spare_list}
use Rattle.steps.proofs.clauses.allows.Goals as goal
use Rattle.steps.proofs.clauses.allows.Goals.{then-a-v, else-a-v}

same : (m n : ℕ) → not (eqb m n) ≡ false → m ≡ n
same m n h = go (eqb m n) refl h
  where
    go : (b : Bool) → eqb m n ≡ b → not b ≡ false → m ≡ n
    go true e h = eqb-true m n e
    go false e h = cc

alike : (m n : ℕ) → not (eqb m n) ≡ false → (m ≡ n → ⊥) → ⊥
alike m n h k = k (same m n h)

differ : (m n : ℕ) → not (eqb m n) ≡ true → m ≡ n → ⊥
differ m n h e = let t : false ≡ true = sym (ap not (eq-eqb m n e)) ∙ h in cc

pub returns-then-a-ne1 : goal.returns-then-a-ne1
returns-then-a-ne1 c =
    elim c.if-a-v.branch [
      | then-a-v w ↦ c.if-a-ne1.true ∙ spare_away c.args.a.now c.args.v c.args.n w.if-a-v.true
      | else-a-v w ↦ c.if-a-ne1.true ∙ spare_none c.args.a.now c.args.v c.args.n w.if-a-v.false (differ _ _ (sym w.value-is ∙ c.if-a-ne1.true))
    ]

pub returns-else-a-ne1 : goal.returns-else-a-ne1
returns-else-a-ne1 c =
    elim c.if-a-v.branch [
      | then-a-v w ↦ absurd (alike _ _ (sym w.value-is ∙ c.if-a-ne1.false) w.if-a-v.true)
      | else-a-v w ↦ c.is_among.ensures ∙ spare_list c.args.a.now c.args.v c.args.n w.if-a-v.false (same _ _ (sym w.value-is ∙ c.if-a-ne1.false))
    ]
