-- By the operator's number.
use Rattle.std.proofs.Common.{arith, ℕ, ap, ◌∙◌, ltb}
use Rattle.lists.specs.Lists.{ascend}
use Rattle.meaning.specs.Atoms.{at_most, at_least, order}
use Rattle.meaning.specs.Steps.{on}
use Rattle.steps.proofs.AtomLaws.{tighten_at, tighten_other, tighten_list}
use Rattle.steps.proofs.atoms.tighten_atom.Goals as goal

pub returns-in-5 : goal.returns-in-5
returns-in-5 c = c.with_bound.ensures ∙ ap (λ (n : ℕ). on c.args.a.variable (order at_most n)) c.saturating_sub.ensures ∙ tighten_at c.args.a 5 c.in-5.is

pub returns-in-6 : goal.returns-in-6
returns-in-6 c = c.with_bound-in-6.ensures ∙ ap (λ (n : ℕ). on c.args.a.variable (order at_least n)) c.saturating_add.ensures ∙ tighten_at c.args.a 6 c.in-6.is

pub returns-in-1 : goal.returns-in-1
returns-in-1 c =
    let w = c.with_list.ensures in
    tighten_list c.args.a c.with_list.result w.variable w.operator (omega arith) (omega arith) (w.list ∙ c.ascend_values.ensures ∙ ap (ascend ltb) c.list_of.ensures.list)

pub returns-in_default : goal.returns-in_default
returns-in_default c = tighten_other c.args.a (λ e. omega (arith, e)) (λ e. omega (arith, e)) (λ e. omega (arith, e)) (λ e. omega (arith, e))

pub returns-in_default-2 : goal.returns-in_default-2
returns-in_default-2 c = tighten_other c.args.a (λ e. omega (arith, e)) (λ e. omega (arith, e)) (λ e. omega (arith, e)) (λ e. omega (arith, e))
