-- `admission::laying::guard_with` meets its contract. The operator's number decides in the code as in the definition.
use Rattle.std.proofs.Common.{arith, sym, ◌∙◌}
use borrow.Author.Tests.{eq-eqb, ne_eqb}
use Rattle.admission.proofs.laying.guard_with.Goals as goal

pub returns-then-word-eq0 : goal.returns-then-word-eq0
returns-then-word-eq0 c = (omega arith, c.from.ensures ∙ sym (simp (eq-eqb _ 0 c.if-word-eq0.true)))

pub returns : goal.returns
returns c = (omega arith, sym (simp (ne_eqb _ 0 c.if-word-eq0.false)))
