-- `admission::laying::other_at` meets its contract. The operator's number decides in the code as in the definition.
use Rattle.std.proofs.Common.{◌+◌, arith, sym, ◌∙◌}
use borrow.Author.Tests.{eq-eqb, ne_eqb, lt-ltb}
use Rattle.bits.proofs.Laws.{number_lt}
use Rattle.admission.proofs.laying.other_at.Goals as goal

pub returns-in-0 : goal.returns-in-0
returns-in-0 c = let l = number_lt c.args.s.now (c.args.p + 9) 5 in let is = c.peek.ensures in (c.peek.ensures ∙ sym (simp (eq-eqb c.args.op 0 c.in-0.is)), omega arith)

pub returns-in-1 : goal.returns-in-1
returns-in-1 c = let l = number_lt c.args.s.now (c.args.p + 9) 4 in let is = c.peek-in-1.ensures in (
  c.peek-in-1.ensures ∙ sym (simp (ne_eqb c.args.op 0 (λ z. omega arith), lt-ltb c.args.op 3 (omega arith))),
  omega arith,
)
