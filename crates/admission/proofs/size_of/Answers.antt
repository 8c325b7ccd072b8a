-- `admission::size_of` meets its contract. The operator's number decides in the code as in the definition.
use Rattle.std.proofs.Common.{◌+◌, ◌*◌, ◌%◌, arith, sym, ap, ◌∙◌}
use borrow.Author.Tests.{eq-eqb, ne_eqb, lt-ltb, le-ltb}
use Rattle.admission.specs.Plan.{size_of}
use Rattle.admission.proofs.size_of.Goals as goal

pub returns-in-0 : goal.returns-in-0
unfolding size_of
returns-in-0 c = (sym (simp (eq-eqb (c.args.w % 16) 0 c.in-0.is)), omega arith)

pub returns-in-1 : goal.returns-in-1
unfolding size_of
returns-in-1 c = (ap (λ n. 13 + 64 * n) c.from.ensures ∙ sym (simp (ne_eqb (c.args.w % 16) 0 (λ z. omega arith), lt-ltb (c.args.w % 16) 3 (omega arith))), omega arith)

pub returns-in-3-to-6 : goal.returns-in-3-to-6
unfolding size_of
returns-in-3-to-6 c = (sym (simp (ne_eqb (c.args.w % 16) 0 (λ z. omega arith), le-ltb (c.args.w % 16) 3 (omega arith), lt-ltb (c.args.w % 16) 7 (omega arith))), omega arith)

pub returns-in_default : goal.returns-in_default
unfolding size_of
returns-in_default c = (sym (simp (ne_eqb (c.args.w % 16) 0 (λ z. omega arith), le-ltb (c.args.w % 16) 3 (omega arith), le-ltb (c.args.w % 16) 7 (omega arith))), omega arith)
