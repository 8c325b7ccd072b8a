-- An equality by its two variables; every other atom stays.
use Rattle.std.proofs.Common.{◌∙◌, sym, arith}
use borrow.Author.Tests.{lt-ltb, le-ltb}
use Rattle.meaning.specs.Views.{atom_of}
use Rattle.steps.proofs.AtomLaws.{atom_by, orient_other, orient_self, orient_turned, orient_same}
use Rattle.steps.proofs.EachLaws.{less_numbers, equal_numbers, more_numbers}
use Rattle.steps.proofs.atoms.orient_atom.Goals as goal

pub returns-then-a-ne0 : goal.returns-then-a-ne0
returns-then-a-ne0 c = orient_other c.args.a c.if-a-ne0.true

pub returns-in-Less : goal.returns-in-Less
returns-in-Less c =
    let h = less_numbers c.args.a.variable c.args.a.other (sym c.cmp.ensures ∙ c.in-Less.is) in
    orient_same c.args.a c.if-a-ne0.false (λ e. omega (arith, h, e)) (le-ltb _ _ (omega (arith, h)))

pub returns-in-Equal : goal.returns-in-Equal
unfolding atom_of
returns-in-Equal c = orient_self c.args.a c.if-a-ne0.false (equal_numbers _ _ (sym c.cmp.ensures ∙ c.in-Equal.is))

pub returns-in-Greater : goal.returns-in-Greater
unfolding atom_of
returns-in-Greater c =
    let h = more_numbers c.args.a.variable c.args.a.other (sym c.cmp.ensures ∙ c.in-Greater.is) in
    atom_by _ 0 c.if-a-ne0.false ∙ orient_turned c.args.a c.if-a-ne0.false (λ e. omega (arith, h, e)) (lt-ltb _ _ h)
