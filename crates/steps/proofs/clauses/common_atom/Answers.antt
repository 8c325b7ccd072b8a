-- An in-list is left with the common values; the others stay.
use Rattle.std.proofs.Common.{◌∙◌, ap, map}
use Rattle.lists.specs.Lists.{keep}
use Rattle.meaning.specs.Steps.{is_common}
use Rattle.meaning.specs.Views.{atom_of}
use Rattle.steps.proofs.AtomLaws.{share_other, share_with}
use Rattle.steps.proofs.clauses.common_atom.Goals as goal

pub returns-then-a-ne1 : goal.returns-then-a-ne1
returns-then-a-ne1 c = share_other _ c.args.a c.if-a-ne1.true

pub returns : goal.returns
returns c =
    let w = c.with_list.ensures in
    share_with (map atom_of c.args.atoms.now) c.args.a c.with_list.result c.if-a-ne1.false w.variable w.operator
    (w.list ∙ c.common_values.ensures ∙ ap (keep (is_common (map atom_of c.args.atoms.now) c.args.a.variable)) c.list_of.ensures.list)
