use Rattle.std.proofs.Common.{rules}
use Rattle.std.proofs.lemmas.List.{places}
use Rattle.asked.proofs.Laying.{laid_so}
use Rattle.asked.proofs.lay_atom.Goals as goal

pub returns : goal.returns
returns c =
    let a = c.args in
    laid_so a.words.now _ a.n a.a.now a.second c.slot.result c.third.result (search rules) c.requires c.slot.ensures c.third.ensures
    (λ i d. search (rules, places)) (λ k d. search (rules, places))
