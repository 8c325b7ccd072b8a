-- `verdicts::Asking::mark` meets its contract: the branch is laid alone, and its mark is that of its atoms where it can be met.
use Rattle.verdicts.proofs.LayLaws.{known, marked_met, marked_unmet}
use Rattle.verdicts.proofs.Asking.mark.Goals as goal

pub returns-then-meets : goal.returns-then-meets
returns-then-meets c l = marked_met (known c.self.inside c.self.invariant c.self.view_is) c.lay_at-n.new.words c.lay_at-n.result l (c.lay_at-n.ensures.atoms l) c.anchor.ensures

pub returns : goal.returns
returns c l = marked_unmet (known c.self.inside c.self.invariant c.self.view_is) c.lay_at-n.new.words c.lay_at-n.result l (c.lay_at-n.ensures.atoms l) c.meets.ensures c.if-meets.false
