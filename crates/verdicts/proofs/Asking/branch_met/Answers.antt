-- `verdicts::Asking::branch_met` meets its contract: the branch is laid alone.
use Rattle.verdicts.proofs.LayLaws.{known, met_told}
use Rattle.verdicts.proofs.Asking.branch_met.Goals as goal

pub returns : goal.returns
returns c l = met_told (known c.self.inside c.self.invariant c.self.view_is) c.lay_at-n.new.words c.lay_at-n.result l (c.lay_at-n.ensures.atoms l) c.meets.ensures
