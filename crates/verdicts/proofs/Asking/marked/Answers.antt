-- `verdicts::Asking::marked` meets its contract: each mark is its branch's; what is not judged yet is 1.
use Rattle.std.proofs.Common.{arith, refl, ◌∙◌, length-set}
use Rattle.verdicts.proofs.LayLaws.{known}
use Rattle.verdicts.proofs.LeakLaws.{marks_start, marks_next}
use Rattle.verdicts.proofs.Asking.marked.Goals as goal

pub loop-k-init : goal.loop-k-init
loop-k-init c = (refl, marks_start _)

pub loop-k-preserved : goal.loop-k-preserved
loop-k-preserved c =
    let n = (known c.self.inside c.self.invariant c.self.view_is).number in
    let i = c.loop-k-test.true in
    let h = c.loop-k.invariant.0 in
    let m = c.min-k-end.ensures in
    (length-set c.loop-k.marks c.loop-k.k c.mark.result ∙ h, marks_next _ c.loop-k.marks c.loop-k.k c.mark.result (omega arith) (c.mark.ensures (omega arith)) c.loop-k.invariant.1)

pub returns : goal.returns
returns c = c.loop-k.invariant.1
