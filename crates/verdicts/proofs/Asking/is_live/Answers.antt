-- `verdicts::Asking::is_live` meets its contract: nobody meets the branches before k.
use Rattle.std.proofs.Common.{arith, ◌<◌, ◌≤◌}
use Rattle.covering.proofs.CoverLaws.{below_more}
use Rattle.verdicts.specs.Questions.{number_of}
use Rattle.verdicts.proofs.LayLaws.{known}
use Rattle.verdicts.proofs.LeakLaws.{met_live, unmet_dead}
use Rattle.verdicts.proofs.Asking.is_live.Goals as goal

pub loop-k-init : goal.loop-k-init
loop-k-init c j l = absurd (omega arith)

pub returns-then-branch_met : goal.returns-then-branch_met
returns-then-branch_met c = let n = (known c.self.inside c.self.invariant c.self.view_is).number in let i = c.loop-k-test.true in
    let l : c.loop-k.k < number_of c.args.self.now = omega arith in
    met_live _ _ l ((c.branch_met.ensures l).yes c.if-branch_met.true)

pub loop-k-preserved : goal.loop-k-preserved
loop-k-preserved c = let n = (known c.self.inside c.self.invariant c.self.view_is).number in let i = c.loop-k-test.true in
    below_more _ _ c.loop-k.invariant ((c.branch_met.ensures (omega arith)).no c.if-branch_met.false)

pub returns : goal.returns
returns c = let n = (known c.self.inside c.self.invariant c.self.view_is).number in let i = c.loop-k-test.false in
    let l : number_of c.args.self.now ≤ c.loop-k.k = omega arith in
    unmet_dead _ c.loop-k.k l c.loop-k.invariant
