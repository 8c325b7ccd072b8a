-- The variables below v that are needed have the least value of their class.
use Rattle.std.proofs.Common.{arith}
use Rattle.std.proofs.lemmas.Grind.{common_steps}
use Rattle.reach.proofs.ChoiceLaws.{choosing_skip, choosing_stuck, choosing_add, choices}
use Rattle.reach.proofs.settle.Goals as goal
use Rattle.reach.proofs.settle.Goals.{then-need-v+in_ok-x, else-need-v}

pub returns-in_err-x : goal.returns-in_err-x
returns-in_err-x c =
    let h = c.loop-v.invariant in
    rw c.from_residual.ensures
    (choosing_stuck _ _ _ _ c.classes_of-rep.ensures c.loop-v.x c.loop-v.v c.loop-v-test.true h.size h.choosing c.if-need-v.true (c.in_err-x.ensures h.choosing.chosen))

pub loop-v-preserved : goal.loop-v-preserved
loop-v-preserved c =
    let h = c.loop-v.invariant in
    record {
      size = elim c.if-need-v.branch [ then-need-v+in_ok-x w ↦ grind (arith, common_steps) | else-need-v w ↦ grind (arith, common_steps) ];
      choosing = elim c.if-need-v.branch [
        | then-need-v+in_ok-x w ↦ rw w.x-is (choosing_add _ _ _ _ c.classes_of-rep.ensures _ _ c.loop-v-test.true h.size h.choosing _ (w.in_ok-x.ensures h.choosing.chosen))
        | else-need-v w ↦ rw w.x-is (choosing_skip _ _ _ _ c.classes_of-rep.ensures _ _ c.loop-v-test.true h.size h.choosing w.if-need-v.false)
      ];
    }

pub returns : goal.returns
returns c = choices _ _ _ _ c.classes_of-rep.ensures c.loop-v.x c.loop-v.v c.loop-v-test.false c.requires c.loop-v.invariant.choosing
