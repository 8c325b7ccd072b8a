-- `sheet::opening::held_below` meets its contract. The loop's invariant: no column before i is held at or above c.
use Rattle.std.proofs.Common.{sym}
use Rattle.sheet.proofs.ServeLaws.{below_test, below_held, above_held, not_held, number_passes, number_fails}
use Rattle.sheet.proofs.opening.held_below.Goals.{else-is_member-via-then-is_member+else-c-i, else-is_member-via-else-is_member}
use Rattle.sheet.proofs.opening.held_below.Goals as goal

pub returns-then-c-i : goal.returns-then-c-i
returns-then-c-i c =
    sym (number_fails (below_test c.args.c c.args.columns) 16 c.loop-i.i c.loop-i-test.true c.loop-i.invariant (above_held c.args.c c.args.columns c.loop-i.i c.is_member.ensures c.if-is_member.true c.if-c-i.true))

pub loop-i-preserved : goal.loop-i-preserved
loop-i-preserved c =
    number_passes (below_test c.args.c c.args.columns) 16 c.loop-i.i c.loop-i-test.true c.loop-i.invariant
    (elim c.else-is_member.branch [
      | else-is_member-via-then-is_member+else-c-i w ↦ below_held c.args.c c.args.columns c.loop-i.i c.is_member.ensures w.if-is_member.true w.if-c-i.false
      | else-is_member-via-else-is_member w ↦ not_held c.args.c c.args.columns c.loop-i.i c.is_member.ensures w.if-is_member.false
    ])
