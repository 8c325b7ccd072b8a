-- No more cases than lines have come so far, and no more lines than bytes.
use Rattle.std.proofs.Common.{◌+◌, ◌≤◌, length}
use Rattle.cases.proofs.run_cases.Given as goal

abbrev pub invariant-loop-i : goal.invariant-loop-i
invariant-loop-i g l = l.passed + l.failed ≤ length l.yielded
