-- `branches::count` meets its contract: at policy p the sum and the product are those of the policies before it.
use Rattle.std.proofs.Common.{◌*◌, ◌^◌, ◌≤◌}
use Rattle.branches.proofs.CountLaws.{Counted}
use Rattle.branches.proofs.count.Given as goal

abbrev pub invariant-loop-p : goal.invariant-loop-p
invariant-loop-p l = (l.sum ≤ 8 * l.p) × (l.product ≤ 8 ^ l.p) × Counted l.roles l.counts l.p l.sum l.product
