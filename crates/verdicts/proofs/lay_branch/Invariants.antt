-- `verdicts::lay_branch` meets its contract: the permissive clause stands in front, and behind it those of the policies before p.
use Rattle.std.specs.Prelude.{◌+◌, ◌*◌, ◌<◌, ◌≤◌}
use Rattle.branches.specs.Parts.{clauses_of}
use Rattle.asked.specs.Words.{word_atoms}
use Rattle.verdicts.proofs.LayLaws.{Laying}
use Rattle.verdicts.proofs.lay_branch.Given as goal

abbrev pub invariant-loop-p : goal.invariant-loop-p
invariant-loop-p l =
    (l.m ≤ l.initial.m + 8 * l.p) × (l.q < l.p → l.m + 8 ≤ l.initial.m + 8 * l.p) × Laying (clauses_of l.sheet) l.second l.b (word_atoms l.fn.words l.n) (word_atoms l.words l.m) l.p
