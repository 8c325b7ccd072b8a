-- `verdicts::Asking::marked` meets its contract: each mark is its branch's; what is not judged yet is 1.
use Rattle.std.specs.Prelude.{◌≡◌, length}
use Rattle.verdicts.specs.Questions.{Marks}
use Rattle.verdicts.proofs.Asking.marked.Given as goal

abbrev pub invariant-loop-k : goal.invariant-loop-k
invariant-loop-k l = (length l.marks ≡ 256) × Marks l.self l.marks
