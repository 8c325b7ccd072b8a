-- `verdicts::Asking::first_pair` meets its contract: at the head of each loop no earlier pair leaks, nothing has been found, and branch a is laid.
use Rattle.std.specs.Prelude.{◌≡◌, false, map}
use Rattle.meaning.specs.declared.Isolation.TheVariants.{Isolated}
use Rattle.asked.specs.Words.{word_atoms, seen}
use Rattle.verdicts.specs.Questions.{branch_at}
use Rattle.verdicts.proofs.LeakLaws.{Quiet}
use Rattle.verdicts.proofs.Asking.first_pair.Given as goal

abbrev pub invariant-loop-b : goal.invariant-loop-b
invariant-loop-b l = (l.found ≡ Isolated) × (word_atoms l.words l.laid ≡ map (seen false) (branch_at l.self l.a)) × Quiet l.self l.a l.b

abbrev pub invariant-search : goal.invariant-search
invariant-search l = (l.found ≡ Isolated) × Quiet l.self l.a l.a
