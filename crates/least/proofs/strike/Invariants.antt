-- The atom's first values are marked.
use Rattle.least.specs.Least.{Strikes}
use Rattle.least.proofs.strike.Given as goal

abbrev pub invariant-loop-v : goal.invariant-loop-v
invariant-loop-v l = Strikes l.s l.i l.x l.v-index l.initial.marks l.marks
