-- The highest floor of the class among the variables below v.
use Rattle.reach.specs.Choice.{Highest}
use Rattle.reach.proofs.class_floor.Given as goal

abbrev pub invariant-loop-v : goal.invariant-loop-v
invariant-loop-v l = Highest l.class.rep.now l.floor l.class.r l.v l.h
