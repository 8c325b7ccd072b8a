-- After i atoms what these strike out of the class is marked.
use Rattle.least.specs.Least.{Marks}
use Rattle.least.proofs.Class.gather.Given as goal

abbrev pub invariant-loop-i : goal.invariant-loop-i
invariant-loop-i l = Marks l.self.s.now l.self.rep.now l.self.r l.x l.i l.marks
