-- After i atoms the range is that of the class's atoms among these.
use Rattle.least.specs.Least.{Spans}
use Rattle.least.proofs.Class.span.Given as goal

abbrev pub invariant-loop-i : goal.invariant-loop-i
invariant-loop-i l = Spans l.self.s.now l.self.rep.now l.self.r l.start l.i l.t
