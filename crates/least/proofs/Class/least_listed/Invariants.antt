-- The least of the values so far.
use Rattle.least.specs.Least.{FirstListed}
use Rattle.least.proofs.Class.least_listed.Given as goal

abbrev pub invariant-loop-k : goal.invariant-loop-k
invariant-loop-k l = FirstListed l.self.s.now l.self.rep.now l.self.r l.values l.low l.high l.k l.best
