-- After i atoms those are left that pass the lists among these.
use Rattle.std.proofs.Common.{◌≡◌, length}
use Rattle.least.specs.Least.{Lives}
use Rattle.least.proofs.Class.sift_all.Given as goal

abbrev pub invariant-loop-i : goal.invariant-loop-i
invariant-loop-i l = record { size : length l.live ≡ 8; lives : Lives l.self.s.now l.self.rep.now l.self.r l.values l.low l.high l.i l.live }
