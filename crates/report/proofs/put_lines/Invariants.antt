-- The first n lines are written.
use Rattle.std.proofs.Common.{◌*◌}
use Rattle.text.specs.Wrote.{Extends}
use Rattle.report.specs.Lines.{Writes, FirstLines}
use Rattle.report.proofs.put_lines.Given as goal

abbrev pub invariant-loop-n : goal.invariant-loop-n
invariant-loop-n l = record { short : Extends l.initial.out (l.n * 97) l.out; text : Writes (FirstLines l.sheet l.n) l.initial.out l.out }
