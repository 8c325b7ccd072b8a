-- After i atoms the labels tell which variables those atoms tie.
use Rattle.std.proofs.Common.{◌≡◌, length}
use Rattle.words.specs.Ties.{Classes}
use Rattle.words.proofs.classes_of.Given as goal

abbrev pub invariant-loop-i : goal.invariant-loop-i
invariant-loop-i l = record { size : length l.rep ≡ 32; labels : Classes l.s l.i l.rep }
