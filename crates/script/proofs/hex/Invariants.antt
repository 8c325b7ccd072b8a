-- The bytes put so far, and behind them what stood there.
use Rattle.std.proofs.Common.{◌≡◌, ◌++◌, take, drop}
use Rattle.script.specs.Spelt.{hex_bytes}
use Rattle.script.proofs.hex.Given as goal

abbrev pub invariant-loop-i : goal.invariant-loop-i
invariant-loop-i l = l.out ≡ take l.i (hex_bytes l.word) ++ drop l.i l.initial.out
