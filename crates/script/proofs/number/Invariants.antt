-- The digits read so far, and then those that are left, are the word's.
use Rattle.std.proofs.Common.{◌≡◌, ◌%◌, ◌^◌, ◌<◌, drop}
use Rattle.script.specs.Spelt.{digits_behind, decimal_of}
use Rattle.script.proofs.number.Given as goal

abbrev pub invariant-loop-b : goal.invariant-loop-b
invariant-loop-b l = (l.n < 10 ^ 17) × (digits_behind l.n (drop l.b-index l.word) % 10 ^ 17 ≡ decimal_of l.word)
