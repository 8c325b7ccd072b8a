-- The places below v have the last value of their kind.
use Rattle.std.proofs.Common.{◌≡◌, ℕ, ◌<◌, length, get_or}
use Rattle.asked.specs.Asked.{last_of, kind_place}
use Rattle.asked.proofs.tops.Given as goal

abbrev pub invariant-loop-v : goal.invariant-loop-v
invariant-loop-v l = record { size : length l.last-items ≡ 32; lasts : (w : ℕ) → w < l.v → get_or l.last-items w 0 ≡ last_of (get_or l.kinds (kind_place w) 0) }
