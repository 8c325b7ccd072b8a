-- `sheet::opening::kinds_at` meets its contract. The loop's invariant: the first i kinds were found, and stand by their numbers from `from` on.
use Rattle.std.proofs.Common.{ℕ, ◌≡◌, length}
use Rattle.bits.specs.Fields.{place_at}
use Rattle.meaning.specs.Reading.{times, kind}
use Rattle.values.specs.Reads.{Got}
use Rattle.sheet.specs.Fronts.{KindsPut}
use Rattle.sheet.proofs.opening.kinds_at.Given as goal

abbrev pub invariant-loop-i : goal.invariant-loop-i
invariant-loop-i l = record {
  room : length l.kinds ≡ 24;
  found : (o : ℕ) → l.initial.p ≡ place_at o → Got (times l.i kind l.s o) (KindsPut l.from l.initial.kinds l.kinds) l.p;
}
