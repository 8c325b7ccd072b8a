-- The first k values are sifted, the rest stand as they stood.
use Rattle.std.proofs.Common.{◌≡◌, ℕ, ◌≤◌, false, length, get_or}
use Rattle.least.specs.Least.{Sifts}
use Rattle.least.proofs.sift.Given as goal

abbrev pub invariant-loop-k : goal.invariant-loop-k
invariant-loop-k l = record {
  size : length l.live ≡ 8;
  rest : (j : ℕ) → l.k ≤ j → get_or l.live j false ≡ get_or l.initial.live j false;
  sifted : Sifts l.s l.i l.values l.k l.initial.live l.live;
}
