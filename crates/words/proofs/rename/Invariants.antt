-- The variables below the index are renamed, the others not yet.
use Rattle.std.proofs.Common.{◌≡◌, ℕ, ◌<◌, ◌≤◌, length, get_or}
use Rattle.words.specs.Ties.{renamed}
use Rattle.words.proofs.rename.Given as goal

abbrev pub invariant-loop-l : goal.invariant-loop-l
invariant-loop-l l =
    record {
      size : length l.rep ≡ 32;
      done : (w : ℕ) → w < l.l-index → get_or l.rep w 0 ≡ renamed l.a l.b (get_or l.initial.rep w 0);
      rest : (w : ℕ) → l.l-index ≤ w → get_or l.rep w 0 ≡ get_or l.initial.rep w 0;
    }
