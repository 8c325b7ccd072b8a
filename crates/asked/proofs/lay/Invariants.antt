-- The clause's first i atoms are laid.
use Rattle.std.proofs.Common.{◌≡◌, ◌+◌, ◌++◌, map, length, take}
use Rattle.meaning.specs.Views.{atom_of}
use Rattle.asked.specs.Words.{seen, word_atoms}
use Rattle.asked.proofs.lay.Given as goal

abbrev pub invariant-loop-i : goal.invariant-loop-i
invariant-loop-i l =
    record {
      size : length l.words ≡ length l.initial.words;
      laid : word_atoms l.words (l.n + l.i) ≡ word_atoms l.initial.words l.n ++ map (seen l.second) (map atom_of (take l.i l.c.atoms));
    }
