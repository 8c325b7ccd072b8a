use Rattle.std.proofs.Common.{◌≡◌, ◌+◌, length, drop, arith, ap, ◌∙◌}
use Rattle.std.proofs.lemmas.Slice.{between_to_end}
use Rattle.script.specs.Words.{ends_word, word_length}
use Rattle.script.proofs.WordLaws.{found}
use Rattle.script.proofs.split_word.Goals as goal

pub returns-in-Some-clause-rest : goal.returns-in-Some-clause-rest
returns-in-Some-clause-rest c =
    let s = c.args.text.now in
    let f = found ends_word 0 s c.in-Some.n c.in-Some.ensures in
    let e : c.in-Some.n ≡ word_length s = omega arith in
    between_to_end s (c.in-Some.n + 1) (length s) (omega arith) ∙ ap (λ k. drop (k + 1) s) e
