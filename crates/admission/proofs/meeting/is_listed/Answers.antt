-- `admission::meeting::is_listed` meets its contract. A value is among values exactly when its bits are among theirs.
use mathlib.Core.Path.{ap, ◌∙◌}
use lib.Dec.{eqb}
use Rattle.lists.specs.Lists.{any}
use Rattle.bits.specs.Bits.{numbers}
use Rattle.meaning.specs.Values.{raw}
use Rattle.admission.proofs.WordLaws.{among_bits}
use Rattle.admission.proofs.meeting.is_listed.Goals as goal

pub returns : goal.returns
returns c = λ k K.
    c.spells.ensures
    ∙ ap (λ y. any (eqb y) (numbers c.args.s.now c.args.from c.from.result)) (c.raw_of.ensures k K)
    ∙ ap (λ n. any (eqb (raw k c.args.x)) (numbers c.args.s.now c.args.from n)) c.from.ensures
    ∙ among_bits k _ _ _ _
