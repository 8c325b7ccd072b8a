-- `admission::meeting::value_of` meets its contract. The number at the place, as its order code.
use mathlib.Core.Path.{ap, ◌∙◌}
use Rattle.meaning.specs.Values.{raw}
use Rattle.admission.proofs.meeting.value_of.Goals as goal

pub returns : goal.returns
returns c = λ k K. c.raw_of.ensures k K ∙ ap (raw k) c.peek64.ensures
