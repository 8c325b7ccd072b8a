-- A bit number is a byte number and a bit number.
use mathlib.Core.Path.{◌∙◌}
use native.Mathlib.Nat.{div-add-mod'}
use Rattle.bits.proofs.peek64.Goals as goal

pub returns : goal.returns
returns c = c.word.ensures ∙ rw (div-add-mod' c.args.p 8)
