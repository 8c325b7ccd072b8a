-- Eight bytes, the first the most significant, are the run of 64 bits that they begin.
use Rattle.std.proofs.Common.{◌∙◌}
use Rattle.bits.proofs.WordLaws.{eight_is}
use Rattle.bits.proofs.eight.Goals as goal

pub returns : goal.returns
returns c = c.from_be_bytes.ensures ∙ eight_is c.args.s.now c.args.at (λ i. (c.type_inv.s i).fits)
