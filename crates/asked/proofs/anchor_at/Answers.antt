-- Only an equality of a column and key 0 is marked.
use Rattle.std.proofs.Common.{refl}
use Rattle.asked.proofs.AnchorLaws.{key_first, column_first}
use Rattle.asked.proofs.anchor_at.Goals as goal

pub returns-then-u-lt16 : goal.returns-then-u-lt16
returns-then-u-lt16 c = (c.if-u-lt16.true, λ m. key_first _ _ _ m c.if-words-i-ne0.false c.if-v-eq16.true refl)

pub returns-then-v-lt16 : goal.returns-then-v-lt16
returns-then-v-lt16 c = (c.if-v-lt16.true, λ m. column_first _ _ _ m c.if-words-i-ne0.false c.if-u-eq16.true refl)
