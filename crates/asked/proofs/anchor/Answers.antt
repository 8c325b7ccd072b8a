-- The first column that an atom equates with key 0 is the clause's.
use Rattle.asked.proofs.AnchorLaws.{anchors_at}
use Rattle.asked.proofs.anchor.Goals as goal

pub returns-in-Some : goal.returns-in-Some
returns-in-Some c = anchors_at _ _ _ _ c.loop-i-test.true c.in-Some.ensures
