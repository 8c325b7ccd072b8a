-- After i atoms the labels tell which variables those atoms tie.
use Rattle.std.proofs.Common.{arith}
use Rattle.std.proofs.lemmas.Grind.{common_steps}
use Rattle.words.proofs.ClassLaws.{classes_skip, classes_left, classes_right}
use Rattle.words.proofs.classes_of.Goals as goal
use Rattle.words.proofs.classes_of.Goals.{then-a-b, else-a-b+then-b-a, else-a-b+else-b-a}

pub loop-i-preserved : goal.loop-i-preserved
loop-i-preserved c =
    let h = c.loop-i.invariant in
    let v = c.var_at.ensures in
    let p = c.mate_at.ensures in
    record {
      size = elim c.if-a-b.branch [ then-a-b w ↦ grind (arith, common_steps) | else-a-b+then-b-a w ↦ grind (arith, common_steps) | else-a-b+else-b-a w ↦ grind (arith, common_steps) ];
      labels = elim c.if-a-b.branch [
        | then-a-b w ↦ rw w.rep-is (classes_left _ _ _ _ _ _ v.0 p.0 v.1 p.1 c.loop-i-test.true h.labels w.rename.ensures)
        | else-a-b+then-b-a w ↦ rw w.rep-is (classes_right _ _ _ _ _ _ v.0 p.0 v.1 p.1 c.loop-i-test.true h.labels w.rename-then-b-a.ensures)
        | else-a-b+else-b-a w ↦ rw w.rep-is (classes_skip _ _ _ _ _ v.0 p.0 (omega arith) h.labels)
      ];
    }
