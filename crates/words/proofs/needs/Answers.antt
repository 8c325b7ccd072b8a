-- An atom that wants a value marks its two variables.
use Rattle.std.proofs.Common.{arith, sym}
use Rattle.std.proofs.lemmas.Grind.{common_steps}
use Rattle.words.proofs.NeedLaws.{needs_skip, needs_add}
use Rattle.words.proofs.needs.Goals as goal
use Rattle.words.proofs.needs.Goals.{then-wanting, else-wanting}

pub loop-i-preserved : goal.loop-i-preserved
loop-i-preserved c =
    let h = c.loop-i.invariant in
    record {
      size = elim c.if-wanting.branch [ then-wanting w ↦ grind (arith, common_steps) | else-wanting w ↦ grind (arith, common_steps) ];
      marked = elim c.if-wanting.branch [
        | then-wanting w ↦ rw w.need-is (needs_add _ _ _ _ _ _ w.var_at.ensures.0 w.mate_at.ensures.0 (omega arith) (omega arith) c.loop-i-test.true (sym w.if-wanting.ensures) h.marked)
        | else-wanting w ↦ rw w.need-is (needs_skip _ _ _ _ h.marked (sym w.if-wanting.ensures))
      ];
    }
