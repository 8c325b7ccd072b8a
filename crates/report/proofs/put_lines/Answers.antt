-- The first n lines are written.
use Rattle.std.proofs.Common.{arith, refl, ◌∙◌}
use Rattle.report.proofs.LineLaws.{lines_start, lines_step}
use Rattle.report.proofs.put_lines.Goals as goal

pub loop-n-init : goal.loop-n-init
loop-n-init c = record { short = record { same = refl; short = omega arith; lent = refl }; text = lines_start _ _ }

pub loop-n-preserved : goal.loop-n-preserved
loop-n-preserved c =
    let i = c.loop-n.invariant in
    let w = c.put_line.ensures in
    record {
      short = record { same = w.short.same ∙ i.short.same; short = omega arith; lent = w.short.lent ∙ i.short.lent };
      text = lines_step _ c.loop-n.n i.text (w.text c.tables.ensures.allowed (omega arith) (omega arith));
    }
