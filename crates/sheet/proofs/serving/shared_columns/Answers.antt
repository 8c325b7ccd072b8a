-- `sheet::serving::shared_columns` meets its contract. The loop's invariant: the set is what the tables before t ask for.
use Rattle.std.proofs.Common.{◌≡◌, ◌<◌, cond, ap, ◌∙◌, length, bit_and, arith}
use Rattle.std.proofs.lemmas.Grind.{common_steps}
use Rattle.meaning.specs.Sheets.{matches}
use Rattle.meaning.specs.Sheets as sheets
use Rattle.sheet.proofs.SelectorLaws.{answer_of, told}
use Rattle.sheet.proofs.ServeLaws.{shared_none, shared_more}
use Rattle.sheet.proofs.serving.shared_columns.Goals as goal

pub loop-t-init : goal.loop-t-init
loop-t-init c facts x p q F e S = shared_none facts x

pub loop-t-preserved : goal.loop-t-preserved
loop-t-preserved c facts x p q F e S =
    let l : c.loop-t.t < length facts.tables = omega (arith, c.loop-t-test.true, F.facts.tables) in
    let is = c.table_of-table.ensures (omega (arith, l, F.few)) ∙ F.tables c.loop-t.t l in
    let m = told (c.selector_at-chosen.ensures facts p F.facts.columns F.facts.tables e) S ∙ ap (λ z. matches c.loop-t.t z x) is in
    let new : c.match-chosen.shared ≡ cond (answer_of c.selector_at-chosen.result) (bit_and c.loop-t.shared c.table_of-table.result.columns) c.loop-t.shared = grind (arith, common_steps) in
    shared_more facts x c.loop-t.t c.loop-t.shared (c.loop-t.invariant facts x p q F e S) m (ap (λ (z : sheets.Table). z.columns) is) new
