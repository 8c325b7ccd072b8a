-- Two contents differ where one is null and the other is not, or where they are different values.
use Rattle.std.proofs.Common.{Bool, sym, ◌∙◌, subst}
use Rattle.words.proofs.NeedLaws.{clash}
use Rattle.reach.specs.Solution.{NullBeside}
use Rattle.reach.proofs.SplitLaws.{parts_by}
use Rattle.reach.proofs.Conjunction.differ_with_null.Goals as goal
use Rattle.reach.proofs.Conjunction.differ_with_null.Goals.{then-beside_null, else-beside_null}

pub returns-else-beside_null-2 : goal.returns-else-beside_null-2
returns-else-beside_null-2 c =
    elim c.if-beside_null.branch [
      | then-beside_null w ↦ absurd (clash (w.value-is ∙ w.if-beside_null.true) c.if-beside_null-2.false)
      | else-beside_null w ↦ parts_by _ _ _ _ w.if-beside_null.ensures
          (subst (λ (b : Bool). NullBeside c.args.self.now.s.now c.args.self.now.top.now c.args.w c.args.u b) (sym w.value-is ∙ c.if-beside_null-2.false) w.beside_null-else-beside_null.ensures)
          _ c.apart.ensures
    ]
