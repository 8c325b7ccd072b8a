-- `branches::digits_of` meets its contract: the slots from place p on hold the last digits of k, and `rest` is what is left of it.
use Rattle.std.proofs.Common.{refl, ◌∙◌, arith, replicate}
use Rattle.branches.proofs.PickLaws.{going_starts, going_more, going_ends}
use Rattle.branches.proofs.digits_of.Goals as goal

pub loop-p-init : goal.loop-p-init
loop-p-init c = going_starts _ _ _ (replicate 16 8) refl

pub loop-p-preserved : goal.loop-p-preserved
loop-p-preserved c =
    going_more _ _ _ _ _ _ _ _ _ _ (omega arith) (omega arith) c.factor_of.ensures.0 (λ l. omega arith) (λ e. c.slot.ensures.0 e ∙ c.left_by.ensures) c.slot.ensures.1 c.over-rest.ensures c.loop-p.invariant

pub returns : goal.returns
returns c = going_ends _ _ _ _ _ _ (omega arith) c.loop-p.invariant
