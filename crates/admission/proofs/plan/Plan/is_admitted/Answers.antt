-- `Plan::is_admitted` meets its contract. "A row is admitted when a permissive policy is met and every restrictive one is met."
use Rattle.std.proofs.Common.{◌∙◌, refl, sym}
use Rattle.admission.proofs.ManyLaws.{opens, none_met, second_decides, first_fails}
use Rattle.admission.proofs.plan.Plan.is_admitted.Goals as goal

pub returns-then-self-first : goal.returns-then-self-first
returns-then-self-first c = λ kind cs ps K L. first_fails _ (sym (none_met kind _ _ _ _ _ _ cs L.permissive _ c.if-self-first.true (opens kind _ _ _ _ _ _ cs L.permissive _ c.next_open-first.ensures.2))) refl

pub returns-then-is_one_met : goal.returns-then-is_one_met
returns-then-is_one_met c = λ kind cs ps K L. second_decides _ (c.is_one_met.ensures _ c.next_open-first.ensures.0 c.next_open-first.ensures.2 kind cs K L.permissive) c.if-is_one_met.true (c.are_all_met.ensures kind ps K L.restrictive)

pub returns-else-is_one_met : goal.returns-else-is_one_met
returns-else-is_one_met c = λ kind cs ps K L. c.if-is_one_met.false ∙ first_fails _ (c.is_one_met.ensures _ c.next_open-first.ensures.0 c.next_open-first.ensures.2 kind cs K L.permissive) c.if-is_one_met.false
