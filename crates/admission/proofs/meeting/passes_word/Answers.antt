-- `admission::meeting::passes_word` meets its contract. The operator's number picks the same test in the code and in the definition.
use Rattle.admission.specs.Plan.{variable_of, operator_of_word}
use Rattle.admission.proofs.WordLaws.{listed_passes, unlisted_passes, null_test_passes, bound_passes}
use Rattle.admission.proofs.meeting.passes_word.Goals as goal

pub returns-then-is_listed : goal.returns-then-is_listed
unfolding operator_of_word
returns-then-is_listed c = λ kinds e K z. listed_passes e _ _ _ _ _ z c.if-op-lt3.true (c.is_listed.ensures _ K) c.if-is_listed.true

pub returns-then-op-lt3 : goal.returns-then-op-lt3
unfolding operator_of_word
returns-then-op-lt3 c = λ kinds e K z. unlisted_passes e _ _ _ _ _ z c.if-op-lt3.true (c.is_listed.ensures _ K) c.if-is_listed.false

pub returns-then-op-lt7 : goal.returns-then-op-lt7
returns-then-op-lt7 c = λ kinds e K z. bound_passes kinds e c.args.s.now c.args.w c.args.p c.args.x (λ u ns. c.is_in_order.ensures e u ns c.if-op-lt3.false c.if-op-lt7.true) (c.value_of.ensures (kinds (variable_of c.args.w)) K)

pub returns : goal.returns
unfolding operator_of_word
returns c = λ kinds e K z. null_test_passes e _ _ _ _ _ c.if-op-lt7.false
