-- `Plan::are_all_met` meets its contract. Each policy before the one at hand is met.
use Rattle.std.proofs.Common.{arith, sym, ◌<◌}
use Rattle.admission.proofs.ManyLaws.{policy_laid, all_met, one_more, one_denies}
use Rattle.admission.proofs.plan.Plan.are_all_met.Goals as goal

pub loop-i-init : goal.loop-i-init
loop-i-init c = λ kind ps K L j l. absurd (omega arith)

pub returns-then-count-gt8 : goal.returns-then-count-gt8
returns-then-count-gt8 c = λ kind ps K L. absurd (let few = L.few c.loop-i.i (omega arith) in let is = c.from-count.ensures in omega arith)

pub loop-i-preserved : goal.loop-i-preserved
loop-i-preserved c = λ kind ps K L. one_more _ ps _ (c.loop-i.invariant kind ps K L) (c.is_one_met.ensures _ c.next_open-first.ensures.0 c.next_open-first.ensures.2 kind _ K (policy_laid kind _ _ _ _ _ ps L c.loop-i.i (omega arith) c.from-count.ensures)) c.if-not-is_one_met.false

pub returns-then-not-is_one_met : goal.returns-then-not-is_one_met
returns-then-not-is_one_met c = λ kind ps K L. let n = L.size in let l : c.loop-i.i < c.args.self.now.all = omega arith in sym (one_denies _ ps _ (omega arith) (c.is_one_met.ensures _ c.next_open-first.ensures.0 c.next_open-first.ensures.2 kind _ K (policy_laid kind _ _ _ _ _ ps L c.loop-i.i l c.from-count.ensures)) c.if-not-is_one_met.true)

pub returns : goal.returns
returns c = λ kind ps K L. let n = L.size in sym (all_met _ ps _ (omega arith) (c.loop-i.invariant kind ps K L))
