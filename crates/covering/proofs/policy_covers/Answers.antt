-- `covering::policy_covers` meets its contract: the clauses of b before i are spared.
use Rattle.std.proofs.Common.{arith, ◌<◌, length}
use Rattle.lists.specs.Decides.{Decides}
use Rattle.meaning.specs.Questions.{LiveClause}
use Rattle.covering.specs.Covering.{clauses_at, CoveredBy}
use Rattle.covering.proofs.CoverLaws.{below_more, Spared, told_of, all_spared, one_left}
use Rattle.covering.proofs.policy_covers.Goals as goal
use Rattle.covering.proofs.policy_covers.Goals.{After-spared}

there : (c : After-spared) → c.loop-i.i < length (clauses_at c.args.sheet.now c.args.b)
there c = let n = c.clause_count-i-end.ensures.number in let l = c.loop-i-test.true in omega arith

told : (c : After-spared) → Decides (Spared c.args.sheet.now c.args.a c.args.b c.loop-i.i) c.spared.result
told c = let a = c.args in
    told_of a.sheet.now c.clause_count-i-end.ensures.allowed a.b c.loop-i.i (there c) (λ z. LiveClause a.sheet.now z → CoveredBy a.sheet.now a.a z) (c.clause.ensures (there c)) (c.spared.ensures (c.tops-top.ensures a.sheet.now c.kinds.ensures))

pub loop-i-init : goal.loop-i-init
loop-i-init c j l = absurd (omega arith)

pub loop-i-preserved : goal.loop-i-preserved
loop-i-preserved c = below_more _ _ c.loop-i.invariant ((told (goal.at.loop-i-preserved c).After-spared).yes c.if-not-spared.false)

pub returns-then-not-spared : goal.returns-then-not-spared
returns-then-not-spared c = let s = (goal.at.returns-then-not-spared c).After-spared in one_left c.args.sheet.now c.args.a c.args.b c.loop-i.i (there s) ((told s).no c.if-not-spared.true)

pub returns : goal.returns
returns c = let n = c.clause_count-i-end.ensures.number in let l = c.loop-i-test.false in all_spared c.args.sheet.now c.args.a c.args.b c.loop-i.i (omega arith) c.loop-i.invariant
