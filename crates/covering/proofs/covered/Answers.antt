-- `covering::covered` meets its contract: none of the clauses before i covers the clause.
use Rattle.std.proofs.Common.{arith, ◌<◌, length, [], get_or}
use Rattle.lists.specs.Decides.{Decides}
use Rattle.meaning.specs.Questions.{ClauseCovers}
use Rattle.meaning.specs.Views.{clause_of}
use Rattle.asked.specs.Asked.{Ranges, Uses, every_column}
use Rattle.covering.specs.Covering.{clauses_at}
use Rattle.covering.proofs.CoverLaws.{below_more, covers_told, covered_by, none_covers}
use Rattle.covering.proofs.covered.Goals as goal
use Rattle.covering.proofs.covered.Goals.{After-clause_covers}

there : (c : After-clause_covers) → c.loop-i.i < length (clauses_at c.args.sheet.now c.args.a)
there c = let n = c.clause_count-i-end.ensures.number in let l = c.loop-i-test.true in omega arith

told : (c : After-clause_covers) → Ranges c.args.sheet.now c.args.top → Uses (every_column c.args.sheet.now) c.args.sheet.now (clause_of c.args.q) →
    Decides (ClauseCovers c.args.sheet.now (get_or (clauses_at c.args.sheet.now c.args.a) c.loop-i.i []) (clause_of c.args.q)) c.clause_covers.result
told c = let a = c.args in covers_told a.sheet.now c.clause_count-i-end.ensures.allowed a.a c.loop-i.i (there c) (clause_of a.q) (c.clause-p.ensures (there c)) c.clause_covers.ensures

pub loop-i-init : goal.loop-i-init
loop-i-init c ranges uses j l = absurd (omega arith)

pub returns-then-clause_covers : goal.returns-then-clause_covers
returns-then-clause_covers c ranges uses = let s = (goal.at.returns-then-clause_covers c).After-clause_covers in let a = c.args in
    covered_by a.sheet.now a.a (clause_of a.q) c.loop-i.i (there s) ((told s ranges uses).yes c.if-clause_covers.true)

pub loop-i-preserved : goal.loop-i-preserved
loop-i-preserved c ranges uses = below_more _ _ (c.loop-i.invariant ranges uses) ((told (goal.at.loop-i-preserved c).After-clause_covers ranges uses).no c.if-clause_covers.false)

pub returns : goal.returns
returns c ranges uses = let n = c.clause_count-i-end.ensures.number in let l = c.loop-i-test.false in let a = c.args in
    none_covers a.sheet.now a.a (clause_of a.q) c.loop-i.i (omega arith) (c.loop-i.invariant ranges uses)
