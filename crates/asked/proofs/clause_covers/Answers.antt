use Rattle.std.proofs.Common.{◌≡◌, length, arith, rules}
use Rattle.meaning.specs.Views.{clause_of}
use Rattle.asked.proofs.Laying.{unmapped, no_atom}
use Rattle.asked.proofs.CoverLaws.{implied_more, implied_all, implied_not}
use Rattle.asked.proofs.clause_covers.Goals as goal

pub loop-i-preserved : goal.loop-i-preserved
loop-i-preserved c =
    let p = c.args.p in
    let len : length p.atoms ≡ 8 = search (rules, unmapped) in
    implied_more _ p.atoms _ c.loop-i.i no_atom _ (omega arith) c.if-not-implies.false c.implies.ensures c.loop-i.invariant

pub returns-then-not-implies : goal.returns-then-not-implies
returns-then-not-implies c =
    let a = c.args in
    implied_not _ a.p (clause_of a.q) c.loop-i.i c.min-i-end.result no_atom _ (search (rules, unmapped)) c.loop-i-test.true c.min-i-end.ensures c.if-not-implies.true c.implies.ensures

pub returns : goal.returns
returns c =
    let a = c.args in
    implied_all _ a.p (clause_of a.q) c.loop-i.i c.min-i-end.result (search (rules, unmapped)) (omega arith) c.min-i-end.ensures c.loop-i.invariant
