-- `verdicts::lay_branch` meets its contract: the permissive clause stands in front, and behind it those of the policies before p.
use Rattle.std.proofs.Common.{arith, ◌≡◌, ◌+◌, ◌≤◌}
use Rattle.verdicts.proofs.LayLaws.{room, laying_starts, laying_skips, laying_more, laying_ends}
use Rattle.verdicts.proofs.lay_branch.Goals as goal
use Rattle.verdicts.proofs.lay_branch.Goals.{then-p-q, else-p-q}

pub loop-p-init : goal.loop-p-init
loop-p-init c = (omega arith, (λ l. omega arith), laying_starts c.lay_clause-m.ensures.atoms)

pub lay_clause-m-requires-then-p-q : goal.lay_clause-m-requires-then-p-q
lay_clause-m-requires-then-p-q c = let l = c.loop-p in
    let h = room _ _ _ _ _ c.loop-p-test.true c.requires.0 c.if-p-q.true c.lay_clause-m.ensures.count l.invariant.0 l.invariant.1 in
    let w = c.loop-p.auto.words in let f = c.lay_clause-m.auto.words in let g = c.requires.1 in
    omega arith

pub loop-p-preserved : goal.loop-p-preserved
loop-p-preserved c = let l = c.loop-p in
    elim c.if-p-q.branch [
      | then-p-q w ↦ let n = w.lay_clause-m-then-p-q.ensures.count in let ne = w.if-p-q.true in
          rw (w.m-is, w.words-is) (omega (arith, l.invariant.0), (λ k. let h = l.invariant.1 (omega arith) in omega arith), laying_more ne w.lay_clause-m-then-p-q.ensures.atoms l.invariant.2)
      | else-p-q w ↦ let e = w.if-p-q.false in
          rw (w.m-is, w.words-is) (omega (arith, l.invariant.0), (λ k. omega (arith, l.invariant.0)), laying_skips e l.invariant.2)
    ]

pub returns : goal.returns
returns c = let e : c.loop-p.p ≡ 16 = omega arith in
    let l : c.loop-p.m ≤ c.args.n + 128 = let h = c.loop-p.invariant.1 (omega arith) in omega arith in
    record { count = l; atoms = laying_ends e c.loop-p.invariant.2 }
