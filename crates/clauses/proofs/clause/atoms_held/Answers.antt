-- `clauses::clause::atoms_held` meets its contract. The loop's invariant: the first atoms were found, and the set was asked for each of them.
use Rattle.std.proofs.Common.{◌≡◌, refl, ap, ◌∙◌, arith}
use Rattle.lists.proofs.BoolLaws.{every_more}
use Rattle.meaning.specs.Reading.{atom}
use Rattle.values.specs.Reads.{answered}
use Rattle.values.proofs.ReadLaws.{handed, got, lost}
use Rattle.clauses.specs.Facts.{atom_held}
use Rattle.clauses.proofs.TurnLaws.{turns_none, turns_more, turns_lost, turns_done}
use Rattle.clauses.proofs.clause.atoms_held.Goals as goal

pub loop-init : goal.loop-init
loop-init c facts o F e = turns_none (atom facts) c.args.s.now o _ e refl

pub returns-in_err-atom : goal.returns-in_err-atom
returns-in_err-atom c facts p F e =
    let g = c.loop.invariant facts p F e in
    handed _ _ c.from_residual.ensures.1 (turns_lost (atom facts) c.args.s.now _ p g _ (lost (c.in_err-atom.ensures facts g.place F g.here)) c.loop-test.true)

pub loop-preserved : goal.loop-preserved
loop-preserved c facts p F e =
    let g = c.loop.invariant facts p F e in
    let h = got (c.in_ok-atom.ensures facts g.place F g.here) in
    turns_more (atom facts) c.args.s.now c.loop.counter p g _ h.read h.here (every_more (atom_held c.args.columns) g.item h.item g.holds (c.atom_held-held.ensures ∙ ap (atom_held c.args.columns) h.holds))

pub returns : goal.returns
returns c facts p F e =
    let done : c.loop.counter ≡ c.args.count = omega arith in
    answered (turns_done (atom facts) c.args.s.now _ p (c.loop.invariant facts p F e) _ _ done (λ xs h. h))
