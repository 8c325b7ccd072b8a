-- `clauses::clause::some_atoms` meets its contract. The loop's invariant: the first i atoms were found, and the array begins with them.
use Rattle.std.proofs.Common.{◌<◌, ◌≡◌, refl, length, length-set, rules, arith}
use Rattle.meaning.specs.Reading.{atom}
use Rattle.meaning.specs.Views.{atom_of}
use Rattle.values.specs.Reads.{answered}
use Rattle.values.proofs.ReadLaws.{handed, got, lost}
use Rattle.clauses.proofs.TurnLaws.{turns_none, turns_more, turns_lost, turns_done, map_more}
use Rattle.clauses.proofs.clause.some_atoms.Goals as goal

pub loop-i-init : goal.loop-i-init
loop-i-init c = record { room = search rules; found = λ facts o F e. turns_none (atom facts) c.args.s.now o _ e refl }

pub returns-in_err-atom : goal.returns-in_err-atom
returns-in_err-atom c facts p F e =
    let g = c.loop-i.invariant.found facts p F e in
    handed _ _ c.from_residual.ensures.1 (turns_lost (atom facts) c.args.s.now _ p g _ (lost (c.in_err-atom.ensures facts g.place F g.here)) c.loop-i-test.true)

pub loop-i-preserved : goal.loop-i-preserved
loop-i-preserved c = record {
  room = simp length-set (search rules);
  found = λ facts p F e.
      let room : c.loop-i.i < length c.loop-i.atoms = omega arith in
      let g = c.loop-i.invariant.found facts p F e in
      let h = got (c.in_ok-atom.ensures facts g.place F g.here) in
      turns_more (atom facts) c.args.s.now c.loop-i.i p g _ h.read h.here (map_more atom_of c.loop-i.atoms c.loop-i.i _ room g.holds h.holds);
}

pub returns : goal.returns
returns c facts p F e =
    let done : c.loop-i.i ≡ c.args.count = omega arith in
    answered (turns_done (atom facts) c.args.s.now _ p (c.loop-i.invariant.found facts p F e) _ _ done (λ xs h. rw (← done) h))
