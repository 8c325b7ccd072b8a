-- `clauses::atoms::some_values` meets its contract. The loop's invariant: the first i values were found, and the array begins with them.
use Rattle.std.proofs.Common.{◌<◌, ◌≡◌, refl, length, length-set, rules, arith}
use Rattle.meaning.specs.Reading.{value}
use Rattle.values.specs.Reads.{answered}
use Rattle.values.proofs.ReadLaws.{handed, got, lost}
use Rattle.clauses.proofs.TurnLaws.{turns_none, turns_more, turns_lost, turns_done, take_more}
use Rattle.clauses.proofs.atoms.some_values.Goals as goal

pub loop-i-init : goal.loop-i-init
loop-i-init c = record { room = search rules; found = λ k o K e. turns_none (value k) c.args.s.now o _ e refl }

pub returns-in_err-value : goal.returns-in_err-value
returns-in_err-value c k p K e =
    let g = c.loop-i.invariant.found k p K e in
    handed _ _ c.from_residual.ensures.1 (turns_lost (value k) c.args.s.now _ p g _ (lost (c.in_err-value.ensures k g.place K g.here)) c.loop-i-test.true)

pub loop-i-preserved : goal.loop-i-preserved
loop-i-preserved c = record {
  room = simp length-set (search rules);
  found = λ k p K e.
      let room : c.loop-i.i < length c.loop-i.values = omega arith in
      let g = c.loop-i.invariant.found k p K e in
      let h = got (c.in_ok-value.ensures k g.place K g.here) in
      turns_more (value k) c.args.s.now c.loop-i.i p g _ h.read h.here (take_more c.loop-i.values c.loop-i.i _ room g.holds h.holds);
}

pub returns : goal.returns
returns c k p K e =
    let done : c.loop-i.i ≡ c.args.count = omega arith in
    answered (turns_done (value k) c.args.s.now _ p (c.loop-i.invariant.found k p K e) _ _ done (λ xs h. rw (← done) h))
