-- `sheet::opening::kinds_at` meets its contract. The loop's invariant: the first i kinds were found, and stand by their numbers from `from` on.
use Rattle.std.proofs.Common.{◌+◌, ◌<◌, ◌≡◌, length, length-set, rules, arith}
use Rattle.meaning.specs.Reading.{kind}
use Rattle.values.specs.Reads.{answered}
use Rattle.values.proofs.ReadLaws.{handed, got, lost}
use Rattle.clauses.proofs.TurnLaws.{turns_more, turns_lost, turns_done, times_length}
use Rattle.sheet.proofs.FrontLaws.{kinds_more}
use Rattle.sheet.proofs.opening.kinds_at.Goals as goal

pub returns-in_err-kind : goal.returns-in_err-kind
returns-in_err-kind c p e =
    let g = c.loop-i.invariant.found p e in
    handed _ _ c.from_residual.ensures.1 (turns_lost kind c.args.s.now _ p g _ (lost (c.in_err-kind.ensures g.place g.here)) c.loop-i-test.true)

pub loop-i-preserved : goal.loop-i-preserved
loop-i-preserved c = record {
  room = simp length-set (search rules);
  found = λ p e.
      let room : c.args.from + c.loop-i.i < length c.loop-i.kinds = omega arith in
      let g = c.loop-i.invariant.found p e in
      let h = got (c.in_ok-kind.ensures g.place g.here) in
      turns_more kind c.args.s.now c.loop-i.i p g _ h.read h.here (kinds_more c.args.from _ c.loop-i.kinds g.item c.loop-i.i h.item _ g.holds (times_length kind c.args.s.now _ p g.item g.place g.read) room h.holds);
}

pub returns : goal.returns
returns c p e =
    let done : c.loop-i.i ≡ c.args.count = omega arith in
    answered (turns_done kind c.args.s.now _ p (c.loop-i.invariant.found p e) _ _ done (λ xs h. h))
