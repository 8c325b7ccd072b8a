-- `sheet::policy_fields::policies_at` meets its contract. The loop's invariant: the first i policies were found, and stand in the book.
use Rattle.std.proofs.Common.{◌≡◌, refl, ◌∙◌, arith}
use Rattle.lists.proofs.BoolLaws.{every_more}
use Rattle.meaning.specs.Reading.{policy}
use Rattle.values.specs.Reads.{answered}
use Rattle.values.proofs.ReadLaws.{handed, got, lost}
use Rattle.clauses.proofs.TurnLaws.{times_length, turns_none, turns_more, turns_lost, turns_done}
use Rattle.sheet.specs.Fronts.{policy_serves}
use Rattle.sheet.proofs.PolicyLaws.{kept_none, kept_then, front_kept, policies_none, policies_more}
use Rattle.sheet.proofs.policy_fields.policies_at.Goals as goal

pub loop-i-init : goal.loop-i-init
loop-i-init c = record { kept = kept_none _ _; found = λ facts o F l e. turns_none (policy facts) c.args.s.now o _ e (policies_none _ _ _, refl) }

pub policy_at-requires : goal.policy_at-requires
policy_at-requires c = omega (arith, c.loop-i.invariant.kept.length)

pub shape_of-book-in_err-served : goal.shape_of-book-in_err-served
shape_of-book-in_err-served c = c.in_err-served.ensures.0.length ∙ c.loop-i.invariant.kept.length

pub returns-in_err-served : goal.returns-in_err-served
returns-in_err-served c = (
  kept_then c.loop-i.invariant.kept (omega arith) c.in_err-served.ensures.0,
  λ facts p F l e.
      let g = c.loop-i.invariant.found facts p F l e in
      handed _ _ c.from_residual.ensures.1
      (turns_lost (policy facts) c.args.s.now c.loop-i.i p g _ (lost (c.in_err-served.ensures.1 facts g.place (front_kept (omega arith) c.loop-i.invariant.kept F) l g.here)) c.loop-i-test.true),
)

pub loop-i-preserved : goal.loop-i-preserved
loop-i-preserved c =
    let l = c.loop-i in
    let s = c.args.s.now in
    let k = c.in_ok-served.ensures in
    record {
      kept = kept_then l.invariant.kept (omega arith) k.0;
      found = λ facts p F n e.
          let g = l.invariant.found facts p F n e in
          let h = got (k.1 facts g.place (front_kept (omega arith) l.invariant.kept F) n g.here) in
          turns_more (policy facts) s l.i p g _ h.read h.here (
            policies_more l.i (times_length (policy facts) s l.i p g.item g.place g.read) k.0 g.holds.0 h.holds.0,
            every_more (policy_serves facts) g.item h.item g.holds.1 h.holds.1,
          );
    }

pub shape_of-book : goal.shape_of-book
shape_of-book c = c.loop-i.invariant.kept.length

pub returns : goal.returns
returns c = (
  c.loop-i.invariant.kept,
  λ facts p F l e.
      let done : c.loop-i.i ≡ c.args.count = omega arith in
      answered (turns_done (policy facts) c.args.s.now c.loop-i.i p (c.loop-i.invariant.found facts p F l e) _ _ done (λ xs h. h)),
)
