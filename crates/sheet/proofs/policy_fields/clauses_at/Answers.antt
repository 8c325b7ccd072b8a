-- `sheet::policy_fields::clauses_at` meets its contract. The loop's invariant: the first i clauses were found where the book says.
use Rattle.std.proofs.Common.{◌+◌, ◌*◌, ◌<◌, ◌≤◌, ◌≡◌, refl, ◌∙◌, length, arith}
use lib.Seq.{get_or-set_same}
use Rattle.lists.specs.Lists.{every}
use Rattle.lists.proofs.BoolLaws.{every_more}
use Rattle.meaning.specs.Reading.{clause}
use Rattle.values.specs.Reads.{answered}
use Rattle.values.proofs.ReadLaws.{handed, got, lost}
use Rattle.clauses.specs.Facts.{atom_held}
use Rattle.clauses.proofs.TurnLaws.{times_length, turns_none, turns_more, turns_lost, turns_done}
use Rattle.sheet.proofs.PolicyLaws.{clause_inside, kept_none, kept_set, kept_then, starts_none, starts_more}
use Rattle.sheet.proofs.policy_fields.clauses_at.Goals as goal

pub loop-i-init : goal.loop-i-init
loop-i-init c = record { kept = kept_none _ _; found = λ facts o F l e. turns_none (clause facts) c.args.s.now o _ e (starts_none _ _ _ _, refl) }

pub shape_of-book-in_err-all : goal.shape_of-book-in_err-all
shape_of-book-in_err-all c = c.loop-i.invariant.kept.length

pub returns-in_err-all : goal.returns-in_err-all
returns-in_err-all c = (
  c.loop-i.invariant.kept,
  λ facts p F l e.
      let g = c.loop-i.invariant.found facts p F l e in
      handed _ _ c.from_residual.ensures.1 (turns_lost (clause facts) c.args.s.now c.loop-i.i p g _ (lost (c.in_err-all.ensures facts g.place F g.here)) c.loop-i-test.true),
)

pub bounds-book-from : goal.bounds-book-from
bounds-book-from c = omega (arith, c.loop-i.invariant.kept.length)

pub loop-i-preserved : goal.loop-i-preserved
loop-i-preserved c =
    let a = c.args in
    let l = c.loop-i in
    let s = a.s.now in
    let room : a.from + l.i < length l.book = omega (arith, l.invariant.kept.length) in
    record {
      kept = kept_then l.invariant.kept (omega arith) (kept_set a.from l.book (a.from + l.i) c.bit_of.result (omega arith));
      found = λ facts p F n e.
          let g = l.invariant.found facts p F n e in
          let h = got (c.in_ok-all.ensures facts g.place F g.here) in
          let inside : g.place ≤ length s * 8 = clause_inside facts s g.place h.item h.place h.read in
          let near : g.place ≤ 131072 = omega arith in
          turns_more (clause facts) s l.i p g _ h.read h.here (
            starts_more a.from l.i g.place (times_length (clause facts) s l.i p g.item g.place g.read) (kept_set (a.from + l.i) l.book (a.from + l.i) c.bit_of.result (omega arith)) g.holds.0
                (get_or-set_same l.book (a.from + l.i) c.bit_of.result 0 room ∙ c.bit_of.ensures g.place g.here near) h.read,
            every_more (every (atom_held a.columns)) g.item h.item g.holds.1 h.holds,
          );
    }

pub shape_of-book : goal.shape_of-book
shape_of-book c = c.loop-i.invariant.kept.length

pub returns : goal.returns
returns c = (
  c.loop-i.invariant.kept,
  λ facts p F l e.
      let done : c.loop-i.i ≡ c.args.count = omega arith in
      answered (turns_done (clause facts) c.args.s.now c.loop-i.i p (c.loop-i.invariant.found facts p F l e) _ _ done (λ xs h. h)),
)
