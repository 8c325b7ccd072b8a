-- `rows::judging::are_rows` meets its contract. At each turn the rows up to p are of the form, and the rest of the list is the definition's; a row of no bits never ends it.
use Rattle.std.proofs.Common.{arith, sym, true≢false}
use Rattle.rows.proofs.RowLaws.{ends_within}
use Rattle.rows.proofs.ListLaws.{judging_starts, judged_long, judged_lost, judged_stuck, judged_all, judging_on}
use Rattle.rows.proofs.judging.are_rows.Goals as goal

pub returns-then-s-gt65536 : goal.returns-then-s-gt65536
returns-then-s-gt65536 c = (λ e. absurd (true≢false (sym e)), λ sheet t F. judged_long sheet t _ c.if-s-gt65536.true)

pub loop-p-init : goal.loop-p-init
loop-p-init c = record { small = omega arith; judging = λ sheet t F. judging_starts sheet t _ }

pub returns-in_default : goal.returns-in_default
returns-in_default c = (λ e. absurd (true≢false (sym e)), λ sheet t F. judged_lost sheet t _ _ c.if-s-gt65536.false (c.loop-p.invariant.judging sheet t F) c.loop-p-test.true _ (c.row_end.ensures.1 sheet t F) c.in_default.is)

pub returns-then-q-p : goal.returns-then-q-p
returns-then-q-p c = let w = ends_within _ _ _ c.in-Some.is c.row_end.ensures.0 in
    (λ e. absurd (true≢false (sym e)), λ sheet t F. judged_stuck sheet t _ _ c.if-s-gt65536.false (c.loop-p.invariant.judging sheet t F) c.loop-p-test.true _ (c.row_end.ensures.1 sheet t F) c.in-Some.is w.0 c.if-q-p.true)

pub loop-p-preserved : goal.loop-p-preserved
loop-p-preserved c = let w = ends_within _ _ _ c.in-Some.is c.row_end.ensures.0 in
    record {
      small = omega arith;
      judging = λ sheet t F. judging_on sheet t _ _ c.if-s-gt65536.false (c.loop-p.invariant.judging sheet t F) c.loop-p-test.true _ (c.row_end.ensures.1 sheet t F) c.in-Some.is c.if-q-p.false;
    }

pub returns : goal.returns
returns c = (λ e. c.if-s-gt65536.false, λ sheet t F. judged_all sheet t _ _ c.if-s-gt65536.false (c.loop-p.invariant.judging sheet t F) c.loop-p-test.false)
