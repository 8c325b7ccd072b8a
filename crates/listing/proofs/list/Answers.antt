-- `listing::list` meets its contract. At each turn the rows up to p are read, and the output is the admitted of them, over what was there.
use Rattle.std.proofs.Common.{arith, sym, subst}
use Rattle.meaning.specs.Sheets.{kind_of, table_at}
use Rattle.rows.specs.Held.{held}
use Rattle.listing.proofs.RowLaws.{Listing, listing_starts, laid_in, never_stuck, ready_next, listing_keeps, listing_drops, listing_ends}
use Rattle.listing.proofs.list.Goals as goal

pub loop-p-init : goal.loop-p-init
loop-p-init c = record { inside = omega arith; written = omega arith; counted = omega arith; lists = λ t command key rs q R is. (R, listing_starts c.args.a.now t command key _ _) }

pub returns-then-q-p : goal.returns-then-q-p
returns-then-q-p c = λ t command key rs q R is. let sheet = c.args.a.now in let g = c.loop-p.invariant.lists t command key rs q R is in
    absurd (never_stuck sheet t command key c.args.rows.now c.args.out.now rs q c.requires.0 is c.loop-p.p c.loop-p.at c.loop-p.count c.loop-p.out g.1 c.args.form.now c.loop-p-test.true (held c.loop-p.vars) (held c.row_at-q.new.vars) c.row_at-q.result
    (c.row_at-q.ensures.3 sheet (table_at sheet t) g.0.first g.0.fields) c.row_at-q.ensures.0 c.if-q-p.true)

pub loop-p-preserved-then-is_admitted : goal.loop-p-preserved-then-is_admitted
loop-p-preserved-then-is_admitted c = record {
  inside = omega arith;
  written = omega arith;
  counted = omega arith;
  lists = λ t command key rs q R is. let sheet = c.args.a.now in let g = c.loop-p.invariant.lists t command key rs q R is in
      let read = c.row_at-q.ensures.3 sheet (table_at sheet t) g.0.first g.0.fields in (
        ready_next sheet t command key c.args.rows.now c.args.out.now rs q c.requires.0 is c.loop-p.p c.loop-p.at c.loop-p.count c.loop-p.out g.1 c.args.form.now c.loop-p-test.true (held c.loop-p.vars) (held c.row_at-q.new.vars) c.row_at-q.result read c.if-q-p.false _ (omega arith) g.0,
        subst (Listing sheet t command key _ _ _ _ _) (sym c.copy.ensures) (
            listing_keeps sheet t command key c.args.rows.now c.args.out.now rs q c.requires.0 is c.loop-p.p c.loop-p.at c.loop-p.count c.loop-p.out g.1 c.args.form.now c.loop-p-test.true (held c.loop-p.vars) (held c.row_at-q.new.vars) c.row_at-q.result read c.if-q-p.false _ (omega arith) g.0
            (c.is_admitted.ensures (kind_of sheet) _ _ g.0.kind (laid_in sheet t command _ c.bytes-s.ensures.packed g.0.laid)) (omega arith) c.if-is_admitted.true),
      );
}

pub loop-p-preserved : goal.loop-p-preserved
loop-p-preserved c = record {
  inside = omega arith;
  written = omega arith;
  counted = omega arith;
  lists = λ t command key rs q R is. let sheet = c.args.a.now in let g = c.loop-p.invariant.lists t command key rs q R is in
      let read = c.row_at-q.ensures.3 sheet (table_at sheet t) g.0.first g.0.fields in (
        ready_next sheet t command key c.args.rows.now c.args.out.now rs q c.requires.0 is c.loop-p.p c.loop-p.at c.loop-p.count c.loop-p.out g.1 c.args.form.now c.loop-p-test.true (held c.loop-p.vars) (held c.row_at-q.new.vars) c.row_at-q.result read c.if-q-p.false _ (omega arith) g.0,
        listing_drops sheet t command key c.args.rows.now c.args.out.now rs q c.requires.0 is c.loop-p.p c.loop-p.at c.loop-p.count c.loop-p.out g.1 c.args.form.now c.loop-p-test.true (held c.loop-p.vars) (held c.row_at-q.new.vars) c.row_at-q.result read c.if-q-p.false _ (omega arith) g.0
            (c.is_admitted.ensures (kind_of sheet) _ _ g.0.kind (laid_in sheet t command _ c.bytes-s.ensures.packed g.0.laid)) c.if-is_admitted.false,
      );
}

pub returns-after-loop-p : goal.returns-after-loop-p
returns-after-loop-p c = λ t command key rs q R is. let g = c.loop-p.invariant.lists t command key rs q R is in listing_ends c.args.a.now t command key _ _ rs q c.requires.0 is _ _ _ _ g.1 c.loop-p-test.false
