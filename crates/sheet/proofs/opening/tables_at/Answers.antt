-- `sheet::opening::tables_at` meets its contract. The loop's invariant: the first i tables were found, and the book holds them.
use Rattle.std.proofs.Common.{length-set, arith}
use Rattle.meaning.specs.Reading.{table}
use Rattle.values.proofs.ReadLaws.{got, lost}
use Rattle.clauses.proofs.TurnLaws.{turns_more, turns_lost, times_length}
use Rattle.sheet.proofs.FrontLaws.{ends_handed, tables_more}
use Rattle.sheet.proofs.opening.tables_at.Goals as goal

pub returns-in_err-table : goal.returns-in_err-table
returns-in_err-table c = (
  c.loop-i.invariant.room,
  λ p e.
      let g = c.loop-i.invariant.found p e in
      ends_handed _ _ _ c.from_residual.ensures.1 (turns_lost (table c.args.c) c.args.s.now _ p g _ (lost (c.in_err-table.ensures g.place g.here)) c.loop-i-test.true),
)

pub loop-i-preserved : goal.loop-i-preserved
loop-i-preserved c = record {
  room = simp length-set c.loop-i.invariant.room;
  found = λ p e.
      let g = c.loop-i.invariant.found p e in
      let h = got (c.in_ok-table.ensures g.place g.here) in
      turns_more (table c.args.c) c.args.s.now c.loop-i.i p g _ h.read h.here
      (tables_more c.loop-i.book c.loop-i.i _ _ _ (omega arith) g.item g.holds (times_length (table c.args.c) c.args.s.now _ p g.item g.place g.read) h.holds);
}
