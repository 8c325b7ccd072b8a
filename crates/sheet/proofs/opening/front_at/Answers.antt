-- `sheet::opening::front_at` meets its contract: kinds of columns, kinds of keys, tables, one after the other.
use Rattle.std.proofs.Common.{◌∙◌}
use Rattle.meaning.specs.Reading.{kind, table}
use Rattle.values.specs.Reads.{answered}
use Rattle.values.proofs.ReadLaws.{handed, got, lost, goes_on, ends}
use Rattle.clauses.proofs.TurnLaws.{times_length}
use Rattle.sheet.proofs.OpeningLaws.{columns_stop, keys_stop, front_of, front_is}
use Rattle.sheet.proofs.opening.front_at.Goals as goal

pub returns-in_err-columns : goal.returns-in_err-columns
returns-in_err-columns c = (
  c.requires.1,
  λ m p N e. handed _ _ c.from_residual.ensures.1 (columns_stop N _ p (lost (c.in_err-columns.ensures p e))),
)

pub returns-in_err-kinds : goal.returns-in_err-kinds
returns-in_err-kinds c = (
  c.requires.1,
  λ m p N e.
      let g = got (c.in_ok-columns.ensures p e) in
      handed _ _ c.from_residual-in_err-kinds.ensures.1 (keys_stop N _ p g.read (lost (c.in_err-kinds.ensures g.place g.here))),
)

pub returns-in_err-next : goal.returns-in_err-next
returns-in_err-next c = (
  c.in_err-next.ensures.0,
  λ m p N e.
      let g = got (c.in_ok-columns.ensures p e) in
      let h = got (c.in_ok-kinds.ensures g.place g.here) in
      handed _ _ c.from_residual-in_err-next.ensures.1 (front_of N _ p g.read h.read ∙ ends _ (c.in_err-next.ensures.1 h.place h.here)),
)

pub returns : goal.returns
returns c = (
  c.in_ok-next.ensures.0,
  λ m p N e.
      let g = got (c.in_ok-columns.ensures p e) in
      let h = got (c.in_ok-kinds.ensures g.place g.here) in
      let t = c.in_ok-next.ensures.1 h.place h.here in
      answered record {
        item = _;
        place = t.place;
        read = front_of N _ p g.read h.read ∙ goes_on _ t;
        here = t.here;
        holds =
            front_is _ _ _ _ _ g.item h.item t.item _ g.holds h.holds (times_length kind c.args.s.now _ p _ _ g.read) (times_length kind c.args.s.now _ g.place _ _ h.read)
            (times_length (table c.args.n.columns) c.args.s.now _ h.place _ _ t.read) c.requires.0.columns c.requires.0.tables t.holds;
      },
)
