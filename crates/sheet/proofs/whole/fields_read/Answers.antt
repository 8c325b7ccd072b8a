-- `sheet::whole::fields_read` meets its contract: counts, front and policies as the definition reads them, the sheet's end, and 11.
use Rattle.std.proofs.Common.{sym, ap, ◌∙◌}
use Rattle.meaning.specs.Reading.{times, policy}
use Rattle.values.proofs.ReadLaws.{got, lost}
use Rattle.clauses.proofs.TurnLaws.{answers_by, times_length}
use Rattle.sheet.proofs.WholeLaws.{sheet_stops, sheet_lost, sheet_served, sheet_unserved, served_so, counts_stop, front_stop, policies_stop, fields_open, fields_found, described_so, wholly}
use Rattle.sheet.proofs.whole.fields_read.Goals as goal

pub returns-in_err-counts : goal.returns-in_err-counts
returns-in_err-counts c = sheet_stops _ _ _ _ c.from_residual.ensures.1 (sheet_lost c.args.s.now c.requires.0 (counts_stop c.args.s.now (lost c.in_err-counts.ensures.read)))

pub returns-in_err-facts : goal.returns-in_err-facts
returns-in_err-facts c =
    let n = got c.in_ok-counts.ensures.read in
    sheet_stops _ _ _ _ c.from_residual-in_err-facts.ensures.1 (sheet_lost c.args.s.now c.requires.0 (front_stop c.args.s.now n.read (lost (c.in_err-facts.ensures.1 n.item n.place n.holds n.here))))

pub returns-in_err-served : goal.returns-in_err-served
returns-in_err-served c =
    let n = got c.in_ok-counts.ensures.read in
    let f = got (c.in_ok-facts.ensures.1 n.item n.place n.holds n.here) in
    let ps = answers_by (ap (λ x. times x (policy f.item) c.args.s.now f.place) (sym n.holds.policies)) (c.in_err-served.ensures.1 f.item f.place f.holds c.requires.0 f.here) in
    sheet_stops _ _ _ _ c.from_residual-in_err-served.ensures.1 (sheet_lost c.args.s.now c.requires.0 (policies_stop c.args.s.now n.read f.read (lost ps)))

pub closes-requires : goal.closes-requires
closes-requires c = c.requires.0

pub returns-then-not-closes : goal.returns-then-not-closes
returns-then-not-closes c =
    let n = got c.in_ok-counts.ensures.read in
    let f = got (c.in_ok-facts.ensures.1 n.item n.place n.holds n.here) in
    let p = got (answers_by (ap (λ x. times x (policy f.item) c.args.s.now f.place) (sym n.holds.policies)) (c.in_ok-served.ensures.1 f.item f.place f.holds c.requires.0 f.here)) in
    sheet_lost c.args.s.now c.requires.0 (fields_open c.args.s.now n.read f.read p.read (c.if-not-closes.ensures p.place p.here))

pub returns-then-not-served : goal.returns-then-not-served
returns-then-not-served c =
    let n = got c.in_ok-counts.ensures.read in
    let f = got (c.in_ok-facts.ensures.1 n.item n.place n.holds n.here) in
    let p = got (answers_by (ap (λ x. times x (policy f.item) c.args.s.now f.place) (sym n.holds.policies)) (c.in_ok-served.ensures.1 f.item f.place f.holds c.requires.0 f.here)) in
    sheet_unserved c.args.s.now c.requires.0 (fields_found c.args.s.now n.read f.read p.read (c.if-not-closes.ensures p.place p.here)) (sym (served_so f.item p.item p.holds.1) ∙ c.if-not-served.true)

pub returns : goal.returns
returns c =
    let n = got c.in_ok-counts.ensures.read in
    let f = got (c.in_ok-facts.ensures.1 n.item n.place n.holds n.here) in
    let p = got (answers_by (ap (λ x. times x (policy f.item) c.args.s.now f.place) (sym n.holds.policies)) (c.in_ok-served.ensures.1 f.item f.place f.holds c.requires.0 f.here)) in
    record {
      sheet = wholly f.item p.item;
      end = _;
      read = sheet_served c.args.s.now c.requires.0 (fields_found c.args.s.now n.read f.read p.read (c.if-not-closes.ensures p.place p.here)) (sym (served_so f.item p.item p.holds.1) ∙ c.if-not-served.false);
      described = described_so f.holds c.in_ok-served.ensures.0 p.holds.0
          (n.holds.policies ∙ sym (times_length (policy f.item) c.args.s.now n.item.policies f.place p.item p.place p.read)) c.in_ok-counts.ensures.fit.policies;
    }
