-- `sheet::policy_fields::policy_at` meets its contract: type, commands, selector and clauses, in that order, and the book's twelve cells.
use Rattle.std.proofs.Common.{◌*◌, ◌≤◌, refl, ap, ◌∙◌, length, length-set, eqb, arith}
use Rattle.meaning.specs.Reading.{clause, selector, times}
use Rattle.values.specs.Reads.{stopped}
use Rattle.values.proofs.ReadLaws.{field_got, field_reads, handed, got, lost}
use Rattle.place.proofs.HeadLaws.{count_got, count_refused, count_at_most}
use Rattle.clauses.proofs.TurnLaws.{answers_by, answers_onto, times_length}
use Rattle.sheet.proofs.PolicyLaws.{as_found, field_low, type_lost, commands_lost, no_command, selector_stop, clauses_stop, made, policy_of, selector_inside, kept_none, kept_then, put_kept, policy_put}
use Rattle.sheet.proofs.policy_fields.policy_at.Goals as goal

pub returns-in_err-kind : goal.returns-in_err-kind
returns-in_err-kind c = (
  kept_none _ _,
  λ facts p F l e. handed _ _ c.from_residual.ensures.1 (type_lost facts _ p (lost (field_reads _ _ p 1 (omega arith) (omega arith) e c.in_err-kind.ensures))),
)

pub returns-in_err-commands : goal.returns-in_err-commands
returns-in_err-commands c = (
  kept_none _ _,
  λ facts p F l e.
      let T = field_got _ _ p 1 (omega arith) (omega arith) e c.in_ok-kind.ensures in
      handed _ _ c.from_residual-in_err-commands.ensures.1 (commands_lost facts _ p (as_found T) (lost (field_reads _ _ T.place 4 (omega arith) (omega arith) T.here c.in_err-commands.ensures))),
)

pub returns-then-commands-lt1 : goal.returns-then-commands-lt1
returns-then-commands-lt1 c = (
  kept_none _ _,
  λ facts p F l e.
      let T = field_got _ _ p 1 (omega arith) (omega arith) e c.in_ok-kind.ensures in
      let C = field_got _ _ T.place 4 (omega arith) (omega arith) T.here c.in_ok-commands.ensures in
      stopped (no_command facts _ p (as_found T) (as_found C) c.if-commands-lt1.true),
)

pub returns-in_err-u : goal.returns-in_err-u
returns-in_err-u c = (
  kept_none _ _,
  λ facts p F l e.
      let T = field_got _ _ p 1 (omega arith) (omega arith) e c.in_ok-kind.ensures in
      let C = field_got _ _ T.place 4 (omega arith) (omega arith) T.here c.in_ok-commands.ensures in
      handed _ _ c.from_residual-in_err-u.ensures.1
      (selector_stop facts _ p (as_found T) (as_found C) c.if-commands-lt1.false (lost (c.in_err-u.ensures facts C.place F.facts.columns F.facts.tables C.here))),
)

pub returns-in_err-count : goal.returns-in_err-count
returns-in_err-count c = (
  kept_none _ _,
  λ facts p F l e.
      let T = field_got _ _ p 1 (omega arith) (omega arith) e c.in_ok-kind.ensures in
      let C = field_got _ _ T.place 4 (omega arith) (omega arith) T.here c.in_ok-commands.ensures in
      let X = got (c.in_ok-u.ensures facts C.place F.facts.columns F.facts.tables C.here) in
      handed _ _ c.from_residual-in_err-count.ensures.1
      (clauses_stop facts _ p (as_found T) (as_found C) c.if-commands-lt1.false X.read (count_refused _ _ X.place 4 0 8 (omega arith) (omega arith) X.here c.in_err-count.ensures)),
)

pub overflow_cast-book : goal.overflow_cast-book
overflow_cast-book c = omega (arith, field_low _ _ 1 c.in_ok-kind.ensures)

pub overflow_cast-book-2 : goal.overflow_cast-book-2
overflow_cast-book-2 c = omega (arith, field_low _ _ 4 c.in_ok-commands.ensures)

pub overflow_cast-book-3 : goal.overflow_cast-book-3
overflow_cast-book-3 c = omega (arith, count_at_most _ _ 4 0 8 c.in_ok-count.ensures)

pub clauses_at-requires : goal.clauses_at-requires
clauses_at-requires c = (count_at_most _ _ 4 0 8 c.in_ok-count.ensures, simp length-set (omega (arith, c.requires)))

pub shape_of-book : goal.shape_of-book
shape_of-book c = c.clauses_at.ensures.0.length ∙ simp length-set

pub returns : goal.returns
returns c =
    let a = c.args in
    let s = a.s.now in
    let t = c.in_ok-kind.kind in
    let m = c.in_ok-commands.commands in
    let n = c.in_ok-count.count in (
      kept_then (put_kept a.book.now a.from t m c.bit_of.result n) (omega arith) c.clauses_at.ensures.0,
      λ facts p F l e.
          let T = field_got s _ p 1 (omega arith) (omega arith) e c.in_ok-kind.ensures in
          let C = field_got s _ T.place 4 (omega arith) (omega arith) T.here c.in_ok-commands.ensures in
          let X = got (c.in_ok-u.ensures facts C.place F.facts.columns F.facts.tables C.here) in
          let N = count_got s _ X.place 4 0 8 (omega arith) (omega arith) X.here c.in_ok-count.ensures in
          let inside : C.place ≤ length s * 8 = selector_inside facts s C.place X.item X.place X.read in
          let near : C.place ≤ 131072 = omega arith in
          answers_by (policy_of facts s p (as_found T) (as_found C) c.if-commands-lt1.false X.read (as_found N)) (answers_onto (times n (clause facts) s N.place) (made (eqb t 1) m X.item) (λ b cs q r H. (
            policy_put a.book.now a.from t m c.bit_of.result n c.requires c.clauses_at.ensures.0 (ap (selector 6 facts s) (c.bit_of.ensures C.place C.here near) ∙ X.read)
                (times_length (clause facts) s n N.place cs q r) (count_at_most _ _ 4 0 8 c.in_ok-count.ensures) H.0,
            H.1 ∙ c.shared_columns-columns.ensures facts X.item C.place X.place F C.here X.read (made (eqb t 1) m X.item cs) refl,
          ))
          (c.clauses_at.ensures.1 facts N.place F.facts l N.here)),
    )
