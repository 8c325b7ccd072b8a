-- `rows::inner::content_end` meets its contract. Each answer is that of the content, with what it holds left out; every 64 bits are an integer.
use Rattle.std.proofs.Common.{◌+◌, arith, refl, ◌∙◌}
use Rattle.bits.specs.Bits.{number}
use Rattle.bits.proofs.Laws.{number_lt}
use Rattle.meaning.specs.Reading.{content}
use Rattle.rows.proofs.ContentLaws.{content_null, content_value, content_strange}
use Rattle.rows.proofs.EndLaws.{ends_as, integer_fits}
use Rattle.rows.proofs.inner.content_end.Goals as goal
use Rattle.rows.proofs.inner.content_end.Goals.{then-kind-eq0-via-then-kind-eq0, then-kind-eq0-via-else-kind-eq0+then-raw_of-last_of}

pub returns-then-bit_at-eq0 : goal.returns-then-bit_at-eq0
returns-then-bit_at-eq0 c = ((omega arith, omega arith, omega arith), λ k K. ends_as (content k _ _) (content_null k _ _ (omega arith) c.bit_at.ensures c.if-bit_at-eq0.true))

pub returns-then-kind-eq0 : goal.returns-then-kind-eq0
returns-then-kind-eq0 c = (
  (omega arith, omega arith, omega arith),
  λ k K. elim c.then-kind-eq0.branch [
    | then-kind-eq0-via-then-kind-eq0 w ↦ let n = number c.args.s.now (c.args.at + 1) 64 in
        ends_as (content k _ _) (content_value k _ _ (omega arith) c.bit_at.ensures c.if-bit_at-eq0.false (omega arith) {x = n} refl refl refl (integer_fits k n (K ∙ w.if-kind-eq0.true) (number_lt _ _ 64)))
    | then-kind-eq0-via-else-kind-eq0+then-raw_of-last_of w ↦ ends_as (content k _ _) (content_value k _ _ (omega arith) c.bit_at.ensures c.if-bit_at-eq0.false (omega arith) w.within64.ensures (w.raw_of.ensures k K) (w.last_of.ensures k K) w.if-raw_of-last_of.true)
  ],
)

pub returns : goal.returns
returns c = (tt, λ k K. ends_as (content k _ _) (content_strange k _ _ (omega arith) c.bit_at.ensures c.if-bit_at-eq0.false (omega arith) c.within64.ensures (c.raw_of.ensures k K) (c.last_of.ensures k K) c.if-raw_of-last_of.false))
