-- `rows::content_at` meets its contract. Each answer is the definition's, by the tests that led there.
use borrow.Author.Rules.{rules}
use native.Mathlib.Omega.{arith}
use Rattle.rows.proofs.ContentLaws.{content_cut, content_null, content_short, content_value, content_strange}
use Rattle.rows.proofs.content_at.Goals as goal

pub returns-then-s-p : goal.returns-then-s-p
returns-then-s-p c = (tt, λ k K. content_cut k _ _ (search rules))

pub returns-then-bit_at-eq0 : goal.returns-then-bit_at-eq0
returns-then-bit_at-eq0 c = ((omega arith, omega arith, omega arith), λ k K. content_null k _ _ c.if-s-p.false c.bit_at.ensures c.if-bit_at-eq0.true)

pub returns-then-s-p-2 : goal.returns-then-s-p-2
returns-then-s-p-2 c = (tt, λ k K. content_short k _ _ c.if-s-p.false c.bit_at.ensures c.if-bit_at-eq0.false c.if-s-p-2.true)

pub returns-then-v-last_of : goal.returns-then-v-last_of
returns-then-v-last_of c = ((omega arith, omega arith, omega arith), λ k K. content_value k _ _ c.if-s-p.false c.bit_at.ensures c.if-bit_at-eq0.false c.if-s-p-2.false c.within64.ensures (c.raw_of-v.ensures k K) (c.last_of.ensures k K) c.if-v-last_of.true)

pub returns : goal.returns
returns c = (tt, λ k K. content_strange k _ _ c.if-s-p.false c.bit_at.ensures c.if-bit_at-eq0.false c.if-s-p-2.false c.within64.ensures (c.raw_of-v.ensures k K) (c.last_of.ensures k K) c.if-v-last_of.false)
