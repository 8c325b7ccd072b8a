-- `admission::laying::lay_clause` meets its contract. At each turn k atoms are laid, and the others stand packed where the code looks next.
use Rattle.std.proofs.Common.{◌+◌, ◌*◌, ◌<◌, length, refl, ◌∙◌, arith}
use Rattle.admission.proofs.ClauseLaws.{clause_near, laying_starts, laying_on, laying_ends}
use Rattle.admission.proofs.OutsideLaws.{nothing_written, one_written}
use Rattle.admission.proofs.laying.lay_clause.Goals as goal

pub returns-then-p-gt131072 : goal.returns-then-p-gt131072
returns-then-p-gt131072 c = (nothing_written _ _ _, λ facts d q l e. absurd (let near = clause_near facts _ l d _ q 0 e in omega arith))

pub returns-then-n-gt8 : goal.returns-then-n-gt8
returns-then-n-gt8 c = (nothing_written _ _ _, λ facts d q l e. absurd (let x = laying_starts facts _ l d _ q 0 e c.args.words.now in let y = x.0 in let z = x.1 in let is = c.peek-n.ensures in omega arith))

pub loop-k-init : goal.loop-k-init
loop-k-init c = record {
  near = omega arith;
  guard = omega arith;
  sieve = omega arith;
  outside = nothing_written _ _ _;
  laying = λ facts d q l e. let x = laying_starts facts _ l d _ q _ e c.args.words.now in (c.peek-n.ensures ∙ x.0, x.2);
}

pub loop-k-preserved : goal.loop-k-preserved
loop-k-preserved c = let room : c.args.slot * 8 + c.loop-k.k < length c.loop-k.words = omega arith in
    let size = c.atom_word-laid.ensures.2 in
    let test = c.loop-k-test.true in
    record {
      near = omega arith;
      guard = c.guard_with-guard.ensures.0;
      sieve = c.sieve_with-sieve.ensures.0;
      outside = one_written c.loop-k.invariant.outside _ _ (omega arith) (omega arith);
      laying = λ facts d q l e. let g = c.loop-k.invariant.laying facts d q l e in let n = g.0 in (
        g.0,
        laying_on facts _ l d _ q _ e _ _ _ _ _ g.1 c.atom_word-laid.result.word (omega arith) room c.atom_word-laid.ensures.0 c.atom_word-laid.ensures.1 c.guard_with-guard.ensures.1 c.sieve_with-sieve.ensures.1,
      );
    }

pub returns : goal.returns
returns c = (
  c.loop-k.invariant.outside,
  λ facts d q l e. let g = c.loop-k.invariant.laying facts d q l e in
      let n = g.0 in
      let x = c.if-n-gt8.false in
      laying_ends facts _ l d _ q _ e _ _ _ _ _ g.1 _ _ refl g.0 (omega arith) (omega arith) c.if-p-gt131072.false c.loop-k.invariant.guard,
)
