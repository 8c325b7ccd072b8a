-- `admission::laying::sieve_with` meets its contract. A value of the word's list has its residue in the set; any other word leaves the sieve as it is.
use Rattle.std.proofs.Common.{◌+◌, arith, ap, ◌∙◌}
use Rattle.lists.specs.Lists.{any}
use Rattle.bits.specs.Bits.{numbers}
use lib.Dec.{eqb}
use Rattle.admission.proofs.SieveLaws.{list_sieves}
use Rattle.admission.proofs.laying.sieve_with.Goals as goal

pub returns-then-word-eq1 : goal.returns-then-word-eq1
returns-then-word-eq1 c = (
  omega arith,
  λ kind e z m. rw c.from.ensures (list_sieves kind e _ _ _ _ (λ x h. c.residues.ensures.1 x (ap (λ n. any (eqb x) (numbers c.args.s.now (c.args.p + 13) n)) c.from-n.ensures ∙ h)) c.if-word-eq1.true m),
)
