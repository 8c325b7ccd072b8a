-- `listing::plans::lay_policy` meets its contract. At each turn k clauses are laid, and nothing outside the policy's slots has changed.
use Rattle.std.proofs.Common.{◌+◌, ◌*◌, take}
use Rattle.meaning.specs.Sheets.{kind_of, policy_at}
use Rattle.meaning.specs.Packed.{packed}
use Rattle.admission.specs.Plan.{ClausesLaid, Outside}
use Rattle.listing.proofs.plans.lay_policy.Given as goal

abbrev pub invariant-loop-k : goal.invariant-loop-k
invariant-loop-k l = record {
  words : Outside (l.slot * 8) (l.slot * 8 + 64) l.initial.words l.words;
  heads : Outside l.slot (l.slot + 8) l.initial.heads l.heads;
  laid : ClausesLaid (kind_of l.a) (packed l.a) l.words l.heads l.slot (l.slot + l.k) (take l.k (policy_at l.a l.p).clauses);
}
