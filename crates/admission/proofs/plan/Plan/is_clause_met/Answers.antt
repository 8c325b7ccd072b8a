-- `Plan::is_clause_met` meets its contract. At each turn the clause of all the words is met exactly when that of the words left is.
use Rattle.std.proofs.Common.{arith, sym, ap, ◌∙◌}
use Rattle.meaning.specs.Atoms.{clause_met}
use Rattle.admission.proofs.ClauseLaws.{left_starts, left_on, left_fails, left_ends}
use Rattle.admission.proofs.plan.Plan.is_clause_met.Goals as goal

pub returns-then-n-gt8 : goal.returns-then-n-gt8
returns-then-n-gt8 c = λ kind d K L. absurd (let few = L.few in omega arith)

pub loop-k-init : goal.loop-k-init
loop-k-init c = record { near = omega arith; left = λ kind K. left_starts kind _ _ _ _ _ _ }

pub loop-k-preserved : goal.loop-k-preserved
loop-k-preserved c = let size = c.size_of-p.ensures.1 in
    record {
      near = omega arith;
      left = λ kind K. left_on kind _ _ _ _ _ _ _ _ (c.loop-k.invariant.left kind K) c.loop-k-test.true (c.is_word_met.ensures kind K) c.if-not-is_word_met.false c.size_of-p.ensures.0;
    }

pub returns-then-not-is_word_met : goal.returns-then-not-is_word_met
returns-then-not-is_word_met c = λ kind d K L. sym (ap (clause_met _) (sym L.atoms) ∙ left_fails kind _ _ _ _ _ _ _ _ (c.loop-k.invariant.left kind K) c.loop-k-test.true (c.is_word_met.ensures kind K) c.if-not-is_word_met.true)

pub returns : goal.returns
returns c = λ kind d K L. sym (ap (clause_met _) (sym L.atoms) ∙ left_ends kind _ _ _ _ _ _ _ _ (c.loop-k.invariant.left kind K) (omega arith))
