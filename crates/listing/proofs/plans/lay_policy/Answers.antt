-- `listing::plans::lay_policy` meets its contract. At each turn k clauses are laid, and nothing outside the policy's slots has changed.
use Rattle.std.proofs.Common.{◌+◌, ◌<◌, length, arith}
use Rattle.meaning.specs.Sheets.{kind_of, policy_at}
use Rattle.meaning.specs.Packed.{packed}
use Rattle.admission.proofs.OutsideLaws.{nothing_written, one_written, then_written}
use Rattle.listing.proofs.PlanLaws.{clause_laid, clauses_start, clauses_on, clauses_done}
use Rattle.listing.proofs.plans.lay_policy.Goals as goal

pub loop-k-init : goal.loop-k-init
loop-k-init c = record { words = nothing_written _ _ _; heads = nothing_written _ _ _; laid = clauses_start _ _ _ (policy_at c.args.a.now c.args.p).clauses _ _ }

pub loop-k-preserved : goal.loop-k-preserved
loop-k-preserved c =
    let n = c.clause_count-n.ensures.number in
    let few = c.clause_count-n.ensures.few in
    let test = c.loop-k-test.true in
    let x = policy_at c.args.a.now c.args.p in
    let there : c.loop-k.k < length x.clauses = omega arith in
    let room : c.args.slot + c.loop-k.k < length c.loop-k.heads = omega arith in
    let laid = clause_laid c.args.a.now c.clause_start.result _ c.bytes.ensures.packed c.bytes.ensures.allowed.short c.lay_clause.ensures.1 (c.clause_start.ensures there) in
    record {
      words = then_written c.loop-k.invariant.words c.lay_clause.ensures.0 (omega arith) (omega arith);
      heads = one_written c.loop-k.invariant.heads _ _ (omega arith) (omega arith);
      laid = clauses_on (kind_of c.args.a.now) (packed c.args.a.now) _ x.clauses _ _ c.loop-k.words _ c.loop-k.heads there room c.lay_clause.ensures.0 laid c.loop-k.invariant.laid;
    }

pub returns : goal.returns
returns c =
    let n = c.clause_count-n.ensures.number in
    let l = c.loop-k-test.false in
    record {
      few = c.clause_count-n.ensures.few;
      words = c.loop-k.invariant.words;
      heads = c.loop-k.invariant.heads;
      laid = clauses_done _ _ _ (policy_at c.args.a.now c.args.p).clauses c.loop-k.k _ _ _ (omega arith) (omega arith) c.loop-k.invariant.laid;
    }
