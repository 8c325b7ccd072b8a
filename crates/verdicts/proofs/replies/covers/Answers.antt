-- `verdicts::replies::covers` meets its contract: both numbers are judged before the clauses are.
use Rattle.std.proofs.Common.{arith, inl, inr}
use Rattle.meaning.specs.declared.Cover.TheVariants.{Covers, Misses}
use Rattle.verdicts.proofs.ReplyLaws.{policies_not_asked, covers_told}
use Rattle.verdicts.proofs.replies.covers.Goals as goal
use Rattle.verdicts.proofs.replies.covers.Goals.{then-policies-a-via-then-policies-a, then-policies-a-via-else-policies-a+then-policies-b}

pub returns-then-policies-a : goal.returns-then-policies-a
returns-then-policies-a c =
    let n = c.policies-policies.ensures.number in
    let a = c.args in
    policies_not_asked a.sheet.now c.policies-policies.ensures.allowed a.a a.b
    (elim c.then-policies-a.branch [
      | then-policies-a-via-then-policies-a w ↦ let l = w.if-policies-a.true in inl (omega arith)
      | then-policies-a-via-else-policies-a+then-policies-b w ↦ let l = w.if-policies-a.false in let m = w.if-policies-b.true in inr (omega arith, omega arith)
    ])

pub returns-then-policy_covers : goal.returns-then-policy_covers
returns-then-policy_covers c =
    let n = c.policies-policies.ensures.number in
    let l = c.if-policies-a.false in
    let m = c.if-policies-b.false in
    covers_told c.args.sheet.now c.policies-policies.ensures.allowed c.args.a c.args.b Covers (omega arith) (omega arith) (c.policy_covers.ensures.yes c.if-policy_covers.true)

pub returns-else-policy_covers : goal.returns-else-policy_covers
returns-else-policy_covers c =
    let n = c.policies-policies.ensures.number in
    let l = c.if-policies-a.false in
    let m = c.if-policies-b.false in
    covers_told c.args.sheet.now c.policies-policies.ensures.allowed c.args.a c.args.b Misses (omega arith) (omega arith) (c.policy_covers.ensures.no c.if-policy_covers.false)
