-- `sheet::selectors::selector_at` meets its contract: a node, and what the definition reads after it, the depth falling at each call.
use Rattle.std.proofs.Common.{arith}
use Rattle.values.specs.Reads.{answered, stopped}
use Rattle.values.proofs.ReadLaws.{handed, got, lost, field_got, field_reads}
use Rattle.clauses.proofs.TurnLaws.{answers_by}
use Rattle.sheet.proofs.SelectorLaws.{too_deep, selector_lost, at_node, first_lost, not_got, second_lost, and_got, or_got, not_so, and_so, or_so}
use Rattle.sheet.proofs.selectors.+selector_at.Goals as goal

pub returns-then-depth-lt1 : goal.returns-then-depth-lt1
returns-then-depth-lt1 t c facts p C T e = stopped (too_deep _ facts c.args.s.now p c.if-depth-lt1.true)

pub returns-in_err-node : goal.returns-in_err-node
returns-in_err-node t c facts p C T e =
    handed _ _ c.from_residual.ensures.1 (selector_lost _ facts _ p c.if-depth-lt1.false (lost (field_reads _ _ p 3 (omega arith) (omega arith) e c.in_err-node.ensures)))

pub returns-then-node-lt5 : goal.returns-then-node-lt5
returns-then-node-lt5 t c facts p C T e =
    let g = field_got _ _ p 3 (omega arith) (omega arith) e c.in_ok-node.ensures in
    answers_by (at_node _ facts _ p c.if-depth-lt1.false g) (c.leaf_at.ensures facts _ g.place C T g.here c.if-node-lt5.true)

pub returns-in_err-first : goal.returns-in_err-first
returns-in_err-first t c facts p C T e =
    let g = field_got _ _ p 3 (omega arith) (omega arith) e c.in_ok-node.ensures in
    handed _ _ c.from_residual-in_err-first.ensures.1 (first_lost _ facts _ p c.if-depth-lt1.false g c.if-node-lt5.false (lost (c.in_err-first.ensures facts g.place C T g.here)))

pub returns-then-node-eq7 : goal.returns-then-node-eq7
returns-then-node-eq7 t c facts p C T e =
    let g = field_got _ _ p 3 (omega arith) (omega arith) e c.in_ok-node.ensures in
    let h = got (c.in_ok-first.ensures facts g.place C T g.here) in
    answered (not_got _ facts _ p c.if-depth-lt1.false g h c.if-node-eq7.true (λ a i. not_so _ i))

pub returns-in_err-second : goal.returns-in_err-second
returns-in_err-second t c facts p C T e =
    let g = field_got _ _ p 3 (omega arith) (omega arith) e c.in_ok-node.ensures in
    let h = got (c.in_ok-first.ensures facts g.place C T g.here) in
    handed _ _ c.from_residual-in_err-second.ensures.1
    (second_lost _ facts _ p c.if-depth-lt1.false g h c.if-node-lt5.false c.if-node-eq7.false (lost (c.in_err-second.ensures facts h.place C T h.here)))

pub returns-then-node-eq5 : goal.returns-then-node-eq5
returns-then-node-eq5 t c facts p C T e =
    let g = field_got _ _ p 3 (omega arith) (omega arith) e c.in_ok-node.ensures in
    let h = got (c.in_ok-first.ensures facts g.place C T g.here) in
    answered (and_got _ facts _ p c.if-depth-lt1.false g h (got (c.in_ok-second.ensures facts h.place C T h.here)) c.if-node-eq5.true (λ b i. and_so h.holds i))

pub returns-else-node-eq5 : goal.returns-else-node-eq5
returns-else-node-eq5 t c facts p C T e =
    let g = field_got _ _ p 3 (omega arith) (omega arith) e c.in_ok-node.ensures in
    let h = got (c.in_ok-first.ensures facts g.place C T g.here) in
    answered (or_got _ facts _ p c.if-depth-lt1.false g h (got (c.in_ok-second.ensures facts h.place C T h.here)) c.if-node-lt5.false c.if-node-eq7.false c.if-node-eq5.false (λ b i. or_so h.holds i))
