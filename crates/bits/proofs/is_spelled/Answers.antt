-- `bits::is_spelled` meets its contract. At each turn x is one of the numbers from the start on exactly when it is one of those that are left.
use Rattle.std.proofs.Common.{◌+◌, ◌-◌, ◌*◌, ◌≡◌, ◌∙◌, sym, arith}
use Rattle.bits.proofs.SpellLaws.{spelled_none, spelled_here, spelled_later}
use Rattle.bits.proofs.is_spelled.Goals as goal

pub returns-then-x-peek64 : goal.returns-then-x-peek64
returns-then-x-peek64 c = sym (c.loop-k.invariant ∙ spelled_here _ _ _ _ (omega arith) c.peek64.ensures c.if-x-peek64.true)

pub loop-k-preserved : goal.loop-k-preserved
loop-k-preserved c =
    let a = c.args in
    let k = c.loop-k.k in
    let more = spelled_later a.s.now a.x (a.from + 64 * k) (a.n - k) (omega arith) (λ z. c.if-x-peek64.false (z ∙ sym c.peek64.ensures)) in
    let next : a.from + 64 * k + 64 ≡ a.from + 64 * (k + 1) = omega arith in
    let left : a.n - k - 1 ≡ a.n - (k + 1) = omega arith in
    c.loop-k.invariant ∙ more ∙ rw (next, left)

pub returns : goal.returns
returns c = sym (c.loop-k.invariant ∙ spelled_none _ _ _ _ (omega arith))
