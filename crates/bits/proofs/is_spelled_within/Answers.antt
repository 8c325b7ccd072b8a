-- `bits::is_spelled_within` meets its contract. At each turn x is one of the numbers from the start on exactly when it is one of those that are left.
use Rattle.std.proofs.Common.{◌+◌, ◌-◌, ◌*◌, ◌≡◌, ◌∙◌, sym, arith}
use Rattle.bits.proofs.SpellLaws.{spelled_none, last_tells}
use Rattle.bits.proofs.is_spelled_within.Goals as goal

pub loop-k-preserved : goal.loop-k-preserved
loop-k-preserved c =
    let a = c.args in
    let k = c.loop-k.k in
    let more = last_tells a.s.now (a.byte + 8 * k) a.bit a.x _ (a.n - k) c.requires.0 (omega arith) c.eight.ensures c.if-last-eight.false in
    let next : a.byte + 8 * k + 8 ≡ a.byte + 8 * (k + 1) = omega arith in
    let left : a.n - k - 1 ≡ a.n - (k + 1) = omega arith in
    c.loop-k.invariant ∙ more ∙ rw (next, left)

pub returns : goal.returns
returns c = sym (c.loop-k.invariant ∙ spelled_none _ _ _ _ (omega arith))
