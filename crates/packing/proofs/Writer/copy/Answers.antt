-- The bits from `from` to `at` are copied.
use borrow.Author.Rules.{rules}
use Prim.Native.Nat.{ℕ, ◌+◌, ◌-◌, ◌^◌, ◌<◌, min}
use mathlib.Core.Path.{◌≡◌, refl, sym, subst}
use native.Mathlib.Omega.{arith}
use mathlib.Core.List.{◌++◌}
use Rattle.bits.proofs.Laws.{number_lt}
use Rattle.packing.proofs.WroteLaws.{run, copy_starts, copy_more, copy_all}
use Rattle.packing.proofs.Writer.copy.Goals as goal

pub loop-at-init : goal.loop-at-init
loop-at-init c = (omega arith, omega arith, refl, λ o bs w. copy_starts o bs c.args.s.now c.args.from c.args.self.now.out.now c.args.self.now.bits (c.args.from - c.args.from) (omega arith) w)

pub peek-requires : goal.peek-requires
peek-requires c = omega (arith, c.min-w.ensures)

pub write-requires : goal.write-requires
write-requires c = omega (arith, c.min-w.ensures)

pub overflow_add-at : goal.overflow_add-at
overflow_add-at c = omega (arith, c.min-w.ensures)

pub loop-at-smaller : goal.loop-at-smaller
loop-at-smaller c = omega (arith, c.min-w.ensures)

pub loop-at-preserved : goal.loop-at-preserved
loop-at-preserved c = let l = c.loop-at in
    let w = c.min-w.result in
    let e : w ≡ min (c.args.to - l.at) 64 = c.min-w.ensures in
    let m = l.at - c.args.from in (
      omega arith,
      omega arith,
      search rules,
      λ o bs h. copy_more o bs c.args.s.now c.args.from c.write.new.self.out.now c.write.new.self.bits m w (l.at + w - c.args.from) l.at c.peek.result (omega arith) (omega arith) c.peek.ensures
          (c.write.ensures.wrote o (bs ++ run c.args.s.now c.args.from m) (l.invariant.3 o bs h) (subst (λ (x : ℕ). x < 2 ^ w) (sym c.peek.ensures) (number_lt c.args.s.now l.at w))),
    )

pub returns-clause-wrote : goal.returns-clause-wrote
returns-clause-wrote c = let l = c.loop-at in
    λ o bs w. copy_all o bs c.args.s.now c.args.from l.self.out.now l.self.bits (l.at - c.args.from) (c.args.to - c.args.from) (omega arith) (l.invariant.3 o bs w)
