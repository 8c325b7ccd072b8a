-- No value of the class lies below x.
use Rattle.least.proofs.MarkLaws.{marks_none, free_past, free_found, free_none}
use Rattle.std.proofs.Common.{arith}
use Rattle.least.proofs.Class.first_free.Goals as goal

pub gather-requires : goal.gather-requires
gather-requires c = marks_none _ _ _ _

pub returns-then-high-x : goal.returns-then-high-x
returns-then-high-x c = let l = c.loop-x.invariant in free_none _ _ _ _ _ _ _ _ l.from l.none c.gather.ensures c.gap-j.ensures.0 c.if-high-x.true c.loop-x-test.true

pub returns-then-j-lt2112 : goal.returns-then-j-lt2112
returns-then-j-lt2112 c = let l = c.loop-x.invariant in free_found _ _ _ _ _ _ _ _ l.from l.none c.gather.ensures c.gap-j.ensures.0 c.if-j-lt2112.true (omega arith)

pub loop-x-preserved : goal.loop-x-preserved
loop-x-preserved c =
    let l = c.loop-x.invariant in
    record { from = omega arith; none = free_past _ _ _ _ c.args.high _ _ _ l.from l.none c.gather.ensures c.gap-j.ensures.0 }
