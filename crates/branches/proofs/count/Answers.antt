-- `branches::count` meets its contract: at policy p the sum and the product are those of the policies before it.
use Rattle.std.proofs.Common.{◌≡◌, arith}
use Rattle.branches.proofs.CountLaws.{counted_starts, counted_more, counted_ends, product_more, product_fits, number_fits}
use Rattle.branches.proofs.count.Goals as goal

pub loop-p-init : goal.loop-p-init
loop-p-init c = (omega arith, omega arith, counted_starts _ _)

pub overflow_mul-product : goal.overflow_mul-product
overflow_mul-product c =
    let l = c.loop-p in
    let e = product_fits _ _ (omega arith) (product_more _ _ _ l.invariant.1 c.factor_of-product.ensures.1) in
    record { fits = omega (arith, e) }

pub loop-p-preserved : goal.loop-p-preserved
loop-p-preserved c =
    let l = c.loop-p in
    (omega arith, product_more _ _ _ l.invariant.1 c.factor_of-product.ensures.1, counted_more _ _ _ _ _ _ _ c.term_of-sum.ensures.0 c.factor_of-product.ensures.0 l.invariant.2)

pub overflow_mul-result : goal.overflow_mul-result
overflow_mul-result c = record { fits = number_fits _ _ (omega arith) (product_fits _ _ (omega arith) c.loop-p.invariant.1) }

pub returns : goal.returns
returns c = let q : c.loop-p.p ≡ 16 = omega arith in counted_ends _ _ _ _ _ q c.loop-p.invariant.2
