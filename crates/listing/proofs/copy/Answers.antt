-- `listing::copy` meets its contract. At each turn i bytes are pasted.
use Rattle.std.proofs.Common.{◌-◌, ◌≡◌, ap, ◌∙◌, arith, drop}
use lib.Seq.{paste, paste-zero}
use Rattle.listing.proofs.RowLaws.{copy_on}
use Rattle.listing.proofs.copy.Goals as goal

pub loop-i-init : goal.loop-i-init
loop-i-init c = paste-zero c.args.out.now c.args.at (drop c.args.a c.args.rows.now)

pub loop-i-preserved : goal.loop-i-preserved
loop-i-preserved c = copy_on c.args.rows.now c.args.out.now c.loop-i.out c.args.a c.args.at c.loop-i.i c.loop-i.invariant (omega arith) (omega arith)

pub returns : goal.returns
returns c = let same : c.loop-i.i ≡ c.args.e - c.args.a = omega arith in c.loop-i.invariant ∙ ap (paste c.args.out.now c.args.at (drop c.args.a c.args.rows.now)) same
