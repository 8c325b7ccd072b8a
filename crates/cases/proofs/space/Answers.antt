-- A repeat has as many elements as it says.
use Rattle.std.proofs.Common.{ℕ, sym}
use Rattle.std.proofs.Math.ListN.{length-replicate}
use Rattle.cases.proofs.space.Goals as goal

pub returns : goal.returns
returns c = sym (length-replicate {0} {A = ℕ} 720000 0)
