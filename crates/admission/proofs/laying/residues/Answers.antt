-- `admission::laying::residues` meets its contract. At each turn a number of the list has its residue in the set, or is among those that are left.
use Rattle.std.proofs.Common.{arith}
use Rattle.admission.proofs.SieveLaws.{set_small, gathers_starts, gathers_on, gathers_ends}
use Rattle.admission.proofs.laying.residues.Goals as goal

pub loop-i-init : goal.loop-i-init
loop-i-init c = record { small = omega arith; gathers = gathers_starts _ _ _ }

pub loop-i-preserved : goal.loop-i-preserved
loop-i-preserved c = record {
  small = set_small _ _ c.loop-i.invariant.small;
  gathers = gathers_on _ _ _ _ _ c.loop-i.invariant.gathers (omega arith) c.peek64.ensures;
}

pub returns : goal.returns
returns c = (c.loop-i.invariant.small, gathers_ends _ _ _ _ _ c.loop-i.invariant.gathers (omega arith))
