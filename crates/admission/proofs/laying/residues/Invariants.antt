-- `admission::laying::residues` meets its contract. At each turn a number of the list has its residue in the set, or is among those that are left.
use Rattle.std.proofs.Common.{◌≤◌}
use Rattle.admission.proofs.SieveLaws.{Gathers}
use Rattle.admission.proofs.laying.residues.Given as goal

abbrev pub invariant-loop-i : goal.invariant-loop-i
invariant-loop-i l = record { small : l.set ≤ 65535; gathers : Gathers l.s l.from l.n l.set l.i }
