-- `values::last_of` meets its contract, by the kind's number.
use native.Mathlib.Omega.{arith}
use Rattle.values.proofs.ValueLaws.{last_integer, last_token, last_boolean}
use Rattle.values.proofs.last_of.Goals as goal

pub returns-in-0 : goal.returns-in-0
returns-in-0 c k e = last_integer k (omega arith)

pub returns-in-1 : goal.returns-in-1
returns-in-1 c k e = last_token k (omega arith)

pub returns-in_default : goal.returns-in_default
returns-in_default c k e = last_boolean k (λ h. omega arith) (λ h. omega arith)
