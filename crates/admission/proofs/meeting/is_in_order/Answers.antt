-- `admission::meeting::is_in_order` meets its contract. The operator's number picks the same comparison in the code and in the definition.
use native.Mathlib.Omega.{arith}
use mathlib.Core.Path.{◌≡◌}
use Rattle.admission.proofs.WordLaws.{order_passes}
use Rattle.admission.proofs.meeting.is_in_order.Goals as goal

pub returns-in-3 : goal.returns-in-3
returns-in-3 c = λ e u ns l m. order_passes e _ u _ ns 3 c.in-3.is

pub returns-in-4 : goal.returns-in-4
returns-in-4 c = λ e u ns l m. order_passes e _ u _ ns 4 c.in-4.is

pub returns-in-5 : goal.returns-in-5
returns-in-5 c = λ e u ns l m. order_passes e _ u _ ns 5 c.in-5.is

pub returns-in_default : goal.returns-in_default
returns-in_default c = λ e u ns l m. let is : c.args.op ≡ 6 = omega arith in order_passes e _ u _ ns 6 is
