-- `sheet::whole::read_sheet` meets its contract: 1 comes first.
use Rattle.sheet.proofs.WholeLaws.{too_long}
use Rattle.sheet.proofs.whole.read_sheet.Goals as goal

pub returns-then-s-gt16384 : goal.returns-then-s-gt16384
returns-then-s-gt16384 c = too_long c.args.s.now c.if-s-gt16384.true
