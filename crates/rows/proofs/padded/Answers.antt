-- `rows::padded` meets its contract. The bits to the end of the byte are a number, and zero bits spell 0.
use Rattle.std.proofs.Common.{◌≡◌, ◌-◌, ◌%◌, refl, sym, ap, ◌∙◌, arith}
use Rattle.bits.specs.Bits.{number}
use Rattle.bits.proofs.Laws.{number_zero}
use Rattle.rows.proofs.ContentLaws.{last_bits}
use Rattle.rows.proofs.RowLaws.{padded_zero, padded_one}
use Rattle.rows.proofs.padded.Goals as goal
use Rattle.rows.proofs.padded.Goals.{then-w-eq0-via-then-w-eq0, then-w-eq0-via-else-w-eq0+then-from-w-eq0}

pub returns-then-w-eq0 : goal.returns-then-w-eq0
returns-then-w-eq0 c =
    elim c.then-w-eq0.branch [
      | then-w-eq0-via-then-w-eq0 w ↦ let none : (8 - c.args.p % 8) % 8 ≡ 0 = omega arith in
          (padded_zero c.args.s.now c.args.p (sym (ap (number c.args.s.now c.args.p) none ∙ number_zero c.args.s.now c.args.p)) refl, (omega arith, omega arith, omega arith))
      | then-w-eq0-via-else-w-eq0+then-from-w-eq0 w ↦ (padded_zero c.args.s.now c.args.p (last_bits c.args.s.now c.args.p w.from.ensures ((8 - c.args.p % 8) % 8) (omega arith)) w.if-from-w-eq0.true, (omega arith, omega arith, omega arith))
    ]

pub returns : goal.returns
returns c = (padded_one c.args.s.now c.args.p (last_bits c.args.s.now c.args.p c.from.ensures ((8 - c.args.p % 8) % 8) (omega arith)) c.if-from-w-eq0.false, tt)
