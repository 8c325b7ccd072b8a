-- `sheet::whole::closes` meets its contract: by how many bytes follow the place's own, and by what is left of that byte.
use Rattle.std.proofs.Common.{◌+◌, ◌-◌, ◌*◌, ◌/◌, ◌%◌, ◌≡◌, ap, ◌∙◌, arith}
use Rattle.bits.specs.declared.Place.{Place}
use Rattle.sheet.proofs.WholeLaws.{closes_past, closes_open, closes_more, closes_here, number_same}
use Rattle.sheet.proofs.whole.closes.Goals as goal

pub returns-then-s-byte : goal.returns-then-s-byte
returns-then-s-byte c p e = let b : c.args.at.byte ≡ p / 8 = ap (λ (x : Place). x.byte) e in closes_past c.args.s.now p (omega arith)

pub returns-then-bit-lt1 : goal.returns-then-bit-lt1
returns-then-bit-lt1 c p e =
    let b : c.args.at.byte ≡ p / 8 = ap (λ (x : Place). x.byte) e in
    let d : c.args.at.bit ≡ p % 8 = ap (λ (x : Place). x.bit) e in
    closes_open c.args.s.now p (omega arith) (omega arith)

pub returns-then-byte-s : goal.returns-then-byte-s
returns-then-byte-s c p e =
    let b : c.args.at.byte ≡ p / 8 = ap (λ (x : Place). x.byte) e in
    let d : c.args.at.bit ≡ p % 8 = ap (λ (x : Place). x.bit) e in
    closes_more c.args.s.now p (omega arith) (omega arith)

pub returns : goal.returns
returns c p e =
    let b : c.args.at.byte ≡ p / 8 = ap (λ (x : Place). x.byte) e in
    let d : c.args.at.bit ≡ p % 8 = ap (λ (x : Place). x.bit) e in
    let place : c.args.at.byte * 8 + c.args.at.bit ≡ p = omega arith in
    let width : 8 - c.args.at.bit ≡ 8 - p % 8 = omega arith in
    closes_here c.args.s.now p _ (omega arith) (omega arith) (c.peek.ensures ∙ number_same c.args.s.now place width)
