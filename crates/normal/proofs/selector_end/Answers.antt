-- The reader's end is the end that the definition gives, and lies within the sheet.
use Rattle.std.proofs.Common.{arith, refl, ap, ◌≡◌, ◌∙◌}
use Rattle.bits.specs.Fields.{place_at}
use Rattle.bits.specs.declared.Place.{Place}
use Rattle.meaning.specs.Packed.{packed}
use Rattle.meaning.specs.Reading.{selector}
use Rattle.meaning.specs.Allowed.{facts_of}
use Rattle.normal.proofs.ReadableLaws.{selector_stands, ends_there, not_stopped}
use Rattle.normal.proofs.selector_end.Goals as goal

pub returns-in-Ok : goal.returns-in-Ok
returns-in-Ok c x q e = let a = c.args in
    let f = c.facts-f.ensures in
    let facts = facts_of a.sheet.now in
    let inside = (selector_stands facts (packed a.sheet.now) a.p x q e).0 in
    let at : c.in-Ok.field-0-1 ≡ place_at q = ends_there (ap (λ s. selector 6 facts s a.p) c.bytes.ensures.packed ∙ e) (c.in-Ok.ensures facts a.p f.columns f.tables refl) in
    omega (arith, ap (λ (z : Place). z.byte) at, ap (λ (z : Place). z.bit) at, c.saturating_mul.ensures, c.saturating_add.ensures, inside, c.bytes.ensures.allowed.short)

pub returns-in-Err : goal.returns-in-Err
returns-in-Err c x q e = let a = c.args in
    let f = c.facts-f.ensures in
    let facts = facts_of a.sheet.now in
    absurd (not_stopped (ap (λ s. selector 6 facts s a.p) c.bytes.ensures.packed ∙ e) (c.in-Err.ensures facts a.p f.columns f.tables refl))
