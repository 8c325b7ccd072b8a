-- `sheet::serving::shared_columns` meets its contract. The loop's invariant: the set is what the tables before t ask for.
use Rattle.std.proofs.Common.{ℕ, ◌≡◌}
use Rattle.bits.specs.Fields.{place_at}
use Rattle.meaning.specs.Sheets.{Sheet, Selector}
use Rattle.meaning.specs.Reading.{found, selector}
use Rattle.sheet.specs.Fronts.{FrontIs, Shared}
use Rattle.sheet.proofs.serving.shared_columns.Given as goal

abbrev pub invariant-loop-t : goal.invariant-loop-t
invariant-loop-t l = (facts : Sheet) (x : Selector) (p q : ℕ) → FrontIs l.f l.book facts → l.at ≡ place_at p → selector 6 facts l.s p ≡ found x q → Shared facts x l.t l.shared
