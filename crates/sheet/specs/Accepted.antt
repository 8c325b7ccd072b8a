-- An accepted sheet, as it stands packed: the sheet that its bytes are, and what reading found out about them.
use Rattle.std.specs.Prelude.{ℕ, ◌≡◌, List, []}
use Rattle.meaning.specs.Sheets.{Sheet}
use Rattle.meaning.specs.Packed.{packed}
use Rattle.meaning.specs.Reading.{Read, found, refused, read_sheet}
use Rattle.meaning.specs.Allowed.{SheetAllowed}
use Rattle.meaning.specs.Demands as m
use Rattle.sheet.specs.Directory.{Described}
use Rattle.sheet.specs.declared.accepted.Accepted.TheInside.{Inside}

-- the sheet that was found, else one with nothing in it
abbrev pub sheet_or_none : Read Sheet → Sheet
sheet_or_none (found sheet end) = sheet
sheet_or_none (refused n) = record { columns = []; keys = []; tables = []; policies = [] }

unfoldable pub sheet_in : List ℕ → Sheet
sheet_in s = sheet_or_none (read_sheet s)

abbrev pub the_sheet : Inside → Sheet
the_sheet a = sheet_in a.bytes.now

-- the sheet is allowed, the bytes are its packed form and are accepted as it, and the directory describes it with the book
pub record IsAccepted (a : Inside) : Type 0 where
  pub allowed : SheetAllowed (the_sheet a)
  pub packed : packed (the_sheet a) ≡ a.bytes.now
  pub accepted : m.Accepted a.bytes.now (the_sheet a)
  pub described : Described a.bytes.now (the_sheet a) a.directory a.book.now
