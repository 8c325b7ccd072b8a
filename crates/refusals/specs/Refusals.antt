-- The refusal numbers of document 01. (01, "Refusal numbers")
use Rattle.std.specs.Prelude.{ℕ}
use Rattle.refusals.specs.declared.Refusal.{Refusal}
use Rattle.refusals.specs.declared.Refusal.TheVariants.{TooLong, CutOff, OtherEdition, WrongCount, UnknownCode, NumberNotThere, WrongKind, NoCommand}
use Rattle.refusals.specs.declared.Refusal.TheVariants.{TooDeep, LeftOver, ColumnNotHeld, NotAsked, TooManyBranches, NoRoom, WrongRows, LongerForm}

-- "No."
abbrev pub number : Refusal → ℕ
number TooLong = 1
number CutOff = 2
number OtherEdition = 3
number WrongCount = 4
number UnknownCode = 5
number NumberNotThere = 6
number WrongKind = 7
number NoCommand = 8
number TooDeep = 9
number LeftOver = 10
number ColumnNotHeld = 11
number NotAsked = 12
number TooManyBranches = 13
number NoRoom = 14
number WrongRows = 15
number LongerForm = 16
