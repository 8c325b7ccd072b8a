-- What is posed, with what was found out about it.
use Rattle.std.specs.Prelude.{ℕ, ◌<◌, ◌≡◌, List, length}
use Rattle.meaning.specs.Allowed.{SheetAllowed}
use Rattle.branches.specs.Parts.{RolesAre, CountsAre}
use Rattle.asked.specs.Asked.{Ranges}
use Rattle.verdicts.specs.declared.Asking.TheInside.{Inside}
use Rattle.verdicts.specs.Questions.{Posed, number_of}

-- the sheet is allowed, the table is there, and the roles, clause counts, N and last values are theirs
pub record Poses (q : Posed) (rs cs : List ℕ) (n : ℕ) (top : List ℕ) : Type 0 where
  pub allowed : SheetAllowed q.sheet
  pub there : q.table < length q.sheet.tables
  pub roles : RolesAre q.sheet q.table q.command rs
  pub counts : CountsAre q.sheet cs
  pub number : n ≡ number_of q
  pub ranges : Ranges q.sheet top

abbrev pub what_is_posed : Inside → Posed
what_is_posed a = record { sheet = a.sheet.now; table = a.table; command = a.command }

abbrev pub IsPosed : Inside → Type 0
IsPosed a = Poses (what_is_posed a) a.question.roles a.question.counts a.question.number a.question.top
