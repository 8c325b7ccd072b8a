-- What the answers on clauses and policies say of an accepted sheet.
use Rattle.std.specs.Prelude.{ℕ, List}
use Rattle.lists.specs.Lists.{One}
use Rattle.meaning.specs.Atoms.{Clause}
use Rattle.meaning.specs.Sheets.{Sheet, policy_at}
use Rattle.meaning.specs.Questions.{ClauseCovers}

abbrev pub clauses_at : Sheet → ℕ → List Clause
clauses_at sheet p = (policy_at sheet p).clauses

-- the clause is covered by a single clause of policy a; by all of them together it is not enough
abbrev pub CoveredBy : Sheet → ℕ → Clause → Type 0
CoveredBy sheet a c = One (λ p. ClauseCovers sheet p c) (clauses_at sheet a)
