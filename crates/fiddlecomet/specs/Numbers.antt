-- The numbers that a host sees. (01, "Refusal numbers": "A refusal returns its number and zeros")
use Rattle.std.specs.Prelude.{ℕ, ◌≤◌, ◌≡◌, List, [], ◌∷◌, Result, IfOk}
use Rattle.refusals.specs.declared.Refusal.{Refusal}
use Rattle.meaning.specs.declared.Listed.{Listed}
use Rattle.meaning.specs.declared.Life.{Life}
use Rattle.meaning.specs.declared.Isolation.{Isolation}
use Rattle.meaning.specs.declared.Cover.{Cover}
use Rattle.meaning.specs.Replies.{listed_numbers, written_numbers, life_numbers, isolation_numbers, cover_numbers, branch_numbers, ListingReply, NormalFormReply, DeadReply, IsolatedReply, CoversReply, BranchesReply}
use Rattle.fiddlecomet.specs.declared.numbers.ListedNumbers.{ListedNumbers}
use Rattle.fiddlecomet.specs.declared.numbers.WrittenNumbers.{WrittenNumbers}
use Rattle.fiddlecomet.specs.declared.numbers.LifeNumbers.{LifeNumbers}
use Rattle.fiddlecomet.specs.declared.numbers.IsolationNumbers.{IsolationNumbers}
use Rattle.fiddlecomet.specs.declared.numbers.CoverNumbers.{CoverNumbers}
use Rattle.fiddlecomet.specs.declared.numbers.CountNumbers.{CountNumbers}

-- the numbers of each struct, in the header's order
abbrev pub listed_of : ListedNumbers → List ℕ
listed_of r = r.refusal ∷ r.length ∷ r.rows ∷ []

abbrev pub written_of : WrittenNumbers → List ℕ
written_of r = r.refusal ∷ r.length ∷ []

abbrev pub life_of : LifeNumbers → List ℕ
life_of r = r.refusal ∷ r.dead ∷ []

abbrev pub isolation_of : IsolationNumbers → List ℕ
isolation_of r = r.refusal ∷ r.leaks ∷ r.a ∷ r.b ∷ []

abbrev pub cover_of : CoverNumbers → List ℕ
cover_of r = r.refusal ∷ r.covers ∷ []

abbrev pub count_of : CountNumbers → List ℕ
count_of r = r.refusal ∷ r.count ∷ []

-- 32 bits hold a number of at most 65,536, "A row list has at most 65,536 bytes"
abbrev pub Small : ℕ → ℕ → Type 0
Small n r = n ≤ 65536 → r ≡ n

abbrev pub ListedFits : Result Listed Refusal → Type 0
ListedFits reply = IfOk reply (λ r. (r.length ≤ 65536) × (r.count ≤ 65536))

abbrev pub WrittenFits : Result ℕ Refusal → Type 0
WrittenFits reply = IfOk reply (λ n. n ≤ 65536)

-- What each call promises a host: the numbers are those of a reply that document 01 gives, and the output is as it says.
pub record ListingNumbers (sheet : List ℕ) (table command : ℕ) (session rows out : List ℕ) (r : ListedNumbers) (after : List ℕ) : Type 0 where
  pub reply : Result Listed Refusal
  pub replies : ListingReply sheet table command session rows out reply after
  pub numbers : listed_of r ≡ listed_numbers reply

pub record NormalFormNumbers (sheet out : List ℕ) (r : WrittenNumbers) (after : List ℕ) : Type 0 where
  pub reply : Result ℕ Refusal
  pub replies : NormalFormReply sheet out reply after
  pub numbers : written_of r ≡ written_numbers reply

pub record DeadNumbers (sheet : List ℕ) (table command : ℕ) (r : LifeNumbers) : Type 0 where
  pub reply : Result Life Refusal
  pub replies : DeadReply sheet table command reply
  pub numbers : life_of r ≡ life_numbers reply

pub record IsolatedNumbers (sheet : List ℕ) (table command : ℕ) (r : IsolationNumbers) : Type 0 where
  pub reply : Result Isolation Refusal
  pub replies : IsolatedReply sheet table command reply
  pub numbers : isolation_of r ≡ isolation_numbers reply

pub record CoversNumbers (sheet : List ℕ) (a b : ℕ) (r : CoverNumbers) : Type 0 where
  pub reply : Result Cover Refusal
  pub replies : CoversReply sheet a b reply
  pub numbers : cover_of r ≡ cover_numbers reply

pub record BranchesNumbers (sheet : List ℕ) (table command : ℕ) (r : CountNumbers) : Type 0 where
  pub reply : Result ℕ Refusal
  pub replies : BranchesReply sheet table command reply
  pub numbers : count_of r ≡ branch_numbers reply
