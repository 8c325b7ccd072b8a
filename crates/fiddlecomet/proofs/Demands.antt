-- The customer's demands, each a theorem about the calls that a host makes. The words in quotes are the customer's; `ListingNumbers` and its
-- like (specs/Numbers.antt) are what each public call promises, for every input and with no precondition.
use Prim.Native.Nat.{ℕ}
use mathlib.Core.Path.{◌≡◌}
use mathlib.Core.Bool.{Bool}
use mathlib.Core.Logic.{◌↔◌}
use mathlib.Core.List.{List}
use lib.ListN.{length, take}
use Rattle.lists.specs.Lists.{any, Keeps}
use Rattle.meaning.specs.Values.{Contents, with}
use Rattle.meaning.specs.Atoms.{clause_met}
use Rattle.meaning.specs.Sheets.{Sheet, table_at, policy_at, admits, branches, branch_count}
use Rattle.meaning.specs.Packed.{packed}
use Rattle.meaning.specs.Reading.{found, Row, read_session, read_rows}
use Rattle.meaning.specs.Allowed.{SheetAllowed}
use Rattle.meaning.specs.Questions.{IsRow, IsSession, Admitted, IsDead, IsIsolated, FirstLeak, PolicyCovers}
use Rattle.meaning.specs.Steps.{NormalSheet}
use Rattle.meaning.specs.Tightening.{Tighter}
use Rattle.meaning.specs.Replies.{row_bytes, over}
use Rattle.meaning.specs.Demands.{AreBytes, Accepted, OthersSee}
use Rattle.meaning.specs.Cases.{MarkedCases}
use Rattle.meaning.proofs.AdmissionLaws as admission
use Rattle.meaning.proofs.Theorems as meant
use Rattle.fiddlecomet.specs.declared.numbers.ListedNumbers.{ListedNumbers}
use Rattle.fiddlecomet.specs.declared.numbers.WrittenNumbers.{WrittenNumbers}
use Rattle.fiddlecomet.specs.declared.numbers.LifeNumbers.{LifeNumbers}
use Rattle.fiddlecomet.specs.declared.numbers.IsolationNumbers.{IsolationNumbers}
use Rattle.fiddlecomet.specs.declared.numbers.CoverNumbers.{CoverNumbers}
use Rattle.fiddlecomet.specs.declared.numbers.CountNumbers.{CountNumbers}
use Rattle.fiddlecomet.specs.Numbers.{ListingNumbers, NormalFormNumbers, DeadNumbers, IsolatedNumbers, CoversNumbers, BranchesNumbers}
use Rattle.fiddlecomet.proofs.OneLaws as one
use Rattle.fiddlecomet.proofs.AnswerLaws as answer
use Rattle.fiddlecomet.proofs.VerdictLaws as verdict

-- Demand 1. "Every sheet, session, row list and question gets a reply and never a trap." (Each call is proved with no precondition.) "Bad input is
-- refused by a numbered reason, in a fixed order": no two replies satisfy a promise, refusals among them.
pub listing_one : (sheet : List ℕ) (table command : ℕ) (session rows out : List ℕ) (r q : ListedNumbers) (after other : List ℕ) →
    ListingNumbers sheet table command session rows out r after → ListingNumbers sheet table command session rows out q other → (r ≡ q) × (after ≡ other)
listing_one = one.listing_one

pub normal_form_one : (sheet out : List ℕ) (r q : WrittenNumbers) (after other : List ℕ) → NormalFormNumbers sheet out r after → NormalFormNumbers sheet out q other → (r ≡ q) × (after ≡ other)
normal_form_one = one.normal_form_one

pub dead_one : (sheet : List ℕ) (table command : ℕ) (r q : LifeNumbers) → DeadNumbers sheet table command r → DeadNumbers sheet table command q → r ≡ q
dead_one = one.dead_one

pub isolated_one : (sheet : List ℕ) (table command : ℕ) (r q : IsolationNumbers) → IsolatedNumbers sheet table command r → IsolatedNumbers sheet table command q → r ≡ q
isolated_one = one.isolated_one

pub covers_one : (sheet : List ℕ) (a b : ℕ) (r q : CoverNumbers) → CoversNumbers sheet a b r → CoversNumbers sheet a b q → r ≡ q
covers_one = one.covers_one

pub branches_one : (sheet : List ℕ) (table command : ℕ) (r q : CountNumbers) → BranchesNumbers sheet table command r → BranchesNumbers sheet table command q → r ≡ q
branches_one = one.branches_one

-- ".. with the lent output untouched", and zeros besides the number
pub listing_untouched : (sheet : List ℕ) (table command : ℕ) (session rows out : List ℕ) (r : ListedNumbers) (after : List ℕ) →
    ListingNumbers sheet table command session rows out r after → (r.refusal ≡ 0 → ⊥) → (after ≡ out) × (r.length ≡ 0) × (r.rows ≡ 0)
listing_untouched = answer.listing_untouched

pub normal_form_untouched : (sheet out : List ℕ) (r : WrittenNumbers) (after : List ℕ) → NormalFormNumbers sheet out r after → (r.refusal ≡ 0 → ⊥) → (after ≡ out) × (r.length ≡ 0)
normal_form_untouched = answer.normal_form_untouched

-- Demand 2. "Access means the effective predicate of the policy algebra": a row is admitted exactly where one of the N branches is met.
pub admitted_by_a_branch : (sheet : Sheet) (t command : ℕ) (e : Contents) → any (clause_met e) (branches sheet t command) ≡ admits sheet t command e
admitted_by_a_branch = (meant.branching).admit

pub branches_counted : (sheet : Sheet) (t command : ℕ) → length (branches sheet t command) ≡ branch_count sheet t command
branches_counted = (meant.branching).counted

-- "A sheet's normal form, made by document 01's six steps, admits a row for a session under a command exactly when the sheet does."
pub normal_admits : (s : List ℕ) (sheet normal : Sheet) → Accepted s sheet → NormalSheet sheet normal →
    (t command : ℕ) (row session : Contents) → IsRow sheet t row → IsSession sheet session → admits normal t command (with row session) ≡ admits sheet t command (with row session)
normal_admits = (meant.demand_2).normal_admits

-- the normal form is a sheet: written, it is accepted as itself
pub normal_accepted : (s : List ℕ) (sheet normal : Sheet) → Accepted s sheet → NormalSheet sheet normal → Accepted (packed normal) normal
normal_accepted = (meant.demand_2).normal_accepted

-- "Normalising twice gives the same bytes as once."
pub normal_twice : (s out after out' after' : List ℕ) (r q : WrittenNumbers) → NormalFormNumbers s out r after → r.refusal ≡ 0 → NormalFormNumbers (take r.length after) out' q after' → q.refusal ≡ 0 →
    take q.length after' ≡ take r.length after
normal_twice s out after out' after' r q x z y w =
    (meant.demand_2).twice_is_once s out after out' after' r.length q.length (answer.normal_form_answered s out r after x z) (answer.normal_form_answered (take r.length after) out' q after' y w)

-- "Listing hands out the admitted rows, in order, and no others."
pub listing_exact : (s : List ℕ) (sheet : Sheet) (t command : ℕ) (session list out after : List ℕ) (key : Contents) (rows : List Row) (p q : ℕ) (r : ListedNumbers) →
    Accepted s sheet → read_session sheet session ≡ found key p → read_rows sheet (table_at sheet t) list ≡ found rows q →
    ListingNumbers s t command session list out r after → r.refusal ≡ 0 →
    (kept : List Row) × Keeps (λ x. Admitted sheet t command x.columns key) rows kept × (r.length ≡ length (row_bytes kept)) × (r.rows ≡ length kept) × (after ≡ over (row_bytes kept) out)
listing_exact s sheet t command session list out after key rows p q r a e f x z =
    (meant.demand_2).listing_exact s sheet t command session list out after key rows p q (record { length = r.length; count = r.rows }) a e f (answer.listing_answered s t command session list out r after x z)

-- Demand 3. "If a question is answered, a table is called isolated for a command exactly when no row is admitted for two sessions of different tenants"
pub isolated_exact : (s : List ℕ) (sheet : Sheet) → Accepted s sheet → (t command : ℕ) (r : IsolationNumbers) → IsolatedNumbers s t command r → r.refusal ≡ 0 → (r.leaks ≡ 0) ↔ IsIsolated sheet t command
isolated_exact = verdict.isolated_exact

-- "otherwise the first two clause choices that leak are named"
pub leak_first : (s : List ℕ) (sheet : Sheet) → Accepted s sheet → (t command : ℕ) (r : IsolationNumbers) → IsolatedNumbers s t command r → r.refusal ≡ 0 → r.leaks ≡ 1 → FirstLeak sheet t command r.a r.b
leak_first = verdict.leak_first

-- "For an isolated table, take two fills that agree once every row that a session of some other tenant could see under that command is struck out. One
-- session, listing both by it into equal buffers, gets the same rows, count and buffer, provided both listings are answered."
pub listing_blind : (s : List ℕ) (sheet : Sheet) (t command : ℕ) (session : List ℕ) (key : Contents) (p : ℕ) →
    Accepted s sheet → IsIsolated sheet t command → read_session sheet session ≡ found key p →
    (one two out : List ℕ) (rows rows' struck : List Row) (q q' : ℕ) →
    read_rows sheet (table_at sheet t) one ≡ found rows q → read_rows sheet (table_at sheet t) two ≡ found rows' q' →
    Keeps (λ x. OthersSee sheet t command key x → ⊥) rows struck → Keeps (λ x. OthersSee sheet t command key x → ⊥) rows' struck →
    (r r' : ListedNumbers) (after after' : List ℕ) →
    ListingNumbers s t command session one out r after → r.refusal ≡ 0 → ListingNumbers s t command session two out r' after' → r'.refusal ≡ 0 →
    (r.length ≡ r'.length) × (r.rows ≡ r'.rows) × (after ≡ after')
listing_blind s sheet t command session key p a i k one two out rows rows' struck q q' e f g h r r' after after' x z y w =
    (meant.demand_3).listing_blind s sheet t command session key p a i k one two out rows rows' struck q q' e f g h
    (record { length = r.length; count = r.rows }) (record { length = r'.length; count = r'.rows }) after after'
    (answer.listing_answered s t command session one out r after x z) (answer.listing_answered s t command session two out r' after' y w)

-- The auditor's second question: "Is there a table from which nobody can read anything?"
pub dead_exact : (s : List ℕ) (sheet : Sheet) → Accepted s sheet → (t command : ℕ) (r : LifeNumbers) → DeadNumbers s t command r → r.refusal ≡ 0 → (r.dead ≡ 1) ↔ IsDead sheet t command
dead_exact = verdict.dead_exact

-- 01: "Policy A covers policy B when each clause of B that some row and session meets is covered by a single clause of A."
pub covers_exact : (s : List ℕ) (sheet : Sheet) → Accepted s sheet → (a b : ℕ) (r : CoverNumbers) → CoversNumbers s a b r → r.refusal ≡ 0 → (r.covers ≡ 1) ↔ PolicyCovers sheet (policy_at sheet a).clauses (policy_at sheet b).clauses
covers_exact = verdict.covers_exact

-- 01: "N is the sum of the permissive policies' clause counts times the product of the restrictive ones' counts"
pub count_exact : (s : List ℕ) (sheet : Sheet) → Accepted s sheet → (t command : ℕ) (r : CountNumbers) → BranchesNumbers s t command r → r.refusal ≡ 0 → r.count ≡ branch_count sheet t command
count_exact = verdict.count_exact

-- 01: "one theorem shows that the definitions give each answer"
pub marked_cases_lem : MarkedCases
marked_cases_lem = meant.the_cases

-- The format is canonical: packing what was read gives the bytes back, and reading what was packed gives the sheet back.
pub packed_read : (s : List ℕ) (sheet : Sheet) → AreBytes s → Accepted s sheet → packed sheet ≡ s
packed_read = (meant.canonical).sheets

pub read_packed : (sheet : Sheet) → SheetAllowed sheet → Accepted (packed sheet) sheet
read_packed = (meant.canonical).accepted

-- Adding a restrictive policy or taking out a permissive one never admits more.
pub tightening : (sheet other : Sheet) → Tighter sheet other → (t command : ℕ) (e : Contents) → admits other t command e ≡ Bool.true → admits sheet t command e ≡ Bool.true
tightening = admission.tighter_admits
