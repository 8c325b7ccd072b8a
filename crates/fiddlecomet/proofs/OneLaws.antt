-- No two replies to one question: the numbers that a host sees, and the output, are determined.
use Prim.Native.Nat.{ℕ}
use mathlib.Core.Path.{◌≡◌, sym, ap, ◌∙◌}
use mathlib.Core.List.{List}
use Rattle.std.specs.Prelude.{Result}
use Rattle.refusals.specs.declared.Refusal.{Refusal}
use Rattle.meaning.specs.declared.Listed.{Listed}
use Rattle.meaning.specs.Replies.{listed_numbers, written_numbers, life_numbers, isolation_numbers, cover_numbers, branch_numbers}
use Rattle.meaning.proofs.UniqueLaws as meant
use Rattle.fiddlecomet.specs.declared.numbers.ListedNumbers.{ListedNumbers}
use Rattle.fiddlecomet.specs.declared.numbers.WrittenNumbers.{WrittenNumbers}
use Rattle.fiddlecomet.specs.declared.numbers.LifeNumbers.{LifeNumbers}
use Rattle.fiddlecomet.specs.declared.numbers.IsolationNumbers.{IsolationNumbers}
use Rattle.fiddlecomet.specs.declared.numbers.CoverNumbers.{CoverNumbers}
use Rattle.fiddlecomet.specs.declared.numbers.CountNumbers.{CountNumbers}
use Rattle.fiddlecomet.specs.Numbers.{listed_of, written_of, life_of, isolation_of, cover_of, count_of, ListingNumbers, NormalFormNumbers, DeadNumbers, IsolatedNumbers, CoversNumbers, BranchesNumbers}

-- structs with the same numbers are the same
same_listed : (r q : ListedNumbers) → listed_of r ≡ listed_of q → r ≡ q
same_listed r q e = let a : r.refusal ≡ q.refusal = cc in let b : r.length ≡ q.length = cc in let c : r.rows ≡ q.rows = cc in λ i. record { refusal = a i; length = b i; rows = c i }

same_written : (r q : WrittenNumbers) → written_of r ≡ written_of q → r ≡ q
same_written r q e = let a : r.refusal ≡ q.refusal = cc in let b : r.length ≡ q.length = cc in λ i. record { refusal = a i; length = b i }

same_life : (r q : LifeNumbers) → life_of r ≡ life_of q → r ≡ q
same_life r q e = let a : r.refusal ≡ q.refusal = cc in let b : r.dead ≡ q.dead = cc in λ i. record { refusal = a i; dead = b i }

same_isolation : (r q : IsolationNumbers) → isolation_of r ≡ isolation_of q → r ≡ q
same_isolation r q e =
    let a : r.refusal ≡ q.refusal = cc in
    let b : r.leaks ≡ q.leaks = cc in
    let c : r.a ≡ q.a = cc in
    let d : r.b ≡ q.b = cc in
    λ i. record { refusal = a i; leaks = b i; a = c i; b = d i }

same_cover : (r q : CoverNumbers) → cover_of r ≡ cover_of q → r ≡ q
same_cover r q e = let a : r.refusal ≡ q.refusal = cc in let b : r.covers ≡ q.covers = cc in λ i. record { refusal = a i; covers = b i }

same_count : (r q : CountNumbers) → count_of r ≡ count_of q → r ≡ q
same_count r q e = let a : r.refusal ≡ q.refusal = cc in let b : r.count ≡ q.count = cc in λ i. record { refusal = a i; count = b i }

pub listing_one : (sheet : List ℕ) (table command : ℕ) (session rows out : List ℕ) (r q : ListedNumbers) (after other : List ℕ) →
    ListingNumbers sheet table command session rows out r after → ListingNumbers sheet table command session rows out q other → (r ≡ q) × (after ≡ other)
listing_one sheet table command session rows out r q after other x y =
    let one : ◌≡◌ {A = Result Listed Refusal × List ℕ} (x.reply, after) (y.reply, other) = meant.listing_one sheet table command session rows out (x.reply, after) (y.reply, other) x.replies y.replies in
    (same_listed r q (x.numbers ∙ ap (λ z. listed_numbers z.0) one ∙ sym y.numbers), ap (λ z. z.1) one)

pub normal_form_one : (sheet out : List ℕ) (r q : WrittenNumbers) (after other : List ℕ) → NormalFormNumbers sheet out r after → NormalFormNumbers sheet out q other → (r ≡ q) × (after ≡ other)
normal_form_one sheet out r q after other x y =
    let one : ◌≡◌ {A = Result ℕ Refusal × List ℕ} (x.reply, after) (y.reply, other) = meant.normal_form_one sheet out (x.reply, after) (y.reply, other) x.replies y.replies in
    (same_written r q (x.numbers ∙ ap (λ z. written_numbers z.0) one ∙ sym y.numbers), ap (λ z. z.1) one)

pub dead_one : (sheet : List ℕ) (table command : ℕ) (r q : LifeNumbers) → DeadNumbers sheet table command r → DeadNumbers sheet table command q → r ≡ q
dead_one sheet table command r q x y = same_life r q (x.numbers ∙ ap life_numbers (meant.dead_one sheet table command x.reply y.reply x.replies y.replies) ∙ sym y.numbers)

pub isolated_one : (sheet : List ℕ) (table command : ℕ) (r q : IsolationNumbers) → IsolatedNumbers sheet table command r → IsolatedNumbers sheet table command q → r ≡ q
isolated_one sheet table command r q x y =
    same_isolation r q (x.numbers ∙ ap isolation_numbers (meant.isolated_one sheet table command x.reply y.reply x.replies y.replies) ∙ sym y.numbers)

pub covers_one : (sheet : List ℕ) (a b : ℕ) (r q : CoverNumbers) → CoversNumbers sheet a b r → CoversNumbers sheet a b q → r ≡ q
covers_one sheet a b r q x y = same_cover r q (x.numbers ∙ ap cover_numbers (meant.covers_one sheet a b x.reply y.reply x.replies y.replies) ∙ sym y.numbers)

pub branches_one : (sheet : List ℕ) (table command : ℕ) (r q : CountNumbers) → BranchesNumbers sheet table command r → BranchesNumbers sheet table command q → r ≡ q
branches_one sheet table command r q x y =
    same_count r q (x.numbers ∙ ap branch_numbers (meant.branches_one sheet table command x.reply y.reply x.replies y.replies) ∙ sym y.numbers)
