-- An answered listing and an answered normal form, from the numbers that a host sees.
use Rattle.std.proofs.Common.{arith, ℕ, ◌≡◌, subst, List, Result, Ok, Err}
use Rattle.refusals.specs.declared.Refusal.{Refusal}
use Rattle.refusals.specs.Refusals.{number}
use Rattle.meaning.specs.declared.Listed.{Listed}
use Rattle.meaning.specs.Replies.{listed_numbers, written_numbers, ListingReply, NormalFormReply}
use Rattle.meaning.proofs.NumberedLaws.{number_from_1}
use Rattle.meaning.proofs.Theorems as meant
use Rattle.fiddlecomet.specs.declared.numbers.ListedNumbers.{ListedNumbers}
use Rattle.fiddlecomet.specs.declared.numbers.WrittenNumbers.{WrittenNumbers}
use Rattle.fiddlecomet.specs.Numbers.{listed_of, written_of, ListingNumbers, NormalFormNumbers}

-- a refusal's number is not 0
pub no_refusal : {n : ℕ} (e : Refusal) → n ≡ number e → n ≡ 0 → ⊥
no_refusal e h z = let l = number_from_1 e in omega arith

pub listing_answered : (sheet : List ℕ) (table command : ℕ) (session rows out : List ℕ) (r : ListedNumbers) (after : List ℕ) →
    ListingNumbers sheet table command session rows out r after → r.refusal ≡ 0 → ListingReply sheet table command session rows out (Ok (record { length = r.length; count = r.rows })) after
listing_answered sheet table command session rows out r after x z = go x.reply x.replies x.numbers
  where
    go : (l : Result Listed Refusal) → ListingReply sheet table command session rows out l after → listed_of r ≡ listed_numbers l →
        ListingReply sheet table command session rows out (Ok (record { length = r.length; count = r.rows })) after
    go (Ok l) d e =
        let a : l.length ≡ r.length = cc in
        let b : l.count ≡ r.rows = cc in
        subst (λ y. ListingReply sheet table command session rows out (Ok (record { length = r.length; count = y })) after) b
        (subst (λ y. ListingReply sheet table command session rows out (Ok (record { length = y; count = l.count })) after) a d)
    go (Err f) d e = absurd (no_refusal {n = r.refusal} f (cc) z)

pub normal_form_answered : (sheet out : List ℕ) (r : WrittenNumbers) (after : List ℕ) → NormalFormNumbers sheet out r after → r.refusal ≡ 0 → NormalFormReply sheet out (Ok r.length) after
normal_form_answered sheet out r after x z = go x.reply x.replies x.numbers
  where
    go : (l : Result ℕ Refusal) → NormalFormReply sheet out l after → written_of r ≡ written_numbers l → NormalFormReply sheet out (Ok r.length) after
    go (Ok n) d e = let a : n ≡ r.length = cc in subst (λ y. NormalFormReply sheet out (Ok y) after) a d
    go (Err f) d e = absurd (no_refusal {n = r.refusal} f (cc) z)

-- "Bad input is refused by a numbered reason .. with the lent output untouched."
pub listing_untouched : (sheet : List ℕ) (table command : ℕ) (session rows out : List ℕ) (r : ListedNumbers) (after : List ℕ) →
    ListingNumbers sheet table command session rows out r after → (r.refusal ≡ 0 → ⊥) → (after ≡ out) × (r.length ≡ 0) × (r.rows ≡ 0)
listing_untouched sheet table command session rows out r after x z = go x.reply x.replies x.numbers
  where
    go : (l : Result Listed Refusal) → ListingReply sheet table command session rows out l after → listed_of r ≡ listed_numbers l → (after ≡ out) × (r.length ≡ 0) × (r.rows ≡ 0)
    go (Ok l) d e = absurd (z (cc))
    go (Err f) d e = (meant.listing_untouched sheet table command session rows out after f d, (cc), (cc))

pub normal_form_untouched : (sheet out : List ℕ) (r : WrittenNumbers) (after : List ℕ) → NormalFormNumbers sheet out r after → (r.refusal ≡ 0 → ⊥) → (after ≡ out) × (r.length ≡ 0)
normal_form_untouched sheet out r after x z = go x.reply x.replies x.numbers
  where
    go : (l : Result ℕ Refusal) → NormalFormReply sheet out l after → written_of r ≡ written_numbers l → (after ≡ out) × (r.length ≡ 0)
    go (Ok n) d e = absurd (z (cc))
    go (Err f) d e = (meant.normal_form_untouched sheet out after f d, (cc))
