-- A reply's numbers fit, so that what a host is handed is the reply.
use Rattle.std.proofs.Common.{arith, ℕ, ◌≡◌, List, Result, Ok, Err}
use Rattle.refusals.specs.declared.Refusal.{Refusal}
use Rattle.meaning.specs.declared.Listed.{Listed}
use Rattle.meaning.specs.Replies.{listed_numbers, written_numbers, ListingReply, NormalFormReply}
use Rattle.meaning.proofs.BoundLaws.{listing_bounded, normal_bounded}
use Rattle.fiddlecomet.specs.declared.numbers.ListedNumbers.{ListedNumbers}
use Rattle.fiddlecomet.specs.declared.numbers.WrittenNumbers.{WrittenNumbers}
use Rattle.fiddlecomet.specs.Numbers.{listed_of, written_of, ListedFits, WrittenFits, ListingNumbers, NormalFormNumbers}

pub listing_told : {sheet : List ℕ} {table command : ℕ} {session rows out after : List ℕ} {r : ListedNumbers} (reply : Result Listed Refusal) →
    ListingReply sheet table command session rows out reply after → (ListedFits reply → listed_of r ≡ listed_numbers reply) → ListingNumbers sheet table command session rows out r after
listing_told {sheet} {table} {command} {session} {rows} {out} {after} {r} reply h f = record { reply = reply; replies = h; numbers = f (fits reply h) }
  where
    fits : (l : Result Listed Refusal) → ListingReply sheet table command session rows out l after → ListedFits l
    fits (Ok l) d = listing_bounded sheet table command session rows out l after d
    fits (Err e) d = tt

pub normal_form_told : {sheet out after : List ℕ} {r : WrittenNumbers} (reply : Result ℕ Refusal) → NormalFormReply sheet out reply after → (WrittenFits reply → written_of r ≡ written_numbers reply) →
    NormalFormNumbers sheet out r after
normal_form_told {sheet} {out} {after} {r} reply h f = record { reply = reply; replies = h; numbers = f (fits reply h) }
  where
    fits : (l : Result ℕ Refusal) → NormalFormReply sheet out l after → WrittenFits l
    fits (Ok n) d = let b = normal_bounded sheet out n after d in omega arith
    fits (Err e) d = tt
