-- What is asked is refused by one of 01's refusals, whose numbers are from 1 on: so a host reads 0 as an answer, and nothing else.
use Prim.Native.Nat.{ℕ, ◌≤◌}
use native.Mathlib.Omega.{arith}
use mathlib.Core.Path.{◌≡◌, refl, ◌∙◌}
use mathlib.Core.Bool.{Bool, true, false, ◌&&◌}
use mathlib.Core.List.{List}
use lib.ListN.{length}
use lib.Dec.{ltb, leb}
use Rattle.std.specs.Prelude.{Err}
use Rattle.refusals.specs.declared.Refusal.{Refusal}
use Rattle.refusals.specs.declared.Refusal.TheVariants.{NotAsked, TooManyBranches, NoRoom, WrongRows}
use Rattle.refusals.specs.Refusals.{number}
use Rattle.meaning.specs.Sheets.{Sheet, table_at, branch_count}
use Rattle.meaning.specs.Reading.{Read, found, refused, read_sheet, read_session, read_rows}
use Rattle.meaning.specs.Replies.{Asked, asks, refuses, ◌>>=◌, ◌>>◌, need, whole, formed, asked_table, asked_verdict, asked_covers, asked_normal, asked_rows, ListingReply, NormalFormReply, DeadReply, IsolatedReply, CoversReply, BranchesReply}
use Rattle.meaning.proofs.NumberedLaws.{Named, number_from_1, sheet_numbered}

abbrev pub Numbered : {A : Type 0} → Asked A → Type 0
Numbered m = (n : ℕ) → m ≡ refuses n → Named n

refuses_same : {A : Type 0} {n k : ℕ} → ◌≡◌ {A = Asked A} (refuses n) (refuses k) → n ≡ k
refuses_same e = cc

not_refuses : {A : Type 0} {a : A} {n : ℕ} → asks a ≡ refuses n → ⊥
not_refuses e = let z : ◌≡◌ {A = ℕ} 0 1 = cc in omega arith

then_numbered : {A B : Type 0} (m : Asked A) (f : A → Asked B) → Numbered m → ((a : A) → Numbered (f a)) → Numbered (m >>= f)
then_numbered (asks a) f g h n e = h a n e
then_numbered (refuses k) f g h n e = let l = g k refl in (l.0, l.1 ∙ refuses_same e)

need_numbered : {A : Type 0} (ok : Bool) (r : Refusal) (m : Asked A) → Numbered m → Numbered (need ok (number r) >> m)
need_numbered true r m h n e = h n e
need_numbered false r m h n e = (r, refuses_same e)

asks_numbered : {A : Type 0} (a : A) → Numbered (asks a)
asks_numbered a n e = absurd (not_refuses e)

whole_numbered : (s : List ℕ) → Numbered (whole (read_sheet s))
whole_numbered s n e = go (read_sheet s) refl e
  where
    go : (r : Read Sheet) → read_sheet s ≡ r → whole r ≡ refuses n → Named n
    go (found sheet p) h e = absurd (not_refuses e)
    go (refused k) h e = let l = sheet_numbered s k h in (l.0, l.1 ∙ refuses_same e)

formed_numbered : {A : Type 0} (r : Read A) → Numbered (formed r)
formed_numbered (found a p) n e = absurd (not_refuses e)
formed_numbered (refused k) n e = (WrongRows, refuses_same e)

pub table_numbered : (s : List ℕ) (t command : ℕ) → Numbered (asked_table s t command)
unfolding asked_table
table_numbered s t command = then_numbered (whole (read_sheet s)) _ (whole_numbered s) (λ sheet. need_numbered (ltb t (length sheet.tables) && leb command 3) NotAsked _ (asks_numbered sheet))

pub verdict_numbered : (s : List ℕ) (t command : ℕ) → Numbered (asked_verdict s t command)
unfolding asked_verdict
verdict_numbered s t command = then_numbered (asked_table s t command) _ (table_numbered s t command) (λ sheet. need_numbered (leb (branch_count sheet t command) 256) TooManyBranches _ (asks_numbered sheet))

pub covers_numbered : (s : List ℕ) (a b : ℕ) → Numbered (asked_covers s a b)
unfolding asked_covers
covers_numbered s a b = then_numbered (whole (read_sheet s)) _ (whole_numbered s) (λ sheet. need_numbered (ltb a (length sheet.policies) && ltb b (length sheet.policies)) NotAsked _ (asks_numbered sheet))

pub normal_numbered : (s out : List ℕ) → Numbered (asked_normal s out)
unfolding asked_normal
normal_numbered s out = then_numbered (whole (read_sheet s)) _ (whole_numbered s) (λ sheet. need_numbered (leb (length s) (length out)) NoRoom _ (asks_numbered sheet))

pub rows_numbered : (s : List ℕ) (t command : ℕ) (session list out : List ℕ) → Numbered (asked_rows s t command session list out)
unfolding asked_rows
rows_numbered s t command session list out =
    then_numbered (asked_table s t command) _ (table_numbered s t command)
    (λ sheet. need_numbered (leb (length list) (length out)) NoRoom _
    (then_numbered (formed (read_session sheet session)) _ (formed_numbered (read_session sheet session))
    (λ key. then_numbered (formed (read_rows sheet (table_at sheet t) list)) _ (formed_numbered (read_rows sheet (table_at sheet t) list)) (λ rows. asks_numbered _))))

-- a call that refuses refuses by a number from 1 on
pub listing_numbered : (s : List ℕ) (t command : ℕ) (session list out : List ℕ) (e : Refusal) (after : List ℕ) → ListingReply s t command session list out (Err e) after → 1 ≤ number e
listing_numbered s t command session list out e after h = number_from_1 e

pub normal_form_numbered : (s out : List ℕ) (e : Refusal) (after : List ℕ) → NormalFormReply s out (Err e) after → 1 ≤ number e
normal_form_numbered s out e after h = number_from_1 e

pub dead_numbered : (s : List ℕ) (t command : ℕ) (e : Refusal) → DeadReply s t command (Err e) → 1 ≤ number e
dead_numbered s t command e h = number_from_1 e

pub isolated_numbered : (s : List ℕ) (t command : ℕ) (e : Refusal) → IsolatedReply s t command (Err e) → 1 ≤ number e
isolated_numbered s t command e h = number_from_1 e

pub covers_refused_numbered : (s : List ℕ) (a b : ℕ) (e : Refusal) → CoversReply s a b (Err e) → 1 ≤ number e
covers_refused_numbered s a b e h = number_from_1 e

pub branches_numbered : (s : List ℕ) (t command : ℕ) (e : Refusal) → BranchesReply s t command (Err e) → 1 ≤ number e
branches_numbered s t command e h = number_from_1 e
