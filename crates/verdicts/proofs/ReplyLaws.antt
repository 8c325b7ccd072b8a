-- The replies: what is refused, in the paper's order, and what is answered.
use Rattle.std.specs.Prelude.{Result, Ok, Err, ℕ, ◌<◌, ◌≤◌, ◌≡◌, Bool, false, ◌&&◌, ◌⊎◌, List, length, ltb, leb}
use mathlib.Core.Path.{refl, sym, ap, subst, ◌∙◌}
use mathlib.Core.Logic.{inl, inr}
use borrow.Author.Tests.{lt-ltb, le-ltb, le-leb, lt-leb}
use Rattle.refusals.specs.declared.Refusal.{Refusal}
use Rattle.refusals.specs.declared.Refusal.TheVariants.{NotAsked}
use Rattle.refusals.specs.Refusals.{number}
use Rattle.meaning.specs.declared.Life.{Life}
use Rattle.meaning.specs.declared.Isolation.{Isolation}
use Rattle.meaning.specs.declared.Cover.{Cover}
use Rattle.meaning.specs.Sheets.{Sheet, branch_count}
use Rattle.meaning.specs.Packed.{packed}
use Rattle.meaning.specs.Reading.{found, refused, read_sheet}
use Rattle.meaning.specs.Allowed.{SheetAllowed}
use Rattle.meaning.specs.Replies.{asks, refuses, ◌>>=◌, ◌>>◌, need, whole, Replies, asked_table, asked_verdict, asked_covers, LifeOf, DeadReply, IsolationOf, IsolatedReply, CoverOf, CoversReply, BranchesReply}
use Rattle.meaning.proofs.SheetLaws.{allowed_accepted}

module _ (s : List ℕ) (t command : ℕ) where
  -- 1 to 11: the sheet's own
  pub table_refused : (n : ℕ) → read_sheet s ≡ refused n → asked_table s t command ≡ refuses n
  unfolding asked_table
  table_refused n e = ap (λ r. whole r >>= (λ sheet. need (ltb t (length sheet.tables) && leb command 3) 12 >> asks sheet)) e

  -- 13
  pub verdict_refused : (n : ℕ) → asked_table s t command ≡ refuses n → asked_verdict s t command ≡ refuses n
  unfolding asked_verdict
  verdict_refused n e = ap (λ x. x >>= (λ sheet. need (leb (branch_count sheet t command) 256) 13 >> asks sheet)) e

  pub verdict_many : (sheet : Sheet) → asked_table s t command ≡ asks sheet → 256 < branch_count sheet t command → asked_verdict s t command ≡ refuses 13
  unfolding asked_verdict
  verdict_many sheet e l = ap (λ x. x >>= (λ sheet. need (leb (branch_count sheet t command) 256) 13 >> asks sheet)) e ∙ ap (λ (b : Bool). need b 13 >> asks sheet) (lt-leb (branch_count sheet t command) 256 l)

  pub verdict_asked : (sheet : Sheet) → asked_table s t command ≡ asks sheet → branch_count sheet t command ≤ 256 → asked_verdict s t command ≡ asks sheet
  unfolding asked_verdict
  verdict_asked sheet e l = ap (λ x. x >>= (λ sheet. need (leb (branch_count sheet t command) 256) 13 >> asks sheet)) e ∙ ap (λ (b : Bool). need b 13 >> asks sheet) (le-leb (branch_count sheet t command) 256 l)

  -- the replies
  pub dead_refused : (e : Refusal) → asked_verdict s t command ≡ refuses (number e) → DeadReply s t command (Err e)
  unfolding DeadReply
  dead_refused e h = subst (λ x. Replies x (λ k. number e ≡ k) (λ sheet. ⊥)) (sym h) refl

  pub dead_told : (sheet : Sheet) (r : Life) → asked_verdict s t command ≡ asks sheet → LifeOf sheet t command r → DeadReply s t command (Ok r)
  unfolding DeadReply
  dead_told sheet r e h = subst (λ x. Replies x (λ k. ⊥) (λ sheet. LifeOf sheet t command r)) (sym e) h

  pub isolated_refused : (e : Refusal) → asked_verdict s t command ≡ refuses (number e) → IsolatedReply s t command (Err e)
  unfolding IsolatedReply
  isolated_refused e h = subst (λ x. Replies x (λ k. number e ≡ k) (λ sheet. ⊥)) (sym h) refl

  pub isolated_told : (sheet : Sheet) (r : Isolation) → asked_verdict s t command ≡ asks sheet → IsolationOf sheet t command r → IsolatedReply s t command (Ok r)
  unfolding IsolatedReply
  isolated_told sheet r e h = subst (λ x. Replies x (λ k. ⊥) (λ sheet. IsolationOf sheet t command r)) (sym e) h

  pub branches_refused : (e : Refusal) → asked_table s t command ≡ refuses (number e) → BranchesReply s t command (Err e)
  unfolding BranchesReply
  branches_refused e h = subst (λ x. Replies x (λ k. number e ≡ k) (λ sheet. ◌≡◌ {A = Result ℕ Refusal} (Err e) (Ok (branch_count sheet t command)))) (sym h) refl

  pub branches_told : (sheet : Sheet) (n : ℕ) → asked_table s t command ≡ asks sheet → n ≡ branch_count sheet t command → BranchesReply s t command (Ok n)
  unfolding BranchesReply
  branches_told sheet n e f = subst (λ x. Replies x (λ k. ⊥) (λ sheet. ◌≡◌ {A = Result ℕ Refusal} (Ok n) (Ok (branch_count sheet t command)))) (sym e) (ap Ok f)

-- 12, of an accepted sheet
module _ (sheet : Sheet) (allowed : SheetAllowed sheet) where
  read : read_sheet (packed sheet) ≡ found sheet (allowed_accepted sheet allowed).0
  read = (allowed_accepted sheet allowed).1

  module _ (t command : ℕ) where
    asked_found : asked_table (packed sheet) t command ≡ (need (ltb t (length sheet.tables) && leb command 3) 12 >> asks sheet)
    unfolding asked_table
    asked_found = ap (λ r. whole r >>= (λ sheet. need (ltb t (length sheet.tables) && leb command 3) 12 >> asks sheet)) read

    pub not_asked : (length sheet.tables ≤ t) ⊎ ((t < length sheet.tables) × (3 < command)) → asked_table (packed sheet) t command ≡ refuses 12
    not_asked (inl l) = asked_found ∙ ap (λ (b : Bool). need (b && leb command 3) 12 >> asks sheet) (le-ltb t (length sheet.tables) l)
    not_asked (inr h) =
        asked_found ∙ ap (λ (b : Bool). need (b && leb command 3) 12 >> asks sheet) (lt-ltb t (length sheet.tables) h.0) ∙ ap (λ (b : Bool). need b 12 >> asks sheet) (lt-leb command 3 h.1)

    pub table_asked : t < length sheet.tables → command ≤ 3 → asked_table (packed sheet) t command ≡ asks sheet
    table_asked l m =
        asked_found ∙ ap (λ (b : Bool). need (b && leb command 3) 12 >> asks sheet) (lt-ltb t (length sheet.tables) l) ∙ ap (λ (b : Bool). need b 12 >> asks sheet) (le-leb command 3 m)

module _ (s : List ℕ) (a b : ℕ) where
  pub covers_refused : (e : Refusal) → read_sheet s ≡ refused (number e) → CoversReply s a b (Err e)
  unfolding CoversReply asked_covers
  covers_refused e h =
      subst (λ r. Replies (whole r >>= (λ sheet. need (ltb a (length sheet.policies) && ltb b (length sheet.policies)) 12 >> asks sheet)) (λ k. number e ≡ k) (λ sheet. ⊥)) (sym h) refl

module _ (sheet : Sheet) (allowed : SheetAllowed sheet) (a b : ℕ) where
  covers_found : asked_covers (packed sheet) a b ≡ (need (ltb a (length sheet.policies) && ltb b (length sheet.policies)) 12 >> asks sheet)
  unfolding asked_covers
  covers_found = ap (λ r. whole r >>= (λ sheet. need (ltb a (length sheet.policies) && ltb b (length sheet.policies)) 12 >> asks sheet)) (read sheet allowed)

  not_there : asked_covers (packed sheet) a b ≡ refuses 12 → CoversReply (packed sheet) a b (Err NotAsked)
  unfolding CoversReply
  not_there e = subst (λ x. Replies x (λ k. 12 ≡ k) (λ sheet. ⊥)) (sym e) refl

  pub policies_not_asked : (length sheet.policies ≤ a) ⊎ ((a < length sheet.policies) × (length sheet.policies ≤ b)) → CoversReply (packed sheet) a b (Err NotAsked)
  policies_not_asked (inl l) = not_there (covers_found ∙ ap (λ (x : Bool). need (x && ltb b (length sheet.policies)) 12 >> asks sheet) (le-ltb a (length sheet.policies) l))
  policies_not_asked (inr h) =
      not_there
      (covers_found ∙ ap (λ (x : Bool). need (x && ltb b (length sheet.policies)) 12 >> asks sheet) (lt-ltb a (length sheet.policies) h.0)
      ∙ ap (λ (x : Bool). need x 12 >> asks sheet) (le-ltb b (length sheet.policies) h.1))

  pub covers_told : (r : Cover) → a < length sheet.policies → b < length sheet.policies → CoverOf sheet a b r → CoversReply (packed sheet) a b (Ok r)
  unfolding CoversReply
  covers_told r l m h =
      subst (λ x. Replies x (λ k. ⊥) (λ sheet. CoverOf sheet a b r))
      (sym
      (covers_found ∙ ap (λ (x : Bool). need (x && ltb b (length sheet.policies)) 12 >> asks sheet) (lt-ltb a (length sheet.policies) l)
      ∙ ap (λ (x : Bool). need x 12 >> asks sheet) (lt-ltb b (length sheet.policies) m)))
      h
