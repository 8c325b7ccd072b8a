-- What the verdicts answer of a table and a command that an accepted sheet has.
use Prim.Native.Nat.{ℕ, ◌<◌, ◌≤◌}
use mathlib.Core.Path.{◌≡◌, ap, subst, ◌∙◌}
use mathlib.Core.Bool.{◌&&◌}
use lib.ListN.{length}
use lib.Dec.{ltb, leb}
use borrow.Author.Tests.{lt-ltb, le-leb}
use Rattle.std.specs.Prelude.{Result, Ok, IsOkAnd}
use Rattle.refusals.specs.declared.Refusal.{Refusal}
use Rattle.meaning.specs.declared.Life.{Life}
use Rattle.meaning.specs.declared.Isolation.{Isolation}
use Rattle.meaning.specs.Sheets.{Sheet, branch_count}
use Rattle.meaning.specs.Packed.{packed}
use Rattle.meaning.specs.Allowed.{SheetAllowed}
use Rattle.meaning.specs.Replies.{asks, need, whole, ◌>>=◌, ◌>>◌, asked_table, asked_verdict, Replies, Refused, LifeOf, IsolationOf, DeadReply, IsolatedReply, BranchesReply}
use Rattle.meaning.proofs.SheetLaws.{allowed_accepted}

module _ (sheet : Sheet) (t command : ℕ) (allowed : SheetAllowed sheet) (there : t < length sheet.tables) (known : command ≤ 3) where
  table_asked : asked_table (packed sheet) t command ≡ asks sheet
  unfolding asked_table
  table_asked =
      ap (λ r. whole r >>= λ x. need (ltb t (length x.tables) && leb command 3) 12 >> asks x) (allowed_accepted sheet allowed).1
      ∙ ap (λ b. need (b && leb command 3) 12 >> asks sheet) (lt-ltb t (length sheet.tables) there) ∙ ap (λ b. need b 12 >> asks sheet) (le-leb command 3 known)

  pub count_known : (r : Result ℕ Refusal) → BranchesReply (packed sheet) t command r → r ≡ Ok (branch_count sheet t command)
  unfolding BranchesReply
  count_known r h = subst (λ x. Replies x (λ n. Refused n r) (λ y. r ≡ Ok (branch_count y t command))) table_asked h

  module _ (few : branch_count sheet t command ≤ 256) where
    verdict_asked : asked_verdict (packed sheet) t command ≡ asks sheet
    unfolding asked_verdict
    verdict_asked = ap (λ x. x >>= λ y. need (leb (branch_count y t command) 256) 13 >> asks y) table_asked ∙ ap (λ b. need b 13 >> asks sheet) (le-leb (branch_count sheet t command) 256 few)

    pub life_known : (r : Result Life Refusal) → DeadReply (packed sheet) t command r → IsOkAnd r (LifeOf sheet t command)
    unfolding DeadReply
    life_known r h = subst (λ x. Replies x (λ n. Refused n r) (λ y. IsOkAnd r (LifeOf y t command))) verdict_asked h

    pub isolation_known : (r : Result Isolation Refusal) → IsolatedReply (packed sheet) t command r → IsOkAnd r (IsolationOf sheet t command)
    unfolding IsolatedReply
    isolation_known r h = subst (λ x. Replies x (λ n. Refused n r) (λ y. IsOkAnd r (IsolationOf y t command))) verdict_asked h
