-- A branch laid into words: clause after clause, in the order of its conjunction; and the branch that a number picks is the definitions' own.
use Rattle.std.specs.Prelude.{ℕ, zero, suc, ◌+◌, ◌*◌, ◌<◌, ◌≤◌, ◌≡◌, Bool, true, false, cond, List, [], ◌∷◌, ◌++◌, map, length, get_or, take}
use Rattle.std.proofs.Common.{arith, refl, sym, ap, subst, ◌∙◌}
use native.Mathlib.Nat.{add-zero, add-suc}
use native.Mathlib.Decide.{dec_lt}
use mathlib.Core.List.{append_assoc}
use lib.ListN.{length-append}
use lib.Seq.{take_all, take-append-le, take_at}
use borrow.Author.Tests.{eq-eqb, ne_eqb}
use Rattle.lists.specs.Decides.{Decides}
use Rattle.lists.proofs.ListLaws.{all_at}
use Rattle.meaning.specs.Atoms.{Atom, Clause}
use Rattle.meaning.specs.Sheets.{Sheet, branches}
use Rattle.meaning.proofs.BranchLaws.{branches_counted}
use Rattle.branches.specs.declared.Branch.{Branch}
use Rattle.branches.specs.Parts.{up_to, branches_of, picked, besides, conjunction, Picks, clauses_of}
use Rattle.branches.proofs.JoinLaws.{nil_right}
use Rattle.branches.proofs.SheetLaws.{branches_are, counts_sized}
use Rattle.asked.specs.Words.{word_atom, word_atoms, seen}
use Rattle.asked.specs.Asked.{Uses, TellsMeets, TellsLeak, Anchors}
use Rattle.asked.proofs.UseLaws.{branches_used, key_there}
use Rattle.asked.proofs.AnchorLaws.{anchored_so}
use Rattle.verdicts.specs.declared.Asking.TheInside.{Inside}
use Rattle.verdicts.specs.Questions.{Posed, number_of, branch_at, held_by, Met, TellsMark, TellsPair}
use Rattle.verdicts.specs.Posing.{what_is_posed, Poses, IsPosed}

map_append : (f : Atom → Atom) (xs ys : List Atom) → map f (xs ++ ys) ≡ map f xs ++ map f ys
map_append f [] ys = refl
map_append f (x ∷ xs) ys = ap (λ t. f x ∷ t) (map_append f xs ys)

-- the atoms w are those of v, of the permissive clause, and of the clauses that the slots pick of the policies before p
pub record Laying (clauses : ℕ → List Clause) (second : Bool) (b : Branch) (v w : Clause) (p : ℕ) : Type 0 where
  pub laid : w ≡ v ++ map (seen second) (picked clauses b.slots b.policy ++ up_to (besides clauses b) p)

module _ {clauses : ℕ → List Clause} {second : Bool} {b : Branch} {v w : Clause} where
  pub laying_starts : w ≡ v ++ map (seen second) (picked clauses b.slots b.policy) → Laying clauses second b v w 0
  laying_starts e = record { laid = e ∙ ap (λ z. v ++ map (seen second) z) (sym (nil_right (picked clauses b.slots b.policy))) }

  next : (p : ℕ) (c : Clause) → besides clauses b p ≡ c → Laying clauses second b v w p → w ++ map (seen second) c ≡ v ++ map (seen second) (picked clauses b.slots b.policy ++ up_to (besides clauses b) (p + 1))
  next p c e had =
      let u = up_to (besides clauses b) in
      let o : suc p ≡ p + 1 = omega arith in
      let f = picked clauses b.slots b.policy in
      ap (λ z. z ++ map (seen second) c) had.laid ∙ append_assoc v (map (seen second) (f ++ u p)) (map (seen second) c) ∙ ap (λ z. v ++ z) (sym (map_append (seen second) (f ++ u p) c))
      ∙ ap (λ z. v ++ map (seen second) z) (append_assoc f (u p) c) ∙ ap (λ z. v ++ map (seen second) (f ++ (u p ++ z))) (sym e) ∙ ap (λ z. v ++ map (seen second) (f ++ u z)) o

  pub laying_skips : {p : ℕ} → p ≡ b.policy → Laying clauses second b v w p → Laying clauses second b v w (p + 1)
  laying_skips {p} e had = record { laid = sym (nil_right w) ∙ next p [] (ap (λ (x : Bool). cond x [] (picked clauses b.slots p)) (eq-eqb p b.policy e)) had }

  pub laying_more : {w' : Clause} {p : ℕ} → (p ≡ b.policy → ⊥) → w' ≡ w ++ map (seen second) (picked clauses b.slots p) → Laying clauses second b v w p → Laying clauses second b v w' (p + 1)
  laying_more {p = p} ne f had = record { laid = f ∙ next p (picked clauses b.slots p) (ap (λ (x : Bool). cond x [] (picked clauses b.slots p)) (ne_eqb p b.policy ne)) had }

pub laying_ends : {clauses : ℕ → List Clause} {second : Bool} {b : Branch} {v w : Clause} {p : ℕ} → p ≡ 16 → Laying clauses second b v w p → w ≡ v ++ map (seen second) (conjunction clauses b)
laying_ends {clauses} {second} {b} {v} {w} e had = (subst (Laying clauses second b v w) e had).laid

-- a branch has at most 128 atoms: eight a policy, for the one that stands in front is skipped behind
pub room : (n m₀ m p q : ℕ) → p < 16 → q < 16 → (p ≡ q → ⊥) → m₀ ≤ n + 8 → m ≤ m₀ + 8 * p → (q < p → m + 8 ≤ m₀ + 8 * p) → m ≤ n + 120
room n m₀ m p q lp lq ne l h g = go (dec_lt q p)
  where
    go : Dec (q < p) → m ≤ n + 120
    go (yes k) = omega (arith, g k)
    go (no k) = omega arith

-- what a question that a clause sees knows of what is posed
pub known : (a : Inside) → IsPosed a → {q : Posed} → what_is_posed a ≡ q → Poses q a.question.roles a.question.counts a.question.number a.question.top
known a i e = subst (λ q. Poses q a.question.roles a.question.counts a.question.number a.question.top) e i

module _ {q : Posed} {roles counts top : List ℕ} {number : ℕ} (poses : Poses q roles counts number top) where
  -- the branch that a number picks is the definitions' own
  pub branch_is : (k : ℕ) (b : Branch) → k < number_of q → Picks roles counts k b → conjunction (clauses_of q.sheet) b ≡ branch_at q k
  branch_is k b l h =
      let e : branches q.sheet q.table q.command ≡ branches_of roles (clauses_of q.sheet) = branches_are q.sheet q.table q.command roles poses.allowed.policies poses.roles in
      h.picks (clauses_of q.sheet) (counts_sized q.sheet counts poses.allowed poses.counts) (subst (λ z. k < z) (sym (branches_counted q.sheet q.table q.command) ∙ ap length e) l) ∙ ap (λ cs. get_or cs k []) (sym e)

  pub branch_used : (k : ℕ) → k < number_of q → Uses (held_by q) q.sheet (branch_at q k)
  branch_used k l =
      all_at (Uses (held_by q) q.sheet) [] (branches q.sheet q.table q.command) k (subst (λ z. k < z) (sym (branches_counted q.sheet q.table q.command)) l) (branches_used q.sheet poses.allowed q.table q.command poses.there)

  -- the clauses of the sheet's policies, picked and laid, are those of branch k
  pub laid_at : (second : Bool) (v : Clause) {k : ℕ} {b : Branch} {sheet : Sheet} {w : Clause} → sheet ≡ q.sheet → Picks roles counts k b → w ≡ v ++ map (seen second) (conjunction (clauses_of sheet) b) → k < number_of q → w ≡ v ++ map (seen second) (branch_at q k)
  laid_at second v {k} {b} e picks laid l = laid ∙ ap (λ z. v ++ map (seen second) (conjunction (clauses_of z) b)) e ∙ ap (λ z. v ++ map (seen second) z) (branch_is k b l picks)

  -- what is answered of branch k, laid
  module _ (words : List ℕ) (n : ℕ) {k : ℕ} (l : k < number_of q) (laid : word_atoms words n ≡ map (seen false) (branch_at q k)) where
    pub met_told : {r : Bool} → TellsMeets words n top r → Decides (Met q k) r
    met_told told = told (held_by q) q.sheet (branch_at q k) laid poses.ranges (branch_used k l)

    pub marked_met : {r : ℕ} → Anchors words n r → TellsMark q k r
    marked_met {r} a =
        record {
          unmet = λ e m. let some = a.some in absurd (omega arith);
          anchored = λ c e. anchored_so (held_by q) q.sheet words n r c (branch_at q k) a e laid (branch_used k l);
        }

    pub marked_unmet : {r : Bool} → TellsMeets words n top r → r ≡ false → TellsMark q k 0
    marked_unmet told f = record { unmet = λ e m. (met_told told).no f m; anchored = λ c e. absurd (omega arith) }

  -- and of branch b, laid for the second session behind the atoms w
  pub pair_told : (both : List ℕ) (m : ℕ) {b : ℕ} {w : Clause} {r : Bool} → b < number_of q → word_atoms both m ≡ w ++ map (seen true) (branch_at q b) → TellsLeak both m top r → TellsPair q b w r
  pair_told both m {b} l laid told a la e =
      told (held_by q) q.sheet (branch_at q a) (branch_at q b) (laid ∙ ap (λ z. z ++ map (seen true) (branch_at q b)) e) poses.ranges (branch_used a la) (branch_used b l) (key_there q.sheet poses.allowed (held_by q))

-- the first n of more atoms are those that n count
atoms_counted : (words : List ℕ) (n : ℕ) → length (word_atoms words n) ≡ n
atoms_counted words zero = refl
atoms_counted words (suc n) = let l = atoms_counted words n in rw (length-append (word_atoms words n) (word_atom words n ∷ [])) (omega arith)

atoms_front : (words : List ℕ) (n k : ℕ) → take n (word_atoms words (n + k)) ≡ word_atoms words n
atoms_front words n zero = let l = atoms_counted words n in rw (add-zero n) (take_all n (word_atoms words n) (omega arith))
atoms_front words n (suc k) =
    let l = atoms_counted words (n + k) in
    rw (add-suc n k) (take-append-le n (word_atoms words (n + k)) (word_atom words (n + k) ∷ []) (omega arith) ∙ atoms_front words n k)

-- what is laid behind n atoms leaves them
pub kept_behind : (words after : List ℕ) (n m : ℕ) (xs : Clause) → word_atoms after m ≡ word_atoms words n ++ xs → word_atoms after n ≡ word_atoms words n
kept_behind words after n m xs e =
    let l = atoms_counted words n in
    let k = atoms_counted after m in
    let g : m ≡ n + length xs = omega (arith, ap length e, length-append (word_atoms words n) xs) in
    sym (atoms_front after n (length xs)) ∙ ap (λ (i : ℕ). take n (word_atoms after i)) (sym g) ∙ ap (take n) e ∙ take_at (word_atoms words n) xs n l
