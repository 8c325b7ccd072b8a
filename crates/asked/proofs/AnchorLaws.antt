-- What an equality of a column with key 0 says of whoever meets it, and that it keeps the tenants of two branches the same.
use Prim.Native.Nat.{ℕ, zero, suc, ◌+◌, ◌*◌, ◌%◌, ◌<◌}
use native.Mathlib.Omega.{arith}
use native.Mathlib.Decide.{dec_lt}
use mathlib.Core.Path.{◌≡◌, sym, ap, ◌∙◌}
use mathlib.Core.Bool.{Bool, true, false, cond, ◌&&◌}
use mathlib.Core.List.{List, [], ◌∷◌, map}
use lib.ListN.{get_or}
use borrow.Author.Tests.{eq-eqb}
use Rattle.lists.proofs.BoolLaws.{both, every_append}
use Rattle.meaning.specs.Values.{Contents, with}
use Rattle.meaning.specs.Atoms.{Clause, equals, passes, met, clause_met}
use Rattle.meaning.specs.Sheets.{Sheet}
use Rattle.meaning.specs.Views.{test_of}
use Rattle.meaning.proofs.CaseLaws.{equal_is}
use Rattle.asked.specs.Words.{numbers_at, word_atom, word_atoms, seen}
use Rattle.asked.specs.Asked.{Uses, three, Anchors}
use Rattle.asked.proofs.Shared.{used_seen, three_column, three_one, three_with}

module _ (words : List ℕ) (i c : ℕ) (m : Contents) where
  -- the two variables of an equality hold the same
  same_held : get_or words (i * 11 + 1) 0 ≡ 0 → met m (word_atom words i) ≡ true → m (get_or words (i * 11) 0 % 32) ≡ m (get_or words (i * 11 + 2) 0 % 32)
  unfolding word_atom
  same_held z h =
      equal_is m (get_or words (i * 11 + 2) 0 % 32) (m (get_or words (i * 11) 0 % 32))
      (sym (ap (λ b. passes m (cond b (equals (get_or words (i * 11 + 2) 0 % 32)) (test_of (get_or words (i * 11 + 1) 0) (get_or words (i * 11 + 3) 0) (numbers_at words (i * 11 + 3) (get_or words (i * 11 + 2) 0 % 9)))) (m (get_or words (i * 11) 0 % 32))) (eq-eqb (get_or words (i * 11 + 1) 0) 0 z)) ∙ h)

  pub key_first : get_or words (i * 11 + 1) 0 ≡ 0 → get_or words (i * 11) 0 % 32 ≡ 16 → get_or words (i * 11 + 2) 0 % 32 ≡ c → met m (word_atom words i) ≡ true → m c ≡ m 16
  key_first z v u h = sym (ap m u) ∙ sym (same_held z h) ∙ ap m v

  pub column_first : get_or words (i * 11 + 1) 0 ≡ 0 → get_or words (i * 11 + 2) 0 % 32 ≡ 16 → get_or words (i * 11) 0 % 32 ≡ c → met m (word_atom words i) ≡ true → m c ≡ m 16
  column_first z u v h = sym (ap m v) ∙ same_held z h ∙ ap m u

-- who meets the laid atoms meets each of them
one_met : (words : List ℕ) (n i : ℕ) (m : Contents) → i < n → clause_met m (word_atoms words n) ≡ true → met m (word_atom words i) ≡ true
one_met words zero i m l h = absurd (omega arith)
one_met words (suc n) i m l h = go (dec_lt i n) (one_met words n i m)
  where
    x : (clause_met m (word_atoms words n) ≡ true) × ((met m (word_atom words n) && true) ≡ true)
    x = both (clause_met m (word_atoms words n)) (met m (word_atom words n) && true) (sym (every_append (met m) (word_atoms words n) (word_atom words n ∷ [])) ∙ h)

    go : Dec (i < n) → (i < n → clause_met m (word_atoms words n) ≡ true → met m (word_atom words i) ≡ true) → met m (word_atom words i) ≡ true
    go (yes k) ih = ih k x.0
    go (no k) ih = let e : i ≡ n = omega arith in ap (λ j. met m (word_atom words j)) e ∙ (both (met m (word_atom words n)) true x.1).0

pub anchors_at : (words : List ℕ) (n i c : ℕ) → i < n → (c < 16) × ((m : Contents) → met m (word_atom words i) ≡ true → m c ≡ m 16) → Anchors words n (c + 2)
anchors_at words n i c l h =
    record { some = omega arith; column = (let q = h.0 in omega arith); same = λ d m e k. ap m (let q : d ≡ c = omega arith in q) ∙ h.1 m (one_met words n i m l k) }

-- a row and session that meet a laid clause hold the same in the column marked and in key 0
pub anchored_so : (held : ℕ → Bool) (sheet : Sheet) (words : List ℕ) (n r c : ℕ) (a : Clause) → Anchors words n r → r ≡ c + 2 → word_atoms words n ≡ map (seen false) a → Uses held sheet a →
    (row one : Contents) → clause_met (with row one) a ≡ true → row c ≡ one 0
anchored_so held sheet words n r c a h e w u row one k =
    let l = h.column in
    let m = three row one one in
    sym (three_column row one one c (omega arith))
    ∙ h.same c m e (ap (clause_met m) w ∙ used_seen held sheet false m (with row one) (λ v t. three_with row one one false v t.number) a u ∙ k)
    ∙ three_one row one one 16 (omega arith) (omega arith)
