-- A clause and its words: laid one after another, read one after another, and left alone by what is written elsewhere.
use Prim.Native.Nat.{ℕ, zero, suc, ◌+◌, ◌-◌, ◌*◌, ◌/◌, ◌%◌, ◌<◌, ◌≤◌}
use native.Mathlib.Numerals.{add-one}
use native.Mathlib.Omega.{arith}
use mathlib.Core.Path.{◌≡◌, refl, sym, ap, subst, ◌∙◌}
use mathlib.Core.Bool.{Bool, true, false, cond, ◌&&◌}
use mathlib.Core.List.{List, [], ◌∷◌, ◌++◌}
use lib.ListN.{length, get_or, take, drop, set, drop_of_length-le}
use lib.Seq.{drop-cons, take-suc, take_all, get_or-set_same, get_or-set_other}
use lib.Dec.{ltb, eqb}
use Rattle.lists.specs.Lists.{All, each}
use Rattle.lists.proofs.BoolLaws.{both, join, every_append}
use Rattle.bits.specs.Bits.{number}
use Rattle.bits.proofs.StandLaws.{Written}
use Rattle.meaning.specs.Values.{Kind, Contents}
use Rattle.meaning.specs.Atoms.{equals, is_null, Atom, Clause, met, clause_met}
use Rattle.meaning.specs.Sheets.{Sheet, kind_of}
use Rattle.meaning.specs.Steps.{on}
use Rattle.meaning.specs.Packed.{atom_bits}
use Rattle.meaning.specs.Allowed.{AtomAllowed}
use Rattle.meaning.specs.Reading.{found, field, count, clause}
use Rattle.meaning.proofs.ReadLaws.{read_split}
use Rattle.meaning.proofs.FormLaws.{clause_reads}
use Rattle.admission.specs.Plan.{operator_number_of, variable_of, other_of, operator_of_word, atom_of_word, size_of, clause_of_words, count_of, place_of, guard_of, guard_by, guard_met, sieve_of, sieve_met, ClauseLaid, LaidAt}
use Rattle.admission.proofs.LaidLaws.{field_number, number_written, atom_laid}
use Rattle.admission.proofs.SieveLaws.{asks_nothing}

-- words that stand the same spell the same clause
pub words_same : (kind : ℕ → Kind) (s before after : List ℕ) (i p n : ℕ) → ((j : ℕ) → i ≤ j → j < i + n → get_or after j 0 ≡ get_or before j 0) → clause_of_words kind s after i p n ≡ clause_of_words kind s before i p n
unfolding clause_of_words
words_same kind s before after i p zero h = refl
words_same kind s before after i p (suc n) h =
    let w = h i (omega arith) (omega arith) in
    (λ t. atom_of_word kind s (w t) p ∷ clause_of_words kind s after (i + 1) (p + size_of (w t)) n)
    ∙ ap (λ c. atom_of_word kind s (get_or before i 0) p ∷ c) (words_same kind s before after (i + 1) (p + size_of (get_or before i 0)) n (λ j l m. h j (omega arith) (omega arith)))

-- the first of the words that are left
pub words_more : (kind : ℕ → Kind) (s ws : List ℕ) (i p n : ℕ) → 0 < n → clause_of_words kind s ws i p n ≡ atom_of_word kind s (get_or ws i 0) p ∷ clause_of_words kind s ws (i + 1) (p + size_of (get_or ws i 0)) (n - 1)
unfolding clause_of_words
words_more kind s ws i p zero l = absurd (omega arith)
words_more kind s ws i p (suc n) l = let e : n ≡ suc n - 1 = omega arith in ap (λ m. atom_of_word kind s (get_or ws i 0) p ∷ clause_of_words kind s ws (i + 1) (p + size_of (get_or ws i 0)) m) e

words_none : (kind : ℕ → Kind) (s ws : List ℕ) (i p n : ℕ) → n ≤ 0 → clause_of_words kind s ws i p n ≡ []
unfolding clause_of_words
words_none kind s ws i p n l = let e : n ≡ 0 = omega arith in ap (clause_of_words kind s ws i p) e

-- a turn of evaluating: all the words' clause is met exactly when that of the words from number k on is, whose first atom is at bit number p
abbrev pub Left : (ℕ → Kind) → List ℕ → List ℕ → Contents → (i from n k p : ℕ) → Type 0
Left kind s ws e i from n k p = clause_met e (clause_of_words kind s ws i from n) ≡ clause_met e (clause_of_words kind s ws (i + k) p (n - k))

module _ (kind : ℕ → Kind) (s ws : List ℕ) (e : Contents) (i from n : ℕ) where
  pub left_starts : Left kind s ws e i from n 0 from
  left_starts =
      let a : i ≡ i + 0 = omega arith in
      let b : n ≡ n - 0 = omega arith in
      (λ y. clause_met e (clause_of_words kind s ws (a y) from (b y)))

  module _ (k p : ℕ) (h : Left kind s ws e i from n k p) where
    module _ {r : Bool} (l : k < n) (g : r ≡ met e (atom_of_word kind s (get_or ws (i + k) 0) p)) where
      turn : clause_met e (clause_of_words kind s ws i from n) ≡ (r && clause_met e (clause_of_words kind s ws (i + k + 1) (p + size_of (get_or ws (i + k) 0)) (n - k - 1)))
      turn = h ∙ ap (clause_met e) (words_more kind s ws (i + k) p (n - k) (omega arith)) ∙ ap (λ b. b && clause_met e (clause_of_words kind s ws (i + k + 1) (p + size_of (get_or ws (i + k) 0)) (n - k - 1))) (sym g)

      pub left_on : {size : ℕ} → r ≡ true → size ≡ size_of (get_or ws (i + k) 0) → Left kind s ws e i from n (k + 1) (p + size)
      left_on t z =
          let a : i + k + 1 ≡ i + (k + 1) = omega arith in
          let b : n - k - 1 ≡ n - (k + 1) = omega arith in
          turn ∙ (λ y. t y && clause_met e (clause_of_words kind s ws (a y) (p + sym z y) (b y)))

      pub left_fails : r ≡ false → clause_met e (clause_of_words kind s ws i from n) ≡ false
      left_fails f = turn ∙ ap (λ b. b && clause_met e (clause_of_words kind s ws (i + k + 1) (p + size_of (get_or ws (i + k) 0)) (n - k - 1))) f

    pub left_ends : n ≤ k → clause_met e (clause_of_words kind s ws i from n) ≡ true
    left_ends l = h ∙ ap (clause_met e) (words_none kind s ws (i + k) p (n - k) (omega arith))

-- a guard says no more than the atoms so far do, and a sieve neither
abbrev Guards : ℕ → Clause → Type 0
Guards g c = (e : Contents) → clause_met e c ≡ true → guard_met e g ≡ true

abbrev Sieves : ℕ → Clause → Type 0
Sieves z c = (e : Contents) → clause_met e c ≡ true → sieve_met e z ≡ true

last_met : (e : Contents) (c : Clause) (a : Atom) → clause_met e (c ++ (a ∷ [])) ≡ true → (clause_met e c ≡ true) × (met e a ≡ true)
last_met e c a m =
    let x = both (clause_met e c) (met e a && true) (sym (every_append (met e) c (a ∷ [])) ∙ m) in
    (x.0, (both (met e a) true x.1).0)

guard_more : (kind : ℕ → Kind) (s : List ℕ) (g w p : ℕ) (c : Clause) → Guards g c → Guards (cond (eqb (operator_number_of w) 0) (w / 16 % 1024) g) (c ++ (atom_of_word kind s w p ∷ []))
unfolding atom_of_word operator_of_word
guard_more kind s g w p c h e m =
    let x = last_met e c (atom_of_word kind s w p) m in
    go (eqb (operator_number_of w) 0) refl x.0 x.1
  where
    go : (b : Bool) → eqb (operator_number_of w) 0 ≡ b → clause_met e c ≡ true → met e (atom_of_word kind s w p) ≡ true → guard_met e (cond b (w / 16 % 1024) g) ≡ true
    go false t n o = h e n
    go true t n o =
        let v : w / 16 % 1024 % 32 ≡ variable_of w = omega arith in
        let u : w / 16 % 1024 / 32 % 32 ≡ other_of w = omega arith in
        let a : met e (on (variable_of w) (equals (other_of w))) ≡ true = simp t at o in
        (λ i. guard_by e (v i) (u i)) ∙ ap (λ b. cond (ltb (variable_of w) 24) b true) a ∙ asks_nothing (ltb (variable_of w) 24)

no_atom : Atom
no_atom = on 0 is_null

-- a turn of laying a clause from word number i and bit number p on: k atoms are laid, the others stand packed at bit number `at`; whatever
-- follows the words laid, if it spells the others, all of it spells the clause
pub record Laying (facts : Sheet) (s : List ℕ) (c : Clause) (q i p k at guard sieve : ℕ) (ws : List ℕ) : Type 0 where
  pub allowed : All (AtomAllowed facts) (drop k c)
  pub rest : Written s at q (each (atom_bits (kind_of facts)) (drop k c))
  pub laid : (after : List ℕ) → ((j : ℕ) → j < i + k → get_or after j 0 ≡ get_or ws j 0) → clause_of_words (kind_of facts) s after (i + k) at (length c - k) ≡ drop k c → clause_of_words (kind_of facts) s after i p (length c) ≡ c
  pub guards : Guards guard (take k c)
  pub sieves : Sieves sieve (take k c)

-- a clause that is read starts within the bytes
clause_inside : (facts : Sheet) (s : List ℕ) (p : ℕ) (c : Clause) (q : ℕ) → clause facts s p ≡ found c q → p + 4 ≤ length s * 8
unfolding clause count
clause_inside facts s p c q e =
    let x = read_split (count 4 0 8 s p) _ c q e in
    let y = read_split (field 4 s p) _ x.0 x.1 x.2 in
    (field_number 4 s p y.0 y.1 y.2).1

module _ (facts : Sheet) (s : List ℕ) (short : length s ≤ 16384) (c : Clause) (p q i : ℕ) (is : clause facts s p ≡ found c q) where
  pub clause_near : p ≤ 131072
  clause_near = let h = clause_inside facts s p c q is in omega arith

  pub laying_starts : (ws : List ℕ) → (number s p 4 ≡ length c) × (length c ≤ 8) × Laying facts s c q i (p + 4) 0 (p + 4) 1023 31 ws
  laying_starts ws =
      let h = clause_inside facts s p c q is in
      let r = (clause_reads facts).reads s p c q (omega arith) is in
      let few = r.0.0 in
      let x = number_written s 4 (length c) p q (each (atom_bits (kind_of facts)) c) (omega arith) r.1 in
      let z : i + 0 ≡ i = omega arith in
      let n : length c - 0 ≡ length c = omega arith in
      (x.0, few, record { allowed = r.0.1; rest = x.1; laid = λ after same e. sym (λ t. clause_of_words (kind_of facts) s after (z t) (p + 4) (n t)) ∙ e; guards = λ e m. refl; sieves = λ e m. refl })

  module _ (k at g z : ℕ) (ws : List ℕ) (h : Laying facts s c q i (p + 4) k at g z ws) where
    pub laying_on : (r : ℕ) {size next sieve : ℕ} → k < length c → i + k < length ws → LaidAt s at r → size ≡ size_of r → next ≡ cond (eqb (operator_number_of r) 0) (r / 16 % 1024) g →
        ((kind : ℕ → Kind) (e : Contents) → sieve_met e z ≡ true → met e (atom_of_word kind s r at) ≡ true → sieve_met e sieve ≡ true) → Laying facts s c q i (p + 4) (k + 1) (at + size) next sieve (set ws (i + k) r)
    laying_on r l room w is-size is-next sifts =
        let e : drop k c ≡ get_or c k no_atom ∷ drop (k + 1) c = drop-cons c k no_atom l ∙ ap (λ j. get_or c k no_atom ∷ drop j c) (sym (add-one k)) in
        let a = subst (All (AtomAllowed facts)) e h.allowed in
        let x = atom_laid s facts (get_or c k no_atom) at q (each (atom_bits (kind_of facts)) (drop (k + 1) c)) r a.0 w (subst (λ xs. Written s at q (each (atom_bits (kind_of facts)) xs)) e h.rest) in
        let t : take (k + 1) c ≡ take k c ++ (get_or c k no_atom ∷ []) = ap (λ j. take j c) (add-one k) ∙ take-suc c k no_atom l in
        record {
          allowed = a.1;
          rest = subst (λ m. Written s (at + m) q (each (atom_bits (kind_of facts)) (drop (k + 1) c))) (sym is-size) x.1;
          laid = λ after same f. h.laid after (λ j m. same j (omega arith) ∙ get_or-set_other ws (i + k) j r 0 (λ z. omega arith)) (
              let here : get_or after (i + k) 0 ≡ r = same (i + k) (omega arith) ∙ get_or-set_same ws (i + k) r 0 room in
              let next : i + k + 1 ≡ i + (k + 1) = omega arith in
              let left : length c - k - 1 ≡ length c - (k + 1) = omega arith in
              words_more (kind_of facts) s after (i + k) at (length c - k) (omega arith)
              ∙ (λ y. atom_of_word (kind_of facts) s (here y) at ∷ clause_of_words (kind_of facts) s after (next y) (at + size_of (here y)) (left y))
              ∙ (λ y. x.0 y ∷ (ap (λ m. clause_of_words (kind_of facts) s after (i + (k + 1)) (at + m) (length c - (k + 1))) (sym is-size) ∙ f) y)
              ∙ sym e);
          guards = λ e m. ap (guard_met e) is-next ∙ guard_more (kind_of facts) s g r at (take k c) h.guards e (ap (λ b. clause_met e (take k c ++ (b ∷ []))) x.0 ∙ sym (ap (clause_met e) t) ∙ m);
          sieves = λ e m. let y = last_met e (take k c) (get_or c k no_atom) (sym (ap (clause_met e) t) ∙ m) in sifts (kind_of facts) e (h.sieves e y.0) (ap (met e) x.0 ∙ y.1);
        }

    all_laid : length c ≤ k → clause_of_words (kind_of facts) s ws i (p + 4) (length c) ≡ c
    all_laid l =
        let e : clause_of_words (kind_of facts) s ws (i + k) at (length c - k) ≡ [] = words_none (kind_of facts) s ws (i + k) at (length c - k) (omega arith) in
        h.laid ws (λ j m. refl) (e ∙ sym (drop_of_length-le c l))

    -- the head, as the code joins it
    pub laying_ends : (slot n : ℕ) → i ≡ slot * 8 → n ≡ length c → length c ≤ k → length c ≤ 8 → p ≤ 131072 → g ≤ 1023 → ClauseLaid (kind_of facts) s ws slot (n + (p + 4) * 16 + g * 4194304 + z * 4294967296) c
    laying_ends slot n where-i is-n l few near small =
        let head = n + (p + 4) * 16 + g * 4194304 + z * 4294967296 in
        let many : count_of head ≡ length c = omega arith in
        let upper : head / 16 ≡ p + 4 + g * 262144 + z * 268435456 = omega arith in
        let place : place_of head ≡ p + 4 = ap (λ x. x % 262144) upper ∙ omega arith in
        let higher : head / 4194304 ≡ g + z * 1024 = omega arith in
        let guard : guard_of head ≡ g = ap (λ x. x % 1024) higher ∙ omega arith in
        let sieve : sieve_of head ≡ z = omega arith in
        record {
          few = omega arith;
          atoms = (λ y. clause_of_words (kind_of facts) s ws (sym where-i y) (place y) (many y)) ∙ all_laid l;
          opens = λ e m. let met-so = ap (clause_met e) (take_all k c l) ∙ m in join (guard_met e (guard_of head)) (sieve_met e (sieve_of head)) (ap (guard_met e) guard ∙ h.guards e met-so) (ap (sieve_met e) sieve ∙ h.sieves e met-so);
        }
