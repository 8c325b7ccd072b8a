-- An atom by value laid into words is that atom, free of code. Assumes nothing.
use Prim.Native.Nat.{ℕ, zero, suc, ◌+◌, ◌*◌, ◌%◌, ◌≤◌, ◌<◌}
use native.Mathlib.Omega.{arith}
use mathlib.Core.Path.{◌≡◌, refl, sym, ◌∙◌, ap}
use mathlib.Core.Bool.{Bool, true, false, cond, ◌&&◌}
use mathlib.Core.List.{List, [], ◌∷◌, ◌++◌, map}
use lib.ListN.{length, get_or, set, length-set, length-map, take}
use lib.Seq.{get_or-set_same, get_or-set_other}
use Rattle.std.proofs.Common.{min}
use Rattle.std.proofs.lemmas.List.{take_min}
use lib.Dec.{leb, eqb}
use borrow.Author.Count.{below_more}
use borrow.Author.Tests.{le-leb, lt-leb}
use Rattle.meaning.specs.Atoms.{at_most, at_least, is_below, is_above, equals, in_list, not_in_list, order, is_null, is_not_null}
use Rattle.meaning.specs.Steps.{on}
use Rattle.meaning.specs.declared.Atom.{Atom}
use Rattle.meaning.specs.Views.{operator_of, atom_of, test_of}
use Rattle.asked.specs.Words.{numbers_at, word_atom, word_atoms, slot_of, seen_by, seen, third_of}

pub both : {A B C : Type 0} (f : A → B → C) {a a' : A} {b b' : B} → a ≡ a' → b ≡ b' → f a b ≡ f a' b'
both f p q = λ j. f (p j) (q j)

-- one more element of a list that grows at n
pub grow_new : (f : ℕ → ℕ) (vals : List ℕ) (n k x : ℕ) → n + k < length vals → ((j : ℕ) → j < k → get_or vals (n + j) 0 ≡ f j) → x ≡ f k → (j : ℕ) → j < k + 1 → get_or (set vals (n + k) x) (n + j) 0 ≡ f j
grow_new f vals n k x l h e =
    below_more (λ j. get_or (set vals (n + k) x) (n + j) 0 ≡ f j) k (λ j d. get_or-set_other vals (n + k) (n + j) x 0 (omega arith) ∙ h j d) (get_or-set_same vals (n + k) x 0 l ∙ e)

at : (s : List ℕ) (i j : ℕ) → i ≡ j → get_or s i 0 ≡ get_or s j 0
at s i j e = ap (λ (k : ℕ). get_or s k 0) e

numbers_same : (s t : List ℕ) (p q n : ℕ) → ((k : ℕ) → k < n → get_or s (p + k) 0 ≡ get_or t (q + k) 0) → numbers_at s p n ≡ numbers_at t q n
numbers_same s t p q zero h = refl
numbers_same s t p q (suc n) h =
    both ◌∷◌ (at s (p) (p + 0) (omega arith) ∙ h 0 (omega arith) ∙ at t (q + 0) (q) (omega arith))
    (numbers_same s t (p + 1) (q + 1) n (λ k l. at s (p + 1 + k) (p + (k + 1)) (omega arith) ∙ h (k + 1) (omega arith) ∙ at t (q + (k + 1)) (q + 1 + k) (omega arith)))

take_numbers : (n : ℕ) (xs : List ℕ) → n ≤ length xs → take n xs ≡ numbers_at xs 0 n
take_numbers zero xs l = refl
take_numbers (suc n) [] l = absurd (omega arith)
take_numbers (suc n) (x ∷ xs) l =
    ap (λ ys. x ∷ ys) (take_numbers n xs (omega arith) ∙ numbers_same xs (x ∷ xs) 0 1 n (λ k l. at xs (0 + k) k (omega arith) ∙ at (x ∷ xs) (suc k) (1 + k) (omega arith)))

pub take_8 : {A : Type 0} (count : ℕ) (xs : List A) → length xs ≡ 8 → take (min count 8) xs ≡ take count xs
take_8 count xs len = ap (λ (k : ℕ). take (min count k) xs) (sym len) ∙ take_min count xs

first_8 : (n : ℕ) (xs : List ℕ) → length xs ≡ 8 → take n xs ≡ numbers_at xs 0 (min n 8)
first_8 n xs e = sym (take_8 n xs e) ∙ take_numbers (min n 8) xs (omega arith)

pub slot_lt : (second : Bool) (v : ℕ) → slot_of second v < 32
unfolding slot_of
slot_lt second v = go (second && leb 16 v)
  where
    go : (b : Bool) → cond b ((v % 32 + 8) % 32) (v % 32) < 32
    go true = omega arith
    go false = omega arith

-- atom n, from what its words are
operator_seen : (op w other count n : ℕ) (ns ms : List ℕ) (second : Bool) → w ≡ third_of op other count second → n ≡ get_or ms 0 0 → (eqb op 0 ≡ false → ns ≡ take count ms) →
    operator_of op (w % 32) n ns ≡ seen_by second (operator_of op other (get_or ms 0 0) (take count ms))
operator_seen op w other count n ns ms second e f g = go (eqb op 0) refl
  where
    chain : (x : ℕ) (xs : List ℕ) (b1 b2 b3 b4 b5 b6 b7 : Bool) → cond b1 (in_list xs) (cond b2 (not_in_list xs) (cond b3 (order at_most x) (cond b4 (order at_least x) (cond b5 (order is_below x) (cond b6 (order is_above x) (cond b7 is_null is_not_null))))))
        ≡ seen_by second (cond b1 (in_list xs) (cond b2 (not_in_list xs) (cond b3 (order at_most x) (cond b4 (order at_least x) (cond b5 (order is_below x) (cond b6 (order is_above x) (cond b7 is_null is_not_null)))))))
    chain x xs true b2 b3 b4 b5 b6 b7 = refl
    chain x xs false true b3 b4 b5 b6 b7 = refl
    chain x xs false false true b4 b5 b6 b7 = refl
    chain x xs false false false true b5 b6 b7 = refl
    chain x xs false false false false true b6 b7 = refl
    chain x xs false false false false false true b7 = refl
    chain x xs false false false false false false true = refl
    chain x xs false false false false false false false = refl

    go : (b : Bool) → eqb op 0 ≡ b → operator_of op (w % 32) n ns ≡ seen_by second (operator_of op other (get_or ms 0 0) (take count ms))
    go true q =
        let d : w ≡ slot_of second other = e ∙ ap (λ (b : Bool). cond b (slot_of second other) (min count 8)) q in
        let l = slot_lt second other in
        let r : w % 32 ≡ slot_of second other = omega arith in
        ap (λ (b : Bool). cond b (equals (w % 32)) (test_of op n ns)) q ∙ ap equals r
        ∙ sym (ap (λ (b : Bool). seen_by second (cond b (equals other) (test_of op (get_or ms 0 0) (take count ms)))) q)
    go false q =
        ap (λ (b : Bool). cond b (equals (w % 32)) (test_of op n ns)) q ∙ both (test_of op) f (g q)
        ∙ chain (get_or ms 0 0) (take count ms) (eqb op 1) (eqb op 2) (eqb op 3) (eqb op 4) (eqb op 5) (eqb op 6) (eqb op 7)
        ∙ sym (ap (λ (b : Bool). seen_by second (cond b (equals other) (test_of op (get_or ms 0 0) (take count ms)))) q)

-- the first n atoms lie in the first n * 11 words
atom_same : (s t : List ℕ) (i : ℕ) → ((k : ℕ) → k < 11 → get_or s (i * 11 + k) 0 ≡ get_or t (i * 11 + k) 0) → word_atom s i ≡ word_atom t i
unfolding word_atom
atom_same s t i h =
    let a : get_or s (i * 11) 0 ≡ get_or t (i * 11) 0 = at s (i * 11) (i * 11 + 0) (omega arith) ∙ h 0 (omega arith) ∙ at t (i * 11 + 0) (i * 11) (omega arith) in
    let b = h 1 (omega arith) in
    let c = h 2 (omega arith) in
    let d = h 3 (omega arith) in
    let ns : (n : ℕ) → n ≤ 8 → numbers_at s (i * 11 + 3) n ≡ numbers_at t (i * 11 + 3) n =
    λ n l. numbers_same s t (i * 11 + 3) (i * 11 + 3) n (λ k g. at s (i * 11 + 3 + k) (i * 11 + (3 + k)) (omega arith) ∙ h (3 + k) (omega arith) ∙ at t (i * 11 + (3 + k)) (i * 11 + 3 + k) (omega arith)) in
    let e : numbers_at s (i * 11 + 3) (get_or s (i * 11 + 2) 0 % 9) ≡ numbers_at t (i * 11 + 3) (get_or t (i * 11 + 2) 0 % 9) =
    ns (get_or s (i * 11 + 2) 0 % 9) (omega arith) ∙ ap (λ (n : ℕ). numbers_at t (i * 11 + 3) (n % 9)) c in
    λ j. on (a j % 32) (operator_of (b j) (c j % 32) (d j) (e j))

pub words_same : (n : ℕ) (s t : List ℕ) → ((i : ℕ) → i < n * 11 → get_or s i 0 ≡ get_or t i 0) → word_atoms s n ≡ word_atoms t n
words_same zero s t h = refl
words_same (suc n) s t h =
    both (λ xs x. xs ++ (x ∷ [])) (words_same n s t (λ i l. h i (omega arith))) (atom_same s t n (λ k l. h (n * 11 + k) (omega arith)))

pub laid : (old new : List ℕ) (n : ℕ) (a : Atom) (second : Bool) → length a.values ≡ 8 → ((i : ℕ) → i < n * 11 → get_or new i 0 ≡ get_or old i 0) →
    get_or new (n * 11) 0 ≡ slot_of second a.variable → get_or new (n * 11 + 1) 0 ≡ a.operator → get_or new (n * 11 + 2) 0 ≡ third_of a.operator a.other a.count second →
    ((k : ℕ) → k < 8 → get_or new (n * 11 + 3 + k) 0 ≡ get_or a.values k 0) → word_atoms new (n + 1) ≡ word_atoms old n ++ (seen second (atom_of a) ∷ [])
unfolding word_atom atom_of
laid old new n a second len h e0 e1 e2 vs =
    let plus : n + 1 ≡ suc n = omega arith in
    let v : get_or new (n * 11) 0 % 32 ≡ slot_of second a.variable = (let l = slot_lt second a.variable in omega arith) in
    let x : get_or new (n * 11 + 3) 0 ≡ get_or a.values 0 0 = at new (n * 11 + 3) (n * 11 + 3 + 0) (omega arith) ∙ vs 0 (omega arith) in
    let ns : eqb a.operator 0 ≡ false → numbers_at new (n * 11 + 3) (get_or new (n * 11 + 2) 0 % 9) ≡ take a.count a.values =
    (λ q.
    let c : get_or new (n * 11 + 2) 0 ≡ min a.count 8 = e2 ∙ ap (λ (b : Bool). cond b (slot_of second a.other) (min a.count 8)) q in
    let d : get_or new (n * 11 + 2) 0 % 9 ≡ min a.count 8 = omega arith in
    ap (numbers_at new (n * 11 + 3)) d ∙ numbers_same new a.values (n * 11 + 3) 0 (min a.count 8) (λ k g. vs k (omega arith) ∙ at a.values k (0 + k) (omega arith)) ∙ sym (first_8 a.count a.values len)) in
    let o =
    ap (λ (op : ℕ). operator_of op (get_or new (n * 11 + 2) 0 % 32) (get_or new (n * 11 + 3) 0) (numbers_at new (n * 11 + 3) (get_or new (n * 11 + 2) 0 % 9))) e1
    ∙ operator_seen a.operator (get_or new (n * 11 + 2) 0) a.other a.count (get_or new (n * 11 + 3) 0) (numbers_at new (n * 11 + 3) (get_or new (n * 11 + 2) 0 % 9)) a.values second e2 x ns in
    ap (word_atoms new) plus ∙ both (λ xs y. xs ++ (y ∷ [])) (words_same n new old h) (both on v o)

pub slot_key : (second : Bool) (v : ℕ) → second ≡ true → 16 ≤ v → (v % 32 + 8) % 32 ≡ slot_of second v
unfolding slot_of
slot_key second v e l = sym (ap (λ (b : Bool). cond b ((v % 32 + 8) % 32) (v % 32)) (both ◌&&◌ e (le-leb 16 v l)))

pub slot_column : (second : Bool) (v : ℕ) → v < 16 → v % 32 ≡ slot_of second v
unfolding slot_of
slot_column true v l = sym (ap (λ (b : Bool). cond b ((v % 32 + 8) % 32) (v % 32)) (lt-leb 16 v l))
slot_column false v l = refl

-- the same, from what the code wrote
pub laid_so : (old words : List ℕ) (n : ℕ) (a : Atom) (second : Bool) (x y : ℕ) → length a.values ≡ 8 → n * 11 + 11 ≤ length old → x ≡ slot_of second a.variable → y ≡ third_of a.operator a.other a.count second →
    ((i : ℕ) → i < n * 11 + 3 → get_or words i 0 ≡ get_or (set (set (set old (n * 11) x) (n * 11 + 1) a.operator) (n * 11 + 2) y) i 0) →
    ((k : ℕ) → k < 8 → get_or words (n * 11 + 3 + k) 0 ≡ get_or a.values k 0) → word_atoms words (n + 1) ≡ word_atoms old n ++ (seen second (atom_of a) ∷ [])
laid_so old words n a second x y len l ex ey h vs =
    laid old words n a second len
    (λ i d. h i (omega arith) ∙ off2 i (omega arith) ∙ off1 i (omega arith) ∙ get_or-set_other old (n * 11) i x 0 (omega arith))
    (h (n * 11) (omega arith) ∙ off2 (n * 11) (omega arith) ∙ off1 (n * 11) (omega arith) ∙ get_or-set_same old (n * 11) x 0 (omega arith) ∙ ex)
    (h (n * 11 + 1) (omega arith) ∙ off2 (n * 11 + 1) (omega arith) ∙ get_or-set_same (set old (n * 11) x) (n * 11 + 1) a.operator 0 (rw length-set (omega arith)))
    (h (n * 11 + 2) (omega arith) ∙ get_or-set_same (set (set old (n * 11) x) (n * 11 + 1) a.operator) (n * 11 + 2) y 0 (rw (length-set, length-set) (omega arith)) ∙ ey)
    vs
  where
    off2 : (i : ℕ) → (i ≡ n * 11 + 2 → ⊥) → get_or (set (set (set old (n * 11) x) (n * 11 + 1) a.operator) (n * 11 + 2) y) i 0 ≡ get_or (set (set old (n * 11) x) (n * 11 + 1) a.operator) i 0
    off2 i ne = get_or-set_other (set (set old (n * 11) x) (n * 11 + 1) a.operator) (n * 11 + 2) i y 0 ne

    off1 : (i : ℕ) → (i ≡ n * 11 + 1 → ⊥) → get_or (set (set old (n * 11) x) (n * 11 + 1) a.operator) i 0 ≡ get_or (set old (n * 11) x) i 0
    off1 i ne = get_or-set_other (set old (n * 11) x) (n * 11 + 1) i a.operator 0 ne

-- clauses

-- the length of a struct's array of structs, from what owning the struct tells: `search (needs, unmapped)`
pub unmapped {ℓ κ} : {A : Type ℓ} {B : Type κ} (f : A → B) (l : List A) {n : ℕ} → length (map f l) ≡ n → length l ≡ n
unmapped f l h = sym (length-map l f) ∙ h

-- what an array of atoms is read as past its end
abbrev pub no_atom : Atom
no_atom = record { variable = 0; operator = 0; other = 0; count = 0; values = [] }
