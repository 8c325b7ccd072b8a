-- The normal form is no longer than its sheet: refusal 16 does not happen.
use Prim.Native.Nat.{ℕ, ◌+◌, ◌*◌, ◌≤◌}
use native.Mathlib.Omega.{arith}
use mathlib.Core.Path.{◌≡◌, refl, ap, ◌∙◌}
use mathlib.Core.Bool.{Bool, true, false, cond}
use mathlib.Core.List.{List, [], ◌∷◌, ◌++◌, map}
use lib.ListN.{length, length-append, length-map}
use lib.Dec.{ltb, eqb}
use Rattle.lists.specs.Lists.{each, Each, insert, inserts, ascend, place, sort}
use Rattle.meaning.specs.Values.{Kind, raw}
use Rattle.meaning.specs.Atoms.{Order, at_most, at_least, is_below, is_above, Operator, equals, in_list, not_in_list, order, is_null, is_not_null, Atom, Clause}
use Rattle.meaning.specs.Sheets.{Policy, Sheet, kind_of}
use Rattle.bits.specs.Bits.{bits}
use Rattle.meaning.specs.Packed.{value_bits, selector_bits, operator_number, operand_bits, atom_bits, clause_bits, policy_bits, count_bits, fact_bits, kind_bits, table_bits, sheet_bits, packed}
use Rattle.meaning.specs.Steps.{on, oriented, orient, closed, tightened, tighten, is_common, shared, merged, atom_before, tidied, NormalClause, clause_before, NormalClauses, NormalPolicy, NormalSheet}
use Rattle.lists.proofs.LengthLaws.{sub_length, ascend_length}
use Rattle.lists.proofs.SubLaws.{Sub, keeps_sub, prunes_sub}
use Rattle.meaning.proofs.AgainLaws.{keep_sub}
use Rattle.bits.proofs.BitLaws.{bits_length}
use Rattle.meaning.proofs.TwiceLaws.{same_kinds}
use Rattle.meaning.proofs.SheetLaws.{packed_length}

-- how long their packed forms are
module _ {A : Type 0} (f : A → List ℕ) where
  abbrev pub size : List A → ℕ
  size xs = length (each f xs)

  size_cons : (x : A) (xs : List A) → size (x ∷ xs) ≡ length (f x) + size xs
  size_cons x xs = length-append (f x) (each f xs)

  sub_size : {xs ys : List A} → Sub xs ys → size xs ≤ size ys
  sub_size Sub.none = omega arith
  sub_size (Sub.left_out {x} {xs} {ys} p) = let h = sub_size p in let k = size_cons x ys in omega arith
  sub_size (Sub.taken {x} {xs} {ys} p) = let h = sub_size p in let k = size_cons x ys in let l = size_cons x xs in omega arith

  map_size : (g : A → A) → ((x : A) → length (f (g x)) ≤ length (f x)) → (xs : List A) → size (map g xs) ≤ size xs
  map_size g h [] = omega arith
  map_size g h (x ∷ xs) = let i = map_size g h xs in let j = h x in let k = size_cons x xs in let l = size_cons (g x) (map g xs) in omega arith

  each_size : {R : A → A → Type 0} → ((x y : A) → R x y → length (f y) ≤ length (f x)) → {xs ys : List A} → Each R xs ys → size ys ≤ size xs
  each_size h Each.none = omega arith
  each_size h (Each.one {a = x} {b = y} {xs = xs} {bs = ys} r e) = let i = each_size h e in let j = h x y r in let k = size_cons x xs in let l = size_cons y ys in omega arith

  module _ (before : A → A → Bool) where
    insert_size : (x : A) (ys : List A) → size (insert before x ys) ≤ length (f x) + size ys
    insert_size x [] = let k = size_cons x [] in omega arith
    insert_size x (y ∷ ys) = go (before x y) (before y x) (insert_size x ys)
      where
        go : (a b : Bool) → size (insert before x ys) ≤ length (f x) + size ys → size (cond a (x ∷ y ∷ ys) (cond b (y ∷ insert before x ys) (y ∷ ys))) ≤ length (f x) + size (y ∷ ys)
        go true b h = let k = size_cons x (y ∷ ys) in omega arith
        go false true h = let k = size_cons y ys in let l = size_cons y (insert before x ys) in omega arith
        go false false h = omega arith

    inserts_size : (acc xs : List A) → size (inserts before acc xs) ≤ size acc + size xs
    inserts_size acc [] = omega arith
    inserts_size acc (x ∷ xs) = let h = inserts_size (insert before x acc) xs in let k = insert_size x acc in let l = size_cons x xs in omega arith

    ascend_size : (xs : List A) → size (ascend before xs) ≤ size xs
    ascend_size xs = let h = inserts_size [] xs in omega arith

    place_size : (x : A) (ys : List A) → size (place before x ys) ≤ length (f x) + size ys
    place_size x [] = let k = size_cons x [] in omega arith
    place_size x (y ∷ ys) = go (before y x) (place_size x ys)
      where
        go : (b : Bool) → size (place before x ys) ≤ length (f x) + size ys → size (cond b (y ∷ place before x ys) (x ∷ y ∷ ys)) ≤ length (f x) + size (y ∷ ys)
        go true h = let k = size_cons y ys in let l = size_cons y (place before x ys) in omega arith
        go false h = let k = size_cons x (y ∷ ys) in omega arith

    sort_size : (xs : List A) → size (sort before xs) ≤ size xs
    sort_size [] = omega arith
    sort_size (x ∷ xs) = let h = sort_size xs in let k = place_size x (sort before xs) in let l = size_cons x xs in omega arith

-- an operand, of any kind
abbrev operand_size : Operator → ℕ
operand_size (equals u) = 5
operand_size (in_list ns) = 4 + length ns * 64
operand_size (not_in_list ns) = 4 + length ns * 64
operand_size (order o n) = 64
operand_size is_null = 0
operand_size is_not_null = 0

values_size : (k : Kind) (ns : List ℕ) → size (value_bits k) ns ≡ length ns * 64
values_size k [] = omega arith
values_size k (n ∷ ns) = let h = values_size k ns in let b = bits_length 64 (raw k n) in let l = size_cons (value_bits k) n ns in omega arith

list_size : (k : Kind) (ns : List ℕ) → length (bits 4 (length ns) ++ each (value_bits k) ns) ≡ 4 + length ns * 64
list_size k ns = length-append (bits 4 (length ns)) (each (value_bits k) ns) ∙ ap (λ z. z + size (value_bits k) ns) (bits_length 4 (length ns)) ∙ ap (λ z. 4 + z) (values_size k ns)

operand_size_lem : (k : Kind) (o : Operator) → length (operand_bits k o) ≡ operand_size o
operand_size_lem k (equals u) = bits_length 5 u
operand_size_lem k (in_list ns) = list_size k ns
operand_size_lem k (not_in_list ns) = list_size k ns
operand_size_lem k (order o n) = bits_length 64 (raw k n)
operand_size_lem k is_null = refl
operand_size_lem k is_not_null = refl

module _ (kind : ℕ → Kind) where
  atom_size : (a : Atom) → length (atom_bits kind a) ≡ 9 + operand_size a.operator
  atom_size a =
      let x = length-append (bits 5 a.variable) (bits 4 (operator_number a.operator) ++ operand_bits (kind a.variable) a.operator) in
      let y = length-append (bits 4 (operator_number a.operator)) (operand_bits (kind a.variable) a.operator) in
      let b = bits_length 5 a.variable in
      let c = bits_length 4 (operator_number a.operator) in
      let d = operand_size_lem (kind a.variable) a.operator in
      omega arith

  smaller : (a b : Atom) → operand_size b.operator ≤ operand_size a.operator → length (atom_bits kind b) ≤ length (atom_bits kind a)
  smaller a b h = let x = atom_size a in let y = atom_size b in omega arith

  oriented_size : (v : ℕ) (o : Operator) → operand_size (oriented v o).operator ≤ operand_size o
  oriented_size v (equals u) = go (eqb v u) (ltb u v)
    where
      go : (a b : Bool) → operand_size (cond a (on v is_not_null) (cond b (on u (equals v)) (on v (equals u)))).operator ≤ 5
      go true b = omega arith
      go false true = omega arith
      go false false = omega arith
  oriented_size v (in_list ns) = omega arith
  oriented_size v (not_in_list ns) = omega arith
  oriented_size v (order o n) = omega arith
  oriented_size v is_null = omega arith
  oriented_size v is_not_null = omega arith

  closed_size : (o : Order) (n : ℕ) → operand_size (closed o n) ≤ 64
  closed_size at_most n = omega arith
  closed_size at_least n = omega arith
  closed_size is_below n = omega arith
  closed_size is_above n = omega arith

  tightened_size : (o : Operator) → operand_size (tightened o) ≤ operand_size o
  tightened_size (equals u) = omega arith
  tightened_size (in_list ns) = let h = ascend_length ltb ns in omega arith
  tightened_size (not_in_list ns) = let h = ascend_length ltb ns in omega arith
  tightened_size (order o n) = closed_size o n
  tightened_size is_null = omega arith
  tightened_size is_not_null = omega arith

  shared_size : (c : Clause) (v : ℕ) (o : Operator) → operand_size (shared c v o) ≤ operand_size o
  shared_size c v (equals u) = omega arith
  shared_size c v (in_list ns) = let h = sub_length (keep_sub (is_common c v) ns) in omega arith
  shared_size c v (not_in_list ns) = omega arith
  shared_size c v (order o n) = omega arith
  shared_size c v is_null = omega arith
  shared_size c v is_not_null = omega arith

  tidied_size : (c : Clause) → size (atom_bits kind) (tidied kind c) ≤ size (atom_bits kind) c
  unfolding tidied
  tidied_size c =
      let d : Clause = map tighten (map orient c) in
      let x = ascend_size (atom_bits kind) (atom_before kind) (merged d) in
      let y = map_size (atom_bits kind) (λ a. on a.variable (shared d a.variable a.operator)) (λ a. smaller a (on a.variable (shared d a.variable a.operator)) (shared_size d a.variable a.operator)) d in
      let z = map_size (atom_bits kind) tighten (λ a. smaller a (tighten a) (tightened_size a.operator)) (map orient c) in
      let w = map_size (atom_bits kind) orient (λ a. smaller a (orient a) (oriented_size a.variable a.operator)) c in
      omega arith

pub tidied_length : (kind : ℕ → Kind) (c : Clause) → length (tidied kind c) ≤ length c
unfolding tidied
tidied_length kind c =
    let d : Clause = map tighten (map orient c) in
    let x = ascend_length (atom_before kind) (merged d) in
    let y = length-map d (λ a. on a.variable (shared d a.variable a.operator)) in
    let z = length-map (map orient c) tighten in
    let w = length-map c orient in
    omega arith

module _ (sheet : Sheet) where
  clause_size : (c d : Clause) → NormalClause sheet c d → length (clause_bits (kind_of sheet) d) ≤ length (clause_bits (kind_of sheet) c)
  clause_size c d n =
      let s : size (atom_bits (kind_of sheet)) d ≤ size (atom_bits (kind_of sheet)) (tidied (kind_of sheet) c) = sub_size (atom_bits (kind_of sheet)) (prunes_sub n) in
      let t = tidied_size (kind_of sheet) c in
      let x = length-append (bits 4 (length c)) (each (atom_bits (kind_of sheet)) c) in
      let y = length-append (bits 4 (length d)) (each (atom_bits (kind_of sheet)) d) in
      let b = bits_length 4 (length c) in
      let e = bits_length 4 (length d) in
      omega arith

  clauses_size : {cs ds : List Clause} → NormalClauses sheet cs ds → size (clause_bits (kind_of sheet)) ds ≤ size (clause_bits (kind_of sheet)) cs
  clauses_size {cs} {ds} n =
      let f : Clause → List ℕ = clause_bits (kind_of sheet) in
      let a : size f ds ≤ size f (sort (clause_before (kind_of sheet)) n.tidy) = sub_size f (prunes_sub n.step_6) in
      let b : size f (sort (clause_before (kind_of sheet)) n.tidy) ≤ size f n.tidy = sort_size f (clause_before (kind_of sheet)) n.tidy in
      let c : size f n.tidy ≤ size f n.live = each_size f clause_size n.steps_2_5 in
      let d : size f n.live ≤ size f cs = sub_size f (keeps_sub n.step_1) in
      omega arith

  policy_size : (p q : Policy) → NormalPolicy sheet p q → length (policy_bits (kind_of sheet) q) ≤ length (policy_bits (kind_of sheet) p)
  policy_size p q n =
      let c = clauses_size n.clauses in
      let s : length (selector_bits q.selector) ≡ length (selector_bits p.selector) = ap (λ z. length (selector_bits z)) n.selector in
      let x = whole p in
      let y = whole q in
      omega arith
    where
      whole : (p : Policy) → length (policy_bits (kind_of sheet) p) ≡ 9 + length (selector_bits p.selector) + size (clause_bits (kind_of sheet)) p.clauses
      whole p =
          let cs : List ℕ = each (clause_bits (kind_of sheet)) p.clauses in
          let a = length-append (bits 1 (cond p.restrictive 1 0)) (bits 4 p.commands ++ (selector_bits p.selector ++ (bits 4 (length p.clauses) ++ cs))) in
          let b = length-append (bits 4 p.commands) (selector_bits p.selector ++ (bits 4 (length p.clauses) ++ cs)) in
          let c = length-append (selector_bits p.selector) (bits 4 (length p.clauses) ++ cs) in
          let d = length-append (bits 4 (length p.clauses)) cs in
          let e = bits_length 1 (cond p.restrictive 1 0) in
          let f = bits_length 4 p.commands in
          let g = bits_length 4 (length p.clauses) in
          omega arith

counts_size : (s : Sheet) → length (count_bits s) ≡ 23
counts_size s =
    let a = length-append (bits 4 1) (bits 5 (length s.columns) ++ (bits 4 (length s.keys) ++ (bits 5 (length s.tables) ++ bits 5 (length s.policies)))) in
    let b = length-append (bits 5 (length s.columns)) (bits 4 (length s.keys) ++ (bits 5 (length s.tables) ++ bits 5 (length s.policies))) in
    let c = length-append (bits 4 (length s.keys)) (bits 5 (length s.tables) ++ bits 5 (length s.policies)) in
    let d = length-append (bits 5 (length s.tables)) (bits 5 (length s.policies)) in
    let e = bits_length 4 1 in
    let f = bits_length 5 (length s.columns) in
    let g = bits_length 4 (length s.keys) in
    let h = bits_length 5 (length s.tables) in
    let i = bits_length 5 (length s.policies) in
    omega arith

sheet_size : (s : Sheet) → length (sheet_bits s) ≡ 23 + length (fact_bits s) + size (policy_bits (kind_of s)) s.policies
unfolding sheet_bits
sheet_size s =
    let a = length-append (count_bits s) (fact_bits s ++ each (policy_bits (kind_of s)) s.policies) in
    let b = length-append (fact_bits s) (each (policy_bits (kind_of s)) s.policies) in
    let c = counts_size s in
    omega arith

-- The normal form, packed, is no longer than its sheet, packed.
pub never_longer : (sheet normal : Sheet) → NormalSheet sheet normal → length (packed normal) ≤ length (packed sheet)
never_longer sheet normal n =
    let a = sheet_size sheet in
    let b = sheet_size normal in
    let f : length (fact_bits normal) ≡ length (fact_bits sheet) = λ i. length (each kind_bits (n.columns i) ++ (each kind_bits (n.keys i) ++ each table_bits (n.tables i))) in
    let k : size (policy_bits (kind_of normal)) normal.policies ≡ size (policy_bits (kind_of sheet)) normal.policies = ap (λ z. size (policy_bits z) normal.policies) (same_kinds sheet normal n.columns n.keys) in
    let p : size (policy_bits (kind_of sheet)) normal.policies ≤ size (policy_bits (kind_of sheet)) sheet.policies = each_size (policy_bits (kind_of sheet)) (policy_size sheet) n.policies in
    let x = packed_length sheet in
    let y = packed_length normal in
    omega arith
