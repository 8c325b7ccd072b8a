-- The ways in which an atom fails, free of code. Assumes nothing.
use Prim.Native.Nat.{ℕ}
use native.Mathlib.Omega.{arith}
use mathlib.Core.Path.{◌≡◌, refl, sym, ◌∙◌, ap, subst}
use mathlib.Core.Bool.{Bool, true, false, cond, not}
use mathlib.Core.List.{List, [], ◌∷◌, ◌++◌}
use lib.ListN.{get_or, take}
use lib.Dec.{leb, ltb, eqb}
use borrow.Author.Tests.{ltb-true, ltb-false, leb-true, leb-false, eqb-true, eqb-false, lt-ltb, le-ltb, le-leb, lt-leb, ne_eqb, eq-eqb}
use Rattle.meaning.specs.declared.Content.{Content}
use Rattle.meaning.specs.declared.Content.TheVariants.{Null, Value}
use Rattle.meaning.specs.Values.{Contents, with}
use Rattle.meaning.specs.Atoms as m
use Rattle.meaning.specs.Atoms.{Order, at_most, at_least, is_below, is_above, Operator, equals, in_list, not_in_list, order, is_null, is_not_null, among, in_order, is_value, passes, met, clause_met}
use Rattle.meaning.specs.Steps.{on}
use Rattle.meaning.specs.Sheets.{Sheet}
use Rattle.meaning.specs.Questions.{IsAnyRow, IsSession, ClauseCovers, LiveClause}
use Rattle.meaning.specs.declared.Atom.{Atom}
use Rattle.meaning.specs.Views.{test_of, operator_of, atom_of}
use Rattle.asked.specs.Asked.{Unlike, Differs, turned_order, turned_by, turned}
use Rattle.lists.proofs.BoolLaws.{both, join}
use Rattle.words.proofs.NeedLaws.{clash}
use Rattle.asked.proofs.Sense.{every_parts, append_every}

-- how an atom fails

pub order_turned : (o : Order) (n k : ℕ) → in_order (turned_order o) n k ≡ not (in_order o n k)
order_turned at_most n k = go (leb n k) refl
  where
    go : (b : Bool) → leb n k ≡ b → ltb k n ≡ not b
    go true q = le-ltb k n (leb-true n k q)
    go false q = lt-ltb k n (leb-false n k q)
order_turned at_least n k = go (leb k n) refl
  where
    go : (b : Bool) → leb k n ≡ b → ltb n k ≡ not b
    go true q = le-ltb n k (leb-true k n q)
    go false q = lt-ltb n k (leb-false k n q)
order_turned is_below n k = go (ltb n k) refl
  where
    go : (b : Bool) → ltb n k ≡ b → leb k n ≡ not b
    go true q = lt-leb k n (ltb-true n k q)
    go false q = le-leb k n (ltb-false n k q)
order_turned is_above n k = go (ltb k n) refl
  where
    go : (b : Bool) → ltb k n ≡ b → leb n k ≡ not b
    go true q = lt-leb n k (ltb-true k n q)
    go false q = le-leb n k (ltb-false k n q)

pub not_both : (b : Bool) → not b ≡ true → b ≡ true → ⊥
not_both true p q = clash p refl
not_both false p q = clash q refl

pub un_not : (b : Bool) → not b ≡ false → b ≡ true
un_not true p = refl
un_not false p = absurd (clash refl p)

-- no operator passes where its turned one does
pub turned_fails : (e : Contents) (o : Operator) (x : Content) → passes e (turned_by o) x ≡ true → passes e o x ≡ true → ⊥
turned_fails e (equals u) Null p q = clash q refl
turned_fails e (equals u) (Value n) p q = clash p refl
turned_fails e (in_list ns) Null p q = clash p refl
turned_fails e (in_list ns) (Value n) p q = not_both (among n ns) p q
turned_fails e (not_in_list ns) Null p q = clash p refl
turned_fails e (not_in_list ns) (Value n) p q = not_both (among n ns) q p
turned_fails e (order o k) Null p q = clash p refl
turned_fails e (order o k) (Value n) p q = not_both (in_order o n k) (sym (order_turned o n k) ∙ p) q
turned_fails e is_null Null p q = clash p refl
turned_fails e is_null (Value n) p q = clash q refl
turned_fails e is_not_null Null p q = clash q refl
turned_fails e is_not_null (Value n) p q = clash p refl

-- neither an equality nor "is null"
abbrev pub Plain : Operator → Type 0
Plain (equals u) = ⊥
Plain (in_list ns) = Unit {0}
Plain (not_in_list ns) = Unit {0}
Plain (order o n) = Unit {0}
Plain is_null = ⊥
Plain is_not_null = Unit {0}

pub null_fails : (e : Contents) (o : Operator) (x : Content) → (o ≡ is_null → ⊥) → passes e is_null x ≡ true → passes e o x ≡ true → ⊥
null_fails e (equals u) Null ne p q = clash q refl
null_fails e (in_list ns) Null ne p q = clash q refl
null_fails e (not_in_list ns) Null ne p q = clash q refl
null_fails e (order o k) Null ne p q = clash q refl
null_fails e is_null Null ne p q = ne refl
null_fails e is_not_null Null ne p q = clash q refl
null_fails e o (Value n) ne p q = clash p refl

pub plain_passes : (e : Contents) (o : Operator) (x : Content) → Plain o → passes e is_null x ≡ false → passes e (turned_by o) x ≡ false → passes e o x ≡ true
plain_passes e o Null pl p q = absurd (clash refl p)
plain_passes e (equals u) (Value n) pl p q = absurd pl
plain_passes e (in_list ns) (Value n) pl p q = un_not (among n ns) q
plain_passes e (not_in_list ns) (Value n) pl p q = ap not q
plain_passes e (order o k) (Value n) pl p q = un_not (in_order o n k) (sym (order_turned o n k) ∙ q)
plain_passes e is_null (Value n) pl p q = absurd pl
plain_passes e is_not_null (Value n) pl p q = refl

pub null_passes : (e : Contents) (x : Content) → passes e is_not_null x ≡ false → passes e is_null x ≡ true
null_passes e Null q = refl
null_passes e (Value n) q = absurd (clash refl q)

pub equal_passes : (e : Contents) (u : ℕ) (x y : Content) → y ≡ e u → passes e is_null x ≡ false → passes e is_null y ≡ false → (Unlike x y → ⊥) → passes e (equals u) x ≡ true
equal_passes e u Null y z p q h = absurd (clash refl p)
equal_passes e u (Value n) Null z p q h = absurd (clash refl q)
equal_passes e u (Value n) (Value k) z p q h = ap (is_value n) (sym z) ∙ go (eqb n k) refl
  where
    go : (b : Bool) → eqb n k ≡ b → b ≡ true
    go true r = refl
    go false r = absurd (h (n, k, refl, refl, eqb-false n k r))

pub equal_fails : (e : Contents) (u : ℕ) (x y : Content) → y ≡ e u → Unlike x y → passes e (equals u) x ≡ true → ⊥
equal_fails e u Null y z h q = clash q refl
equal_fails e u (Value n) Null z h q = clash q (ap (is_value n) (sym z))
equal_fails e u (Value n) (Value k) z h q =
    let r : n ≡ k = eqb-true n k (ap (is_value n) z ∙ q) in
    let a = h.2 in
    let b = h.3 in
    h.4 (let i : n ≡ h.0 = cc in let j : k ≡ h.1 = cc in sym i ∙ r ∙ j)

pub other_null_fails : (e : Contents) (u : ℕ) (x y : Content) → y ≡ e u → passes e is_null y ≡ true → passes e (equals u) x ≡ true → ⊥
other_null_fails e u Null y z p q = clash q refl
other_null_fails e u (Value n) Null z p q = clash q (ap (is_value n) (sym z))
other_null_fails e u (Value n) (Value k) z p q = clash p refl

pub decide : {P : Type 0} (b : Bool) → (b ≡ true → P) → (b ≡ false → P) → P
decide true f g = f refl
decide false f g = g refl

-- the others with one of the ways in which the atom fails

module _ (sheet : Sheet) (others : m.Clause) (a : m.Atom) where
  -- a way that some row and session takes
  pub way_taken : (f : m.Atom) → ((e : Contents) → met e f ≡ true → met e a ≡ true → ⊥) → LiveClause sheet (others ++ (f ∷ [])) → ClauseCovers sheet (a ∷ []) others → ⊥
  way_taken f h l c =
      let e = with l.row l.session in
      let x = every_parts (met e) others (f ∷ []) l.meets in
      h e (both (met e f) true x.1).0 (both (met e a) true (c l.row l.session l.is_row l.is_session x.0)).0

  pub way_apart : (u : ℕ) → a.operator ≡ equals u → Differs sheet others a.variable u → ClauseCovers sheet (a ∷ []) others → ⊥
  way_apart u o l c =
      let e = with l.row l.session in
      let q = (both (met e a) true (c l.row l.session l.is_row l.is_session l.meets)).0 in
      equal_fails e u (e a.variable) (e u) refl l.unlike (sym (ap (λ (p : Operator). passes e p (e a.variable)) o) ∙ q)

  -- a way that none takes
  pub not_taken : (f : m.Atom) → (LiveClause sheet (others ++ (f ∷ [])) → ⊥) → (row session : Contents) → IsAnyRow sheet row → IsSession sheet session → clause_met (with row session) others ≡ true → met (with row session) f ≡ false
  not_taken f h row session r s c = go (met (with row session) f) refl
    where
      go : (b : Bool) → met (with row session) f ≡ b → met (with row session) f ≡ false
      go true q =
          absurd
          (h
          record { row = row; session = session; is_row = r; is_session = s; meets = append_every (met (with row session)) others (f ∷ []) c (join (met (with row session) f) true q refl) })
      go false q = q

  pub covers_plain : Plain a.operator → (LiveClause sheet (others ++ (on a.variable is_null ∷ [])) → ⊥) → (LiveClause sheet (others ++ (turned a ∷ [])) → ⊥) → ClauseCovers sheet (a ∷ []) others
  covers_plain p n t row session r s c =
      let e = with row session in
      join (met e a) true (plain_passes e a.operator (e a.variable) p (not_taken (on a.variable is_null) n row session r s c) (not_taken (turned a) t row session r s c)) refl

  pub covers_null : a.operator ≡ is_null → (LiveClause sheet (others ++ (turned a ∷ [])) → ⊥) → ClauseCovers sheet (a ∷ []) others
  covers_null o t row session r s c =
      let e = with row session in
      let q = not_taken (turned a) t row session r s c in
      join (met e a) true
      (ap (λ (p : Operator). passes e p (e a.variable)) o ∙ null_passes e (e a.variable) (sym (ap (λ (p : Operator). passes e (turned_by p) (e a.variable)) o) ∙ q))
      refl

  pub covers_equals : (u : ℕ) → a.operator ≡ equals u → (LiveClause sheet (others ++ (on a.variable is_null ∷ [])) → ⊥) → (LiveClause sheet (others ++ (on u is_null ∷ [])) → ⊥) → (Differs sheet others a.variable u → ⊥) → ClauseCovers sheet (a ∷ []) others
  covers_equals u o n k d row session r s c =
      let e = with row session in
      join (met e a) true
      (ap (λ (p : Operator). passes e p (e a.variable)) o
      ∙ equal_passes e u (e a.variable) (e u) refl (not_taken (on a.variable is_null) n row session r s c) (not_taken (on u is_null) k row session r s c)
      (λ x. d record { row = row; session = session; is_row = r; is_session = s; meets = c; unlike = x }))
      refl

-- the same, of atoms by value

pub equals_there : (a : Atom) → a.operator ≡ 0 → (atom_of a).operator ≡ equals a.other
unfolding atom_of
equals_there a z = ap (λ (b : Bool). cond b (equals a.other) (test_of a.operator (get_or a.values 0 0) (take a.count a.values))) (eq-eqb a.operator 0 z)

pub null_there : (a : Atom) → a.operator ≡ 7 → (atom_of a).operator ≡ is_null
unfolding atom_of
null_there a z = ap (λ (k : ℕ). operator_of k a.other (get_or a.values 0 0) (take a.count a.values)) z

pub plain_there : (a : Atom) → (a.operator ≡ 0 → ⊥) → (a.operator ≡ 7 → ⊥) → Plain (atom_of a).operator
unfolding atom_of
plain_there a z s =
    subst (λ (b : Bool). Plain (cond b (equals a.other) (test_of a.operator (get_or a.values 0 0) (take a.count a.values)))) (sym (ne_eqb a.operator 0 z))
    (chain (get_or a.values 0 0) (take a.count a.values) (eqb a.operator 1) (eqb a.operator 2) (eqb a.operator 3) (eqb a.operator 4) (eqb a.operator 5) (eqb a.operator 6) (eqb a.operator 7) (ne_eqb a.operator 7 s))
  where
    chain : (x : ℕ) (xs : List ℕ) (b1 b2 b3 b4 b5 b6 b7 : Bool) → b7 ≡ false → Plain (cond b1 (in_list xs) (cond b2 (not_in_list xs) (cond b3 (order at_most x) (cond b4 (order at_least x) (cond b5 (order is_below x) (cond b6 (order is_above x) (cond b7 is_null is_not_null)))))))
    chain x xs true b2 b3 b4 b5 b6 b7 q = tt
    chain x xs false true b3 b4 b5 b6 b7 q = tt
    chain x xs false false true b4 b5 b6 b7 q = tt
    chain x xs false false false true b5 b6 b7 q = tt
    chain x xs false false false false true b6 b7 q = tt
    chain x xs false false false false false true b7 q = tt
    chain x xs false false false false false false true q = clash refl q
    chain x xs false false false false false false false q = tt

pub not_null : (o : Operator) → Plain o → o ≡ is_null → ⊥
not_null o p e = subst Plain e p

pub equals_not_null : (u : ℕ) → equals u ≡ is_null → ⊥
equals_not_null u e = let z : ◌≡◌ {A = ℕ} 0 1 = ap number e in omega arith
  where
    number : Operator → ℕ
    number (equals w) = 0
    number (in_list ns) = 1
    number (not_in_list ns) = 1
    number (order o n) = 1
    number is_null = 1
    number is_not_null = 1
