-- A branch number, written in the restrictive policies' own factors from the last to the first, picks the branch of that number.
--     Going    how far `digits_of` has got: below place p nothing is picked yet, and `rest` is the number of the branch that is left
--     Seek     how far `permitted_at` has got: `rest` is the number of the clause among those from place p on
use Prim.Native.Nat.{ℕ, suc, ◌+◌, ◌-◌, ◌/◌, ◌%◌, ◌<◌, ◌≤◌, min}
use native.Mathlib.Omega.{arith}
use native.Mathlib.Nat.{div-one, not-suc-le-zero}
use native.Mathlib.Decide.{ℕ_discrete}
use mathlib.Core.Path.{◌≡◌, refl, sym, ap, subst, ◌∙◌}
use mathlib.Core.Bool.{Bool, true, false, cond}
use mathlib.Core.List.{List, [], ◌∷◌, ◌++◌, append_assoc}
use lib.Dec.{eqb}
use lib.ListN.{length, get_or, set, length-append, length-set, get_or-append, get_or-eq_default}
use lib.Seq.{get_or-append-add, get_or-set_same, get_or-set_other}
use borrow.Author.Tests.{eq-eqb, ne_eqb, eqb-true}
use Rattle.meaning.specs.Atoms.{Clause}
use Rattle.meaning.specs.Sheets.{joined, choices}
use Rattle.branches.specs.declared.Digits.{Digits}
use Rattle.branches.specs.declared.Permitted.{Permitted}
use Rattle.branches.specs.Parts.{up_to, permits, permitted, restricting, branches_of, term, factor, Sized, picked, besides, Splits, Finds, Picks}
use Rattle.branches.proofs.JoinLaws.{nil_right, joined_some, joined_front, joined_at, joined_assoc, joined_nothing, choices_snoc, onward, up_to_onward, onward_same, up_to_same}

one_more : (p : ℕ) → p < 16 → 16 - p ≡ suc (16 - suc p)
one_more p l = omega arith

suc_is : (p : ℕ) → suc p ≡ p + 1
suc_is p = omega arith

-- a slot that is set, and the ones behind it
slots_set : (clauses : ℕ → List Clause) (slots : List ℕ) (p x : ℕ) → p < 16 → length slots ≡ 16 →
    onward (picked clauses (set slots p x)) p (16 - p) ≡ get_or (clauses p) x [] ++ onward (picked clauses slots) (suc p) (16 - suc p)
slots_set clauses slots p x l e =
    ap (onward (picked clauses (set slots p x)) p) (one_more p l)
    ∙ ap (λ z. get_or (clauses p) z [] ++ onward (picked clauses (set slots p x)) (suc p) (16 - suc p)) (get_or-set_same slots p x 0 (omega arith))
    ∙ ap (λ t. get_or (clauses p) x [] ++ t)
    (onward_same (picked clauses (set slots p x)) (picked clauses slots) (suc p) (16 - suc p) (λ q g h. ap (λ z. get_or (clauses q) z []) (get_or-set_other slots p q x 0 (λ w. omega arith))))

module _ (roles : List ℕ) (clauses : ℕ → List Clause) (front : List Clause) where
  -- the branches that the front and the restrictive policies before p make
  abbrev pub till : ℕ → List Clause
  till p = joined front (choices (up_to (restricting roles clauses) p))

  till_restrictive : (p : ℕ) → get_or roles p 0 ≡ 2 → till (suc p) ≡ joined (till p) (clauses p)
  till_restrictive p e =
      ap (λ (b : Bool). joined front (choices (up_to (restricting roles clauses) p ++ cond b (clauses p ∷ []) []))) (eq-eqb (get_or roles p 0) 2 e)
      ∙ ap (joined front) (choices_snoc (up_to (restricting roles clauses) p) (clauses p)) ∙ joined_assoc front (choices (up_to (restricting roles clauses) p)) (clauses p)

  till_other : (p : ℕ) → (get_or roles p 0 ≡ 2 → ⊥) → till (suc p) ≡ till p
  till_other p e =
      ap (λ (b : Bool). joined front (choices (up_to (restricting roles clauses) p ++ cond b (clauses p ∷ []) []))) (ne_eqb (get_or roles p 0) 2 e)
      ∙ ap (λ rs. joined front (choices rs)) (nil_right (up_to (restricting roles clauses) p))

  -- what is picked from place p on completes what is left
  abbrev pub Rests : ℕ → ℕ → List ℕ → ℕ → Type 0
  Rests k p slots rest = (rest < length (till p)) × (get_or (till p) rest [] ++ onward (picked clauses slots) p (16 - p) ≡ get_or (till 16) k [])

  rests_restrictive : (k p : ℕ) (slots : List ℕ) (rest b : ℕ) → p < 16 → length slots ≡ 16 → get_or roles p 0 ≡ 2 → (0 < length (clauses p) → b ≡ length (clauses p)) →
      Rests k (suc p) slots rest → Rests k p (set slots p (rest % b)) (rest / b)
  rests_restrictive k p slots rest b l e r is had =
      let t = till_restrictive p r in
      let m : rest < length (joined (till p) (clauses p)) = subst (λ xs. rest < length xs) t had.0 in
      let q : b ≡ length (clauses p) = is (joined_some (till p) (clauses p) rest m) in
      let f : rest / length (clauses p) < length (till p) = joined_front (till p) (clauses p) rest m in
      let g : get_or (till (suc p)) rest [] ≡ get_or (till p) (rest / b) [] ++ get_or (clauses p) (rest % b) [] =
      ap (λ xs. get_or xs rest []) t ∙ joined_at (till p) (clauses p) rest m ∙ ap (λ z. get_or (till p) (rest / z) [] ++ get_or (clauses p) (rest % z) []) (sym q) in (
        subst (λ z. rest / z < length (till p)) (sym q) f,
        ap (λ t. get_or (till p) (rest / b) [] ++ t) (slots_set clauses slots p (rest % b) l e)
            ∙ sym (append_assoc (get_or (till p) (rest / b) []) (get_or (clauses p) (rest % b) []) (onward (picked clauses slots) (suc p) (16 - suc p)))
            ∙ ap (λ t. t ++ onward (picked clauses slots) (suc p) (16 - suc p)) (sym g) ∙ had.1,
      )

  rests_other : (k p : ℕ) (slots : List ℕ) (rest b : ℕ) → p < 16 → length slots ≡ 16 → (get_or roles p 0 ≡ 2 → ⊥) → b ≡ 1 → length (clauses p) ≤ 8 →
      Rests k (suc p) slots rest → Rests k p (set slots p 8) (rest / b)
  rests_other k p slots rest b l e r q w had =
      let t = till_other p r in
      let d : rest / b ≡ rest = ap (λ z. rest / z) q ∙ div-one rest in (
        subst (λ z. z < length (till p)) (sym d) (subst (λ xs. rest < length xs) t had.0),
        ap (λ z. get_or (till p) z [] ++ onward (picked clauses (set slots p 8)) p (16 - p)) d
            ∙ ap (λ t. get_or (till p) rest [] ++ t)
            (slots_set clauses slots p 8 l e ∙ ap (λ h. h ++ onward (picked clauses slots) (suc p) (16 - suc p)) (get_or-eq_default (clauses p) [] {n = 8} w))
            ∙ ap (λ xs. get_or xs rest [] ++ onward (picked clauses slots) (suc p) (16 - suc p)) (sym t) ∙ had.1,
      )

-- what `factor_of` says of a policy with these clauses
factor_restrictive : (role count : ℕ) (cs : List Clause) → length cs ≡ count → length cs ≤ 8 → role ≡ 2 → factor role count ≡ length cs
factor_restrictive role count cs e l r = ap (λ (b : Bool). cond b (min count 8) 1) (eq-eqb role 2 r) ∙ omega arith

factor_other : (role count : ℕ) → (role ≡ 2 → ⊥) → factor role count ≡ 1
factor_other role count r = ap (λ (b : Bool). cond b (min count 8) 1) (ne_eqb role 2 r)

pub record Going (roles counts : List ℕ) (k p : ℕ) (slots : List ℕ) (rest : ℕ) : Type 0 where
  pub sixteen : length slots ≡ 16
  pub none : (i : ℕ) → p ≤ i → i < 16 → (get_or roles i 0 ≡ 2 → ⊥) → get_or slots i 0 ≡ 8
  pub picks : (clauses : ℕ → List Clause) → Sized counts clauses → (front : List Clause) → k < length (till roles clauses front 16) → Rests roles clauses front k p slots rest

module _ (roles counts : List ℕ) (k : ℕ) where
  pub going_starts : (slots : List ℕ) → length slots ≡ 16 → Going roles counts k 16 slots k
  going_starts slots e =
      record {
        sixteen = e;
        none = λ i g h. absurd (omega arith);
        picks = λ clauses s front l. (l, nil_right (get_or (till roles clauses front 16) k []));
      }

  -- the slot of a policy is its digit
  pub record Slot (role d x : ℕ) : Type 0 where
    pub digit : role ≡ 2 → x ≡ d
    pub none : (role ≡ 2 → ⊥) → x ≡ 8

  going_suc : (p : ℕ) (slots : List ℕ) (rest f b x : ℕ) → p < 16 → f ≡ factor (get_or roles p 0) (get_or counts p 0) → (0 < f → b ≡ f) → (get_or roles p 0 ≡ 2 → x ≡ rest % b) → ((get_or roles p 0 ≡ 2 → ⊥) → x ≡ 8) →
      Going roles counts k (suc p) slots rest → Going roles counts k p (set slots p x) (rest / b)
  going_suc p slots rest f b x l ef eb ed en had =
      record {
        sixteen = length-set slots p x ∙ had.sixteen;
        none = λ i g h r. kept i (ℕ_discrete i p) g h r;
        picks = λ clauses s front m. step clauses s front (had.picks clauses s front m) (ℕ_discrete (get_or roles p 0) 2);
      }
    where
      inside : p < length slots
      inside = let e = had.sixteen in omega arith

      kept : (i : ℕ) → Dec (i ≡ p) → p ≤ i → i < 16 → (get_or roles i 0 ≡ 2 → ⊥) → get_or (set slots p x) i 0 ≡ 8
      kept i (yes e) g h r = ap (λ z. get_or (set slots p x) z 0) e ∙ get_or-set_same slots p x 0 inside ∙ en (λ w. r (ap (λ z. get_or roles z 0) e ∙ w))
      kept i (no e) g h r = get_or-set_other slots p i x 0 e ∙ had.none i (omega arith) h r

      step : (clauses : ℕ → List Clause) → Sized counts clauses → (front : List Clause) → Rests roles clauses front k (suc p) slots rest → Dec (get_or roles p 0 ≡ 2) → Rests roles clauses front k p (set slots p x) (rest / b)
      step clauses s front rests (yes r) =
          let q : f ≡ length (clauses p) = ef ∙ factor_restrictive (get_or roles p 0) (get_or counts p 0) (clauses p) (s p l).0 (s p l).1 r in
          subst (λ z. Rests roles clauses front k p (set slots p z) (rest / b)) (sym (ed r))
          (rests_restrictive roles clauses front k p slots rest b l had.sixteen r (λ g. eb (subst (λ z. 0 < z) (sym q) g) ∙ q) rests)
      step clauses s front rests (no r) =
          let q : f ≡ 1 = ef ∙ factor_other (get_or roles p 0) (get_or counts p 0) r in
          subst (λ z. Rests roles clauses front k p (set slots p z) (rest / b)) (sym (en r))
          (rests_other roles clauses front k p slots rest b l had.sixteen r (eb (omega arith) ∙ q) (s p l).1 rests)

  pub going_more : (p : ℕ) (slots : List ℕ) (rest f b x next : ℕ) → 0 < p → p ≤ 16 → f ≡ factor (get_or roles (p - 1) 0) (get_or counts (p - 1) 0) → (0 < f → b ≡ f) →
      (get_or roles (p - 1) 0 ≡ 2 → x ≡ rest % b) → ((get_or roles (p - 1) 0 ≡ 2 → ⊥) → x ≡ 8) → next ≡ rest / b → Going roles counts k p slots rest → Going roles counts k (p - 1) (set slots (p - 1) x) next
  going_more p slots rest f b x next g l ef eb ed en is had = subst (Going roles counts k (p - 1) (set slots (p - 1) x)) (sym is) (going_suc (p - 1) slots rest f b x (omega arith) ef eb ed en (subst (λ z. Going roles counts k z slots rest) (omega arith) had))

  pub going_ends : (p : ℕ) (slots : List ℕ) (rest : ℕ) → p ≡ 0 → Going roles counts k p slots rest → Splits roles counts k (record { rest = rest; slots = slots })
  going_ends p slots rest e had =
      let h : Going roles counts k 0 slots rest = subst (λ z. Going roles counts k z slots rest) e had in
      record {
        none = λ i l r. h.none i (omega arith) l r;
        picks = λ clauses s front l.
            let got = h.picks clauses s front l in (
              subst (λ xs. rest < length xs) (joined_nothing front) got.0,
              ap (λ xs. get_or xs rest [] ++ up_to (picked clauses slots) 16) (sym (joined_nothing front))
                  ∙ ap (λ t. get_or (till roles clauses front 0) rest [] ++ t) (sym (up_to_onward (picked clauses slots) 0 16 16 refl)) ∙ got.1,
            );
      }

-- what `term_of` says of a policy with these clauses
pub term_length : (role count : ℕ) (cs : List Clause) → length cs ≡ count → length cs ≤ 8 → length (permits role cs) ≡ term role count
term_length role count cs e l = go (eqb role 1)
  where
    go : (b : Bool) → length (cond b cs []) ≡ cond b (min count 8) 0
    go true = omega arith
    go false = refl

term_some : (role count rest : ℕ) → rest < term role count → role ≡ 1
term_some role count rest = go (eqb role 1) refl
  where
    go : (b : Bool) → eqb role 1 ≡ b → rest < cond b (min count 8) 0 → role ≡ 1
    go true e l = eqb-true role 1 e
    go false e l = absurd (omega arith)

module _ (roles counts : List ℕ) (k : ℕ) where
  pub record Seek (p rest : ℕ) : Type 0 where
    pub left : (clauses : ℕ → List Clause) → Sized counts clauses → k < length (up_to (permitted roles clauses) 16) →
        (rest < length (onward (permitted roles clauses) p (16 - p))) × (get_or (onward (permitted roles clauses) p (16 - p)) rest [] ≡ get_or (up_to (permitted roles clauses) 16) k [])

  pub seek_starts : Seek 0 k
  seek_starts =
      record {
        left = λ clauses s l.
            let e : onward (permitted roles clauses) 0 16 ≡ up_to (permitted roles clauses) 16 = up_to_onward (permitted roles clauses) 0 16 16 refl in
            (subst (λ xs. k < length xs) (sym e) l, ap (λ xs. get_or xs k []) e);
      }

  pub seek_more : (p rest n : ℕ) → p < 16 → n ≡ term (get_or roles p 0) (get_or counts p 0) → n ≤ rest → Seek p rest → Seek (p + 1) (rest - n)
  seek_more p rest n l e g had = subst (λ z. Seek z (rest - n)) (suc_is p) (record { left = next })
    where
      next : (clauses : ℕ → List Clause) → Sized counts clauses → k < length (up_to (permitted roles clauses) 16) →
          (rest - n < length (onward (permitted roles clauses) (suc p) (16 - suc p))) × (get_or (onward (permitted roles clauses) (suc p) (16 - suc p)) (rest - n) [] ≡ get_or (up_to (permitted roles clauses) 16) k [])
      next clauses s m =
          let f = permitted roles clauses in
          let more = onward f (suc p) (16 - suc p) in
          let split : onward f p (16 - p) ≡ f p ++ more = ap (onward f p) (one_more p l) in
          let own : n ≡ length (f p) = e ∙ sym (term_length (get_or roles p 0) (get_or counts p 0) (clauses p) (s p l).0 (s p l).1) in
          let got = had.left clauses s m in
          let a : rest < length (f p ++ more) = subst (λ xs. rest < length xs) split got.0 in
          let b = length-append (f p) more in
          let c : length (f p) + (rest - n) ≡ rest = omega arith in
          (omega arith, sym (get_or-append-add (f p) more (rest - n) []) ∙ ap (λ z. get_or (f p ++ more) z []) c ∙ ap (λ xs. get_or xs rest []) (sym split) ∙ got.1)

  pub seek_found : (p rest n : ℕ) → p < 16 → n ≡ term (get_or roles p 0) (get_or counts p 0) → rest < n → Seek p rest → Finds roles counts k (record { policy = p; clause = rest })
  seek_found p rest n l e g had = record { there = l; finds = λ clauses s m. (one, here clauses s m) }
    where
      one : get_or roles p 0 ≡ 1
      one = term_some (get_or roles p 0) (get_or counts p 0) rest (omega arith)

      here : (clauses : ℕ → List Clause) → Sized counts clauses → k < length (up_to (permitted roles clauses) 16) → get_or (clauses p) rest [] ≡ get_or (up_to (permitted roles clauses) 16) k []
      here clauses s m =
          let f = permitted roles clauses in
          let own : f p ≡ clauses p = ap (λ (b : Bool). cond b (clauses p) []) (eq-eqb (get_or roles p 0) 1 one) in
          let t = term_length (get_or roles p 0) (get_or counts p 0) (clauses p) (s p l).0 (s p l).1 in
          ap (λ xs. get_or xs rest []) (sym own) ∙ sym (get_or-append (f p) (onward f (suc p) (16 - suc p)) [] rest (omega arith))
          ∙ ap (λ xs. get_or xs rest []) (sym (ap (onward f p) (one_more p l))) ∙ (had.left clauses s m).1

  pub seek_ends : (p rest : ℕ) → p ≡ 16 → Seek p rest → (clauses : ℕ → List Clause) → Sized counts clauses → k < length (up_to (permitted roles clauses) 16) → ⊥
  seek_ends p rest e had clauses s m = not-suc-le-zero ((subst (λ z. Seek z rest) e had).left clauses s m).0

-- no permissive clause has the number, so there is no such branch
pub picks_none : (roles counts : List ℕ) (k : ℕ) (d : Digits) → Splits roles counts k d →
    ((clauses : ℕ → List Clause) → Sized counts clauses → d.rest < length (up_to (permitted roles clauses) 16) → ⊥) → Picks roles counts k (record { policy = 0; slots = d.slots })
unfolding branches_of
picks_none roles counts k d h none = record { there = omega arith; picks = λ clauses s l. absurd (none clauses s (h.picks clauses s (up_to (permitted roles clauses) 16) l).0) }

-- the digits, with the permissive clause in its policy's slot
pub picks_both : (roles counts : List ℕ) (k : ℕ) (d : Digits) (q : Permitted) → length d.slots ≡ 16 → Splits roles counts k d → Finds roles counts d.rest q →
    Picks roles counts k (record { policy = q.policy; slots = set d.slots q.policy q.clause })
unfolding branches_of
picks_both roles counts k d q e h g = record { there = g.there; picks = both }
  where
    slots : List ℕ
    slots = set d.slots q.policy q.clause

    both : (clauses : ℕ → List Clause) → Sized counts clauses → k < length (branches_of roles clauses) →
        picked clauses slots q.policy ++ up_to (besides clauses (record { policy = q.policy; slots = slots })) 16 ≡ get_or (branches_of roles clauses) k []
    both clauses s l =
        let x = h.picks clauses s (up_to (permitted roles clauses) 16) l in
        let y = g.finds clauses s x.0 in
        ap (λ t. t ++ up_to others 16) (ap (λ z. get_or (clauses q.policy) z []) (get_or-set_same d.slots q.policy q.clause 0 inside) ∙ y.1)
        ∙ ap (λ t. get_or (up_to (permitted roles clauses) 16) d.rest [] ++ t) (up_to_same others (picked clauses d.slots) 16 (λ p m. same p m (ℕ_discrete p q.policy) y.0))
        ∙ x.1
      where
        others : ℕ → Clause
        others = besides clauses (record { policy = q.policy; slots = slots })

        inside : q.policy < length d.slots
        inside = let a = g.there in omega arith

        same : (p : ℕ) → p < 16 → Dec (p ≡ q.policy) → get_or roles q.policy 0 ≡ 1 → others p ≡ picked clauses d.slots p
        same p m (yes w) one =
            ap (λ (b : Bool). cond b [] (picked clauses slots p)) (eq-eqb p q.policy w)
            ∙ sym (ap (λ z. get_or (clauses p) z []) (h.none p m (λ two. let o : get_or roles p 0 ≡ 1 = ap (λ z. get_or roles z 0) w ∙ one in omega arith)) ∙ get_or-eq_default (clauses p) [] {n = 8} (s p m).1)
        same p m (no w) one =
            ap (λ (b : Bool). cond b [] (picked clauses slots p)) (ne_eqb p q.policy w) ∙ ap (λ z. get_or (clauses p) z []) (get_or-set_other d.slots q.policy p q.clause 0 w)
