-- Readings one after another, as a loop makes them: none yet, one more, one refused; and an array that takes what was read.
use Prim.Native.Nat.{ℕ, zero, suc, ◌+◌, ◌<◌}
use native.Mathlib.Omega.{arith}
use native.Mathlib.Numerals.{add-one}
use mathlib.Core.Path.{◌≡◌, refl, sym, ap, ◌∙◌, subst}
use mathlib.Core.List.{List, [], ◌∷◌, ◌++◌, map}
use lib.ListN.{length, set, take}
use Rattle.std.specs.Prelude.{Result}
use Rattle.refusals.specs.declared.Refusal.{Refusal}
use Rattle.bits.specs.Fields.{place_at}
use Rattle.bits.specs.declared.Place.{Place}
use Rattle.meaning.specs.Reading.{Read, found, refused, Reader, on_read, times}
use Rattle.values.specs.Reads.{Got, Answers, answered, stopped}

-- where something was found, it is what the answer stands for
pub got_item : {A : Type 0} {m : Read A} {H : A → Type 0} {r : Place} {a : A} {q : ℕ} → Got m H r → m ≡ found a q → H a
got_item {A} {m} {H} {r} {a} {q} g h = let t : found g.item g.place ≡ found a q = sym g.read ∙ h in let same : g.item ≡ a = cc in subst H same g.holds

-- nothing was found where a reading was refused
pub not_found : {A X : Type 0} {m : Read A} {n q : ℕ} {a : A} → m ≡ refused n → m ≡ found a q → X
not_found {A} {X} {m} {n} {q} {a} r h = let t : refused n ≡ found a q = sym r ∙ h in let z : ◌≡◌ {A = ℕ} 0 1 = cc in absurd (omega arith)

-- the same reader by another name
pub answers_by : {A B : Type 0} {m n : Read A} {H : B → A → Type 0} {r : Result (B × Place) Refusal} → m ≡ n → Answers n H r → Answers m H r
answers_by {A} {B} {m} {n} {H} {r} h g = subst (λ x. Answers x H r) (sym h) g

pub got_by : {A : Type 0} {m n : Read A} {H : A → Type 0} {q : Place} → m ≡ n → Got n H q → Got m H q
got_by {A} {m} {n} {H} {q} h g = subst (λ x. Got x H q) (sym h) g

-- what was found, put into another form
pub got_map : {A B : Type 0} {m : Read A} (f : A → B) {H : A → Type 0} {K : B → Type 0} {q : Place} → ((a : A) → H a → K (f a)) → Got m H q → Got (on_read m (λ a q. found (f a) q)) K q
got_map f k g = record { item = f g.item; place = g.place; read = ap (λ x. on_read x (λ a o. found (f a) o)) g.read; here = g.here; holds = k g.item g.holds }

pub answers_map : {A B C : Type 0} {m : Read A} (f : A → C) {H : B → A → Type 0} {K : B → C → Type 0} {r : Result (B × Place) Refusal} → ((b : B) (a : A) → H b a → K b (f a)) → Answers m H r
    → Answers (on_read m (λ a q. found (f a) q)) K r
answers_map f k (answered {b = b} g) = answered (got_map f (k b) g)
answers_map f k (stopped r) = stopped (ap (λ x. on_read x (λ a o. found (f a) o)) r)

-- the same, where the reading itself is told
pub answers_onto : {A B C : Type 0} (m : Read A) (f : A → C) {H : B → A → Type 0} {K : B → C → Type 0} {r : Result (B × Place) Refusal} → ((b : B) (a : A) (q : ℕ) → m ≡ found a q → H b a → K b (f a))
    → Answers m H r → Answers (on_read m (λ a q. found (f a) q)) K r
answers_onto m f k (answered {b = b} g) =
    answered record { item = f g.item; place = g.place; read = ap (λ x. on_read x (λ a o. found (f a) o)) g.read; here = g.here; holds = k b g.item g.place g.read g.holds }
answers_onto m f k (stopped r) = stopped (ap (λ x. on_read x (λ a o. found (f a) o)) r)

module _ {A : Type 0} (m : Reader A) (s : List ℕ) where
  -- one reading more
  times_more : (i p : ℕ) (xs : List A) (q o : ℕ) (a : A) → times i m s p ≡ found xs q → m s q ≡ found a o → times (suc i) m s p ≡ found (xs ++ (a ∷ [])) o
  times_more zero p xs q o a e h =
      let same : p ≡ q = cc in
      let none : [] ≡ xs = cc in
      rw (same, h, ← none)
  times_more (suc i) p xs q o a e h = go (λ r ys u g k. times_more i r ys u o a g k) (m s p) refl e
    where
      Before : Type 0
      Before = (r : ℕ) (ys : List A) (u : ℕ) → times i m s r ≡ found ys u → m s u ≡ found a o → times (suc i) m s r ≡ found (ys ++ (a ∷ [])) o

      rest : Before → (b : A) (r : ℕ) (t : Read (List A)) → times i m s r ≡ t → on_read t (λ more u. found (b ∷ more) u) ≡ found xs q
          → on_read (times (suc i) m s r) (λ more u. found (b ∷ more) u) ≡ found (xs ++ (a ∷ [])) o
      rest ih b r (found ys u) g e =
          let place : u ≡ q = cc in
          let list : b ∷ ys ≡ xs = cc in
          rw (ih r ys u g (rw place h), ← list)
      rest ih b r (refused n) g e = let z : ◌≡◌ {A = ℕ} 0 1 = cc in absurd (omega arith)

      go : Before → (t : Read A) → m s p ≡ t → on_read t (λ b r. on_read (times i m s r) (λ more u. found (b ∷ more) u)) ≡ found xs q → times (suc (suc i)) m s p ≡ found (xs ++ (a ∷ [])) o
      go ih (found b r) g e = rw g (rest ih b r (times i m s r) refl e)
      go ih (refused n) g e = let z : ◌≡◌ {A = ℕ} 0 1 = cc in absurd (omega arith)

  -- a reading refused among the first n
  times_lost : (i n p : ℕ) (xs : List A) (q x : ℕ) → times i m s p ≡ found xs q → m s q ≡ refused x → i < n → times n m s p ≡ refused x
  times_lost i zero p xs q x e h l = absurd (omega arith)
  times_lost zero (suc n) p xs q x e h l = let same : p ≡ q = cc in rw (same, h)
  times_lost (suc i) (suc n) p xs q x e h l = go (λ r ys u g k. times_lost i n r ys u x g k (omega arith)) (m s p) refl e
    where
      Before : Type 0
      Before = (r : ℕ) (ys : List A) (u : ℕ) → times i m s r ≡ found ys u → m s u ≡ refused x → times n m s r ≡ refused x

      rest : Before → (b : A) (r : ℕ) (t : Read (List A)) → times i m s r ≡ t → on_read t (λ more u. found (b ∷ more) u) ≡ found xs q → on_read (times n m s r) (λ more u. found (b ∷ more) u) ≡ refused x
      rest ih b r (found ys u) g e = let place : u ≡ q = cc in rw (ih r ys u g (rw place h))
      rest ih b r (refused y) g e = let z : ◌≡◌ {A = ℕ} 0 1 = cc in absurd (omega arith)

      go : Before → (t : Read A) → m s p ≡ t → on_read t (λ b r. on_read (times i m s r) (λ more u. found (b ∷ more) u)) ≡ found xs q → times (suc n) m s p ≡ refused x
      go ih (found b r) g e = rw g (rest ih b r (times i m s r) refl e)
      go ih (refused y) g e = let z : ◌≡◌ {A = ℕ} 0 1 = cc in absurd (omega arith)

  -- as many items as readings
  pub times_length : (i p : ℕ) (xs : List A) (q : ℕ) → times i m s p ≡ found xs q → length xs ≡ i
  times_length zero p xs q e = let none : [] ≡ xs = cc in ap length (sym none)
  times_length (suc i) p xs q e = go (λ r ys u g. times_length i r ys u g) (m s p) e
    where
      Before : Type 0
      Before = (r : ℕ) (ys : List A) (u : ℕ) → times i m s r ≡ found ys u → length ys ≡ i

      rest : Before → (b : A) (r : ℕ) (t : Read (List A)) → times i m s r ≡ t → on_read t (λ more u. found (b ∷ more) u) ≡ found xs q → length xs ≡ suc i
      rest ih b r (found ys u) g e = let list : b ∷ ys ≡ xs = cc in ap length (sym list) ∙ ap suc (ih r ys u g)
      rest ih b r (refused n) g e = let z : ◌≡◌ {A = ℕ} 0 1 = cc in absurd (omega arith)

      go : Before → (t : Read A) → on_read t (λ b r. on_read (times i m s r) (λ more u. found (b ∷ more) u)) ≡ found xs q → length xs ≡ suc i
      go ih (found b r) e = rest ih b r (times i m s r) refl e
      go ih (refused n) e = let z : ◌≡◌ {A = ℕ} 0 1 = cc in absurd (omega arith)

  -- the loop begins
  pub turns_none : {at : Place} (p : ℕ) (H : List A → Type 0) → at ≡ place_at p → H [] → Got (times 0 m s p) H at
  turns_none p H e h = record { item = []; place = p; read = refl; here = e; holds = h }

  module _ (i p : ℕ) {H : List A → Type 0} {at : Place} (g : Got (times i m s p) H at) where
    -- the next is there
    pub turns_more : {a : A} {o : ℕ} {q : Place} (K : List A → Type 0) → m s g.place ≡ found a o → q ≡ place_at o → K (g.item ++ (a ∷ [])) → Got (times (i + 1) m s p) K q
    turns_more {a} {o} K e h k =
        record { item = g.item ++ (a ∷ []); place = o; read = rw add-one (times_more i p g.item g.place o a g.read e); here = h; holds = k }

    -- the next is refused
    pub turns_lost : {x : ℕ} (n : ℕ) → m s g.place ≡ refused x → i < n → times n m s p ≡ refused x
    turns_lost {x} n e l = times_lost i n p g.item g.place x g.read e l

    -- none is to come
    pub turns_done : (n : ℕ) (K : List A → Type 0) → i ≡ n → ((xs : List A) → H xs → K xs) → Got (times n m s p) K at
    turns_done n K e k = record { item = g.item; place = g.place; read = ap (λ x. times x m s p) (sym e) ∙ g.read; here = g.here; holds = k g.item g.holds }

-- an array takes one more
pub take_more : {A : Type 0} (l : List A) (i : ℕ) (a : A) {b : A} {xs : List A} → i < length l → take i l ≡ xs → a ≡ b → take (i + 1) (set l i a) ≡ xs ++ (b ∷ [])
take_more l i a h e k = rw (add-one, ← e, ← k) (go l i h)
  where
    go : (l : List _) (i : ℕ) → i < length l → take (suc i) (set l i a) ≡ take i l ++ (a ∷ [])
    go [] i h = absurd (omega arith)
    go (x ∷ xs) zero h = refl
    go (x ∷ xs) (suc i) h = ap (λ r. x ∷ r) (go xs i (omega arith))

pub map_more : {A B : Type 0} (f : A → B) (l : List A) (i : ℕ) (a : A) {b : B} {xs : List B} → i < length l → map f (take i l) ≡ xs → f a ≡ b
    → map f (take (i + 1) (set l i a)) ≡ xs ++ (b ∷ [])
map_more f l i a h e k = rw (add-one, ← e, ← k) (go l i h)
  where
    go : (l : List _) (i : ℕ) → i < length l → map f (take (suc i) (set l i a)) ≡ map f (take i l) ++ (f a ∷ [])
    go [] i h = absurd (omega arith)
    go (x ∷ xs) zero h = refl
    go (x ∷ xs) (suc i) h = ap (λ r. f x ∷ r) (go xs i (omega arith))
