-- A reader reads just the packed forms of what is allowed: the laws of `Reads`, for any reader that is a `do` block.
use Prim.Native.Nat.{ℕ, zero, suc, ◌+◌, ◌*◌, ◌^◌, ◌<◌, ◌≤◌}
use native.Mathlib.Nat.{add-zero}
use native.Mathlib.Omega.{arith}
use mathlib.Core.Path.{◌≡◌, refl, sym, ap, subst, ◌∙◌}
use mathlib.Core.Bool.{Bool, true, false, cond, true≢false}
use mathlib.Core.List.{List, [], ◌∷◌, ◌++◌}
use lib.ListN.{length}
use lib.Dec.{leb, lit≤}
use borrow.Author.Tests.{leb-true, le-leb}
use Rattle.lists.specs.Lists.{All, each}
use Rattle.lists.proofs.ListLaws.{all_append}
use Rattle.bits.specs.Bits.{bits, number}
use Rattle.bits.proofs.BitLaws.{bits_length}
use Rattle.bits.proofs.Laws.{number_lt}
use Rattle.bits.proofs.StandLaws.{Written, written_nil, written_append, written_split, Binary, stands_number, number_stands, bits_binary}
use Rattle.meaning.specs.Reading.{Read, found, refused, Reader, on_read, give, need, times, field}
use Rattle.meaning.proofs.ReadLaws.{read_split, found_same}

-- m finds a, and ends at q, exactly where a is allowed and its packed form stands, up to q; it refuses by 1 to 11 only
pub record Reads {A : Type 0} (m : Reader A) (Allowed : A → Type 0) (form : A → List ℕ) : Type 0 where
  pub reads : (s : List ℕ) (p : ℕ) (a : A) (q : ℕ) → p ≤ length s * 8 → m s p ≡ found a q → Allowed a × Written s p q (form a)
  pub finds : (s : List ℕ) (p : ℕ) (a : A) (q : ℕ) → Allowed a → Written s p q (form a) → m s p ≡ found a q
  pub binary : (a : A) → Allowed a → Binary (form a)
  pub refuses : (s : List ℕ) (p n : ℕ) → m s p ≡ refused n → n ≤ 11

pub refused_same : {A : Type 0} {n k : ℕ} → ◌≡◌ {A = Read A} (refused n) (refused k) → n ≡ k
refused_same e = cc

pub not_refused : {A : Type 0} {a : A} {p n : ℕ} → found a p ≡ refused n → ⊥
not_refused e = let z : ◌≡◌ {A = ℕ} 0 1 = cc in omega arith

-- the same, said otherwise
pub reads_as : {A : Type 0} {m : Reader A} {G H : A → Type 0} {f g : A → List ℕ} → ((a : A) → G a → H a) → ((a : A) → H a → G a) → ((a : A) → f a ≡ g a) → Reads m G f → Reads m H g
reads_as {A} {m} {G} {H} {f} {g} to back e r =
    record {
      reads = λ s p a q l h. let x = r.reads s p a q l h in (to a x.0, subst (Written s p q) (e a) x.1);
      finds = λ s p a q h w. r.finds s p a q (back a h) (subst (Written s p q) (sym (e a)) w);
      binary = λ a h. subst Binary (e a) (r.binary a (back a h));
      refuses = r.refuses;
    }

-- what refuses a reading in two parts refused one of them
pub split_refused : {A B : Type 0} (m : Read A) (f : A → ℕ → Read B) (n : ℕ) → on_read m f ≡ refused n → (m ≡ refused n → n ≤ 11) → ((a : A) (p : ℕ) → f a p ≡ refused n → n ≤ 11) → n ≤ 11
split_refused (found a p) f n e g h = h a p e
split_refused (refused k) f n e g h = g (ap refused (refused_same e))

-- `x ← m; k x`, where x can be told from what is found in the end
pub reads_then : {A B : Type 0} {m : Reader A} {k : A → Reader B} {G : A → Type 0} {f : A → List ℕ} {H : A → B → Type 0} {g : A → B → List ℕ}
    (part : B → A) → ((a : A) (b : B) → G a → H a b → part b ≡ a) → Reads m G f → ((a : A) → Reads (k a) (H a) (g a)) →
    Reads (λ s p. on_read (m s p) (λ a q. k a s q)) (λ b. G (part b) × H (part b) b) (λ b. f (part b) ++ g (part b) b)
reads_then {A} {B} {m} {k} {G} {f} {H} {g} part told r rs =
    record {
      reads = λ s p b q l h.
          let x = read_split (m s p) (λ a q. k a s q) b q h in
          let y = r.reads s p x.0 x.1 l x.2 in
          let z = (rs x.0).reads s x.1 b q y.1.inside x.3 in
          subst (λ a. (G a × H a b) × Written s p q (f a ++ g a b)) (sym (told x.0 b y.0 z.0)) ((y.0, z.0), written_append s p x.1 q (f x.0) (g x.0 b) y.1 z.1);
      finds = λ s p b q h w.
          let y = written_split s p q (f (part b)) (g (part b) b) w in
          let z = p + length (f (part b)) in
          ap (λ t. on_read t (λ a q. k a s q)) (r.finds s p (part b) z h.0 y.0) ∙ (rs (part b)).finds s z b q h.1 y.1;
      binary = λ b h. all_append (λ x. x ≤ 1) (f (part b)) (g (part b) b) (r.binary (part b) h.0) ((rs (part b)).binary b h.1);
      refuses = λ s p n e. split_refused (m s p) (λ a q. k a s q) n e (r.refuses s p n) (λ a q. (rs a).refuses s q n);
    }

pub not_found : {A : Type 0} {a : A} {p n : ℕ} → refused n ≡ found a p → ⊥
not_found e = let z : ◌≡◌ {A = ℕ} 0 1 = cc in omega arith

-- `need ok n; m`
pub reads_need : {A : Type 0} {m : Reader A} {G : A → Type 0} {f : A → List ℕ} (ok : Bool) (n : ℕ) → n ≤ 11 → Reads m G f → Reads (λ s p. on_read (need ok n s p) (λ u q. m s q)) (λ a. (ok ≡ true) × G a) f
reads_need true n l r =
    record { reads = λ s p a q l h. let x = r.reads s p a q l h in ((refl, x.0), x.1); finds = λ s p a q h w. r.finds s p a q h.1 w; binary = λ a h. r.binary a h.1; refuses = r.refuses }
reads_need false n l r =
    record { reads = λ s p a q l h. absurd (not_found h); finds = λ s p a q h w. absurd (true≢false (sym h.0)); binary = λ a h. r.binary a h.1; refuses = λ s p k e. subst (λ z. z ≤ 11) (refused_same e) l }

pub found_end : {A : Type 0} {a b : A} {p q : ℕ} → found a p ≡ found b q → p ≡ q
found_end e = cc

-- `give x`
pub reads_give : {A : Type 0} (x : A) → Reads (give x) (λ a. a ≡ x) (λ a. [])
reads_give x =
    record {
      reads = λ s p a q l h. (sym (found_same h), subst (λ z. Written s p z []) (found_end h) (written_nil s p l));
      finds = λ s p a q h w. let e = w.ended in let o : p ≡ q = sym (e ∙ add-zero p) in λ i. found (sym h i) (o i);
      binary = λ a h. tt;
      refuses = λ s p n e. absurd (not_refused e);
    }

-- `a ← m; give (c a)`
module _ {A B : Type 0} {m : Reader A} {G : A → Type 0} {f : A → List ℕ} (r : Reads m G f) (s : List ℕ) (p : ℕ) where
  pub made : (c : A → B) (x : B) (q : ℕ) → p ≤ length s * 8 → on_read (m s p) (λ a t. found (c a) t) ≡ found x q → (a : A) × (c a ≡ x) × G a × Written s p q (f a)
  made c x q l h =
      let y = read_split (m s p) (λ a t. found (c a) t) x q h in
      let z = r.reads s p y.0 y.1 l y.2 in
      (y.0, found_same y.3, z.0, subst (λ t. Written s p t (f y.0)) (found_end y.3) z.1)

  pub makes : (c : A → B) (a : A) (q : ℕ) → G a → Written s p q (f a) → on_read (m s p) (λ x t. found (c x) t) ≡ found (c a) q
  makes c a q g w = ap (λ t. on_read t (λ x u. found (c x) u)) (r.finds s p a q g w)

  pub made_refused : (c : A → B) (n : ℕ) → on_read (m s p) (λ x t. found (c x) t) ≡ refused n → n ≤ 11
  made_refused c n e = split_refused (m s p) (λ x t. found (c x) t) n e (r.refuses s p n) (λ a t h. absurd (not_refused h))

  -- `a ← m; b ← m; give (c a b)`
  pub made_2 : (c : A → A → B) (x : B) (q : ℕ) → p ≤ length s * 8 → on_read (m s p) (λ a t. on_read (m s t) (λ b u. found (c a b) u)) ≡ found x q → (a : A) × (b : A) × (c a b ≡ x) × (G a × G b) × Written s p q (f a ++ f b)
  made_2 c x q l h =
      let y = read_split (m s p) (λ a t. on_read (m s t) (λ b u. found (c a b) u)) x q h in
      let z = r.reads s p y.0 y.1 l y.2 in
      let v = read_split (m s y.1) (λ b u. found (c y.0 b) u) x q y.3 in
      let w = r.reads s y.1 v.0 v.1 z.1.inside v.2 in
      (y.0, v.0, found_same v.3, (z.0, w.0), written_append s p y.1 q (f y.0) (f v.0) z.1 (subst (λ t. Written s y.1 t (f v.0)) (found_end v.3) w.1))

  pub makes_2 : (c : A → A → B) (a b : A) (q : ℕ) → G a → G b → Written s p q (f a ++ f b) → on_read (m s p) (λ x t. on_read (m s t) (λ y u. found (c x y) u)) ≡ found (c a b) q
  makes_2 c a b q g h w =
      let y = written_split s p q (f a) (f b) w in
      let z = p + length (f a) in
      ap (λ t. on_read t (λ x t. on_read (m s t) (λ y u. found (c x y) u))) (r.finds s p a z g y.0) ∙ ap (λ t. on_read t (λ y u. found (c a y) u)) (r.finds s z b q h y.1)

  pub made_2_refused : (c : A → A → B) (n : ℕ) → on_read (m s p) (λ x t. on_read (m s t) (λ y u. found (c x y) u)) ≡ refused n → n ≤ 11
  made_2_refused c n e =
      split_refused (m s p) (λ x t. on_read (m s t) (λ y u. found (c x y) u)) n e (r.refuses s p n)
      (λ a t h. split_refused (m s t) (λ y u. found (c a y) u) n h (r.refuses s t n) (λ b u i. absurd (not_refused i)))

-- one after another
pub reads_times : {A : Type 0} {m : Reader A} {G : A → Type 0} {f : A → List ℕ} → Reads m G f → (n : ℕ) → Reads (times n m) (λ xs. All G xs × (length xs ≡ n)) (each f)
reads_times {A} {m} {G} {f} r n = record { reads = λ s p xs q. to s n p xs q; finds = λ s p xs q h w. back s n p xs q h.0 h.1 w; binary = λ xs h. ones xs h.0; refuses = λ s p k e. mild s n p k e }
  where
    to : (s : List ℕ) (n p : ℕ) (xs : List A) (q : ℕ) → p ≤ length s * 8 → times n m s p ≡ found xs q → (All G xs × (length xs ≡ n)) × Written s p q (each f xs)
    to s zero p xs q l h = subst (λ z. (All G z × (length z ≡ 0)) × Written s p q (each f z)) (found_same h) ((tt, refl), subst (λ z. Written s p z []) (found_end h) (written_nil s p l))
    to s (suc n) p xs q l h =
        let x = read_split (m s p) _ xs q h in
        let y = read_split (times n m s x.1) _ xs q x.3 in
        let a = r.reads s p x.0 x.1 l x.2 in
        let b = to s n x.1 y.0 y.1 a.1.inside y.2 in
        subst (λ z. (All G z × (length z ≡ suc n)) × Written s p q (each f z)) (found_same y.3)
        (((a.0, b.0.0), ap suc b.0.1), written_append s p x.1 q (f x.0) (each f y.0) a.1 (subst (λ z. Written s x.1 z (each f y.0)) (found_end y.3) b.1))

    back : (s : List ℕ) (n p : ℕ) (xs : List A) (q : ℕ) → All G xs → length xs ≡ n → Written s p q (each f xs) → times n m s p ≡ found xs q
    back s zero p [] q h e w = let o : p ≡ q = sym (w.ended ∙ add-zero p) in ap (found []) o
    back s zero p (x ∷ xs) q h e w = absurd (omega arith)
    back s (suc n) p [] q h e w = absurd (omega arith)
    back s (suc n) p (x ∷ xs) q h e w =
        let y = written_split s p q (f x) (each f xs) w in
        let z = p + length (f x) in
        ap (λ t. on_read t (λ a q. on_read (times n m s q) (λ more q. found (a ∷ more) q))) (r.finds s p x z h.0 y.0)
        ∙ ap (λ t. on_read t (λ more q. found (x ∷ more) q)) (back s n z xs q h.1 (omega arith) y.1)

    mild : (s : List ℕ) (n p k : ℕ) → times n m s p ≡ refused k → k ≤ 11
    mild s zero p k e = absurd (not_refused e)
    mild s (suc n) p k e = split_refused (m s p) (λ a q. on_read (times n m s q) (λ more q. found (a ∷ more) q)) k e (r.refuses s p k) (λ a q h. split_refused (times n m s q) (λ more q. found (a ∷ more) q) k h (mild s n q k) (λ more t i. absurd (not_refused i)))

    ones : (xs : List A) → All G xs → Binary (each f xs)
    ones [] h = tt
    ones (x ∷ xs) h = all_append (λ b. b ≤ 1) (f x) (each f xs) (r.binary x h.0) (ones xs h.1)

pub reads_field : (w : ℕ) → Reads (field w) (λ v. v < 2 ^ w) (bits w)
unfolding field
reads_field w =
    record {
      reads = λ s p v q l h. to s p v q (leb (p + w) (length s * 8)) refl h;
      finds = λ s p v q l h. back s p v q l h;
      binary = λ v l. bits_binary w v l;
      refuses = λ s p n e. mild s p n (leb (p + w) (length s * 8)) e;
    }
  where
    mild : (s : List ℕ) (p n : ℕ) (b : Bool) → cond b (found (number s p w) (p + w)) (refused 2) ≡ refused n → n ≤ 11
    mild s p n true e = absurd (not_refused e)
    mild s p n false e = subst (λ z. z ≤ 11) (refused_same e) (lit≤ tt)

    to : (s : List ℕ) (p v q : ℕ) (b : Bool) → leb (p + w) (length s * 8) ≡ b → cond b (found (number s p w) (p + w)) (refused 2) ≡ found v q → (v < 2 ^ w) × Written s p q (bits w v)
    to s p v q true e h =
        let i = leb-true (p + w) (length s * 8) e in
        let n = bits_length w (number s p w) in
        let o : Written s p (p + w) (bits w (number s p w)) = record { stand = stands_number s w p; ended = omega arith; inside = i } in
        subst (λ x. (x < 2 ^ w) × Written s p q (bits w x)) (found_same h) (number_lt s p w, subst (λ x. Written s p x (bits w (number s p w))) (found_end h) o)
    to s p v q false e h = absurd (not_found h)

    back : (s : List ℕ) (p v q : ℕ) → v < 2 ^ w → Written s p q (bits w v) → cond (leb (p + w) (length s * 8)) (found (number s p w) (p + w)) (refused 2) ≡ found v q
    back s p v q l h =
        let i = h.inside in
        let e = h.ended in
        let n = bits_length w v in
        let o : p + w ≡ q = omega arith in
        let t : leb (p + w) (length s * 8) ≡ true = le-leb (p + w) (length s * 8) (omega arith) in
        rw t (λ i. found (number_stands s w p v l h.stand i) (o i))
