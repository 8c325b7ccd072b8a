-- Lists of atoms and what they are read as, one element after the other.
use Prim.Native.Nat.{ℕ, ◌+◌, ◌≤◌, ◌<◌}
use mathlib.Core.Path.{◌≡◌, refl, ap, sym, ◌∙◌}
use mathlib.Core.List.{List, [], ◌∷◌, ◌++◌, map, append-nil}
use mathlib.Core.Bool.{Bool, true, false, cond}
use native.Mathlib.Numerals.{add-one}
use native.Mathlib.Omega.{arith}
use lib.ListN.{length, take, drop, get_or, length-map, drop_of_length-le}
use Rattle.std.proofs.lemmas.List.{take_more, drop-map, take-map, map-append}
use Rattle.std.specs.List.{list_all}
use mathlib.Core.Bool.{◌&&◌}
use Rattle.lists.specs.Lists.{All, keep, every}
use Rattle.meaning.specs.declared.Atom.{Atom}
use lib.Seq.{drop-cons}

-- what an array of atoms is read as past its end
abbrev pub no_atom : Atom
no_atom = record { variable = 0; operator = 0; other = 0; count = 0; values = [] }

pub heads : {A : Type 0} {x y : A} {xs ys : List A} → x ∷ xs ≡ y ∷ ys → x ≡ y
heads e = cc

pub nil_cons : {A : Type 0} {x : A} {xs : List A} → [] ≡ x ∷ xs → ⊥
nil_cons e = let z : ◌≡◌ {A = ℕ} 0 1 = cc in omega arith

-- what f makes of a list: at i, and none behind the last
module _ {A B : Type 0} (f : A → B) (l : List A) where
  pub map_at : (d : A) (i : ℕ) → i < length l → drop i (map f l) ≡ f (get_or l i d) ∷ drop (i + 1) (map f l)
  map_at d i h =
      let e : drop i l ≡ get_or l i d ∷ drop (i + 1) l = rw add-one (drop-cons l i d h) in
      drop-map f i l ∙ ap (map f) e ∙ ap (λ t. f (get_or l i d) ∷ t) (sym (drop-map f (i + 1) l))

  pub map_suc : (d : A) (i : ℕ) → i < length l → take (i + 1) (map f l) ≡ take i (map f l) ++ (f (get_or l i d) ∷ [])
  map_suc d i h =
      take-map f (i + 1) l ∙ ap (map f) (take_more l i d h) ∙ map-append f (take i l) (get_or l i d ∷ []) ∙ ap (λ t. t ++ (f (get_or l i d) ∷ [])) (sym (take-map f i l))

  pub map_end : (i : ℕ) → length l ≤ i → drop i (map f l) ≡ []
  map_end i h = drop_of_length-le (map f l) {i = i} (omega (arith, length-map l f))

module _ {A : Type 0} (P : A → Type 0) where
  pub all_both : (xs ys : List A) → All P xs → All P ys → All P (xs ++ ys)
  all_both [] ys h k = k
  all_both (x ∷ xs) ys h k = (h.0, all_both xs ys h.1 k)

-- `all` of std is the document's
pub all_every : {A B : Type 0} (f : A → B) (p : B → Bool) (xs : List A) → list_all (λ x. p (f x)) xs ≡ every p (map f xs)
all_every f p [] = refl
all_every f p (x ∷ xs) = ap (λ b. p (f x) && b) (all_every f p xs)

-- one more of a list, kept or not
keep_both : {A : Type 0} (f : A → Bool) (xs ys : List A) → keep f (xs ++ ys) ≡ keep f xs ++ keep f ys
keep_both f [] ys = refl
keep_both f (x ∷ xs) ys = ap (λ t. cond (f x) (x ∷ t) t) (keep_both f xs ys) ∙ go (f x)
  where
    go : (b : Bool) → cond b (x ∷ (keep f xs ++ keep f ys)) (keep f xs ++ keep f ys) ≡ cond b (x ∷ keep f xs) (keep f xs) ++ keep f ys
    go true = refl
    go false = refl

module _ {A : Type 0} (f : A → Bool) (xs : List A) (i : ℕ) (d : A) (h : i < length xs) where
  keep_more : keep f (take (i + 1) xs) ≡ keep f (take i xs) ++ cond (f (get_or xs i d)) (get_or xs i d ∷ []) []
  keep_more = ap (keep f) (take_more xs i d h) ∙ keep_both f (take i xs) (get_or xs i d ∷ [])

  pub keep_yes : f (get_or xs i d) ≡ true → keep f (take i xs) ++ (get_or xs i d ∷ []) ≡ keep f (take (i + 1) xs)
  keep_yes e = sym (keep_more ∙ ap (λ b. keep f (take i xs) ++ cond b (get_or xs i d ∷ []) []) e)

  pub keep_not : f (get_or xs i d) ≡ false → keep f (take i xs) ≡ keep f (take (i + 1) xs)
  keep_not e = sym (keep_more ∙ ap (λ b. keep f (take i xs) ++ cond b (get_or xs i d ∷ []) []) e ∙ append-nil (keep f (take i xs)))
