-- The k-th of joined clauses by division and remainder, and choices with one more policy behind: the last varies fastest.
use Prim.Native.Nat.{ℕ, zero, suc, ◌+◌, ◌*◌, ◌/◌, ◌%◌, ◌<◌, ◌≤◌}
use native.Mathlib.Omega.{arith}
use native.Mathlib.Nat.{mod-lt, div-lt_iff_lt-mul, div-add-mod', le_of_suc-le-suc, not-suc-le-zero, zero-mul, mul-zero, suc-mul}
use mathlib.Core.Path.{◌≡◌, refl, sym, ap, subst, ◌∙◌}
use mathlib.Core.List.{List, [], ◌∷◌, ◌++◌, map, append_assoc}
use lib.ListN.{length, get_or, length-append, length-map, get_or-append}
use lib.Seq.{get_or-append-add}
use Rattle.meaning.specs.Atoms.{Clause}
use Rattle.meaning.specs.Sheets.{joined, choices}
use Rattle.branches.specs.Parts.{up_to}

-- the factors of a product that is not 0
pub right_pos : (a b : ℕ) → 0 < a * b → 0 < b
right_pos a zero l = absurd (omega (arith, l, mul-zero a))
right_pos a (suc b) l = omega arith

pub nil_right : {A : Type 0} (xs : List A) → xs ++ [] ≡ xs
nil_right [] = refl
nil_right (x ∷ xs) = ap (λ t. x ∷ t) (nil_right xs)

-- within a list, what stands in its image
map_at : (c : Clause) (ds : List Clause) (k : ℕ) → k < length ds → get_or (map (λ d. c ++ d) ds) k [] ≡ c ++ get_or ds k []
map_at c [] k l = absurd (not-suc-le-zero l)
map_at c (d ∷ ds) zero l = refl
map_at c (d ∷ ds) (suc k) l = map_at c ds k (le_of_suc-le-suc l)

pub joined_length : (cs ds : List Clause) → length (joined cs ds) ≡ length cs * length ds
joined_length [] ds = sym (zero-mul (length ds))
joined_length (c ∷ cs) ds =
    length-append (map (λ d. c ++ d) ds) (joined cs ds) ∙ omega (arith, length-map ds (λ d. c ++ d), joined_length cs ds, suc-mul (length cs) (length ds))

-- a block of ds for each of cs
joined_block : (cs ds : List Clause) (i j : ℕ) → i < length cs → j < length ds → get_or (joined cs ds) (i * length ds + j) [] ≡ get_or cs i [] ++ get_or ds j []
joined_block [] ds i j l m = absurd (not-suc-le-zero l)
joined_block (c ∷ cs) ds zero j l m =
    ap (λ k. get_or (map (λ d. c ++ d) ds ++ joined cs ds) k []) (omega (arith, zero-mul (length ds)))
    ∙ get_or-append (map (λ d. c ++ d) ds) (joined cs ds) [] j (subst (λ z. j < z) (sym (length-map ds (λ d. c ++ d))) m) ∙ map_at c ds j m
joined_block (c ∷ cs) ds (suc i) j l m =
    ap (λ k. get_or (map (λ d. c ++ d) ds ++ joined cs ds) k []) (omega (arith, length-map ds (λ d. c ++ d), suc-mul i (length ds)))
    ∙ get_or-append-add (map (λ d. c ++ d) ds) (joined cs ds) (i * length ds + j) [] ∙ joined_block cs ds i j (le_of_suc-le-suc l) m

module _ (cs ds : List Clause) (k : ℕ) (l : k < length (joined cs ds)) where
  pub joined_some : 0 < length ds
  joined_some = let e : length (joined cs ds) ≡ length cs * length ds = joined_length cs ds in right_pos (length cs) (length ds) (omega arith)

  pub joined_front : k / length ds < length cs
  joined_front = (div-lt_iff_lt-mul {k = length ds} {x = k} {y = length cs} joined_some).1 (subst (λ z. k < z) (joined_length cs ds) l)

  pub joined_at : get_or (joined cs ds) k [] ≡ get_or cs (k / length ds) [] ++ get_or ds (k % length ds) []
  joined_at =
      ap (λ z. get_or (joined cs ds) z []) (sym (div-add-mod' k (length ds)))
      ∙ joined_block cs ds (k / length ds) (k % length ds) joined_front (mod-lt k joined_some)

-- joining is associative, with the clause without atoms on either side
joined_append : (cs es ds : List Clause) → joined (cs ++ es) ds ≡ joined cs ds ++ joined es ds
joined_append [] es ds = refl
joined_append (c ∷ cs) es ds = ap (λ t. map (λ d. c ++ d) ds ++ t) (joined_append cs es ds) ∙ sym (append_assoc (map (λ d. c ++ d) ds) (joined cs ds) (joined es ds))

front_append : (c : Clause) (ds es : List Clause) → map (λ d. c ++ d) (ds ++ es) ≡ map (λ d. c ++ d) ds ++ map (λ d. c ++ d) es
front_append c [] es = refl
front_append c (d ∷ ds) es = ap (λ t. (c ++ d) ∷ t) (front_append c ds es)

front_twice : (c d : Clause) (es : List Clause) → map (λ x. c ++ x) (map (λ x. d ++ x) es) ≡ map (λ x. (c ++ d) ++ x) es
front_twice c d [] = refl
front_twice c d (e ∷ es) = ap (λ h. h ∷ map (λ x. c ++ x) (map (λ x. d ++ x) es)) (sym (append_assoc c d e)) ∙ ap (λ t. ((c ++ d) ++ e) ∷ t) (front_twice c d es)

front_joined : (c : Clause) (ds es : List Clause) → map (λ x. c ++ x) (joined ds es) ≡ joined (map (λ d. c ++ d) ds) es
front_joined c [] es = refl
front_joined c (d ∷ ds) es =
    front_append c (map (λ x. d ++ x) es) (joined ds es) ∙ ap (λ h. h ++ map (λ x. c ++ x) (joined ds es)) (front_twice c d es) ∙ ap (λ t. map (λ x. (c ++ d) ++ x) es ++ t) (front_joined c ds es)

pub joined_assoc : (cs ds es : List Clause) → joined cs (joined ds es) ≡ joined (joined cs ds) es
joined_assoc [] ds es = refl
joined_assoc (c ∷ cs) ds es =
    ap (λ h. h ++ joined cs (joined ds es)) (front_joined c ds es) ∙ ap (λ t. joined (map (λ d. c ++ d) ds) es ++ t) (joined_assoc cs ds es)
    ∙ sym (joined_append (map (λ d. c ++ d) ds) (joined cs ds) es)

pub joined_nothing : (cs : List Clause) → joined cs ([] ∷ []) ≡ cs
joined_nothing [] = refl
joined_nothing (c ∷ cs) = ap (λ h. h ∷ joined cs ([] ∷ [])) (nil_right c) ∙ ap (λ t. c ∷ t) (joined_nothing cs)

nothing_joined : (cs : List Clause) → joined ([] ∷ []) cs ≡ cs
nothing_joined cs = nil_right (map (λ d. [] ++ d) cs) ∙ same cs
  where
    same : (cs : List Clause) → map (λ d. [] ++ d) cs ≡ cs
    same [] = refl
    same (c ∷ cs) = ap (λ t. c ∷ t) (same cs)

-- one more restrictive policy, behind the others
pub choices_snoc : (rs : List (List Clause)) (r : List Clause) → choices (rs ++ (r ∷ [])) ≡ joined (choices rs) r
choices_snoc [] r = joined_nothing r ∙ sym (nothing_joined r)
choices_snoc (x ∷ rs) r = ap (joined x) (choices_snoc rs r) ∙ joined_assoc x (choices rs) r

-- what f gives from number i on, m numbers
abbrev pub onward : {A : Type 0} → (ℕ → List A) → ℕ → ℕ → List A
onward f i zero = []
onward f i (suc m) = f i ++ onward f (suc i) m

module _ {A : Type 0} where
  pub up_to_onward : (f : ℕ → List A) (i m n : ℕ) → i + m ≡ n → up_to f i ++ onward f i m ≡ up_to f n
  up_to_onward f i zero n e = let q : i ≡ n = omega arith in nil_right (up_to f i) ∙ ap (up_to f) q
  up_to_onward f i (suc m) n e = sym (append_assoc (up_to f i) (f i) (onward f (suc i) m)) ∙ up_to_onward f (suc i) m n (omega arith)

  -- what agrees number by number
  pub onward_same : (f g : ℕ → List A) (i m : ℕ) → ((p : ℕ) → i ≤ p → p < i + m → f p ≡ g p) → onward f i m ≡ onward g i m
  onward_same f g i zero h = refl
  onward_same f g i (suc m) h = ap (λ t. t ++ onward f (suc i) m) (h i (omega arith) (omega arith)) ∙ ap (λ t. g i ++ t) (onward_same f g (suc i) m (λ p l q. h p (omega arith) (omega arith)))

  pub up_to_same : (f g : ℕ → List A) (n : ℕ) → ((p : ℕ) → p < n → f p ≡ g p) → up_to f n ≡ up_to g n
  up_to_same f g zero h = refl
  up_to_same f g (suc n) h = ap (λ t. t ++ f n) (up_to_same f g n (λ p l. h p (omega arith))) ∙ ap (λ t. up_to g n ++ t) (h n (omega arith))
