-- The least solution of a conjunction, and what is asked of it.
use Rattle.std.specs.Prelude.{ℕ, ◌≤◌, ◌<◌, ◌≡◌, Bool, true, false, List, get_or, set, replicate, Option, Some, None}
use Rattle.words.specs.Meaning.{Content, Content.null, Content.value, Sat, allows, var_at, test_at, atoms, Ordered, Differ}
use Rattle.words.specs.Ties.{mate_at, Model}
use Rattle.reach.specs.declared.Solution.{Solution}

-- x is the least of all models
pub record Settled (s : List ℕ) (need : List Bool) (floor x : List ℕ) : Type 0 where
  pub yes : (i : ℕ) → i < atoms s → get_or need (var_at s i) false ≡ true → allows (test_at s i) (get_or x (var_at s i) 0) × (get_or x (var_at s i) 0 ≡ get_or x (mate_at s i) 0)
  pub rises : (v : ℕ) → get_or floor v 0 ≤ get_or x v 0
  pub least : (e : ℕ → Content) → Model s need floor e → (v n : ℕ) → v < 32 → e v ≡ value n → get_or x v 0 ≤ n

-- the same, or that there is none
abbrev pub Settles : List ℕ → List Bool → List ℕ → Option (List ℕ) → Type 0
Settles s need floor (Some x) = Settled s need floor x
Settles s need floor None = (e : ℕ → Content) → Model s need floor e → ⊥

-- are the needed bounds within the ranges?
abbrev pub Within : List Bool → List ℕ → List ℕ → Bool → Type 0
Within need x top true = (v : ℕ) → v < 32 → get_or need v false ≡ true → get_or x v 0 ≤ get_or top v 0
Within need x top false = (v : ℕ) × (v < 32) × (get_or need v false ≡ true) × (get_or top v 0 < get_or x v 0)

abbrev pub pick_c : Bool → Content → Content → Content
pick_c true a b = a
pick_c false a b = b

-- the contents that need and x say
abbrev pub contents : List Bool → List ℕ → ℕ → Content
contents need x v = pick_c (get_or need v false) (value (get_or x v 0)) null

-- what is asked besides the conjunction: null only where need0 is false, and nowhere under floor
pub record Asks (need0 : List Bool) (floor : List ℕ) (e : ℕ → Content) : Type 0 where
  pub needed : (v : ℕ) → v < 32 → get_or need0 v false ≡ true → e v ≡ null → ⊥
  pub above : (v n : ℕ) → v < 32 → e v ≡ value n → get_or floor v 0 ≤ n

-- the least solution. It is null wherever a solution can be: what it has non-null is surely non-null
pub record IsLeast (s top : List ℕ) (need0 : List Bool) (floor : List ℕ) (r : Solution) : Type 0 where
  pub sat : Sat s top (contents r.need r.x)
  pub asks : Asks need0 floor (contents r.need r.x)
  pub least : (e : ℕ → Content) → Sat s top e → Asks need0 floor e → (v n : ℕ) → v < 32 → e v ≡ value n → get_or r.x v 0 ≤ n
  pub surely : (v : ℕ) → v < 32 → get_or r.need v false ≡ true → (e : ℕ → Content) → Sat s top e → Asks need0 floor e → e v ≡ null → ⊥

-- the same, or that there is none
abbrev pub Solves : List ℕ → List ℕ → List Bool → List ℕ → Option Solution → Type 0
Solves s top need0 floor (Some r) = IsLeast s top need0 floor r
Solves s top need0 floor None = (e : ℕ → Content) → Sat s top e → Asks need0 floor e → ⊥

-- yes exactly where some contents meet the conjunction
abbrev pub Answers : List ℕ → List ℕ → Bool → Type 0
Answers s top true = (e : ℕ → Content) × Sat s top e
Answers s top false = (e : ℕ → Content) → Sat s top e → ⊥

-- yes exactly where some contents meet the conjunction with u below w
abbrev pub Lesser : List ℕ → List ℕ → ℕ → ℕ → Bool → Type 0
Lesser s top u w true = (e : ℕ → Content) × Ordered s top u w e
Lesser s top u w false = (e : ℕ → Content) → Ordered s top u w e → ⊥

-- yes exactly where some contents meet the conjunction with u and w different
abbrev pub Apart : List ℕ → List ℕ → ℕ → ℕ → Bool → Type 0
Apart s top u w true = (e : ℕ → Content) × Differ s top u w e
Apart s top u w false = (e : ℕ → Content) → Differ s top u w e → ⊥

-- the least solution in which neither u nor w is null
abbrev pub Lowest : List ℕ → List ℕ → ℕ → ℕ → Solution → Type 0
Lowest s top u w r = IsLeast s top (set (set (replicate 32 false) u true) w true) (replicate 32 0) r

-- yes exactly where some contents meet the conjunction with u null and w not
abbrev pub NullBeside : List ℕ → List ℕ → ℕ → ℕ → Bool → Type 0
NullBeside s top u w true = (e : ℕ → Content) × Sat s top e × (e u ≡ null) × (e w ≡ null → ⊥)
NullBeside s top u w false = (e : ℕ → Content) → Sat s top e → e u ≡ null → (e w ≡ null → ⊥) → ⊥

-- yes exactly where some contents meet the conjunction with u and w different, null counted as one more value
abbrev pub Parts : List ℕ → List ℕ → ℕ → ℕ → Bool → Type 0
Parts s top u w true = (e : ℕ → Content) × Sat s top e × (e u ≡ e w → ⊥)
Parts s top u w false = (e : ℕ → Content) → Sat s top e → (e u ≡ e w → ⊥) → ⊥
