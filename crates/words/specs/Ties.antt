-- Which variables the atoms tie to one another, and which they need non-null.
use Rattle.std.specs.Prelude.{ℕ, ◌≤◌, ◌<◌, ◌^◌, ◌≡◌, Bool, true, false, List, get_or, eqb}
use Rattle.words.specs.Meaning.{Content, Content.null, Content.value, wants, passes, var_at, other_at, op_at, test_at, atoms}

abbrev pub pick_n : Bool → ℕ → ℕ → ℕ
pick_n true a b = a
pick_n false a b = b

-- the variable that an atom equates with its own: itself, where the atom equates none
unfoldable pub mate_at : List ℕ → ℕ → ℕ
mate_at s i = pick_n (eqb (op_at s i) 0) (other_at s i) (var_at s i)

-- the atom's meaning, equality and tests in one form
abbrev pub Met : List ℕ → ℕ → (ℕ → Content) → Type 0
Met s i e = passes (test_at s i) (e (var_at s i)) × (e (var_at s i) ≡ e (mate_at s i))

-- contents that meet the conjunction, null only where need is false, and nowhere under floor
pub record Model (s : List ℕ) (need : List Bool) (floor : List ℕ) (e : ℕ → Content) : Type 0 where
  pub bounded : (v n : ℕ) → v < 32 → e v ≡ value n → n < 2 ^ 64
  pub meets : (i : ℕ) → i < atoms s → Met s i e
  pub needed : (v : ℕ) → v < 32 → get_or need v false ≡ true → e v ≡ null → ⊥
  pub above : (v n : ℕ) → v < 32 → e v ≡ value n → get_or floor v 0 ≤ n

-- need holds need0, the variables of the first k atoms that want a value, and only variables that no model has null
pub record Needs (s : List ℕ) (k : ℕ) (need0 need : List Bool) : Type 0 where
  pub kept : (v : ℕ) → get_or need0 v false ≡ true → get_or need v false ≡ true
  pub wanted : (i : ℕ) → i < k → wants (test_at s i) ≡ true → get_or need (var_at s i) false ≡ true
  pub mates : (i : ℕ) → i < k → wants (test_at s i) ≡ true → get_or need (mate_at s i) false ≡ true
  pub only : (floor : List ℕ) (e : ℕ → Content) → Model s need0 floor e → Model s need floor e

-- u and w hold the same wherever the conjunction is met
abbrev pub Tied : List ℕ → ℕ → ℕ → Type 0
Tied s u w = (e : ℕ → Content) → ((i : ℕ) → i < atoms s → Met s i e) → e u ≡ e w

-- the label l, with b renamed to a
abbrev pub renamed : ℕ → ℕ → ℕ → ℕ
renamed a b l = pick_n (eqb l b) a l

pub record Renames (a b : ℕ) (rep out : List ℕ) : Type 0 where
  pub at : (v : ℕ) → v < 32 → get_or out v 0 ≡ renamed a b (get_or rep v 0)

-- rep gives equated variables one label, and one label only to variables that are equal wherever the atoms are met
pub record Classes (s : List ℕ) (k : ℕ) (rep : List ℕ) : Type 0 where
  pub joined : (i : ℕ) → i < k → get_or rep (var_at s i) 0 ≡ get_or rep (mate_at s i) 0
  pub sound : (e : ℕ → Content) → ((i : ℕ) → i < atoms s → Met s i e) → (v w : ℕ) → v < 32 → w < 32 → get_or rep v 0 ≡ get_or rep w 0 → e v ≡ e w

-- where an atom that wants a value is, its mate is needed
pub record Closed (s : List ℕ) (need : List Bool) : Type 0 where
  pub mates : (i : ℕ) → i < atoms s → wants (test_at s i) ≡ true → get_or need (mate_at s i) false ≡ true
