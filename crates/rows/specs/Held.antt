-- What the code's answers say of sessions and rows. (01, "The packed sheet")
use Rattle.std.specs.Prelude.{ℕ, ◌+◌, ◌-◌, ◌%◌, ◌<◌, ◌≤◌, ◌≡◌, Bool, true, false, cond, List, [], ◌∷◌, length, get_or, Option, Some, None}
use Rattle.meaning.specs.declared.Content.{Content}
use Rattle.meaning.specs.declared.Content.TheVariants.{Null, Value}
use Rattle.meaning.specs.Values.{Kind, integer, kind_number, Contents}
use Rattle.meaning.specs.Sheets.{member}
use Rattle.meaning.specs.Reading.{Read, found, refused}
use Rattle.rows.specs.declared.form.Form.{Form}

-- "It holds null or a value of its kind": what the variables hold, by their numbers; null past their end
abbrev pub held : List Content → Contents
held xs v = get_or xs v Null

-- the contents of variables that are there or not, with values
abbrev pub cells : List Bool → List ℕ → List Content
cells [] vs = []
cells (p ∷ ps) [] = []
cells (p ∷ ps) (v ∷ vs) = cond p (Value v) Null ∷ cells ps vs

-- variable v holds x, and the others what they held
pub record Sets (v : ℕ) (x : Content) (before after : Contents) : Type 0 where
  pub at : after v ≡ x
  pub others : (u : ℕ) → (u ≡ v → ⊥) → after u ≡ before u

-- a content that the definitions read, as the code answers it: any refusal is 15
abbrev pub content_found : Read Content → Option (Content × ℕ)
content_found (found c q) = Some (c, q)
content_found (refused n) = None

-- what is found at bit number p ends by bit number m, and by `top`
abbrev pub ended_by : ℕ → ℕ → ℕ → Option (Content × ℕ) → Type 0
ended_by p m top (Some r) = (p ≤ r.1) × (r.1 ≤ m) × (r.1 ≤ top)
ended_by p m top None = Unit {0}

-- what starts at bit number p ends by bit number m, and by `top`
abbrev pub within : ℕ → ℕ → ℕ → Option ℕ → Type 0
within p m top (Some q) = (p ≤ q) × (q ≤ m) × (q ≤ top)
within p m top None = Unit {0}

-- where what the definitions read ends, as the code answers it
abbrev pub end_of : {A : Type 0} → Read A → Option ℕ
end_of (found a q) = Some q
end_of (refused n) = None

-- the form that code reads contents by: f says which of its n variables are there, and their kinds are ks; they stand from variable `first` on
pub record Fields (form : Form) (f : ℕ → Bool) (ks : List Kind) : Type 0 where
  pub count : length ks ≡ form.n
  pub which : (c : ℕ) → c < form.n → f c ≡ member 16 form.there c
  pub kind : (c : ℕ) → c < form.n → get_or form.kinds (form.first + c) 0 ≡ kind_number (get_or ks c integer)

-- variables first, first + 1, .. hold xs, n of them, and the others hold what they held
pub record Filled (first n : ℕ) (xs : List Content) (before after : Contents) : Type 0 where
  pub size : length xs ≡ n
  pub inside : (c : ℕ) → c < n → after (first + c) ≡ get_or xs c Null
  pub below : (v : ℕ) → v < first → after v ≡ before v
  pub beyond : (v : ℕ) → first + n ≤ v → after v ≡ before v

-- what reading contents answers, and what the variables hold after it
abbrev pub ContentsRead : ℕ → ℕ → Contents → Contents → Read (List Content) → Option ℕ → Type 0
ContentsRead first n before after (found xs q) r = (r ≡ Some q) × Filled first n xs before after
ContentsRead first n before after (refused k) r = r ≡ None

-- where contents that are of the form end, and what the variables hold after them; nothing is said of others
abbrev pub ContentsHeld : (first n : ℕ) → Contents → Contents → Read (List Content) → ℕ → Type 0
ContentsHeld first n before after m r = (xs : List Content) (q : ℕ) → m ≡ found xs q → (r ≡ q) × Filled first n xs before after

-- what the variables hold after a row: the row's columns, the others as before
pub record RowHeld (n q : ℕ) (x before after : Contents) : Type 0 where
  pub whole : q % 8 ≡ 0
  pub columns : (c : ℕ) → c < n → after c ≡ x c
  pub none : (c : ℕ) → n ≤ c → x c ≡ Null
  pub others : (v : ℕ) → n ≤ v → after v ≡ before v

abbrev pub RowRead : ℕ → Contents → Contents → Read Contents → ℕ → Type 0
RowRead n before after m r = (x : Contents) (q : ℕ) → m ≡ found x q → (r ≡ q) × RowHeld n q x before after

-- where a row ends: on a byte
abbrev pub RowEnds : Read Contents → Option ℕ → Type 0
RowEnds (found x q) r = (r ≡ Some q) × (q % 8 ≡ 0)
RowEnds (refused k) r = r ≡ None

-- what reading a session answers, and what the variables hold after it: the session's keys, the columns as before
pub record SessionHeld (key before after : Contents) : Type 0 where
  pub keys : (v : ℕ) → 16 ≤ v → ((u : ℕ) → 16 ≤ u → before u ≡ Null) → after v ≡ key (v - 16)
  pub columns : (v : ℕ) → v < 16 → after v ≡ before v

abbrev pub SessionRead : Contents → Contents → Read Contents → Bool → Type 0
SessionRead before after (found key q) r = (r ≡ true) × SessionHeld key before after
SessionRead before after (refused k) r = r ≡ false

-- what judging a row list answers
abbrev pub is_found : {A : Type 0} → Read A → Bool
is_found (found a q) = true
is_found (refused n) = false
