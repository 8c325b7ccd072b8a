-- The least value of one class of equal variables.
use Rattle.std.specs.Prelude.{ℕ, ◌+◌, ◌*◌, ◌%◌, ◌≤◌, ◌<◌, ◌^◌, ◌≡◌, Bool, true, false, List, length, get_or, Option, Some, None}
use Rattle.lists.specs.Decides.{Decides}
use Rattle.words.specs.Meaning.{Test, allows, var_at, op_at, test_at, atoms}
use Rattle.least.specs.declared.Span.{Span}

-- x passes every test of class r
abbrev pub Allowed : List ℕ → List ℕ → ℕ → ℕ → Type 0
Allowed s rep r x = (i : ℕ) → i < atoms s → get_or rep (var_at s i) 0 ≡ r → allows (test_at s i) x

-- atom i is of class r
abbrev pub Of : List ℕ → List ℕ → ℕ → ℕ → Type 0
Of s rep r i = get_or rep (var_at s i) 0 ≡ r

-- the values that the test t of operator op allows lie in low..=high, and, where it is no list, they are all of these
pub record Bounds (t : Test) (op low high : ℕ) : Type 0 where
  pub under : (n : ℕ) → allows t n → low ≤ n
  pub over : (n : ℕ) → n < 2 ^ 64 → allows t n → n ≤ high
  pub whole : (op ≡ 1 → ⊥) → (op ≡ 2 → ⊥) → (n : ℕ) → low ≤ n → n ≤ high → allows t n

-- the same of class r from start on, by its first k atoms; and whether there is an in-list, or a not-in list, among them
pub record Spans (s rep : List ℕ) (r start k : ℕ) (t : Span) : Type 0 where
  pub from : start ≤ t.low
  pub under : (n : ℕ) → start ≤ n → Allowed s rep r n → t.low ≤ n
  pub over : (n : ℕ) → n < 2 ^ 64 → Allowed s rep r n → n ≤ t.high
  pub whole : (n : ℕ) → t.low ≤ n → n ≤ t.high → (i : ℕ) → i < k → Of s rep r i → (op_at s i ≡ 1 → ⊥) → (op_at s i ≡ 2 → ⊥) → allows (test_at s i) n
  pub listed : (i : ℕ) → t.list ≡ Some i → (i < atoms s) × Of s rep r i × (op_at s i ≡ 1)
  pub unlisted : t.list ≡ None → (i : ℕ) → i < k → Of s rep r i → op_at s i ≡ 1 → ⊥
  pub unstruck : t.struck ≡ false → (i : ℕ) → i < k → Of s rep r i → op_at s i ≡ 2 → ⊥

-- the first c values of atom i are marked by how far they lie above x
pub record Strikes (s : List ℕ) (i x c : ℕ) (old marks : List Bool) : Type 0 where
  pub free : (j : ℕ) → j < 2112 → get_or marks j false ≡ false → (get_or old j false ≡ false) × ((k : ℕ) → k < c → get_or s (i * 11 + 3 + k) 0 ≡ x + j → ⊥)
  pub struck : (j : ℕ) → get_or marks j false ≡ true → get_or old j false ≡ false → (k : ℕ) × (k < c) × (get_or s (i * 11 + 3 + k) 0 ≡ x + j)

-- of x, x + 1, .. those are marked that the not-in lists among the first k atoms strike out of class r
pub record Marks (s rep : List ℕ) (r x k : ℕ) (marks : List Bool) : Type 0 where
  pub free : (j : ℕ) → j < 2112 → get_or marks j false ≡ false → (i : ℕ) → i < k → Of s rep r i → op_at s i ≡ 2 → allows (test_at s i) (x + j)
  pub struck : (j : ℕ) → get_or marks j false ≡ true → Allowed s rep r (x + j) → ⊥

-- the first place that is not marked, or the number of places
pub record Gap (marks : List Bool) (j : ℕ) : Type 0 where
  pub full : (k : ℕ) → k < j → get_or marks k false ≡ true
  pub free : j < 2112 → get_or marks j false ≡ false

-- the first of low..=high that no not-in list of class r strikes out, as far as the class's values go
abbrev pub FirstFree : List ℕ → List ℕ → ℕ → ℕ → ℕ → Option ℕ → Type 0
FirstFree s rep r low high (Some y) =
    (low ≤ y) × (y ≤ high) × ((i : ℕ) → i < atoms s → Of s rep r i → op_at s i ≡ 2 → allows (test_at s i) y) × ((n : ℕ) → low ≤ n → Allowed s rep r n → y ≤ n)
FirstFree s rep r low high None = (n : ℕ) → low ≤ n → n ≤ high → Allowed s rep r n → ⊥

-- y passes the lists of atom i
pub record Fair (s : List ℕ) (i y : ℕ) : Type 0 where
  pub ins : op_at s i ≡ 1 → allows (test_at s i) y
  pub outs : op_at s i ≡ 2 → allows (test_at s i) y

-- y passes every list among the first k atoms of class r
abbrev pub FairAll : List ℕ → List ℕ → ℕ → ℕ → ℕ → Type 0
FairAll s rep r k y = (i : ℕ) → i < k → Of s rep r i → Fair s i y

-- these are the values of atom i, an in-list
pub record InList (s : List ℕ) (i : ℕ) (values : List ℕ) : Type 0 where
  pub op : op_at s i ≡ 1
  pub count : length values ≡ get_or s (i * 11 + 2) 0 % 9
  pub each : (k : ℕ) → k < length values → get_or values k 0 ≡ get_or s (i * 11 + 3 + k) 0

-- of the first k values those that were left stay that pass the lists of atom i
pub record Sifts (s : List ℕ) (i : ℕ) (values : List ℕ) (k : ℕ) (old live : List Bool) : Type 0 where
  pub each : (j : ℕ) → j < k → Decides ((get_or old j false ≡ true) × Fair s i (get_or values j 0)) (get_or live j false)

-- of these values those are left that lie in low..=high and pass every list among the first k atoms of class r
pub record Lives (s rep : List ℕ) (r : ℕ) (values : List ℕ) (low high k : ℕ) (live : List Bool) : Type 0 where
  pub each : (j : ℕ) → j < length values → Decides ((low ≤ get_or values j 0) × (get_or values j 0 ≤ high) × FairAll s rep r k (get_or values j 0)) (get_or live j false)

-- the least in low..=high of the first k values that passes every list of class r, as far as the class's values are among them
abbrev pub FirstListed : List ℕ → List ℕ → ℕ → List ℕ → ℕ → ℕ → ℕ → Option ℕ → Type 0
FirstListed s rep r values low high k (Some y) =
    (low ≤ y) × (y ≤ high) × FairAll s rep r (atoms s) y × ((j : ℕ) → j < k → low ≤ get_or values j 0 → Allowed s rep r (get_or values j 0) → y ≤ get_or values j 0)
FirstListed s rep r values low high k None = (j : ℕ) → j < k → low ≤ get_or values j 0 → get_or values j 0 ≤ high → Allowed s rep r (get_or values j 0) → ⊥

-- the least value of class r at or above start
abbrev pub LeastOf : List ℕ → List ℕ → ℕ → ℕ → Option ℕ → Type 0
LeastOf s rep r start (Some m) = (start ≤ m) × Allowed s rep r m × ((n : ℕ) → start ≤ n → Allowed s rep r n → m ≤ n)
LeastOf s rep r start None = (n : ℕ) → n < 2 ^ 64 → start ≤ n → Allowed s rep r n → ⊥
