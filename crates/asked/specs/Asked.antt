-- What is asked of the engine, in the document's words.
use Rattle.std.specs.Prelude.{ℕ, ◌+◌, ◌-◌, ◌<◌, ◌≤◌, ◌≡◌, Bool, true, false, cond, List, ◌∷◌, ◌++◌, map, length, get_or, ltb, eqb}
use Rattle.meaning.specs.declared.Content.{Content}
use Rattle.meaning.specs.declared.Content.TheVariants.{Value}
use Rattle.lists.specs.Lists.{All}
use Rattle.meaning.specs.Values.{integer, token, boolean, last, Contents, with}
use Rattle.meaning.specs.Atoms.{at_most, at_least, is_below, is_above, Order, Operator, equals, in_list, not_in_list, order, is_null, is_not_null, Atom, Clause, clause_met}
use Rattle.meaning.specs.Steps.{on}
use Rattle.meaning.specs.Sheets.{Sheet, second}
use Rattle.meaning.specs.Questions.{Holds, IsSession, IsAnyRow}
use Rattle.lists.specs.Decides.{Decides}
use Rattle.asked.specs.Words.{word_atoms, seen}

-- the last value of the kind that a number stands for; every number past 1 is boolean
abbrev pub last_of : ℕ → ℕ
last_of n = cond (eqb n 0) (last integer) (cond (eqb n 1) (last token) (last boolean))

-- where the kind of a variable stands, by the words' number: the second session's keys, 24..31, have the first's kinds
abbrev pub kind_place : ℕ → ℕ
kind_place v = cond (ltb v 24) v (v - 8)

-- top has the last value of each variable's kind, by the engine's numbers
pub record Ranges (sheet : Sheet) (top : List ℕ) : Type 0 where
  pub columns : (c : ℕ) → c < 16 → get_or top c 0 ≡ last (get_or sheet.columns c integer)
  pub keys : (k : ℕ) → k < 8 → get_or top (k + 16) 0 ≡ last (get_or sheet.keys k integer)
  pub keys_two : (k : ℕ) → k < 8 → get_or top (k + 24) 0 ≡ last (get_or sheet.keys k integer)

-- a variable that a row with the columns held, or a session, has
pub record There (held : ℕ → Bool) (sheet : Sheet) (v : ℕ) : Type 0 where
  pub number : v < 24
  pub has : cond (ltb v 16) (held v) (ltb (v - 16) (length sheet.keys)) ≡ true

-- every variable of the clause is there
abbrev pub Uses : (ℕ → Bool) → Sheet → Clause → Type 0
Uses held sheet c = All (λ a. All (There held sheet) (a.variable ∷ second a.operator)) c

-- "every column of the sheet"
abbrev pub every_column : Sheet → ℕ → Bool
every_column sheet c = ltb c (length sheet.columns)

-- the answer says whether P holds of any sheet with these ranges that has the clause's variables
abbrev pub Tells : List ℕ → Clause → (Sheet → Type 0) → Bool → Type 0
Tells top c P r = (sheet : Sheet) → Ranges sheet top → Uses (every_column sheet) sheet c → Decides (P sheet) r

-- two different values
abbrev pub Unlike : Content → Content → Type 0
Unlike x y = (p : ℕ) × (q : ℕ) × (x ≡ Value p) × (y ≡ Value q) × (p ≡ q → ⊥)

-- what a row and two sessions hold, by the engine's numbers
abbrev pub three : Contents → Contents → Contents → Contents
three row one two v = cond (ltb v 16) (row v) (cond (ltb v 24) (one (v - 16)) (two (v - 24)))

-- some row with the columns held meets a with one session and b with another, and P holds of what they hold
pub record Both (held : ℕ → Bool) (sheet : Sheet) (a b : Clause) (P : Contents → Type 0) : Type 0 where
  pub row : Contents
  pub one : Contents
  pub two : Contents
  pub is_row : Holds held sheet.columns row
  pub is_one : IsSession sheet one
  pub is_two : IsSession sheet two
  pub meets_a : clause_met (with row one) a ≡ true
  pub meets_b : clause_met (with row two) b ≡ true
  pub also : P (three row one two)

-- some row and session meets the clause with different values in u and w
pub record Differs (sheet : Sheet) (c : Clause) (u w : ℕ) : Type 0 where
  pub row : Contents
  pub session : Contents
  pub is_row : IsAnyRow sheet row
  pub is_session : IsSession sheet session
  pub meets : clause_met (with row session) c ≡ true
  pub unlike : Unlike (with row session u) (with row session w)

-- the operator that fails another, of a value; "is null" fails equality and "is not null", of none
abbrev pub turned_order : Order → Order
turned_order at_most = is_above
turned_order at_least = is_below
turned_order is_below = at_least
turned_order is_above = at_most

abbrev pub turned_by : Operator → Operator
turned_by (equals u) = is_null
turned_by (in_list ns) = not_in_list ns
turned_by (not_in_list ns) = in_list ns
turned_by (order o n) = order (turned_order o) n
turned_by is_null = is_not_null
turned_by is_not_null = is_null

abbrev pub turned : Atom → Atom
turned a = on a.variable (turned_by a.operator)

-- the same of the operators' numbers
abbrev pub turned_number : ℕ → ℕ
turned_number op =
    cond (eqb op 1) 2 (cond (eqb op 2) 1 (cond (eqb op 3) 6 (cond (eqb op 4) 5 (cond (eqb op 5) 4 (cond (eqb op 6) 3 (cond (eqb op 7) 8 7))))))

-- the first n atoms of the words are a's, for the first session, and then b's, for the second
abbrev pub Laid : List ℕ → ℕ → Clause → Clause → Type 0
Laid words n a b = word_atoms words n ≡ map (seen false) a ++ map (seen true) b

-- some row with the columns held and some session meet the clause
pub record Meets (held : ℕ → Bool) (sheet : Sheet) (c : Clause) : Type 0 where
  pub row : Contents
  pub session : Contents
  pub is_row : Holds held sheet.columns row
  pub is_session : IsSession sheet session
  pub meets : clause_met (with row session) c ≡ true

-- the answer says whether some row and session meet the clause that is laid for the first session
abbrev pub TellsMeets : List ℕ → ℕ → List ℕ → Bool → Type 0
TellsMeets words n top r =
    (held : ℕ → Bool) (sheet : Sheet) (a : Clause) → word_atoms words n ≡ map (seen false) a → Ranges sheet top → Uses held sheet a → Decides (Meets held sheet a) r

-- the answer says whether some row meets a with one session and b with a session of another tenant: key 0 is 16 of the one and 24 of the other
abbrev pub TellsLeak : List ℕ → ℕ → List ℕ → Bool → Type 0
TellsLeak words n top r =
    (held : ℕ → Bool) (sheet : Sheet) (a b : Clause) → Laid words n a b → Ranges sheet top → Uses held sheet a → Uses held sheet b → There held sheet 16 →
    Decides (Both held sheet a b (λ m. m 16 ≡ m 24 → ⊥)) r

-- the mark of laid atoms: two more than a column that they equate with key 0, or 1; whoever meets them holds the same in both
pub record Anchors (words : List ℕ) (n r : ℕ) : Type 0 where
  pub some : 1 ≤ r
  pub column : r ≤ 17
  pub same : (c : ℕ) (m : Contents) → r ≡ c + 2 → clause_met m (word_atoms words n) ≡ true → m c ≡ m 16
