-- The thirteen marked cases, as one table. (01, "Marked cases")
use Rattle.std.specs.Prelude.{ℕ, ◌+◌, ◌-◌, ◌^◌, ◌≡◌, true, false, List, [], ◌∷◌}
use Rattle.meaning.specs.declared.Content.TheVariants.{Null}
use Rattle.meaning.specs.declared.Isolation.{Isolation}
use Rattle.meaning.specs.declared.Isolation.TheVariants.{Isolated, Leaks}
use Rattle.lists.specs.Lists.{All}
use Rattle.meaning.specs.Values.{integer, boolean, token, Contents, with}
use Rattle.meaning.specs.Atoms.{at_most, at_least, is_below, is_above, equals, in_list, not_in_list, order, is_null, Clause}
use Rattle.meaning.specs.Sheets.{all, Policy, Sheet, policy_at, admits}
use Rattle.meaning.specs.Packed.{packed}
use Rattle.meaning.specs.Steps.{on, NormalClauses}
use Rattle.meaning.specs.Replies.{IsolationOf}
use Rattle.meaning.specs.Demands.{Accepted}

-- "Integer x, boolean f, tenant column t of key 0's kind (token), permissive unless said."
abbrev pub x : ℕ
x = 0

abbrev pub f : ℕ
f = 1

abbrev pub t : ℕ
t = 2

abbrev pub key_0 : ℕ
key_0 = 16

-- the order code of an integer from 0 on
abbrev pub int : ℕ → ℕ
int n = 2 ^ 63 + n

abbrev pub permits : List Clause → Policy
permits cs = record { restrictive = false; commands = 8; selector = all; clauses = cs }

abbrev pub restricts : List Clause → Policy
restricts cs = record { restrictive = true; commands = 8; selector = all; clauses = cs }

-- one table that holds the three columns, and SELECT policies
abbrev pub sheet_of : List Policy → Sheet
sheet_of ps = record { columns = integer ∷ boolean ∷ token ∷ []; keys = token ∷ []; tables = record { schema = 0; tags = 0; columns = 0xE000 } ∷ []; policies = ps }

pub data Answer : Type 0 where
  null_x_hidden any_row_admitted none_admitted : Answer
  becomes : List Clause → Answer
  verdict : Isolation → Answer

-- what an answer says of table 0 under SELECT, or of policy 0
abbrev pub Says : Sheet → Answer → Type 0
Says sheet null_x_hidden = (row session : Contents) → row x ≡ Null → admits sheet 0 0 (with row session) ≡ false
Says sheet any_row_admitted = (row session : Contents) → admits sheet 0 0 (with row session) ≡ true
Says sheet none_admitted = (row session : Contents) → admits sheet 0 0 (with row session) ≡ false
Says sheet (becomes cs) = NormalClauses sheet (policy_at sheet 0).clauses cs
Says sheet (verdict v) = IsolationOf sheet 0 0 v

pub record Case : Type 0 where
  pub policies : List Policy
  pub answer : Answer

abbrev pub case : List Policy → Answer → Case
case ps a = record { policies = ps; answer = a }

abbrev pub one : Policy → List Policy
one p = p ∷ []

abbrev pub t_is_key_0 : Clause
t_is_key_0 = on t (equals key_0) ∷ []

abbrev pub marked_cases : List Case
marked_cases =
    case (one (permits ((on x (equals x) ∷ []) ∷ []))) null_x_hidden
    ∷ case (one (permits ([] ∷ []))) any_row_admitted
    ∷ case (one (permits [])) none_admitted
    ∷ case (one (permits ((on x (in_list (int 3 ∷ int 3 ∷ int 1 ∷ [])) ∷ on x (in_list (int 1 ∷ int 5 ∷ [])) ∷ []) ∷ []))) (becomes ((on x (in_list (int 1 ∷ [])) ∷ []) ∷ []))
    ∷ case (one (permits ((on x (order is_above (int 9223372036854775807)) ∷ []) ∷ []))) (becomes [])
    ∷ case (one (permits ((on x (order is_below (int 0 - 9223372036854775808)) ∷ []) ∷ []))) (becomes [])
    ∷ case (one (permits ((on f (not_in_list (0 ∷ [])) ∷ on f (not_in_list (1 ∷ [])) ∷ []) ∷ []))) (becomes [])
    ∷ case (one (permits ((on x (in_list (int 4 ∷ [])) ∷ []) ∷ (on x (order at_least (int 4)) ∷ on x (order at_most (int 4)) ∷ []) ∷ []))) (becomes ((on x (in_list (int 4 ∷ [])) ∷ []) ∷ []))
    ∷ case (one (permits ((on key_0 (in_list (7 ∷ [])) ∷ []) ∷ []))) (verdict Isolated)
    ∷ case (one (permits ((on t (in_list (7 ∷ [])) ∷ []) ∷ []))) (verdict (Leaks 0 0))
    ∷ case (one (permits (t_is_key_0 ∷ (on f (in_list (1 ∷ [])) ∷ []) ∷ []))) (verdict (Leaks 0 1))
    ∷ case (permits (t_is_key_0 ∷ (on f (in_list (1 ∷ [])) ∷ []) ∷ []) ∷ restricts (t_is_key_0 ∷ []) ∷ []) (verdict Isolated)
    ∷ case (one (permits (t_is_key_0 ∷ (on key_0 is_null ∷ []) ∷ []))) (verdict (Leaks 0 1))
    ∷ []

-- each case's sheet is accepted, packed, and the definitions give its answer
abbrev pub MarkedCases : Type 0
MarkedCases = All (λ c. Accepted (packed (sheet_of c.policies)) (sheet_of c.policies) × Says (sheet_of c.policies) c.answer) marked_cases
