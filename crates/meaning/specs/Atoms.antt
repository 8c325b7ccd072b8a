-- Atoms, clauses and policies: when they are met. (01, "Values and meaning")
use Rattle.std.specs.Prelude.{ℕ, Bool, true, false, not, List, ltb, leb, eqb}
use Rattle.meaning.specs.declared.Content.{Content}
use Rattle.meaning.specs.declared.Content.TheVariants.{Null, Value}
use Rattle.lists.specs.Lists.{every, any}
use Rattle.meaning.specs.Values.{Contents}

-- "3 at most, 4 at least, 5 below, 6 above (one value)"
pub data Order : Type 0 where
  at_most at_least is_below is_above : Order

-- "Operators: 0 equals a variable; 1 in list; 2 not in list; 3 ..; 7 is null; 8 is not null."
pub data Operator : Type 0 where
  equals : ℕ → Operator
  in_list : List ℕ → Operator
  not_in_list : List ℕ → Operator
  order : Order → ℕ → Operator
  is_null : Operator
  is_not_null : Operator

-- "each atom: variable, operator"
pub record Atom : Type 0 where
  pub variable : ℕ
  pub operator : Operator

abbrev pub Clause : Type 0
Clause = List Atom

abbrev pub among : ℕ → List ℕ → Bool
among n ns = any (eqb n) ns

abbrev pub in_order : Order → ℕ → ℕ → Bool
in_order at_most n m = leb n m
in_order at_least n m = leb m n
in_order is_below n m = ltb n m
in_order is_above n m = ltb m n

abbrev pub is_value : ℕ → Content → Bool
is_value n Null = false
is_value n (Value m) = eqb n m

-- an operator on what its variable holds, where the variables hold e. "Every atom but "is null" needs its variables non-null."
abbrev pub passes : Contents → Operator → Content → Bool
passes e (equals u) Null = false
passes e (equals u) (Value n) = is_value n (e u)
passes e (in_list ns) Null = false
passes e (in_list ns) (Value n) = among n ns
passes e (not_in_list ns) Null = false
passes e (not_in_list ns) (Value n) = not (among n ns)
passes e (order o m) Null = false
passes e (order o m) (Value n) = in_order o n m
passes e is_null Null = true
passes e is_null (Value n) = false
passes e is_not_null Null = false
passes e is_not_null (Value n) = true

-- "An atom is met only when it is true; SQL's unknown is not met."
abbrev pub met : Contents → Atom → Bool
met e a = passes e a.operator (e a.variable)

-- "A clause is met when all its atoms are; one without atoms is always met."
abbrev pub clause_met : Contents → Clause → Bool
clause_met e c = every (met e) c

-- "A policy is met when one of its clauses is; one without clauses never is."
abbrev pub policy_met : Contents → List Clause → Bool
policy_met e cs = any (clause_met e) cs
