-- The policies that count for a table and a command, laid out as numbers: a word for each atom, a head for each clause, a count for each
-- restrictive policy. What words and heads stand for, and when a plan stands for policies.
use Rattle.std.specs.Prelude.{ℕ, zero, suc, ◌+◌, ◌-◌, ◌*◌, ◌/◌, ◌%◌, ◌^◌, ◌<◌, ◌≤◌, ◌≡◌, Bool, true, false, cond, ◌&&◌, List, [], ◌∷◌, length, get_or, ltb, eqb}
use Rattle.bits.specs.Bits.{number}
use Rattle.meaning.specs.declared.Content.{Content}
use Rattle.meaning.specs.declared.Content.TheVariants.{Null, Value}
use Rattle.meaning.specs.Values.{Kind, kind_number, raw, Contents}
use Rattle.meaning.specs.Atoms.{Operator, equals, Atom, Clause, met, clause_met}
use Rattle.meaning.specs.Steps.{on}
use Rattle.meaning.specs.Views.{operator_of}
use Rattle.admission.specs.declared.plan.Plan.{Plan}

-- a value of a kind at a bit number, and n of them
abbrev pub value_at : Kind → List ℕ → ℕ → ℕ
value_at k s p = raw k (number s p 64)

unfoldable pub values_at : Kind → List ℕ → ℕ → ℕ → List ℕ
values_at k s p zero = []
values_at k s p (suc n) = value_at k s p ∷ values_at k s (p + 64) n

-- a word has an operator's number (4 bits, the lowest), a variable (5), and a second variable or a count (5)
abbrev pub operator_number_of : ℕ → ℕ
operator_number_of w = w % 16

abbrev pub variable_of : ℕ → ℕ
variable_of w = w / 16 % 32

abbrev pub other_of : ℕ → ℕ
other_of w = w / 512 % 32

-- the word's operator, where its atom stands packed at bit number p: a bound stands behind variable and operator, a list's values behind the
-- count too
unfoldable pub operator_of_word : (ℕ → Kind) → List ℕ → ℕ → ℕ → Operator
operator_of_word kind s w p =
    operator_of (operator_number_of w) (other_of w) (value_at (kind (variable_of w)) s (p + 9)) (values_at (kind (variable_of w)) s (p + 13) (other_of w))

unfoldable pub atom_of_word : (ℕ → Kind) → List ℕ → ℕ → ℕ → Atom
atom_of_word kind s w p = on (variable_of w) (operator_of_word kind s w p)

-- how many bits an atom has, by its operator's number and its count of values; and a word's atom
abbrev pub size_by : ℕ → ℕ → ℕ
size_by op n = cond (eqb op 0) 14 (cond (ltb op 3) (13 + 64 * n) (cond (ltb op 7) 73 9))

unfoldable pub size_of : ℕ → ℕ
size_of w = size_by (operator_number_of w) (other_of w)

-- the clause of n words from number i on, its first atom at bit number p and each other behind the one before
unfoldable pub clause_of_words : (ℕ → Kind) → List ℕ → List ℕ → (i p n : ℕ) → Clause
clause_of_words kind s ws i p zero = []
clause_of_words kind s ws i p (suc n) = atom_of_word kind s (get_or ws i 0) p ∷ clause_of_words kind s ws (i + 1) (p + size_of (get_or ws i 0)) n

-- the kinds of the variables, by their numbers
abbrev pub Kinds : (ℕ → Kind) → List ℕ → Type 0
Kinds kind kinds = (v : ℕ) → v < 24 → kind_number (kind v) ≡ get_or kinds v 0

-- a clause's head has its count of atoms (4 bits, the lowest), the bit number of its first atom (18), a guard (10), and a
-- sieve (21)
abbrev pub count_of : ℕ → ℕ
count_of head = head % 16

abbrev pub place_of : ℕ → ℕ
place_of head = head / 16 % 262144

abbrev pub guard_of : ℕ → ℕ
guard_of head = head / 4194304 % 1024

abbrev pub sieve_of : ℕ → ℕ
sieve_of head = head / 4294967296

-- a guard is an equality of two variables (5 bits each); it asks nothing where the first is no variable
abbrev pub guard_by : Contents → ℕ → ℕ → Bool
guard_by e v u = cond (ltb v 24) (met e (on v (equals u))) true

abbrev pub guard_met : Contents → ℕ → Bool
guard_met e g = guard_by e (g % 32) (g / 32 % 32)

-- a sieve is a variable (5 bits) and a set of residues by 16 (a bit each), those of a list's values; it asks nothing where the first is no
-- variable
abbrev pub has_residue : ℕ → ℕ → Bool
has_residue set x = eqb (set / 2 ^ (x % 16) % 2) 1

abbrev pub is_sifted : ℕ → Content → Bool
is_sifted set Null = false
is_sifted set (Value x) = has_residue set x

abbrev pub sieve_by : Contents → ℕ → ℕ → Bool
sieve_by e v set = cond (ltb v 24) (is_sifted set (e v)) true

abbrev pub sieve_met : Contents → ℕ → Bool
sieve_met e sieve = sieve_by e (sieve % 32) (sieve / 32)

-- a head is open where its guard and its sieve are met
abbrev pub head_open : Contents → ℕ → Bool
head_open e head = guard_met e (guard_of head) && sieve_met e (sieve_of head)

-- no head at the slots from `from` up to k is open
abbrev pub Closed : Contents → List ℕ → (from k : ℕ) → Type 0
Closed e heads from k = (j : ℕ) → from ≤ j → j < k → head_open e (get_or heads j 0) ≡ false

-- the clause at a slot: its words stand from number 8 * slot on, and it is met only where its head is open
pub record ClauseLaid (kind : ℕ → Kind) (s ws : List ℕ) (slot head : ℕ) (c : Clause) : Type 0 where
  pub few : count_of head ≤ 8
  pub atoms : clause_of_words kind s ws (slot * 8) (place_of head) (count_of head) ≡ c
  pub opens : (e : Contents) → clause_met e c ≡ true → head_open e head ≡ true

-- clauses at the slots from `from` up to `end`
pub record ClausesLaid (kind : ℕ → Kind) (s ws heads : List ℕ) (from end : ℕ) (cs : List Clause) : Type 0 where
  pub size : from + length cs ≡ end
  pub each : (k : ℕ) → k < length cs → ClauseLaid kind s ws (from + k) (get_or heads (from + k) 0) (get_or cs k [])

-- policies of n counts, the clauses of each from its own slot on: 120 for the first, 112 for the second, and so on down
abbrev pub slot_of : ℕ → ℕ
slot_of i = 120 - 8 * i

pub record PoliciesLaid (kind : ℕ → Kind) (s ws heads counts : List ℕ) (n : ℕ) (ps : List (List Clause)) : Type 0 where
  pub size : length ps ≡ n
  pub few : (i : ℕ) → i < n → get_or counts i 0 ≤ 8
  pub each : (i : ℕ) → i < n → ClausesLaid kind s ws heads (slot_of i) (slot_of i + get_or counts i 0) (get_or ps i [])

-- a plan: the permissive policies' clauses, one of which must be met, from slot 0 on; the restrictive policies, each of which must be met
pub record PlanLaid (kind : ℕ → Kind) (s : List ℕ) (plan : Plan) (cs : List Clause) (ps : List (List Clause)) : Type 0 where
  pub permissive : ClausesLaid kind s plan.words plan.heads 0 plan.some cs
  pub restrictive : PoliciesLaid kind s plan.words plan.heads plan.counts plan.all ps

-- what stands outside the numbers `from` up to `end` is as it was
pub record Outside (from end : ℕ) (before after : List ℕ) : Type 0 where
  pub below : (i : ℕ) → i < from → get_or after i 0 ≡ get_or before i 0
  pub above : (i : ℕ) → end ≤ i → get_or after i 0 ≡ get_or before i 0

-- what the bits behind the operator of the atom at bit number p say: a second variable or a count
abbrev pub other_at : List ℕ → ℕ → ℕ → ℕ
other_at s p op = cond (eqb op 0) (number s (p + 9) 5) (cond (ltb op 3) (number s (p + 9) 4) 0)

-- the word laid for the atom at bit number p
pub record LaidAt (s : List ℕ) (p word : ℕ) : Type 0 where
  pub operator : operator_number_of word ≡ number s (p + 5) 4
  pub variable : variable_of word ≡ number s p 5
  pub other : other_of word ≡ other_at s p (number s (p + 5) 4)
