-- How the logic stores a sheet: each part as numbers and lists that give it back; a selector as its nodes, a node after those below it.
use Rattle.std.specs.Prelude.{ℕ, ◌≡◌, cond, ◌==◌, Bool, List, [], ◌∷◌, refl}
use Rattle.std.specs.Coded.{Coded, code_by, coded×, coded_ℕ, coded_bool, coded_list}
use mathlib.Core.Path.{ap, ◌∙◌}
use Rattle.meaning.specs.Values.{Kind, integer, token, boolean, kind_number}
use Rattle.meaning.specs.Atoms.{at_most, at_least, is_below, is_above, Operator, equals, in_list, not_in_list, order, is_null, is_not_null, Atom, Clause}
use Rattle.meaning.specs.Sheets.{Table, Selector, all, has_column, in_schema, table_number, tag_number, and, or, not, Policy, Sheet}

abbrev kind_by : ℕ → Kind
kind_by n = cond (n == 0) integer (cond (n == 1) token boolean)

pub kind_back : (k : Kind) → kind_by (kind_number k) ≡ k
kind_back integer = refl
kind_back token = refl
kind_back boolean = refl

abbrev kind_code : Coded Kind
kind_code = code_by ℕ coded_ℕ kind_number kind_by kind_back

abbrev table_code : Coded Table
table_code = code_by (ℕ × (ℕ × ℕ)) (coded× coded_ℕ (coded× coded_ℕ coded_ℕ)) (λ t. (t.schema, (t.tags, t.columns))) (λ p. record { schema = p.0; tags = p.1.0; columns = p.1.1 }) (λ _. refl)

-- ---- an operator: its number, the number that it has, its list

abbrev operator_to : Operator → ℕ × (ℕ × List ℕ)
operator_to (equals u) = (0, (u, []))
operator_to (in_list ns) = (1, (0, ns))
operator_to (not_in_list ns) = (2, (0, ns))
operator_to (order at_most n) = (3, (n, []))
operator_to (order at_least n) = (4, (n, []))
operator_to (order is_below n) = (5, (n, []))
operator_to (order is_above n) = (6, (n, []))
operator_to is_null = (7, (0, []))
operator_to is_not_null = (8, (0, []))

abbrev operator_by : ℕ × (ℕ × List ℕ) → Operator
operator_by p =
    cond (p.0 == 0) (equals p.1.0) (cond (p.0 == 1) (in_list p.1.1) (cond (p.0 == 2) (not_in_list p.1.1) (cond (p.0 == 3) (order at_most p.1.0) (cond (p.0 == 4) (order at_least p.1.0)
    (cond (p.0 == 5) (order is_below p.1.0) (cond (p.0 == 6) (order is_above p.1.0) (cond (p.0 == 7) is_null is_not_null)))))))

pub operator_back : (o : Operator) → operator_by (operator_to o) ≡ o
operator_back (equals u) = refl
operator_back (in_list ns) = refl
operator_back (not_in_list ns) = refl
operator_back (order at_most n) = refl
operator_back (order at_least n) = refl
operator_back (order is_below n) = refl
operator_back (order is_above n) = refl
operator_back is_null = refl
operator_back is_not_null = refl

abbrev operator_code : Coded Operator
operator_code = code_by (ℕ × (ℕ × List ℕ)) (coded× coded_ℕ (coded× coded_ℕ (coded_list coded_ℕ))) operator_to operator_by operator_back

abbrev atom_code : Coded Atom
atom_code = code_by (ℕ × Operator) (coded× coded_ℕ operator_code) (λ a. (a.variable, a.operator)) (λ p. record { variable = p.0; operator = p.1 }) (λ _. refl)

-- ---- a selector: its nodes in front of more, and what they build on a stack

abbrev nodes : Selector → List (ℕ × ℕ) → List (ℕ × ℕ)
nodes all more = (0, 0) ∷ more
nodes (has_column c) more = (1, c) ∷ more
nodes (in_schema s) more = (2, s) ∷ more
nodes (table_number t) more = (3, t) ∷ more
nodes (tag_number g) more = (4, g) ∷ more
nodes (and a b) more = nodes a (nodes b ((5, 0) ∷ more))
nodes (or a b) more = nodes a (nodes b ((6, 0) ∷ more))
nodes (not a) more = nodes a ((7, 0) ∷ more)

abbrev on_one : (Selector → Selector) → List Selector → List Selector
on_one f [] = []
on_one f (a ∷ xs) = f a ∷ xs

abbrev on_two : (Selector → Selector → Selector) → List Selector → List Selector
on_two f [] = []
on_two f (b ∷ []) = []
on_two f (b ∷ a ∷ xs) = f a b ∷ xs

abbrev build : ℕ × ℕ → List Selector → List Selector
build n xs =
    cond (n.0 == 0) (all ∷ xs) (cond (n.0 == 1) (has_column n.1 ∷ xs) (cond (n.0 == 2) (in_schema n.1 ∷ xs) (cond (n.0 == 3) (table_number n.1 ∷ xs) (cond (n.0 == 4) (tag_number n.1 ∷ xs)
    (cond (n.0 == 5) (on_two and xs) (cond (n.0 == 6) (on_two or xs) (on_one not xs)))))))

abbrev built : List (ℕ × ℕ) → List Selector → List Selector
built [] xs = xs
built (n ∷ more) xs = built more (build n xs)

abbrev top : List Selector → Selector
top [] = all
top (x ∷ xs) = x

pub built_nodes : (x : Selector) (more : List (ℕ × ℕ)) (xs : List Selector) → built (nodes x more) xs ≡ built more (x ∷ xs)
built_nodes all more xs = refl
built_nodes (has_column c) more xs = refl
built_nodes (in_schema s) more xs = refl
built_nodes (table_number t) more xs = refl
built_nodes (tag_number g) more xs = refl
built_nodes (and a b) more xs = built_nodes a _ _ ∙ built_nodes b _ _
built_nodes (or a b) more xs = built_nodes a _ _ ∙ built_nodes b _ _
built_nodes (not a) more xs = built_nodes a _ _

abbrev selector_code : Coded Selector
selector_code = code_by (List (ℕ × ℕ)) (coded_list (coded× coded_ℕ coded_ℕ)) (λ x. nodes x []) (λ ns. top (built ns [])) (λ x. ap top (built_nodes x [] []))

abbrev policy_code : Coded Policy
policy_code =
    code_by (Bool × (ℕ × (Selector × List Clause))) (coded× coded_bool (coded× coded_ℕ (coded× selector_code (coded_list (coded_list atom_code)))))
    (λ p. (p.restrictive, (p.commands, (p.selector, p.clauses))))
    (λ p. record { restrictive = p.0; commands = p.1.0; selector = p.1.1.0; clauses = p.1.1.1 })
    (λ _. refl)

abbrev pub sheet_code : Coded Sheet
sheet_code =
    code_by (List Kind × (List Kind × (List Table × List Policy))) (coded× (coded_list kind_code) (coded× (coded_list kind_code) (coded× (coded_list table_code) (coded_list policy_code))))
    (λ s. (s.columns, (s.keys, (s.tables, s.policies))))
    (λ p. record { columns = p.0; keys = p.1.0; tables = p.1.1.0; policies = p.1.1.1 })
    (λ _. refl)
