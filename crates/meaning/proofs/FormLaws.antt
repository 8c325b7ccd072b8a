-- Each reader of a sheet's parts reads just the packed forms of what is allowed.
use Prim.Native.Nat.{ℕ, zero, suc, ◌+◌, ◌-◌, ◌*◌, ◌^◌, ◌<◌, ◌≤◌}
use native.Mathlib.Nat.{add-zero}
use native.Mathlib.Omega.{arith}
use mathlib.Core.Path.{◌≡◌, refl, sym, ap, subst, ◌∙◌}
use mathlib.Core.Bool.{Bool, true, false, cond, ◌&&◌}
use mathlib.Core.List.{List, [], ◌∷◌, ◌++◌, append-nil}
use lib.ListN.{length, get_or}
use lib.Dec.{ltb, leb, eqb, lit≤}
use borrow.Author.Tests.{ltb-true, ltb-false, lt-ltb, le-ltb, leb-true, le-leb, eqb-true, eq-eqb}
use Rattle.lists.specs.Lists.{each}
use Rattle.meaning.specs.Values.{Kind, integer, token, boolean, kind_number, last, raw}
use Rattle.meaning.specs.Atoms.{Order, at_most, at_least, is_below, is_above, Operator, equals, in_list, not_in_list, order, is_null, is_not_null}
use Rattle.meaning.specs.Sheets.{Selector, all, has_column, in_schema, table_number, tag_number, and, or, not, Policy, Sheet, kind_of}
use Rattle.bits.specs.Bits.{bits}
use Rattle.meaning.specs.Packed.{kind_bits, table_bits, selector_bits, value_bits, order_number, operator_number, operand_bits, atom_bits, clause_bits, policy_bits}
use Rattle.meaning.specs.Reading.{found, refused, count, kind, table, number_below, selector_node, selector, variable, value, values, mate, operand, atom, clause, policy}
use Rattle.meaning.specs.Allowed.{held_below, TableAllowed, Nests, IsVariable, ValuesAllowed, OperatorAllowed, AtomAllowed, ClauseAllowed, PolicyAllowed}
use Rattle.lists.proofs.BoolLaws.{both, join}
use Rattle.meaning.proofs.ReadLaws.{found_same}
use Rattle.bits.proofs.StandLaws.{Written, written_nil, Binary}
use Rattle.lists.proofs.ListLaws.{all_append}
use Rattle.meaning.proofs.CodecLaws.{Reads, reads_as, reads_then, reads_need, reads_give, reads_times, reads_field, not_found, found_end, refused_same, not_refused, made, makes, made_refused, made_2, makes_2, made_2_refused}

pub count_reads : (w low high : ℕ) → high < 2 ^ w → Reads (count w low high) (λ n. (low ≤ n) × (n ≤ high)) (bits w)
unfolding count
count_reads w low high h =
    reads_as (λ n g. let x = both (leb low n) (leb n high) g.1.0 in (leb-true low n x.0, leb-true n high x.1))
    (λ n g. let l : n ≤ high = g.1 in (omega arith, (join (leb low n) (leb n high) (le-leb low n g.0) (le-leb n high l), refl)))
    (λ n. append-nil (bits w n))
    (reads_then (λ n. n) (λ a b g k. k.1) (reads_field w) (λ n. reads_need (leb low n && leb n high) 4 (lit≤ tt) (reads_give n)))

pub kind_reads : Reads kind (λ k. Unit {0}) kind_bits
unfolding kind
kind_reads =
    reads_as (λ k g. tt) (λ k g. good k) (λ k. append-nil (kind_bits k))
    (reads_then kind_number told (reads_field 2) (λ n. reads_need (ltb n 3) 5 (lit≤ tt) (reads_give (get_or (integer ∷ token ∷ boolean ∷ []) n integer))))
  where
    told : (n : ℕ) (k : Kind) → n < 2 ^ 2 → (ltb n 3 ≡ true) × (k ≡ get_or (integer ∷ token ∷ boolean ∷ []) n integer) → kind_number k ≡ n
    told zero k l h = ap kind_number h.1
    told (suc zero) k l h = ap kind_number h.1
    told (suc (suc zero)) k l h = ap kind_number h.1
    told (suc (suc (suc n))) k l h = absurd (omega (arith, ltb-true (suc (suc (suc n))) 3 h.0))

    good : (k : Kind) → (kind_number k < 2 ^ 2) × ((ltb (kind_number k) 3 ≡ true) × (k ≡ get_or (integer ∷ token ∷ boolean ∷ []) (kind_number k) integer))
    good integer = (lit≤ tt, (refl, refl))
    good token = (lit≤ tt, (refl, refl))
    good boolean = (lit≤ tt, (refl, refl))

pub table_reads : (c : ℕ) → Reads (table c) (TableAllowed c) table_bits
unfolding table
table_reads c =
    reads_as (λ t g. (g.0, g.1.0, g.1.1.0, g.1.1.1.0)) (λ t g. (g.0, (g.1, (g.2, (g.3, refl)))))
    (λ t. ap (λ z. bits 6 t.schema ++ (bits 8 t.tags ++ z)) (append-nil (bits 16 t.columns)))
    (reads_then (λ t. t.schema) (λ a t g h. ap (λ z. z.schema) h.1.1.1) (reads_field 6) λ schema.
    reads_then (λ t. t.tags) (λ a t g h. ap (λ z. z.tags) h.1.1) (reads_field 8) λ tags.
    reads_then (λ t. t.columns) (λ a t g h. ap (λ z. z.columns) h.1) (reads_field 16) λ columns.
    reads_need (held_below c columns) 6 (lit≤ tt) (reads_give (record { schema = schema; tags = tags; columns = columns })))

pub below_reads : (w most : ℕ) → Reads (number_below w most) (λ n. (n < 2 ^ w) × (n < most)) (bits w)
unfolding number_below
below_reads w most =
    reads_as (λ n g. (g.0, ltb-true n most g.1.0)) (λ n g. (g.0, (lt-ltb n most g.1, refl))) (λ n. append-nil (bits w n))
    (reads_then (λ n. n) (λ a b g k. k.1) (reads_field w) (λ n. reads_need (ltb n most) 6 (lit≤ tt) (reads_give n)))

-- a selector's node, and what follows it
abbrev node_number : Selector → ℕ
node_number all = 0
node_number (has_column c) = 1
node_number (in_schema s) = 2
node_number (table_number t) = 3
node_number (tag_number g) = 4
node_number (and a b) = 5
node_number (or a b) = 6
node_number (not a) = 7

abbrev node_bits : Selector → List ℕ
node_bits all = []
node_bits (has_column c) = bits 4 c
node_bits (in_schema s) = bits 6 s
node_bits (table_number t) = bits 4 t
node_bits (tag_number g) = bits 3 g
node_bits (and a b) = selector_bits a ++ selector_bits b
node_bits (or a b) = selector_bits a ++ selector_bits b
node_bits (not a) = selector_bits a

node_form : (x : Selector) → bits 3 (node_number x) ++ node_bits x ≡ selector_bits x
node_form all = append-nil (bits 3 0)
node_form (has_column c) = refl
node_form (in_schema s) = refl
node_form (table_number t) = refl
node_form (tag_number g) = refl
node_form (and a b) = refl
node_form (or a b) = refl
node_form (not a) = refl

node_range : (x : Selector) → node_number x < 2 ^ 3
node_range all = lit≤ tt
node_range (has_column c) = lit≤ tt
node_range (in_schema s) = lit≤ tt
node_range (table_number t) = lit≤ tt
node_range (tag_number g) = lit≤ tt
node_range (and a b) = lit≤ tt
node_range (or a b) = lit≤ tt
node_range (not a) = lit≤ tt

module _ (facts : Sheet) (d : ℕ) (inner : Reads (selector d facts) (Nests facts d) selector_bits) where
  abbrev Node : ℕ → List ℕ → ℕ → ℕ → Selector → Type 0
  Node node s p q x = ((node_number x ≡ node) × Nests facts (suc d) x) × Written s p q (node_bits x)

  node_to : (node : ℕ) (s : List ℕ) (p : ℕ) (x : Selector) (q : ℕ) → p ≤ length s * 8 → selector_node facts (selector d facts) node s p ≡ found x q → Node node s p q x
  unfolding selector_node
  node_to zero s p x q l h = subst (Node 0 s p q) (found_same h) ((refl, tt), subst (λ z. Written s p z []) (found_end h) (written_nil s p l))
  node_to (suc zero) s p x q l h = let y = made (below_reads 4 (length facts.columns)) s p has_column x q l h in subst (Node 1 s p q) y.1 ((refl, y.2), y.3)
  node_to (suc (suc zero)) s p x q l h = let y = made (reads_field 6) s p in_schema x q l h in subst (Node 2 s p q) y.1 ((refl, y.2), y.3)
  node_to (suc (suc (suc zero))) s p x q l h = let y = made (below_reads 4 (length facts.tables)) s p table_number x q l h in subst (Node 3 s p q) y.1 ((refl, y.2), y.3)
  node_to (suc (suc (suc (suc zero)))) s p x q l h = let y = made (reads_field 3) s p tag_number x q l h in subst (Node 4 s p q) y.1 ((refl, y.2), y.3)
  node_to (suc (suc (suc (suc (suc zero))))) s p x q l h = let y = made_2 inner s p and x q l h in subst (Node 5 s p q) y.2 ((refl, y.3), y.4)
  node_to (suc (suc (suc (suc (suc (suc zero)))))) s p x q l h = let y = made_2 inner s p or x q l h in subst (Node 6 s p q) y.2 ((refl, y.3), y.4)
  node_to (suc (suc (suc (suc (suc (suc (suc zero))))))) s p x q l h = let y = made inner s p not x q l h in subst (Node 7 s p q) y.1 ((refl, y.2), y.3)
  node_to (suc (suc (suc (suc (suc (suc (suc (suc node)))))))) s p x q l h = absurd (not_found h)

  node_back : (s : List ℕ) (p : ℕ) (x : Selector) (q : ℕ) → Nests facts (suc d) x → Written s p q (node_bits x) → selector_node facts (selector d facts) (node_number x) s p ≡ found x q
  unfolding selector_node
  node_back s p all q h w = let o : p ≡ q = sym (w.ended ∙ add-zero p) in ap (found all) o
  node_back s p (has_column c) q h w = makes (below_reads 4 (length facts.columns)) s p has_column c q h w
  node_back s p (in_schema c) q h w = makes (reads_field 6) s p in_schema c q h w
  node_back s p (table_number c) q h w = makes (below_reads 4 (length facts.tables)) s p table_number c q h w
  node_back s p (tag_number c) q h w = makes (reads_field 3) s p tag_number c q h w
  node_back s p (and a b) q h w = makes_2 inner s p and a b q h.0 h.1 w
  node_back s p (or a b) q h w = makes_2 inner s p or a b q h.0 h.1 w
  node_back s p (not a) q h w = makes inner s p not a q h w

  node_binary : (x : Selector) → Nests facts (suc d) x → Binary (node_bits x)
  node_binary all h = tt
  node_binary (has_column c) h = (reads_field 4).binary c h.0
  node_binary (in_schema s) h = (reads_field 6).binary s h
  node_binary (table_number t) h = (reads_field 4).binary t h.0
  node_binary (tag_number g) h = (reads_field 3).binary g h
  node_binary (and a b) h = all_append (λ b. b ≤ 1) (selector_bits a) (selector_bits b) (inner.binary a h.0) (inner.binary b h.1)
  node_binary (or a b) h = all_append (λ b. b ≤ 1) (selector_bits a) (selector_bits b) (inner.binary a h.0) (inner.binary b h.1)
  node_binary (not a) h = inner.binary a h

  node_refuses : (node : ℕ) (s : List ℕ) (p n : ℕ) → selector_node facts (selector d facts) node s p ≡ refused n → n ≤ 11
  unfolding selector_node
  node_refuses zero s p n e = absurd (not_refused e)
  node_refuses (suc zero) s p n e = made_refused (below_reads 4 (length facts.columns)) s p has_column n e
  node_refuses (suc (suc zero)) s p n e = made_refused (reads_field 6) s p in_schema n e
  node_refuses (suc (suc (suc zero))) s p n e = made_refused (below_reads 4 (length facts.tables)) s p table_number n e
  node_refuses (suc (suc (suc (suc zero)))) s p n e = made_refused (reads_field 3) s p tag_number n e
  node_refuses (suc (suc (suc (suc (suc zero))))) s p n e = made_2_refused inner s p and n e
  node_refuses (suc (suc (suc (suc (suc (suc zero)))))) s p n e = made_2_refused inner s p or n e
  node_refuses (suc (suc (suc (suc (suc (suc (suc zero))))))) s p n e = made_refused inner s p not n e
  node_refuses (suc (suc (suc (suc (suc (suc (suc (suc node)))))))) s p n e = subst (λ z. z ≤ 11) (refused_same e) (lit≤ tt)

  node_reads : (node : ℕ) → Reads (selector_node facts (selector d facts) node) (λ x. (node_number x ≡ node) × Nests facts (suc d) x) node_bits
  node_reads node =
      record {
        reads = node_to node;
        finds = λ s p x q h w. subst (λ z. selector_node facts (selector d facts) z s p ≡ found x q) h.0 (node_back s p x q h.1 w);
        binary = λ x h. node_binary x h.1;
        refuses = node_refuses node;
      }

pub selector_reads : (facts : Sheet) (d : ℕ) → Reads (selector d facts) (Nests facts d) selector_bits
unfolding selector
selector_reads facts zero = record { reads = λ s p x q l h. absurd (not_found h); finds = λ s p x q h w. absurd h; binary = λ x h. absurd h; refuses = λ s p n e. subst (λ z. z ≤ 11) (refused_same e) (lit≤ tt) }
selector_reads facts (suc d) =
    reads_as (λ x g. g.1.1) (λ x g. (node_range x, (refl, g))) node_form
    (reads_then node_number (λ a x g h. h.0) (reads_field 3) (λ node. node_reads facts d (selector_reads facts d) node))

abbrev there : Sheet → ℕ → Bool
there facts v = cond (ltb v 16) (ltb v (length facts.columns)) (ltb (v - 16) (length facts.keys))

pub variable_reads : (facts : Sheet) → Reads (variable facts) (IsVariable facts) (bits 5)
unfolding variable
variable_reads facts =
    reads_as (λ v g. (ltb-true v 24 g.1.0, g.1.1.0)) (λ v g. let l : v < 24 = g.0 in (omega arith, (lt-ltb v 24 l, (g.1, refl)))) (λ v. append-nil (bits 5 v))
    (reads_then (λ v. v) (λ a v g h. h.1.1) (reads_field 5) (λ v. reads_need (ltb v 24) 5 (lit≤ tt) (reads_need (there facts v) 6 (lit≤ tt) (reads_give v))))

pub raw_raw : (k : Kind) (n : ℕ) → raw k (raw k n) ≡ n
raw_raw token n = refl
raw_raw boolean n = refl
raw_raw integer n = go (ltb n (2 ^ 63)) refl (ltb n (2 ^ 64)) refl
  where
    go : (a : Bool) → ltb n (2 ^ 63) ≡ a → (b : Bool) → ltb n (2 ^ 64) ≡ b → raw integer (cond a (n + 2 ^ 63) (cond b (n - 2 ^ 63) n)) ≡ n
    go true p b q =
        let l = ltb-true n (2 ^ 63) p in
        rw (le-ltb (n + 2 ^ 63) (2 ^ 63) (omega arith), lt-ltb (n + 2 ^ 63) (2 ^ 64) (omega arith)) (omega arith)
    go false p true q =
        let l = ltb-false n (2 ^ 63) p in
        let m = ltb-true n (2 ^ 64) q in
        rw (lt-ltb (n - 2 ^ 63) (2 ^ 63) (omega arith)) (omega arith)
    go false p false q = rw (p, q)

raw_small : (k : Kind) (n : ℕ) → n ≤ last k → raw k n < 2 ^ 64
raw_small token n h = omega arith
raw_small boolean n h = omega arith
raw_small integer n h = go (ltb n (2 ^ 63)) refl (ltb n (2 ^ 64)) refl
  where
    go : (a : Bool) → ltb n (2 ^ 63) ≡ a → (b : Bool) → ltb n (2 ^ 64) ≡ b → cond a (n + 2 ^ 63) (cond b (n - 2 ^ 63) n) < 2 ^ 64
    go true p b q = omega (arith, ltb-true n (2 ^ 63) p)
    go false p true q = omega (arith, ltb-true n (2 ^ 64) q)
    go false p false q = omega (arith, ltb-false n (2 ^ 64) q)

pub value_reads : (k : Kind) → Reads (value k) (λ n. n ≤ last k) (value_bits k)
unfolding value
value_reads k =
    reads_as (λ n g. subst (λ z. z ≤ last k) (raw_raw k n) (leb-true (raw k (raw k n)) (last k) g.1.0))
    (λ n g. (raw_small k n g, (ap (λ z. leb z (last k)) (raw_raw k n) ∙ le-leb n (last k) g, sym (raw_raw k n)))) (λ n. append-nil (value_bits k n))
    (reads_then (raw k) (λ x n g h. ap (raw k) h.1 ∙ raw_raw k x) (reads_field 64) (λ x. reads_need (leb (raw k x) (last k)) 7 (lit≤ tt) (reads_give (raw k x))))

pub values_reads : (k : Kind) → Reads (values k) (ValuesAllowed k) (λ ns. bits 4 (length ns) ++ each (value_bits k) ns)
unfolding values
values_reads k =
    reads_as (λ ns g. (g.0.0, g.0.1, g.1.0)) (λ ns g. ((g.0, g.1), (g.2, refl))) (λ ns. refl)
    (reads_then length (λ n ns g h. h.1) (count_reads 4 1 8 (lit≤ tt)) (λ n. reads_times (value_reads k) n))

pub mate_reads : (facts : Sheet) (v : ℕ) → Reads (mate facts v) (λ u. IsVariable facts u × (kind_number (kind_of facts v) ≡ kind_number (kind_of facts u))) (bits 5)
unfolding mate
mate_reads facts v =
    reads_as (λ u g. (g.0, eqb-true (kind_number (kind_of facts v)) (kind_number (kind_of facts u)) g.1.0))
    (λ u g. (g.0, (eq-eqb (kind_number (kind_of facts v)) (kind_number (kind_of facts u)) g.1, refl))) (λ u. append-nil (bits 5 u))
    (reads_then (λ u. u) (λ a u g h. h.1) (variable_reads facts) (λ u. reads_need (eqb (kind_number (kind_of facts v)) (kind_number (kind_of facts u))) 7 (lit≤ tt) (reads_give u)))

operator_range : (x : Operator) → operator_number x < 9
operator_range (equals u) = lit≤ tt
operator_range (in_list ns) = lit≤ tt
operator_range (not_in_list ns) = lit≤ tt
operator_range (order at_most n) = lit≤ tt
operator_range (order at_least n) = lit≤ tt
operator_range (order is_below n) = lit≤ tt
operator_range (order is_above n) = lit≤ tt
operator_range is_null = lit≤ tt
operator_range is_not_null = lit≤ tt

-- what an operator asks besides its fit to the kind, which is judged with its number
module _ (facts : Sheet) (v : ℕ) where
  abbrev k : Kind
  k = kind_of facts v

  abbrev Asks : Operator → Type 0
  Asks (equals u) = IsVariable facts u × (kind_number k ≡ kind_number (kind_of facts u))
  Asks (in_list ns) = ValuesAllowed k ns
  Asks (not_in_list ns) = ValuesAllowed k ns
  Asks (order o n) = n ≤ last k
  Asks is_null = Unit {0}
  Asks is_not_null = Unit {0}

  abbrev Operand : ℕ → List ℕ → ℕ → ℕ → Operator → Type 0
  Operand o s p q x = ((operator_number x ≡ o) × Asks x) × Written s p q (operand_bits k x)

  operand_to : (o : ℕ) (s : List ℕ) (p : ℕ) (x : Operator) (q : ℕ) → p ≤ length s * 8 → operand facts v o s p ≡ found x q → Operand o s p q x
  unfolding operand
  operand_to zero s p x q l h = let y = made (mate_reads facts v) s p equals x q l h in subst (Operand 0 s p q) y.1 ((refl, y.2), y.3)
  operand_to (suc zero) s p x q l h = let y = made (values_reads k) s p in_list x q l h in subst (Operand 1 s p q) y.1 ((refl, y.2), y.3)
  operand_to (suc (suc zero)) s p x q l h = let y = made (values_reads k) s p not_in_list x q l h in subst (Operand 2 s p q) y.1 ((refl, y.2), y.3)
  operand_to (suc (suc (suc zero))) s p x q l h = let y = made (value_reads k) s p (order at_most) x q l h in subst (Operand 3 s p q) y.1 ((refl, y.2), y.3)
  operand_to (suc (suc (suc (suc zero)))) s p x q l h = let y = made (value_reads k) s p (order at_least) x q l h in subst (Operand 4 s p q) y.1 ((refl, y.2), y.3)
  operand_to (suc (suc (suc (suc (suc zero))))) s p x q l h = let y = made (value_reads k) s p (order is_below) x q l h in subst (Operand 5 s p q) y.1 ((refl, y.2), y.3)
  operand_to (suc (suc (suc (suc (suc (suc zero)))))) s p x q l h = let y = made (value_reads k) s p (order is_above) x q l h in subst (Operand 6 s p q) y.1 ((refl, y.2), y.3)
  operand_to (suc (suc (suc (suc (suc (suc (suc zero))))))) s p x q l h = subst (Operand 7 s p q) (found_same h) ((refl, tt), subst (λ z. Written s p z []) (found_end h) (written_nil s p l))
  operand_to (suc (suc (suc (suc (suc (suc (suc (suc zero)))))))) s p x q l h = subst (Operand 8 s p q) (found_same h) ((refl, tt), subst (λ z. Written s p z []) (found_end h) (written_nil s p l))
  operand_to (suc (suc (suc (suc (suc (suc (suc (suc (suc o))))))))) s p x q l h = absurd (not_found h)

  operand_back : (s : List ℕ) (p : ℕ) (x : Operator) (q : ℕ) → Asks x → Written s p q (operand_bits k x) → operand facts v (operator_number x) s p ≡ found x q
  unfolding operand
  operand_back s p (equals u) q h w = makes (mate_reads facts v) s p equals u q h w
  operand_back s p (in_list ns) q h w = makes (values_reads k) s p in_list ns q h w
  operand_back s p (not_in_list ns) q h w = makes (values_reads k) s p not_in_list ns q h w
  operand_back s p (order at_most n) q h w = makes (value_reads k) s p (order at_most) n q h w
  operand_back s p (order at_least n) q h w = makes (value_reads k) s p (order at_least) n q h w
  operand_back s p (order is_below n) q h w = makes (value_reads k) s p (order is_below) n q h w
  operand_back s p (order is_above n) q h w = makes (value_reads k) s p (order is_above) n q h w
  operand_back s p is_null q h w = let o : p ≡ q = sym (w.ended ∙ add-zero p) in ap (found is_null) o
  operand_back s p is_not_null q h w = let o : p ≡ q = sym (w.ended ∙ add-zero p) in ap (found is_not_null) o

  operand_binary : (x : Operator) → Asks x → Binary (operand_bits k x)
  operand_binary (equals u) h = (mate_reads facts v).binary u h
  operand_binary (in_list ns) h = (values_reads k).binary ns h
  operand_binary (not_in_list ns) h = (values_reads k).binary ns h
  operand_binary (order o n) h = (value_reads k).binary n h
  operand_binary is_null h = tt
  operand_binary is_not_null h = tt

  operand_refuses : (o : ℕ) (s : List ℕ) (p n : ℕ) → operand facts v o s p ≡ refused n → n ≤ 11
  unfolding operand
  operand_refuses zero s p n e = made_refused (mate_reads facts v) s p equals n e
  operand_refuses (suc zero) s p n e = made_refused (values_reads k) s p in_list n e
  operand_refuses (suc (suc zero)) s p n e = made_refused (values_reads k) s p not_in_list n e
  operand_refuses (suc (suc (suc zero))) s p n e = made_refused (value_reads k) s p (order at_most) n e
  operand_refuses (suc (suc (suc (suc zero)))) s p n e = made_refused (value_reads k) s p (order at_least) n e
  operand_refuses (suc (suc (suc (suc (suc zero))))) s p n e = made_refused (value_reads k) s p (order is_below) n e
  operand_refuses (suc (suc (suc (suc (suc (suc zero)))))) s p n e = made_refused (value_reads k) s p (order is_above) n e
  operand_refuses (suc (suc (suc (suc (suc (suc (suc zero))))))) s p n e = absurd (not_refused e)
  operand_refuses (suc (suc (suc (suc (suc (suc (suc (suc zero)))))))) s p n e = absurd (not_refused e)
  operand_refuses (suc (suc (suc (suc (suc (suc (suc (suc (suc o))))))))) s p n e = subst (λ z. z ≤ 11) (refused_same e) (lit≤ tt)

  operand_reads : (o : ℕ) → Reads (operand facts v o) (λ x. (operator_number x ≡ o) × Asks x) (operand_bits k)
  operand_reads o =
      record {
        reads = operand_to o;
        finds = λ s p x q h w. subst (λ z. operand facts v z s p ≡ found x q) h.0 (operand_back s p x q h.1 w);
        binary = λ x h. operand_binary x h.1;
        refuses = operand_refuses o;
      }

  -- "Operators 3 to 6 are for integers only."
  abbrev fits : ℕ → Bool
  fits o = cond (leb 3 o && leb o 6) (eqb (kind_number k) 0) true

  order_fits : (o : Order) → (leb 3 (order_number o) && leb (order_number o) 6) ≡ true
  order_fits at_most = refl
  order_fits at_least = refl
  order_fits is_below = refl
  order_fits is_above = refl

  asks_allowed : (x : Operator) → fits (operator_number x) ≡ true → Asks x → OperatorAllowed facts v x
  asks_allowed (equals u) f h = h
  asks_allowed (in_list ns) f h = h
  asks_allowed (not_in_list ns) f h = h
  asks_allowed (order o n) f h = (eqb-true (kind_number k) 0 (sym (ap (λ b. cond b (eqb (kind_number k) 0) true) (order_fits o)) ∙ f), h)
  asks_allowed is_null f h = h
  asks_allowed is_not_null f h = h

  allowed_asks : (x : Operator) → OperatorAllowed facts v x → (fits (operator_number x) ≡ true) × Asks x
  allowed_asks (equals u) h = (refl, h)
  allowed_asks (in_list ns) h = (refl, h)
  allowed_asks (not_in_list ns) h = (refl, h)
  allowed_asks (order o n) h = (ap (λ b. cond b (eqb (kind_number k) 0) true) (order_fits o) ∙ eq-eqb (kind_number k) 0 h.0, h.1)
  allowed_asks is_null h = (refl, h)
  allowed_asks is_not_null h = (refl, h)

pub atom_reads : (facts : Sheet) → Reads (atom facts) (AtomAllowed facts) (atom_bits (kind_of facts))
unfolding atom
atom_reads facts =
    reads_as (λ a g. (g.0, asks_allowed facts a.variable a.operator g.1.1.1.0 g.1.1.1.1.0.1))
    (λ a g. let x = allowed_asks facts a.variable a.operator g.1 in let r = operator_range a.operator in (g.0, (omega arith, (lt-ltb (operator_number a.operator) 9 r, (x.0, ((refl, x.1), refl))))))
    (λ a. ap (λ z. bits 5 a.variable ++ (bits 4 (operator_number a.operator) ++ z)) (append-nil (operand_bits (kind_of facts a.variable) a.operator)))
    (reads_then (λ a. a.variable) (λ v a g h. ap (λ z. z.variable) h.1.1.1.1) (variable_reads facts) λ v.
    reads_then (λ a. operator_number a.operator) (λ o a g h. h.1.1.0.0) (reads_field 4) λ o.
    reads_need (ltb o 9) 5 (lit≤ tt) (reads_need (fits facts v o) 7 (lit≤ tt)
    (reads_then (λ a. a.operator) (λ x a g h. ap (λ z. z.operator) h) (operand_reads facts v o) λ x. reads_give (record { variable = v; operator = x }))))

pub clause_reads : (facts : Sheet) → Reads (clause facts) (ClauseAllowed facts) (clause_bits (kind_of facts))
unfolding clause
clause_reads facts =
    reads_as (λ c g. (g.0.1, g.1.0)) (λ c g. ((omega arith, g.0), (g.1, refl))) (λ c. refl)
    (reads_then length (λ n c g h. h.1) (count_reads 4 0 8 (lit≤ tt)) (λ n. reads_times (atom_reads facts) n))

pub policy_reads : (facts : Sheet) → Reads (policy facts) (PolicyAllowed facts) (policy_bits (kind_of facts))
unfolding policy
policy_reads facts =
    reads_as (λ p g. (ltb-true 0 p.commands g.1.1.0, g.1.0, g.1.1.1.0, g.1.1.1.1.0.1, g.1.1.1.1.1.0.0))
    (λ p g. (type_small p.restrictive, (g.1, (lt-ltb 0 p.commands g.0, (g.2, ((omega arith, g.3), ((g.4, refl), same p)))))))
    (λ p. ap (λ z. bits 1 (cond p.restrictive 1 0) ++ (bits 4 p.commands ++ (selector_bits p.selector ++ (bits 4 (length p.clauses) ++ z)))) (append-nil (each (clause_bits (kind_of facts)) p.clauses)))
    (reads_then (λ p. cond p.restrictive 1 0) (λ type p l h. ap (λ z. cond z.restrictive 1 0) h.1.1.1.1.1 ∙ type_is type l) (reads_field 1) λ type.
    reads_then (λ p. p.commands) (λ a p g h. ap (λ z. z.commands) h.1.1.1.1) (reads_field 4) λ commands.
    reads_need (ltb 0 commands) 8 (lit≤ tt)
    (reads_then (λ p. p.selector) (λ a p g h. ap (λ z. z.selector) h.1.1) (selector_reads facts 6) λ chosen.
    reads_then (λ p. length p.clauses) (λ a p g h. h.0.1) (count_reads 4 0 8 (lit≤ tt)) λ n.
    reads_then (λ p. p.clauses) (λ a p g h. ap (λ z. z.clauses) h) (reads_times (clause_reads facts) n) λ clauses.
    reads_give (record { restrictive = eqb type 1; commands = commands; selector = chosen; clauses = clauses })))
  where
    type_small : (b : Bool) → cond b 1 0 < 2 ^ 1
    type_small true = lit≤ tt
    type_small false = lit≤ tt

    type_back : (b : Bool) → b ≡ eqb (cond b 1 0) 1
    type_back true = refl
    type_back false = refl

    same : (p : Policy) → p ≡ record { restrictive = eqb (cond p.restrictive 1 0) 1; commands = p.commands; selector = p.selector; clauses = p.clauses }
    same p = λ i. record { restrictive = type_back p.restrictive i; commands = p.commands; selector = p.selector; clauses = p.clauses }

    type_is : (t : ℕ) → t < 2 ^ 1 → cond (eqb t 1) 1 0 ≡ t
    type_is zero l = refl
    type_is (suc zero) l = refl
    type_is (suc (suc t)) l = absurd (omega arith)
