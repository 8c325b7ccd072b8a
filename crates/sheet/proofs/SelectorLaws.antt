-- Selectors, node by node: what is read for each, and what of a table each asks.
use Prim.Native.Nat.{ℕ, suc, ◌+◌, ◌-◌, ◌*◌, ◌^◌, ◌<◌, ◌≤◌}
use native.Mathlib.Decide.{dec_le}
use native.Mathlib.Omega.{arith}
use mathlib.Core.Path.{◌≡◌, refl, sym, ap, ◌∙◌}
use mathlib.Core.Bool.{Bool, true, false, cond, ◌&&◌, ◌||◌}
use mathlib.Core.Bool as bool
use mathlib.Core.List.{List}
use lib.ListN.{length}
use lib.Dec.{leb}
use Rattle.bits.specs.Bits.{number}
use Rattle.bits.proofs.Laws.{number_lt}
use Rattle.bits.specs.declared.Place.{Place}
use Rattle.std.specs.Prelude.{Result, Ok, Err}
use Rattle.refusals.specs.declared.Refusal.{Refusal}
use Rattle.values.specs.Reads.{Got, Answers, answered, stopped}
use Rattle.values.proofs.ReadLaws.{goes_on, ends}
use Rattle.clauses.proofs.TurnLaws.{got_by, got_map, got_item, not_found}
use Rattle.meaning.specs.Sheets.{Selector, all, has_column, in_schema, table_number, tag_number, and, or, not, Sheet}
use Rattle.meaning.specs.Reading.{Read, found, refused, Reader, on_read, number_below, selector_node, selector}
use Rattle.meaning.specs.Reading as reading

-- a field of w bits is below 2^w, and its bits are there
pub field_small : (w : ℕ) (s : List ℕ) (p v o : ℕ) → reading.field w s p ≡ found v o → v < 2 ^ w
unfolding reading.field
field_small w s p v o e = go (leb (p + w) (length s * 8)) e
  where
    go : (b : Bool) → cond b (found (number s p w) (p + w)) (refused 2) ≡ found v o → v < 2 ^ w
    go true e = let same : number s p w ≡ v = cc in omega (arith, number_lt s p w)
    go false e = let z : ◌≡◌ {A = ℕ} 0 1 = cc in absurd (omega arith)

-- what follows a node, by its number
module _ (facts : Sheet) (inner : Reader Selector) (node : ℕ) (s : List ℕ) (p : ℕ) where
  pub node_all : node ≡ 0 → selector_node facts inner node s p ≡ found all p
  unfolding selector_node
  node_all e = rw e

  pub node_column : {n : ℕ} → n ≡ length facts.columns → node ≡ 1 → selector_node facts inner node s p ≡ on_read (number_below 4 n s p) (λ c q. found (has_column c) q)
  unfolding selector_node
  node_column h e = rw (e, h)

  pub node_schema : node ≡ 2 → selector_node facts inner node s p ≡ on_read (reading.field 6 s p) (λ c q. found (in_schema c) q)
  unfolding selector_node
  node_schema e = rw e

  pub node_table : {n : ℕ} → n ≡ length facts.tables → node ≡ 3 → selector_node facts inner node s p ≡ on_read (number_below 4 n s p) (λ c q. found (table_number c) q)
  unfolding selector_node
  node_table h e = rw (e, h)

  pub node_tag : node ≡ 4 → selector_node facts inner node s p ≡ on_read (reading.field 3 s p) (λ c q. found (tag_number c) q)
  unfolding selector_node
  node_tag e = rw e

  node_and : node ≡ 5 → selector_node facts inner node s p ≡ on_read (inner s p) (λ a q. on_read (inner s q) (λ b r. found (and a b) r))
  unfolding selector_node
  node_and e = rw e

  node_or : node ≡ 6 → selector_node facts inner node s p ≡ on_read (inner s p) (λ a q. on_read (inner s q) (λ b r. found (or a b) r))
  unfolding selector_node
  node_or e = rw e

  node_not : node ≡ 7 → selector_node facts inner node s p ≡ on_read (inner s p) (λ a q. found (not a) q)
  unfolding selector_node
  node_not e = rw e

  -- a node of selectors, by those that it has
  node_cases : {X : Type 0} → 5 ≤ node → node < 8 → (node ≡ 5 → X) → (node ≡ 6 → X) → (node ≡ 7 → X) → X
  node_cases {X} l h both either none = go (dec_le node 5) (dec_le node 6)
    where
      go : Dec (node ≤ 5) → Dec (node ≤ 6) → X
      go (yes a) b = both (omega arith)
      go (no a) (yes b) = either (omega arith)
      go (no a) (no b) = none (omega arith)

  pub inner_lost : {n : ℕ} → 5 ≤ node → node < 8 → inner s p ≡ refused n → selector_node facts inner node s p ≡ refused n
  inner_lost l h e = node_cases l h (λ i. node_and i ∙ ends _ e) (λ i. node_or i ∙ ends _ e) (λ i. node_not i ∙ ends _ e)

  inner_next : {n : ℕ} {H : Selector → Type 0} {q : Place} (g : Got (inner s p) H q) → 5 ≤ node → node < 7 → inner s g.place ≡ refused n → selector_node facts inner node s p ≡ refused n
  inner_next g l h e = node_cases l (omega arith) (λ i. node_and i ∙ goes_on _ g ∙ ends _ e) (λ i. node_or i ∙ goes_on _ g ∙ ends _ e) (λ i. absurd (omega arith))

-- the depth falls
module _ (depth : ℕ) (facts : Sheet) (s : List ℕ) (p : ℕ) where
  pub too_deep : depth < 1 → selector depth facts s p ≡ refused 9
  unfolding selector
  too_deep h = let e : depth ≡ 0 = omega arith in rw e

  steps : 1 ≤ depth → selector depth facts s p ≡ on_read (reading.field 3 s p) (λ node q. selector_node facts (selector (depth - 1) facts) node s q)
  unfolding selector
  steps h = let e : depth ≡ suc (depth - 1) = omega arith in ap (λ k. selector k facts s p) e

  pub selector_lost : {n : ℕ} → 1 ≤ depth → reading.field 3 s p ≡ refused n → selector depth facts s p ≡ refused n
  selector_lost h e = steps h ∙ ends _ e

  -- a node that was read: what its selector reads is what follows it
  module _ (low : 1 ≤ depth) {node : ℕ} {q : Place} (g : Got (reading.field 3 s p) (λ x. node ≡ x) q) where
    pub at_node : selector depth facts s p ≡ selector_node facts (selector (depth - 1) facts) node s g.place
    at_node = steps low ∙ goes_on _ g ∙ ap (λ x. selector_node facts (selector (depth - 1) facts) x s g.place) (sym g.holds)

    small : node < 8
    small = let l = field_small 3 s p g.item g.place g.read in omega (arith, l, g.holds)

    pub first_lost : {n : ℕ} → 5 ≤ node → selector (depth - 1) facts s g.place ≡ refused n → selector depth facts s p ≡ refused n
    first_lost l e = at_node ∙ inner_lost facts (selector (depth - 1) facts) node s g.place l small e

    module _ {H : Selector → Type 0} {r : Place} (h : Got (selector (depth - 1) facts s g.place) H r) where
      pub not_got : {K : Selector → Type 0} → node ≡ 7 → ((a : Selector) → H a → K (not a)) → Got (selector depth facts s p) K r
      not_got e k = got_by (at_node ∙ node_not facts (selector (depth - 1) facts) node s g.place e) (got_map not k h)

      pub second_lost : {n : ℕ} → 5 ≤ node → (node ≡ 7 → ⊥) → selector (depth - 1) facts s h.place ≡ refused n → selector depth facts s p ≡ refused n
      second_lost l m e =
          let h8 = small in
          let h7 : node < 7 = omega (arith, h8, m) in
          at_node ∙ inner_next facts (selector (depth - 1) facts) node s g.place h l h7 e

      module _ {L : Selector → Type 0} {u : Place} (i : Got (selector (depth - 1) facts s h.place) L u) where
        pub and_got : {K : Selector → Type 0} → node ≡ 5 → ((b : Selector) → L b → K (and h.item b)) → Got (selector depth facts s p) K u
        and_got e k = got_by (at_node ∙ node_and facts (selector (depth - 1) facts) node s g.place e ∙ goes_on _ h) (got_map (and h.item) k i)

        pub or_got : {K : Selector → Type 0} → 5 ≤ node → (node ≡ 7 → ⊥) → (node ≡ 5 → ⊥) → ((b : Selector) → L b → K (or h.item b)) → Got (selector depth facts s p) K u
        or_got l m n k =
            let h8 = small in
            let e : node ≡ 6 = omega (arith, h8, m, n) in
            got_by (at_node ∙ node_or facts (selector (depth - 1) facts) node s g.place e ∙ goes_on _ h) (got_map (or h.item) k i)

-- an answer of the parts is one of the whole
pub not_so : {a : Bool} (x : Bool) → a ≡ x → bool.not a ≡ cond x false true
not_so x e = rw e (go x)
  where
    go : (b : Bool) → bool.not b ≡ cond b false true
    go true = refl
    go false = refl

pub and_so : {a b x y : Bool} → a ≡ x → b ≡ y → (a && b) ≡ (x && y)
and_so e h = cc

pub or_so : {a b x y : Bool} → a ≡ x → b ≡ y → (a || b) ≡ (x || y)
or_so e h = cc

-- whether it was answered that a selector matches; and where the selector was found, it is so
abbrev pub answer_of : Result (Bool × Place) Refusal → Bool
answer_of (Ok (b, q)) = b
answer_of (Err e) = false

pub told : {m : Read Selector} {f : Selector → Bool} {r : Result (Bool × Place) Refusal} {x : Selector} {q : ℕ} → Answers m (λ b y. b ≡ f y) r → m ≡ found x q → answer_of r ≡ f x
told {m} {f} (answered g) e = got_item g e
told (stopped h) e = not_found h e
