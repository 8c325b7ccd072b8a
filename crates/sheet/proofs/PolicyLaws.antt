-- Policies: what is read for each, and where its selector and clauses stand.
use Prim.Native.Nat.{ℕ, ◌+◌, ◌*◌, ◌/◌, ◌%◌, ◌^◌, ◌<◌, ◌≤◌}
use native.Mathlib.Omega.{arith}
use native.Mathlib.Decide.{ℕ_discrete}
use mathlib.Core.Path.{◌≡◌, refl, sym, ap, ◌∙◌, subst}
use mathlib.Core.Bool.{Bool, true, false, cond}
use mathlib.Core.List.{List, [], ◌∷◌, ◌++◌}
use lib.ListN.{length, get_or, set, length-set, length-append, get_or-append}
use lib.Seq.{get_or-set_same, get_or-set_other, get_or-append-add}
use lib.Dec.{leb, eqb}
use borrow.Author.Tests.{lt-ltb, le-ltb, leb-true}
use Rattle.bits.specs.Bits.{number}
use Rattle.std.specs.Prelude.{Ok}
use Rattle.bits.specs.Fields.{place_at, bit_no, field_at}
use Rattle.bits.proofs.Laws.{number_lt, field_is}
use Rattle.bits.specs.declared.Place.{Place}
use Rattle.meaning.specs.Atoms.{Atom}
use Rattle.meaning.specs.Sheets.{Sheet, Selector, all}
use Rattle.meaning.specs.Sheets as sheets
use Rattle.meaning.specs.Reading.{Read, found, refused, on_read, field, count, selector, selector_node, clause, policy, times}
use Rattle.meaning.proofs.ReadLaws.{read_split}
use Rattle.values.specs.Reads.{Got}
use Rattle.clauses.specs.declared.Facts.{Facts}
use Rattle.sheet.specs.Directory.{table_in, PolicyAt}
use Rattle.sheet.specs.Fronts.{FrontIs, KeptBelow, StartsAt, PoliciesIn}

-- what was found, by the value that was answered
pub as_found : {m : Read ℕ} {v : ℕ} {q : Place} (g : Got m (λ x. v ≡ x) q) → m ≡ found v g.place
as_found g = g.read ∙ ap (λ x. found x g.place) (sym g.holds)

-- a field that is read at a place is below 2^w
pub field_low : (s : List ℕ) (at : Place) (w : ℕ) {v : ℕ} {q : Place} → Ok (v, q) ≡ field_at s at w → v < 2 ^ w
field_low s at w {v} {q} e = omega (arith, (field_is s at q w v (sym e)).0, number_lt s (bit_no at) w)

-- what is found begins within the bytes
field_inside : (w : ℕ) (s : List ℕ) (p v o : ℕ) → field w s p ≡ found v o → p ≤ length s * 8
unfolding field
field_inside w s p v o e = go (leb (p + w) (length s * 8)) refl e
  where
    go : (b : Bool) → leb (p + w) (length s * 8) ≡ b → cond b (found (number s p w) (p + w)) (refused 2) ≡ found v o → p ≤ length s * 8
    go true h e = omega (arith, leb-true (p + w) (length s * 8) h)
    go false h e = let z : ◌≡◌ {A = ℕ} 0 1 = cc in absurd (omega arith)

pub selector_inside : (facts : Sheet) (s : List ℕ) (p : ℕ) (x : Selector) (o : ℕ) → selector 6 facts s p ≡ found x o → p ≤ length s * 8
unfolding selector
selector_inside facts s p x o e = let r = read_split (field 3 s p) (λ node q. selector_node facts (selector 5 facts) node s q) x o e in field_inside 3 s p r.0 r.1 r.2

pub clause_inside : (facts : Sheet) (s : List ℕ) (p : ℕ) (x : List Atom) (o : ℕ) → clause facts s p ≡ found x o → p ≤ length s * 8
unfolding clause count
clause_inside facts s p x o e =
    let r = read_split (count 4 0 8 s p) _ x o e in
    let f = read_split (field 4 s p) _ r.0 r.1 r.2 in
    field_inside 4 s p f.0 f.1 f.2

-- a place's bit number
pub bit_number : (p : Place) (n : ℕ) → p ≡ place_at n → n ≤ 131072 → p.byte % 65536 * 8 + p.bit % 8 ≡ n
bit_number p n e h =
    let b : p.byte ≡ n / 8 = ap (λ (x : Place). x.byte) e in
    let c : p.bit ≡ n % 8 = ap (λ (x : Place). x.bit) e in
    omega arith

abbrev pub made : Bool → ℕ → Selector → List (List Atom) → sheets.Policy
made r c x cs = record { restrictive = r; commands = c; selector = x; clauses = cs }

-- a policy, field by field
module _ (facts : Sheet) (s : List ℕ) (p : ℕ) where
  pub type_lost : {n : ℕ} → field 1 s p ≡ refused n → policy facts s p ≡ refused n
  unfolding policy
  type_lost e = simp e

  module _ {t a : ℕ} (T : field 1 s p ≡ found t a) where
    pub commands_lost : {n : ℕ} → field 4 s a ≡ refused n → policy facts s p ≡ refused n
    unfolding policy
    commands_lost e = simp (T, e)

    module _ {c b : ℕ} (C : field 4 s a ≡ found c b) where
      pub no_command : c < 1 → policy facts s p ≡ refused 8
      unfolding policy
      no_command h = let l : c ≤ 0 = omega arith in simp (T, C, le-ltb 0 c l)

      module _ (some : 1 ≤ c) where
        pub selector_stop : {n : ℕ} → selector 6 facts s b ≡ refused n → policy facts s p ≡ refused n
        unfolding policy
        selector_stop e = simp (T, C, lt-ltb 0 c some, e)

        module _ {x : Selector} {d : ℕ} (X : selector 6 facts s b ≡ found x d) where
          pub clauses_stop : {n : ℕ} → count 4 0 8 s d ≡ refused n → policy facts s p ≡ refused n
          unfolding policy
          clauses_stop e = simp (T, C, lt-ltb 0 c some, X, e)

          pub policy_of : {n f : ℕ} → count 4 0 8 s d ≡ found n f
              → policy facts s p ≡ on_read (times n (clause facts) s f) (λ cs o. found (made (eqb t 1) c x cs) o)
          unfolding policy
          policy_of e = simp (T, C, lt-ltb 0 c some, X, e)

-- cells of a book that writing kept: nothing written, a cell written, one writing after another
pub kept_none : (n : ℕ) (b : List ℕ) → KeptBelow n b b
kept_none n b = record { length = refl; cells = λ i h. refl }

pub kept_set : (n : ℕ) (b : List ℕ) (i v : ℕ) → n ≤ i → KeptBelow n b (set b i v)
kept_set n b i v h = record { length = length-set b i v; cells = λ j l. get_or-set_other b i j v 0 (λ e. omega arith) }

pub kept_then : {n m : ℕ} {a b c : List ℕ} → KeptBelow n a b → n ≤ m → KeptBelow m b c → KeptBelow n a c
kept_then K h L = record { length = L.length ∙ K.length; cells = λ i l. L.cells i (omega arith) ∙ K.cells i l }

-- a table whose cells are kept is the same table
pub table_kept : {n : ℕ} {b after : List ℕ} → KeptBelow n b after → (t : ℕ) → 3 * t + 2 < n → table_in after t ≡ table_in b t
table_kept K t h = λ i. record { schema = K.cells (3 * t) (omega arith) i; tags = K.cells (3 * t + 1) (omega arith) i; columns = K.cells (3 * t + 2) h i }

pub front_kept : {f : Facts} {b e : List ℕ} {facts : Sheet} {n : ℕ} → 48 ≤ n → KeptBelow n b e → FrontIs f b facts → FrontIs f e facts
front_kept {n = n} h K F = record { facts = F.facts; few = F.few; tables = λ t l. table_kept K t (omega (arith, F.few)) ∙ F.tables t l; bare = F.bare }

-- one more of what stands by number: R relates a number to the item at that number
grown : {A : Type 0} (R : ℕ → A → Type 0) (xs : List A) (i : ℕ) (a d : A) → length xs ≡ i
    → ((j : ℕ) → j < length xs → R j (get_or xs j d)) → R i a → (j : ℕ) → j < length (xs ++ (a ∷ [])) → R j (get_or (xs ++ (a ∷ [])) j d)
grown R xs i a d n P r j h = go (ℕ_discrete j i)
  where
    go : Dec (j ≡ i) → R j (get_or (xs ++ (a ∷ [])) j d)
    go (yes x) =
        let z : j ≡ length xs + 0 = omega arith in
        let one : a ≡ get_or (xs ++ (a ∷ [])) j d = sym (ap (λ y. get_or (xs ++ (a ∷ [])) y d) z ∙ get_or-append-add xs (a ∷ []) 0 d) in
        subst (R j) one (subst (λ y. R y a) (sym x) r)
    go (no x) =
        let small : j < length xs = omega (arith, length-append xs (a ∷ [])) in
        subst (R j) (sym (get_or-append xs (a ∷ []) d j small)) (P j small)

-- where clauses begin, one more
pub starts_none : (s : List ℕ) (facts : Sheet) (b : List ℕ) (from : ℕ) → StartsAt s facts b from []
starts_none s facts b from = record { at = λ i h. absurd (omega arith) }

pub starts_more : {s : List ℕ} {facts : Sheet} {b e : List ℕ} {cs : List (List Atom)} {c : List Atom} {o : ℕ} (from i p : ℕ) → length cs ≡ i → KeptBelow (from + i) b e → StartsAt s facts b from cs
    → get_or e (from + i) 0 ≡ p → clause facts s p ≡ found c o → StartsAt s facts e from (cs ++ (c ∷ []))
starts_more {s} {facts} {b} {e} {cs} {c} {o} from i p n K P here h =
    record { at = grown (λ j x. (q : ℕ) × (clause facts s (get_or e (from + j) 0) ≡ found x q)) cs i c [] n (λ j l. let x = P.at j l in (x.0, ap (clause facts s) (K.cells (from + j) (omega arith)) ∙ x.1)) (o, ap (clause facts s) here ∙ h) }

-- a policy's four cells, and then where its clauses begin
abbrev pub put : List ℕ → ℕ → ℕ → ℕ → ℕ → ℕ → List ℕ
put b from t c q n = set (set (set (set b from t) (from + 1) c) (from + 2) q) (from + 3) n

module _ (b : List ℕ) (from t c q n : ℕ) where
  abbrev first : List ℕ
  first = set b from t

  abbrev second : List ℕ
  second = set first (from + 1) c

  abbrev third : List ℕ
  third = set second (from + 2) q

  -- each cell is kept by what is written after it
  kept_third : KeptBelow (from + 3) third (put b from t c q n)
  kept_third = kept_set (from + 3) third (from + 3) n (omega arith)

  kept_second : KeptBelow (from + 2) second (put b from t c q n)
  kept_second = kept_then (kept_set (from + 2) second (from + 2) q (omega arith)) (omega arith) kept_third

  kept_first : KeptBelow (from + 1) first (put b from t c q n)
  kept_first = kept_then (kept_set (from + 1) first (from + 1) c (omega arith)) (omega arith) kept_second

  pub put_kept : KeptBelow from b (put b from t c q n)
  put_kept = kept_then (kept_set from b from t (omega arith)) (omega arith) kept_first

  pub policy_put : {s : List ℕ} {facts : Sheet} {e : List ℕ} {x : Selector} {o : ℕ} {cs : List (List Atom)} → from + 12 ≤ length b → KeptBelow (from + 4) (put b from t c q n) e → selector 6 facts s q ≡ found x o
      → length cs ≡ n → n ≤ 8 → StartsAt s facts e (from + 4) cs → PolicyAt s facts (made (eqb t 1) c x cs) e from
  policy_put {s} {facts} {e} {x} {o} {cs} room K X l few S =
      let two = length-set b from t in
      let three = length-set first (from + 1) c in
      let four = length-set second (from + 2) q in
      record {
        restrictive = ap (λ y. eqb y 1) (K.cells from (omega arith) ∙ kept_first.cells from (omega arith) ∙ get_or-set_same b from t 0 (omega arith));
        commands = K.cells (from + 1) (omega arith) ∙ kept_second.cells (from + 1) (omega arith) ∙ get_or-set_same first (from + 1) c 0 (omega arith);
        selector = (o, ap (selector 6 facts s) (K.cells (from + 2) (omega arith) ∙ kept_third.cells (from + 2) (omega arith) ∙ get_or-set_same second (from + 2) q 0 (omega arith)) ∙ X);
        count = K.cells (from + 3) (omega arith) ∙ get_or-set_same third (from + 3) n 0 (omega arith) ∙ sym l;
        few = omega arith;
        clauses = S.at;
      }

-- a policy whose twelve cells are kept
pub policy_kept : {s : List ℕ} {facts : Sheet} {p : sheets.Policy} {b e : List ℕ} {n : ℕ} (from : ℕ) → from + 12 ≤ n → KeptBelow n b e → PolicyAt s facts p b from → PolicyAt s facts p e from
policy_kept {s} {facts} {p} {b} {e} {n} from h K P =
    record {
      restrictive = ap (λ y. eqb y 1) (K.cells from (omega arith)) ∙ P.restrictive;
      commands = K.cells (from + 1) (omega arith) ∙ P.commands;
      selector = (P.selector.0, ap (selector 6 facts s) (K.cells (from + 2) (omega arith)) ∙ P.selector.1);
      count = K.cells (from + 3) (omega arith) ∙ P.count;
      few = P.few;
      clauses = λ i l. ((P.clauses i l).0, ap (clause facts s) (K.cells (from + 4 + i) (omega (arith, P.few))) ∙ (P.clauses i l).1);
    }

abbrev nothing : sheets.Policy
nothing = record { restrictive = false; commands = 0; selector = all; clauses = [] }

pub policies_none : (s : List ℕ) (facts : Sheet) (b : List ℕ) → PoliciesIn s facts b []
policies_none s facts b = record { at = λ i h. absurd (omega arith) }

pub policies_more : {s : List ℕ} {facts : Sheet} {b e : List ℕ} {ps : List sheets.Policy} {p : sheets.Policy} (i : ℕ) → length ps ≡ i → KeptBelow (48 + i * 12) b e → PoliciesIn s facts b ps
    → PolicyAt s facts p e (48 + i * 12) → PoliciesIn s facts e (ps ++ (p ∷ []))
policies_more {s} {facts} {b} {e} {ps} {p} i n K P h =
    record { at = grown (λ j x. PolicyAt s facts x e (48 + j * 12)) ps i p nothing n (λ j l. policy_kept (48 + j * 12) (omega arith) K (P.at j l)) h }
