-- Kinds and tables together: the sheet without its policies.
use Prim.Native.Nat.{ℕ, zero, suc, ◌+◌, ◌<◌, ◌≤◌}
use native.Mathlib.Omega.{arith}
use native.Mathlib.Decide.{dec_lt}
use mathlib.Core.Path.{◌≡◌, refl, sym, ap, ◌∙◌}
use mathlib.Core.List.{List, []}
use lib.ListN.{length, get_or, replicate, get_or-eq_default}
use Rattle.meaning.specs.Values.{Kind, integer, kind_number}
use Rattle.meaning.specs.Sheets as sheets
use Rattle.meaning.specs.Reading.{found, refused, on_read, kind, table, table_facts, times}
use Rattle.meaning.specs.Reading as m
use Rattle.place.specs.Heads.{CountsAre}
use Rattle.place.specs.declared.Counts.{Counts}
use Rattle.sheet.specs.Fronts.{KindsPut, TablesIn, FrontIs}

-- counts by value are the definition's
pub counts_same : {r : Counts} {n : m.Counts} → CountsAre r n → n ≡ record { columns = r.columns; keys = r.keys; tables = r.tables; policies = r.policies }
counts_same N = λ i. record { columns = sym N.columns i; keys = sym N.keys i; tables = sym N.tables i; policies = sym N.policies i }

-- what is read, in order
module _ {r : Counts} {n : m.Counts} (N : CountsAre r n) (s : List ℕ) (p : ℕ) where
  pub columns_stop : {x : ℕ} → times r.columns kind s p ≡ refused x → table_facts n s p ≡ refused x
  unfolding table_facts
  columns_stop e = ap (λ x. table_facts x s p) (counts_same N) ∙ simp e

  module _ {cs : List Kind} {a : ℕ} (C : times r.columns kind s p ≡ found cs a) where
    pub keys_stop : {x : ℕ} → times r.keys kind s a ≡ refused x → table_facts n s p ≡ refused x
    unfolding table_facts
    keys_stop e = ap (λ x. table_facts x s p) (counts_same N) ∙ simp (C, e)

    pub front_of : {ks : List Kind} {b : ℕ} → times r.keys kind s a ≡ found ks b
        → table_facts n s p ≡ on_read (times r.tables (table r.columns) s b) (λ ts o. found (record { columns = cs; keys = ks; tables = ts; policies = [] }) o)
    unfolding table_facts
    front_of e = ap (λ x. table_facts x s p) (counts_same N) ∙ simp (C, e)

zeros : (n j : ℕ) → ◌≡◌ {A = ℕ} (get_or (replicate n 0) j 0) 0
zeros zero j = refl
zeros (suc n) zero = refl
zeros (suc n) (suc j) = zeros n j

-- the front by value
module _ (C K T : ℕ) (given kinds : List ℕ) (cs ks : List Kind) (ts : List sheets.Table) (b : List ℕ)
    (one : KindsPut 0 (replicate 24 0) given cs) (two : KindsPut 16 given kinds ks) (lc : length cs ≡ C) (lk : length ks ≡ K) (lt : length ts ≡ T) (small : C ≤ 16)
    (few : T ≤ 16) (held : TablesIn b ts) where
  column_kind : (c : ℕ) → c < 16 → get_or kinds c 0 ≡ kind_number (get_or cs c integer)
  column_kind c h = two.before c h ∙ go (dec_lt c (length cs))
    where
      go : Dec (c < length cs) → get_or given c 0 ≡ kind_number (get_or cs c integer)
      go (yes x) = let z : c ≡ 0 + c = omega arith in ap (λ y. get_or given y 0) z ∙ one.here c x
      go (no x) = one.after c (omega arith) ∙ zeros 24 c ∙ ap kind_number (sym (get_or-eq_default cs integer (omega arith)))

  key_kind : (k : ℕ) → k < 8 → get_or kinds (k + 16) 0 ≡ kind_number (get_or ks k integer)
  key_kind k h = go (dec_lt k (length ks))
    where
      go : Dec (k < length ks) → get_or kinds (k + 16) 0 ≡ kind_number (get_or ks k integer)
      go (yes x) = let z : k + 16 ≡ 16 + k = omega arith in ap (λ y. get_or kinds y 0) z ∙ two.here k x
      go (no x) = two.after (k + 16) (omega arith) ∙ one.after (k + 16) (omega arith) ∙ zeros 24 (k + 16) ∙ ap kind_number (sym (get_or-eq_default ks integer (omega arith)))

  pub front_is : FrontIs (record { columns = C; keys = K; tables = T; kinds = kinds }) b (record { columns = cs; keys = ks; tables = ts; policies = [] })
  front_is =
      record {
        facts = record { columns = sym lc; keys = sym lk; tables = sym lt; kinds = record { columns = column_kind; keys = key_kind } };
        few = omega arith;
        tables = λ t h. held t h;
        bare = refl;
      }
