-- What a directory and its book say of the sheet that they describe: a table's facts and a policy's fields.
use Prim.Native.Nat.{ℕ, ◌+◌, ◌*◌, ◌<◌}
use native.Mathlib.Omega.{arith}
use mathlib.Core.Path.{◌≡◌, ap, ◌∙◌}
use mathlib.Core.Bool.{Bool}
use mathlib.Core.List.{List, []}
use lib.ListN.{length, get_or}
use lib.Dec.{eqb}
use Rattle.meaning.specs.Sheets.{Sheet, matches, table_at, policy_at}
use Rattle.meaning.specs.Sheets as sheets
use Rattle.meaning.specs.Reading.{found, selector, clause}
use Rattle.sheet.specs.declared.Table.{Table}
use Rattle.sheet.specs.declared.Directory.{Directory}
use Rattle.sheet.specs.Directory.{table_of, table_in, policy_cell, PolicyAt, Described}

-- where a policy's clause begins
pub start_so : {s : List ℕ} {facts : Sheet} {x : sheets.Policy} {b : List ℕ} (p i : ℕ) → PolicyAt s facts x b (48 + p * 12) → p < 16 → i < length x.clauses → {start : ℕ} → (p < 16 → i < 8 → start ≡ policy_cell b p (4 + i))
    → (q : ℕ) × (clause facts s start ≡ found (get_or x.clauses i []) q)
start_so {s} {facts} {x} {b} p i P h l e =
    let z : 48 + p * 12 + (4 + i) ≡ 48 + p * 12 + 4 + i = omega arith in
    let c = P.clauses i l in
    (c.0, ap (clause facts s) (e h (omega (arith, P.few)) ∙ ap (λ y. get_or b y 0) z) ∙ c.1)

-- a policy's type, commands, selector and number of clauses
module _ {s : List ℕ} {facts : Sheet} {x : sheets.Policy} {b : List ℕ} (p : ℕ) (P : PolicyAt s facts x b (48 + p * 12)) (h : p < 16) where
  pub type_told : {r : Bool} → (p < 16 → r ≡ eqb (policy_cell b p 0) 1) → r ≡ x.restrictive
  type_told e = let z : 48 + p * 12 + 0 ≡ 48 + p * 12 = omega arith in e h ∙ ap (λ y. eqb (get_or b y 0) 1) z ∙ P.restrictive

  pub commands_told : {n : ℕ} → (p < 16 → n ≡ policy_cell b p 1) → n ≡ x.commands
  commands_told e = e h ∙ P.commands

  pub selector_told : {n : ℕ} → (p < 16 → n ≡ policy_cell b p 2) → (q : ℕ) × (selector 6 facts s n ≡ found x.selector q)
  selector_told e = let q = P.selector in (q.0, ap (selector 6 facts s) (e h) ∙ q.1)

  pub count_told : {n : ℕ} → (p < 16 → n ≡ policy_cell b p 3) → n ≡ length x.clauses
  count_told e = e h ∙ P.count

module _ {s : List ℕ} {sheet : Sheet} {d : Directory} {b : List ℕ} (D : Described s sheet d b) where
  -- a table's facts
  pub table_so : (t : ℕ) → t < length sheet.tables → {table : Table} → (t < 16 → table_of table ≡ table_in b t) → table_of table ≡ table_at sheet t
  table_so t T e = e (omega (arith, D.tables)) ∙ D.table t T

  module _ (p : ℕ) (P : p < length sheet.policies) where
    pub numbered_policy : p < 16
    numbered_policy = omega (arith, D.few)
