-- The last values of the variables' kinds are the sheet's ranges, free of code. Assumes nothing.
use Prim.Native.Nat.{ℕ, ◌+◌, ◌-◌, ◌<◌, ◌≤◌}
use native.Mathlib.Omega.{arith}
use mathlib.Core.Path.{◌≡◌, refl, ◌∙◌, ap}
use mathlib.Core.Bool.{Bool, cond}
use mathlib.Core.List.{List}
use lib.ListN.{get_or}
use borrow.Author.Tests.{lt-ltb, le-ltb}
use Rattle.meaning.specs.Values.{Kind, integer, token, boolean, kind_number, last}
use Rattle.meaning.specs.Sheets.{Sheet}
use Rattle.meaning.specs.Views.{KindsAre}
use Rattle.asked.specs.Asked.{last_of, kind_place, Ranges}

last_kind : (k : Kind) → last_of (kind_number k) ≡ last k
last_kind integer = refl
last_kind token = refl
last_kind boolean = refl

pub place_first : (v : ℕ) → v < 24 → kind_place v ≡ v
place_first v l = ap (λ (b : Bool). cond b v (v - 8)) (lt-ltb v 24 l)

pub place_second : (v : ℕ) → 24 ≤ v → kind_place v ≡ v - 8
place_second v l = ap (λ (b : Bool). cond b v (v - 8)) (le-ltb v 24 l)

pub ranges : (kinds top : List ℕ) → ((v : ℕ) → v < 32 → get_or top v 0 ≡ last_of (get_or kinds (kind_place v) 0)) → (sheet : Sheet) → KindsAre sheet kinds → Ranges sheet top
ranges kinds top h sheet g =
    record {
      columns = λ c l. at c c (get_or sheet.columns c integer) (omega arith) (place_first c (omega arith)) (g.columns c l);
      keys = λ k l. at (k + 16) (k + 16) (get_or sheet.keys k integer) (omega arith) (place_first (k + 16) (omega arith)) (g.keys k l);
      keys_two = λ k l. at (k + 24) (k + 16) (get_or sheet.keys k integer) (omega arith) (place_second (k + 24) (omega arith) ∙ (let e : k + 24 - 8 ≡ k + 16 = omega arith in e)) (g.keys k l);
    }
  where
    at : (v p : ℕ) (k : Kind) → v < 32 → kind_place v ≡ p → get_or kinds p 0 ≡ kind_number k → get_or top v 0 ≡ last k
    at v p k l e q = h v l ∙ ap (λ (i : ℕ). last_of (get_or kinds i 0)) e ∙ ap last_of q ∙ last_kind k
