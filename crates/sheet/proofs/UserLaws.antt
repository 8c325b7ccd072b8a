-- What a reader's answer gives to those who use it: the sheet is accepted and allowed, and the directory's counts are within their limits.
use Prim.Native.Nat.{ℕ, ◌≤◌}
use native.Mathlib.Omega.{arith}
use mathlib.Core.Path.{◌≡◌, subst}
use mathlib.Core.List.{List}
use Rattle.std.specs.Prelude.{Result, Ok, Err}
use Rattle.refusals.specs.declared.Refusal.{Refusal}
use Rattle.refusals.specs.Refusals.{number}
use Rattle.meaning.specs.Reading.{refused, read_sheet}
use Rattle.meaning.specs.Allowed.{SheetAllowed}
use Rattle.meaning.specs.Demands.{Accepted}
use Rattle.meaning.proofs.SheetLaws.{accepted_as}
use Rattle.sheet.specs.declared.Directory.{Directory}
use Rattle.sheet.specs.Directory.{Found, SheetRead}

-- an accepted answer, and a refused one
module _ (s b : List ℕ) {r : Result Directory Refusal} (h : SheetRead s b r) where
  pub read_found : {d : Directory} → r ≡ Ok d → Found s d b
  read_found e = subst (SheetRead s b) e h

  pub read_refused : {x : Refusal} → r ≡ Err x → read_sheet s ≡ refused (number x)
  read_refused e = subst (SheetRead s b) e h

-- what is found is accepted and allowed
module _ {s : List ℕ} {d : Directory} {b : List ℕ} (F : Found s d b) where
  pub found_accepted : Accepted s F.sheet
  found_accepted = (F.end, F.read)

  pub found_allowed : SheetAllowed F.sheet
  found_allowed = (accepted_as s F.sheet found_accepted).allowed

  -- "0..16, 1..8, 1..16, 0..16"
  pub found_columns : d.facts.columns ≤ 16
  found_columns = omega (arith, F.described.facts.columns, found_allowed.columns)

  pub found_keys : (1 ≤ d.facts.keys) × (d.facts.keys ≤ 8)
  found_keys = (omega (arith, F.described.facts.keys, found_allowed.keys.0), omega (arith, F.described.facts.keys, found_allowed.keys.1))

  pub found_tables : (1 ≤ d.facts.tables) × (d.facts.tables ≤ 16)
  found_tables = (omega (arith, F.described.facts.tables, found_allowed.tables.0), omega (arith, F.described.facts.tables, found_allowed.tables.1))

  pub found_policies : d.policies ≤ 16
  found_policies = omega (arith, F.described.policies, found_allowed.policies)
