-- The normal form of a sheet, being written policy by policy. (01, "Normal form")
use Rattle.std.specs.Prelude.{ℕ, List, ◌++◌, take}
use Rattle.lists.specs.Lists.{each, Each}
use Rattle.meaning.specs.Sheets.{Policy, Sheet, kind_of}
use Rattle.meaning.specs.Packed.{policy_bits}
use Rattle.meaning.specs.Steps.{NormalPolicy}
use Rattle.packing.specs.Wrote.{Wrote}

-- behind the bits bs the normal form of the policy has been written
pub record PolicyWritten (sheet : Sheet) (policy : Policy) (o bs s : List ℕ) (p : ℕ) : Type 0 where
  pub normal : Policy
  pub is_normal : NormalPolicy sheet policy normal
  pub wrote : Wrote o (bs ++ policy_bits (kind_of sheet) normal) s p

-- behind the bits bs the normal forms of the first n policies have been written
pub record PoliciesWritten (sheet : Sheet) (n : ℕ) (o bs s : List ℕ) (p : ℕ) : Type 0 where
  pub normals : List Policy
  pub are_normal : Each (NormalPolicy sheet) (take n sheet.policies) normals
  pub wrote : Wrote o (bs ++ each (policy_bits (kind_of sheet)) normals) s p
