-- A policy written part by part, and one policy more behind those before it.
use Prim.Native.Nat.{ℕ, ◌+◌, ◌<◌, ◌≤◌}
use mathlib.Core.Path.{◌≡◌, refl, sym, ap, subst, ◌∙◌}
use mathlib.Core.Bool.{Bool, true, false, cond}
use mathlib.Core.List.{List, [], ◌∷◌, ◌++◌, append_assoc, append-nil}
use native.Mathlib.Omega.{arith}
use native.Mathlib.Numerals.{add-one}
use lib.ListN.{length, take}
use lib.Seq.{take-suc}
use Rattle.std.specs.Int.{from_bool}
use Rattle.lists.specs.Lists.{All, each, Each}
use Rattle.lists.proofs.ListLaws.{each_more, each_append}
use Rattle.lists.proofs.OrderLaws.{all_map}
use Rattle.bits.specs.Bits.{bits}
use Rattle.meaning.specs.Atoms.{Clause}
use Rattle.meaning.specs.Sheets.{Policy, Sheet, kind_of, policy_at, all}
use Rattle.meaning.specs.Packed.{selector_bits, clause_bits, policy_bits}
use Rattle.meaning.specs.Steps.{NormalClauses, NormalPolicy}
use Rattle.meaning.proofs.KeptLaws.{clauses_carry}
use Rattle.pruned.specs.Pruned.{Fits}
use Rattle.pruned.proofs.FitLaws.{normal_fits}
use Rattle.packing.specs.Wrote.{AllInFive, Wrote}
use Rattle.packing.proofs.WroteLaws.{wrote_both}
use Rattle.normal.specs.Written.{PolicyWritten, PoliciesWritten}
use Rattle.normal.proofs.KnownLaws.{fits_five}

-- the clauses of a normal form have variables of five bits
pub clauses_five : (sheet : Sheet) {cs ds : List Clause} → NormalClauses sheet cs ds → All (Fits sheet) cs → All AllInFive ds
clauses_five sheet {cs} {ds} n h = all_map (Fits sheet) AllInFive ds (fits_five sheet) (clauses_carry sheet (Fits sheet) (Fits sheet) (λ c d l k f. normal_fits sheet c d k f) n h)

pub type_is : (b : Bool) → from_bool b ≡ cond b 1 0
type_is true = refl
type_is false = refl

pub type_small : (b : Bool) → cond b 1 0 ≤ 1
type_small true = omega arith
type_small false = omega arith

-- type, commands, selector, clause count and clauses, one behind the other
pub policy_written : (sheet : Sheet) (p : Policy) (o bs s : List ℕ) (at : ℕ) (ds : List Clause) → NormalClauses sheet p.clauses ds
    → Wrote o ((((bs ++ bits 1 (cond p.restrictive 1 0)) ++ bits 4 p.commands) ++ selector_bits p.selector) ++ (bits 4 (length ds) ++ each (clause_bits (kind_of sheet)) ds)) s at
    → PolicyWritten sheet p o bs s at
policy_written sheet p o bs s at ds n w = record {
  normal = record { restrictive = p.restrictive; commands = p.commands; selector = p.selector; clauses = ds };
  is_normal = record { restrictive = refl; commands = refl; selector = refl; clauses = n };
  wrote =
      let t : List ℕ = bits 1 (cond p.restrictive 1 0) in
      let c : List ℕ = bits 4 p.commands in
      let x : List ℕ = selector_bits p.selector in
      let y : List ℕ = bits 4 (length ds) ++ each (clause_bits (kind_of sheet)) ds in
      wrote_both o bs t (c ++ (x ++ y)) s at (wrote_both o (bs ++ t) c (x ++ y) s at (wrote_both o ((bs ++ t) ++ c) x y s at w));
}

module _ (sheet : Sheet) (o bs : List ℕ) where
  pub no_policies : (s : List ℕ) (p : ℕ) → Wrote o bs s p → PoliciesWritten sheet 0 o bs s p
  no_policies s p w = record { normals = []; are_normal = Each.none; wrote = subst (λ (x : List ℕ). Wrote o x s p) (sym (append-nil bs)) w }

  -- n policies are written, up to the bits that s holds, and then one more
  pub one_policy : (n : ℕ) (s t : List ℕ) (p q : ℕ) → n < length sheet.policies → (done : PoliciesWritten sheet n o bs s p)
      → PolicyWritten sheet (policy_at sheet n) o (bs ++ each (policy_bits (kind_of sheet)) done.normals) t q → PoliciesWritten sheet (n + 1) o bs t q
  one_policy n s t p q h done one =
      let code : Policy → List ℕ = policy_bits (kind_of sheet) in
      let e : take (n + 1) sheet.policies ≡ take n sheet.policies ++ (policy_at sheet n ∷ []) =
      rw add-one (take-suc sheet.policies n (record { restrictive = false; commands = 0; selector = all; clauses = [] }) h) in
      record {
        normals = done.normals ++ (one.normal ∷ []);
        are_normal = subst (λ (ps : List Policy). Each (NormalPolicy sheet) ps (done.normals ++ (one.normal ∷ []))) (sym e) (each_more (policy_at sheet n) one.normal one.is_normal done.are_normal);
        wrote = subst (λ (x : List ℕ). Wrote o x t q)
            (append_assoc bs (each code done.normals) (code one.normal)
            ∙ ap (λ (x : List ℕ). bs ++ x) (ap (λ (x : List ℕ). each code done.normals ++ x) (sym (append-nil (code one.normal))) ∙ sym (each_append code done.normals (one.normal ∷ []))))
            one.wrote;
      }
