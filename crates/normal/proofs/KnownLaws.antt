-- What a directory tells of its sheet: the kinds of the variables, and that a packed part of the sheet is what stands in its bytes.
use Prim.Native.Nat.{ℕ, ◌+◌, ◌-◌, ◌^◌, ◌<◌, ◌≤◌}
use mathlib.Core.Path.{◌≡◌, refl, sym, ap, ◌∙◌}
use mathlib.Core.Bool.{Bool, true, false, cond}
use mathlib.Core.List.{List, [], ◌∷◌}
use native.Mathlib.Omega.{arith}
use lib.ListN.{length, get_or, get_or-eq_default}
use lib.Dec.{ltb}
use borrow.Author.Tests.{ltb-true, ltb-false}
use Rattle.lists.proofs.OrderLaws.{all_map}
use Rattle.bits.specs.Bits.{number, bits}
use Rattle.bits.proofs.BitLaws.{bits_length}
use Rattle.bits.proofs.StandLaws.{Stands, Written, stands_number}
use Rattle.meaning.specs.Values.{Kind, integer, token, boolean, kind_number}
use Rattle.meaning.specs.Atoms.{Clause}
use Rattle.meaning.specs.Sheets.{Sheet, kind_of, second}
use Rattle.meaning.specs.Views.{KindsAre}
use Rattle.asked.specs.Asked.{There, every_column}
use Rattle.steps.specs.Lists.{kind_from, kind_by}
use Rattle.pruned.specs.Pruned.{Fits}
use Rattle.packing.specs.Wrote.{InFive, AllInFive}

kind_back : (k : Kind) → kind_from (kind_number k) ≡ k
kind_back integer = refl
kind_back token = refl
kind_back boolean = refl

-- the kinds by their numbers are the sheet's
module _ (sheet : Sheet) (kinds : List ℕ) (k : KindsAre sheet kinds) (n : length kinds ≡ 24) (h : length sheet.keys ≤ 8) where
  kind_is : (v : ℕ) → kind_by kinds v ≡ kind_of sheet v
  unfolding kind_by
  kind_is v = go (ltb v 16) refl (ltb v 24) refl
    where
      go : (a : Bool) → ltb v 16 ≡ a → (b : Bool) → ltb v 24 ≡ b → kind_from (get_or kinds v 0) ≡ cond a (get_or sheet.columns v integer) (get_or sheet.keys (v - 16) integer)
      go true e b f = ap kind_from (k.columns v (ltb-true v 16 e)) ∙ kind_back (get_or sheet.columns v integer)
      go false e true f =
          let l : 16 ≤ v = ltb-false v 16 e in
          let m : v < 24 = ltb-true v 24 f in
          let i : v - 16 + 16 ≡ v = omega arith in
          ap (λ (z : ℕ). kind_from (get_or kinds z 0)) (sym i) ∙ ap kind_from (k.keys (v - 16) (omega arith)) ∙ kind_back (get_or sheet.keys (v - 16) integer)
      go false e false f =
          let m : 24 ≤ v = ltb-false v 24 f in
          ap kind_from (get_or-eq_default kinds 0 {n = v} (omega arith)) ∙ sym (get_or-eq_default sheet.keys integer {n = v - 16} (omega arith))

  pub kinds_known : kind_by kinds ≡ kind_of sheet
  kinds_known = λ i v. kind_is v i

-- what stands from p to q in s is the number that its bits spell
stands_one : (s : List ℕ) (p : ℕ) (a b : List ℕ) → Stands s p a → Stands s p b → length a ≡ length b → a ≡ b
stands_one s p [] [] h k e = refl
stands_one s p [] (y ∷ b) h k e = absurd (omega arith)
stands_one s p (x ∷ a) [] h k e = absurd (omega arith)
stands_one s p (x ∷ a) (y ∷ b) h k e = ap (λ z. z ∷ a) (sym h.0 ∙ k.0) ∙ ap (λ z. y ∷ z) (stands_one s (p + 1) a b h.1 k.1 (omega arith))

pub standing : (s : List ℕ) (p q : ℕ) (cs : List ℕ) → Written s p q cs → bits (q - p) (number s p (q - p)) ≡ cs
standing s p q cs w =
    let e : q ≡ p + length cs = w.ended in
    let l : q - p ≡ length cs = omega arith in
    stands_one s p (bits (q - p) (number s p (q - p))) cs (stands_number s (q - p) p) w.stand (bits_length (q - p) (number s p (q - p)) ∙ l)

-- the variables of a sheet have five bits
pub fits_five : (sheet : Sheet) (c : Clause) → Fits sheet c → AllInFive c
fits_five sheet c h = all_map _ InFive c (λ a k. all_map (There (every_column sheet) sheet) (λ v. v < 2 ^ 5) (a.variable ∷ second a.operator) (λ v t. let l : v < 24 = t.number in omega arith) k) h
