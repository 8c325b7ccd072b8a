-- A value, and a list of values, is known by its bits.
use Prim.Native.Nat.{ℕ, ◌+◌, ◌-◌, ◌^◌}
use native.Mathlib.Omega.{arith}
use mathlib.Core.Path.{◌≡◌, refl, ap, ◌∙◌}
use mathlib.Core.Bool.{Bool, true, false, cond}
use mathlib.Core.List.{List, [], ◌∷◌}
use lib.ListN.{length}
use lib.Dec.{ltb}
use borrow.Author.Tests.{ltb-true, ltb-false}
use Rattle.lists.specs.Lists.{each}
use Rattle.bits.proofs.BitLaws.{fields}
use Rattle.meaning.specs.Values.{Kind, integer, token, boolean, raw}
use Rattle.meaning.specs.Packed.{value_bits}

pub raw_same : (k : Kind) (m n : ℕ) → raw k m ≡ raw k n → m ≡ n
raw_same token m n e = e
raw_same boolean m n e = e
raw_same integer m n e = go (ltb m (2 ^ 63)) refl (ltb m (2 ^ 64)) refl (ltb n (2 ^ 63)) refl (ltb n (2 ^ 64)) refl e
  where
    go : (a : Bool) → ltb m (2 ^ 63) ≡ a → (b : Bool) → ltb m (2 ^ 64) ≡ b → (c : Bool) → ltb n (2 ^ 63) ≡ c → (d : Bool) → ltb n (2 ^ 64) ≡ d →
        cond a (m + 2 ^ 63) (cond b (m - 2 ^ 63) m) ≡ cond c (n + 2 ^ 63) (cond d (n - 2 ^ 63) n) → m ≡ n
    go true p b q true r d s h = omega arith
    go true p b q false r true s h = omega (arith, ltb-true m (2 ^ 63) p, ltb-false n (2 ^ 63) r, ltb-true n (2 ^ 64) s)
    go true p b q false r false s h = omega (arith, ltb-true m (2 ^ 63) p, ltb-false n (2 ^ 64) s)
    go false p true q true r d s h = omega (arith, ltb-false m (2 ^ 63) p, ltb-true m (2 ^ 64) q, ltb-true n (2 ^ 63) r)
    go false p true q false r true s h = omega (arith, ltb-false m (2 ^ 63) p, ltb-false n (2 ^ 63) r)
    go false p true q false r false s h = omega (arith, ltb-true m (2 ^ 64) q, ltb-false n (2 ^ 64) s)
    go false p false q true r d s h = omega (arith, ltb-false m (2 ^ 64) q, ltb-true n (2 ^ 63) r)
    go false p false q false r true s h = omega (arith, ltb-false m (2 ^ 64) q, ltb-true n (2 ^ 64) s)
    go false p false q false r false s h = h

pub values_same : (k : Kind) (ms ns : List ℕ) → length ms ≡ length ns → each (value_bits k) ms ≡ each (value_bits k) ns → ms ≡ ns
values_same k [] [] h e = refl
values_same k [] (n ∷ ns) h e = absurd (omega arith)
values_same k (m ∷ ms) [] h e = absurd (omega arith)
values_same k (m ∷ ms) (n ∷ ns) h e =
    let r = fields 63 (raw k m) (raw k n) (each (value_bits k) ms) (each (value_bits k) ns) e in
    ap (λ z. z ∷ ms) (raw_same k m n r.0) ∙ ap (λ z. n ∷ z) (values_same k ms ns (omega arith) r.1)
