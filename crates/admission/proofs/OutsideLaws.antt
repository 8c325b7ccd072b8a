-- What is written between two numbers leaves alone what stands outside them.
use Prim.Native.Nat.{ℕ, ◌<◌, ◌≤◌}
use native.Mathlib.Omega.{arith}
use mathlib.Core.Path.{refl, ◌∙◌}
use mathlib.Core.List.{List}
use lib.ListN.{set}
use lib.Seq.{get_or-set_other}
use Rattle.admission.specs.Plan.{Outside}

pub nothing_written : (from end : ℕ) (xs : List ℕ) → Outside from end xs xs
nothing_written from end xs = record { below = λ i l. refl; above = λ i l. refl }

pub one_written : {from end : ℕ} {xs ys : List ℕ} → Outside from end xs ys → (i v : ℕ) → from ≤ i → i < end → Outside from end xs (set ys i v)
one_written {from} {end} {xs} {ys} h i v a b =
    record {
      below = λ j l. get_or-set_other ys i j v 0 (λ z. omega arith) ∙ h.below j l;
      above = λ j l. get_or-set_other ys i j v 0 (λ z. omega arith) ∙ h.above j l;
    }

pub then_written : {from end a b : ℕ} {xs ys zs : List ℕ} → Outside from end xs ys → Outside a b ys zs → from ≤ a → b ≤ end → Outside from end xs zs
then_written h g l m =
    record {
      below = λ j n. g.below j (omega arith) ∙ h.below j n;
      above = λ j n. g.above j (omega arith) ∙ h.above j n;
    }
