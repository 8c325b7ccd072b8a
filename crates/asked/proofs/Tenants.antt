-- When two sessions of different tenants meet laid clauses, free of code. Assumes nothing.
use Prim.Native.Nat.{ℕ}
use mathlib.Core.Path.{◌≡◌, refl, ◌∙◌, ap}
use mathlib.Core.Bool.{Bool, true, false}
use mathlib.Core.List.{List}
use Rattle.words.specs.Meaning.{atoms}
use Rattle.reach.specs.Solution as search
use Rattle.meaning.specs.Atoms.{clause_met}
use Rattle.asked.specs.Words.{word_atoms, slot_of}
use Rattle.asked.specs.Asked.{TellsLeak}
use Rattle.asked.proofs.Shared.{told_parted}

pub leaks_told : (words s top : List ℕ) (n : ℕ) (r : Bool) → word_atoms s (atoms s) ≡ word_atoms words n → search.Parts s top 16 24 r → TellsLeak words n top r
unfolding slot_of
leaks_told words s top n r l h held sheet a b w g ua ub t =
    told_parted held sheet s top a b (λ m. ap (clause_met m) (l ∙ w)) g ua ub 16 24 false true 16 16 t t refl refl r h
