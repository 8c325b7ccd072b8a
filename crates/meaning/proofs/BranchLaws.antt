-- Branches: there are N of them, and a row is admitted when one of them is met.
use Prim.Native.Nat.{ℕ, suc, ◌+◌, ◌*◌}
use native.Mathlib.Nat.{suc-mul, zero-mul}
use native.Mathlib.Omega.{arith}
use mathlib.Core.Path.{◌≡◌, refl, sym, ap, ◌∙◌}
use mathlib.Core.Bool.{Bool, true, false, ◌&&◌, ◌||◌, and-false}
use mathlib.Core.List.{List, [], ◌∷◌, ◌++◌, map}
use lib.ListN.{length, length-append, length-map}
use Rattle.lists.specs.Lists.{every, any, each}
use Rattle.lists.proofs.BoolLaws.{any_append, every_append}
use Rattle.meaning.specs.Values.{Contents}
use Rattle.meaning.specs.Atoms.{Clause, met, clause_met, policy_met}
use Rattle.meaning.specs.Sheets.{Sheet, permissive, restrictive, admits, joined, choices, branches, sum, product, branch_count}

-- how many
joined_count : (cs ds : List Clause) → length (joined cs ds) ≡ length cs * length ds
joined_count [] ds = sym (zero-mul (length ds))
joined_count (c ∷ cs) ds =
    length-append (map (λ d. c ++ d) ds) (joined cs ds) ∙ ap (λ n. n + length (joined cs ds)) (length-map ds (λ d. c ++ d)) ∙ ap (λ n. length ds + n) (joined_count cs ds)
    ∙ sym (suc_mul' (length cs) (length ds))
  where
    suc_mul' : (a b : ℕ) → suc a * b ≡ b + a * b
    suc_mul' a b = suc-mul a b ∙ omega arith

flat_count : (ps : List (List Clause)) → length (each (λ cs. cs) ps) ≡ sum (map length ps)
flat_count [] = refl
flat_count (cs ∷ ps) = length-append cs (each (λ ds. ds) ps) ∙ ap (λ n. length cs + n) (flat_count ps)

choices_count : (rs : List (List Clause)) → length (choices rs) ≡ product (map length rs)
choices_count [] = refl
choices_count (cs ∷ rs) = joined_count cs (choices rs) ∙ ap (λ n. length cs * n) (choices_count rs)

pub branches_counted : (sheet : Sheet) (t command : ℕ) → length (branches sheet t command) ≡ branch_count sheet t command
unfolding branches branch_count
branches_counted sheet t command =
    joined_count (each (λ cs. cs) (permissive sheet t command)) (choices (restrictive sheet t command))
    ∙ ap (λ n. n * length (choices (restrictive sheet t command))) (flat_count (permissive sheet t command))
    ∙ ap (λ n. sum (map length (permissive sheet t command)) * n) (choices_count (restrictive sheet t command))

-- which is met
module _ (e : Contents) where
  with_one : (c : Clause) (ds : List Clause) → any (clause_met e) (map (λ d. c ++ d) ds) ≡ (clause_met e c && any (clause_met e) ds)
  with_one c [] = sym (and-false (clause_met e c))
  with_one c (d ∷ ds) = ap (λ b. b || any (clause_met e) (map (λ x. c ++ x) ds)) (every_append (met e) c d) ∙ ap (λ b. (clause_met e c && clause_met e d) || b) (with_one c ds) ∙ spread (clause_met e c) (clause_met e d) (any (clause_met e) ds)
    where
      spread : (a b d : Bool) → ((a && b) || (a && d)) ≡ (a && (b || d))
      spread true b d = refl
      spread false b d = refl

  joined_met : (cs ds : List Clause) → any (clause_met e) (joined cs ds) ≡ (any (clause_met e) cs && any (clause_met e) ds)
  joined_met [] ds = refl
  joined_met (c ∷ cs) ds = any_append (clause_met e) (map (λ d. c ++ d) ds) (joined cs ds) ∙ ap (λ b. b || any (clause_met e) (joined cs ds)) (with_one c ds) ∙ ap (λ b. (clause_met e c && any (clause_met e) ds) || b) (joined_met cs ds) ∙ gather (clause_met e c) (any (clause_met e) cs) (any (clause_met e) ds)
    where
      gather : (a b d : Bool) → ((a && d) || (b && d)) ≡ ((a || b) && d)
      gather true true true = refl
      gather true true false = refl
      gather true false true = refl
      gather true false false = refl
      gather false b d = refl

  flat_met : (ps : List (List Clause)) → any (clause_met e) (each (λ cs. cs) ps) ≡ any (policy_met e) ps
  flat_met [] = refl
  flat_met (cs ∷ ps) = any_append (clause_met e) cs (each (λ ds. ds) ps) ∙ ap (λ b. policy_met e cs || b) (flat_met ps)

  choices_met : (rs : List (List Clause)) → any (clause_met e) (choices rs) ≡ every (policy_met e) rs
  choices_met [] = refl
  choices_met (cs ∷ rs) = joined_met cs (choices rs) ∙ ap (λ b. policy_met e cs && b) (choices_met rs)

pub branches_admit : (sheet : Sheet) (t command : ℕ) (e : Contents) → any (clause_met e) (branches sheet t command) ≡ admits sheet t command e
unfolding branches
branches_admit sheet t command e =
    joined_met e (each (λ cs. cs) (permissive sheet t command)) (choices (restrictive sheet t command))
    ∙ ap (λ b. b && any (clause_met e) (choices (restrictive sheet t command))) (flat_met e (permissive sheet t command))
    ∙ ap (λ b. any (policy_met e) (permissive sheet t command) && b) (choices_met e (restrictive sheet t command))
