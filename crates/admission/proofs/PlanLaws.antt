-- A plan of the policies that count says who is admitted, and stays what it is while others are laid elsewhere.
use Prim.Native.Nat.{ℕ, ◌+◌, ◌-◌, ◌*◌, ◌<◌, ◌≤◌}
use native.Mathlib.Decide.{dec_lt}
use native.Mathlib.Omega.{arith}
use mathlib.Core.Path.{◌≡◌, refl, sym, ap, subst, ◌∙◌}
use mathlib.Core.Bool.{Bool, ◌&&◌, ◌||◌}
use mathlib.Core.List.{List, [], ◌∷◌, ◌++◌}
use lib.ListN.{length, get_or, set, length-append, get_or-append}
use lib.Seq.{get_or-append-add, get_or-set_same, get_or-set_other}
use Rattle.lists.specs.Lists.{any, every, each}
use Rattle.lists.proofs.BoolLaws.{any_append}
use Rattle.meaning.specs.Values.{Kind, Contents}
use Rattle.meaning.specs.Atoms.{Clause, clause_met, policy_met}
use Rattle.meaning.specs.Sheets.{Sheet, permissive, restrictive, admits}
use Rattle.admission.specs.Plan.{count_of, place_of, ClauseLaid, ClausesLaid, slot_of, PoliciesLaid}
use Rattle.admission.proofs.ClauseLaws.{words_same}

any_each : {A B : Type 0} (f : B → Bool) (g : A → List B) (xs : List A) → any f (each g xs) ≡ any (λ x. any f (g x)) xs
any_each f g [] = refl
any_each f g (x ∷ xs) = any_append f (g x) (each g xs) ∙ ap (λ b. any f (g x) || b) (any_each f g xs)

-- one of the permissive policies is met where one of their clauses is
pub plan_admits : (sheet : Sheet) (t command : ℕ) (e : Contents) {r : Bool} → r ≡ (policy_met e (each (λ cs. cs) (permissive sheet t command)) && every (policy_met e) (restrictive sheet t command)) → r ≡ admits sheet t command e
plan_admits sheet t command e h = h ∙ ap (λ b. b && every (policy_met e) (restrictive sheet t command)) (any_each (clause_met e) (λ cs. cs) (permissive sheet t command))

-- numbers that stand the same from `from` up to `end`
abbrev pub Same : ℕ → ℕ → List ℕ → List ℕ → Type 0
Same from end before after = (j : ℕ) → from ≤ j → j < end → get_or after j 0 ≡ get_or before j 0

module _ (kind : ℕ → Kind) (s ws : List ℕ) (after : List ℕ) where
  pub clause_kept : (slot head : ℕ) (c : Clause) → Same (slot * 8) (slot * 8 + 8) ws after → ClauseLaid kind s ws slot head c → ClauseLaid kind s after slot head c
  clause_kept slot head c same L =
      let few = L.few in
      record {
        few = few;
        atoms = words_same kind s ws after (slot * 8) (place_of head) (count_of head) (λ j l m. same j l (omega arith)) ∙ L.atoms;
        opens = L.opens;
      }

  pub clauses_kept : (heads headsAfter : List ℕ) (from end : ℕ) (cs : List Clause) → Same (from * 8) (end * 8) ws after → Same from end heads headsAfter → ClausesLaid kind s ws heads from end cs → ClausesLaid kind s after headsAfter from end cs
  clauses_kept heads headsAfter from end cs words-kept heads-kept L =
      let n = L.size in
      record {
        size = n;
        each = λ k l. subst (λ head. ClauseLaid kind s after (from + k) head (get_or cs k [])) (sym (heads-kept (from + k) (omega arith) (omega arith)))
            (clause_kept (from + k) (get_or heads (from + k) 0) (get_or cs k []) (λ j a b. words-kept j (omega arith) (omega arith)) (L.each k l));
      }

-- clauses behind clauses
module _ (kind : ℕ → Kind) (s ws heads : List ℕ) where
  pub clauses_join : (from mid end : ℕ) (cs ds : List Clause) → ClausesLaid kind s ws heads from mid cs → ClausesLaid kind s ws heads mid end ds → ClausesLaid kind s ws heads from end (cs ++ ds)
  clauses_join from mid end cs ds L M =
      let n = L.size in
      let m = M.size in
      let sum = length-append cs ds in
      record { size = omega arith; each = λ k l. go k (omega arith) (dec_lt k (length cs)) }
    where
      go : (k : ℕ) → k < length cs + length ds → Dec (k < length cs) → ClauseLaid kind s ws (from + k) (get_or heads (from + k) 0) (get_or (cs ++ ds) k [])
      go k l (yes a) = subst (ClauseLaid kind s ws (from + k) (get_or heads (from + k) 0)) (sym (get_or-append cs ds [] k a)) (L.each k a)
      go k l (no a) =
          let n = L.size in
          let z : mid + (k - length cs) ≡ from + k = omega arith in
          let i : length cs + (k - length cs) ≡ k = omega arith in
          let e : get_or (cs ++ ds) k [] ≡ get_or ds (k - length cs) [] = ap (λ j. get_or (cs ++ ds) j []) (sym i) ∙ get_or-append-add cs ds (k - length cs) [] in
          subst (ClauseLaid kind s ws (from + k) (get_or heads (from + k) 0)) (sym e) (subst (λ j. ClauseLaid kind s ws j (get_or heads j 0) (get_or ds (k - length cs) [])) z (M.each (k - length cs) (omega arith)))

  -- a policy behind policies, its count written behind theirs
  pub policies_more : (counts : List ℕ) (n m : ℕ) (ps : List (List Clause)) (cs : List Clause) → n < length counts → m ≤ 8 → PoliciesLaid kind s ws heads counts n ps → ClausesLaid kind s ws heads (slot_of n) (slot_of n + m) cs →
      PoliciesLaid kind s ws heads (set counts n m) (n + 1) (ps ++ (cs ∷ []))
  policies_more counts n m ps cs room few L M =
      let size = L.size in
      record {
        size = length-append ps (cs ∷ []) ∙ omega arith;
        few = λ i l. fits i (dec_lt i n) l;
        each = λ i l. go i (dec_lt i n) l;
      }
    where
      here : (i : ℕ) → i ≡ n → get_or (set counts n m) i 0 ≡ m
      here i e = ap (λ j. get_or (set counts n m) j 0) e ∙ get_or-set_same counts n m 0 room

      fits : (i : ℕ) → Dec (i < n) → i < n + 1 → get_or (set counts n m) i 0 ≤ 8
      fits i (yes a) l = let e = get_or-set_other counts n i m 0 (λ z. omega arith) in let f = L.few i a in omega arith
      fits i (no a) l = let e = here i (omega arith) in omega arith

      go : (i : ℕ) → Dec (i < n) → i < n + 1 → ClausesLaid kind s ws heads (slot_of i) (slot_of i + get_or (set counts n m) i 0) (get_or (ps ++ (cs ∷ [])) i [])
      go i (yes a) l =
          let size = L.size in
          let e = get_or-set_other counts n i m 0 (λ z. omega arith) in
          subst (λ j. ClausesLaid kind s ws heads (slot_of i) (slot_of i + j) (get_or (ps ++ (cs ∷ [])) i [])) (sym e) (subst (ClausesLaid kind s ws heads (slot_of i) (slot_of i + get_or counts i 0)) (sym (get_or-append ps (cs ∷ []) [] i (omega arith))) (L.each i a))
      go i (no a) l =
          let size = L.size in
          let is : n ≡ i = omega arith in
          let e = here i (sym is) in
          let f : get_or (ps ++ (cs ∷ [])) i [] ≡ cs = ap (λ j. get_or (ps ++ (cs ∷ [])) j []) (let z : i ≡ length ps + 0 = omega arith in z) ∙ get_or-append-add ps (cs ∷ []) 0 [] in
          subst (λ j. ClausesLaid kind s ws heads (slot_of i) (slot_of i + j) (get_or (ps ++ (cs ∷ [])) i [])) (sym e) (subst (ClausesLaid kind s ws heads (slot_of i) (slot_of i + m)) (sym f) (subst (λ j. ClausesLaid kind s ws heads (slot_of j) (slot_of j + m) cs) is M))

-- policies whose clauses and counts stand the same
pub policies_kept : (kind : ℕ → Kind) (s ws after heads headsAfter counts : List ℕ) (n : ℕ) (ps : List (List Clause)) → n ≤ 16 → Same ((128 - 8 * n) * 8) 1024 ws after → Same (128 - 8 * n) 128 heads headsAfter →
    PoliciesLaid kind s ws heads counts n ps → PoliciesLaid kind s after headsAfter counts n ps
policies_kept kind s ws after heads headsAfter counts n ps few words-kept heads-kept L =
    record {
      size = L.size;
      few = L.few;
      each = λ i l. let m = L.few i l in
          clauses_kept kind s ws after heads headsAfter (slot_of i) (slot_of i + get_or counts i 0) (get_or ps i []) (λ j a b. words-kept j (omega arith) (omega arith)) (λ j a b. heads-kept j (omega arith) (omega arith)) (L.each i l);
    }
