-- Laying the policies that count: clause by clause, policy by policy.
use Prim.Native.Nat.{ℕ, zero, suc, ◌+◌, ◌*◌, ◌<◌, ◌≤◌}
use native.Mathlib.Omega.{arith}
use mathlib.Core.Path.{◌≡◌, refl, sym, ap, subst, ◌∙◌}
use mathlib.Core.Bool.{Bool, true, false, cond, ◌&&◌}
use mathlib.Core.List.{List, [], ◌∷◌, ◌++◌, map, append-nil}
use lib.ListN.{length, get_or, take, set}
use lib.Seq.{take_all, get_or-set_same, get_or-set_other}
use Rattle.std.proofs.lemmas.List.{map-append, take_more}
use Rattle.lists.specs.Lists.{keep, each}
use Rattle.lists.proofs.ListLaws.{each_append}
use Rattle.meaning.specs.Values.{Kind}
use Rattle.meaning.specs.Atoms.{Clause}
use Rattle.meaning.specs.Sheets as m
use Rattle.meaning.specs.Packed.{packed}
use Rattle.meaning.specs.Reading.{found, clause}
use Rattle.meaning.specs.Allowed.{facts_of}
use Rattle.meaning.specs.Sheets.{Policy, Sheet, kind_of, policy_at, applies, permissive, restrictive}
use Rattle.admission.specs.Plan.{ClauseLaid, ClausesLaid, slot_of, PoliciesLaid, PlanLaid, Outside}
use Rattle.admission.specs.declared.plan.Plan.{Plan}
use Rattle.listing.specs.Ready.{PlanOf}
use Rattle.admission.proofs.PlanLaws.{clauses_kept, clauses_join, policies_more, policies_kept}

pub keep_append : {A : Type 0} (f : A → Bool) (xs ys : List A) → keep f (xs ++ ys) ≡ keep f xs ++ keep f ys
keep_append f [] ys = refl
keep_append f (x ∷ xs) ys = go (f x) (keep_append f xs ys)
  where
    go : (b : Bool) → keep f (xs ++ ys) ≡ keep f xs ++ keep f ys → cond b (x ∷ keep f (xs ++ ys)) (keep f (xs ++ ys)) ≡ cond b (x ∷ keep f xs) (keep f xs) ++ keep f ys
    go true ih = ap (λ l. x ∷ l) ih
    go false ih = ih

-- a clause is laid where it stands packed
pub clause_laid : (sheet : Sheet) (p : ℕ) {s ws : List ℕ} {slot head : ℕ} (c : Clause) → s ≡ packed sheet → length (packed sheet) ≤ 16384
    → ((facts : Sheet) (c : Clause) (q : ℕ) → length s ≤ 16384 → clause facts s p ≡ found c q → ClauseLaid (kind_of facts) s ws slot head c) → (q : ℕ) × (clause (facts_of sheet) (packed sheet) p ≡ found c q) → ClauseLaid (kind_of sheet) (packed sheet) ws slot head c
clause_laid sheet p {s} {ws} {slot} {head} c e short laid r =
    subst (λ s. length s ≤ 16384 → clause (facts_of sheet) s p ≡ found c r.0 → ClauseLaid (kind_of sheet) s ws slot head c) e (laid (facts_of sheet) c r.0) short r.1

-- k clauses of a policy are laid from a slot on
module _ (kind : ℕ → Kind) (s : List ℕ) (slot : ℕ) (cs : List Clause) where
  pub clauses_start : (ws heads : List ℕ) → ClausesLaid kind s ws heads slot (slot + 0) (take 0 cs)
  clauses_start ws heads = record { size = refl; each = λ k l. absurd (omega arith) }

  pub clauses_on : (k head : ℕ) (ws after heads : List ℕ) → k < length cs → slot + k < length heads → Outside ((slot + k) * 8) ((slot + k) * 8 + 8) ws after → ClauseLaid kind s after (slot + k) head (get_or cs k []) →
      ClausesLaid kind s ws heads slot (slot + k) (take k cs) → ClausesLaid kind s after (set heads (slot + k) head) slot (slot + (k + 1)) (take (k + 1) cs)
  clauses_on k head ws after heads l room w new L =
      subst (ClausesLaid kind s after (set heads (slot + k) head) slot (slot + (k + 1))) (sym (take_more cs k [] l))
      (clauses_join kind s after (set heads (slot + k) head) slot (slot + k) (slot + (k + 1)) (take k cs) (get_or cs k [] ∷ []) kept one)
    where
      kept : ClausesLaid kind s after (set heads (slot + k) head) slot (slot + k) (take k cs)
      kept = clauses_kept kind s ws after heads (set heads (slot + k) head) slot (slot + k) (take k cs) (λ j a b. w.below j (omega arith)) (λ j a b. get_or-set_other heads (slot + k) j head 0 (λ z. omega arith)) L

      here : (i : ℕ) → i < 1 → ClauseLaid kind s after (slot + k + i) (get_or (set heads (slot + k) head) (slot + k + i) 0) (get_or (get_or cs k [] ∷ []) i [])
      here zero m =
          let z : slot + k ≡ slot + k + 0 = omega arith in
          subst (λ j. ClauseLaid kind s after j (get_or (set heads (slot + k) head) j 0) (get_or cs k [])) z (subst (λ h. ClauseLaid kind s after (slot + k) h (get_or cs k [])) (sym (get_or-set_same heads (slot + k) head 0 room)) new)
      here (suc i) m = absurd (omega arith)

      one : ClausesLaid kind s after (set heads (slot + k) head) (slot + k) (slot + (k + 1)) (get_or cs k [] ∷ [])
      one = record { size = omega arith; each = here }

  pub clauses_done : (k n : ℕ) (ws heads : List ℕ) → k ≡ n → length cs ≤ k → ClausesLaid kind s ws heads slot (slot + k) (take k cs) → ClausesLaid kind s ws heads slot (slot + n) cs
  clauses_done k n ws heads e l L = subst (λ m. ClausesLaid kind s ws heads slot (slot + m) cs) e (subst (ClausesLaid kind s ws heads slot (slot + k)) (take_all k cs l) L)

-- the clauses of those of the first p policies that pass a test
abbrev chosen : Sheet → (Policy → Bool) → ℕ → List (List Clause)
chosen sheet f p = map (λ x. x.clauses) (keep f (take p sheet.policies))

module _ (sheet : Sheet) (f : Policy → Bool) (p : ℕ) (l : p < length sheet.policies) where
  one_more : keep f (take (p + 1) sheet.policies) ≡ keep f (take p sheet.policies) ++ cond (f (policy_at sheet p)) (policy_at sheet p ∷ []) []
  one_more = ap (keep f) (take_more sheet.policies p (record { restrictive = false; commands = 0; selector = m.all; clauses = [] }) l) ∙ keep_append f (take p sheet.policies) (policy_at sheet p ∷ [])

  chosen_more : f (policy_at sheet p) ≡ true → chosen sheet f (p + 1) ≡ chosen sheet f p ++ ((policy_at sheet p).clauses ∷ [])
  chosen_more t = ap (map (λ x. x.clauses)) (one_more ∙ ap (λ b. keep f (take p sheet.policies) ++ cond b (policy_at sheet p ∷ []) []) t) ∙ map-append (λ x. x.clauses) (keep f (take p sheet.policies)) (policy_at sheet p ∷ [])

  chosen_same : f (policy_at sheet p) ≡ false → chosen sheet f (p + 1) ≡ chosen sheet f p
  chosen_same t = ap (map (λ x. x.clauses)) (one_more ∙ ap (λ b. keep f (take p sheet.policies) ++ cond b (policy_at sheet p ∷ []) []) t ∙ append-nil (keep f (take p sheet.policies)))

-- the first p policies are laid, those that count
abbrev permits : Sheet → ℕ → ℕ → Policy → Bool
permits sheet t command x = cond x.restrictive false (applies sheet t command x)

abbrev restricts : Sheet → ℕ → ℕ → Policy → Bool
restricts sheet t command x = x.restrictive && applies sheet t command x

abbrev Laid : Sheet → (ws heads counts : List ℕ) → (some all : ℕ) → List (List Clause) → List (List Clause) → Type 0
Laid sheet ws heads counts some all cs ps = ClausesLaid (kind_of sheet) (packed sheet) ws heads 0 some (each (λ cs. cs) cs) × PoliciesLaid (kind_of sheet) (packed sheet) ws heads counts all ps

abbrev pub PlanTo : Sheet → ℕ → ℕ → ℕ → (ws heads counts : List ℕ) → (some all : ℕ) → Type 0
PlanTo sheet t command p ws heads counts some all = Laid sheet ws heads counts some all (chosen sheet (permits sheet t command) p) (chosen sheet (restricts sheet t command) p)

pub plan_start : (sheet : Sheet) (t command : ℕ) (ws heads counts : List ℕ) → PlanTo sheet t command 0 ws heads counts 0 0
plan_start sheet t command ws heads counts =
    (record { size = refl; each = λ k l. absurd (omega arith) }, record { size = refl; few = λ i l. absurd (omega arith); each = λ i l. absurd (omega arith) })

pub plan_done : (sheet : Sheet) (t command p : ℕ) (plan : Plan) → length sheet.policies ≤ p → PlanTo sheet t command p plan.words plan.heads plan.counts plan.some plan.all → PlanOf sheet t command plan
plan_done sheet t command p plan l g =
    subst (λ ps. PlanLaid (kind_of sheet) (packed sheet) plan (each (λ cs. cs) (map (λ x. x.clauses) (keep (permits sheet t command) ps))) (map (λ x. x.clauses) (keep (restricts sheet t command) ps))) (take_all p sheet.policies l) (record { permissive = g.0; restrictive = g.1 })

shut : (b : Bool) → cond b false false ≡ false
shut true = refl
shut false = refl

never : (b : Bool) → (b && false) ≡ false
never true = refl
never false = refl

module _ (sheet : Sheet) (t command p : ℕ) (ws heads counts : List ℕ) (some all : ℕ) (l : p < length sheet.policies) (g : PlanTo sheet t command p ws heads counts some all) where
  abbrev x : Policy
  x = policy_at sheet p

  -- a policy that does not count
  pub plan_skip : {b : Bool} → b ≡ applies sheet t command x → b ≡ false → PlanTo sheet t command (p + 1) ws heads counts some all
  plan_skip e h =
      let is : applies sheet t command x ≡ false = sym e ∙ h in
      let a = chosen_same sheet (permits sheet t command) p l (ap (λ b. cond x.restrictive false b) is ∙ shut x.restrictive) in
      let r = chosen_same sheet (restricts sheet t command) p l (ap (λ b. x.restrictive && b) is ∙ never x.restrictive) in
      subst (λ cs. Laid sheet ws heads counts some all cs (chosen sheet (restricts sheet t command) (p + 1))) (sym a) (subst (Laid sheet ws heads counts some all (chosen sheet (permits sheet t command) p)) (sym r) g)

  module _ {b : Bool} (e : b ≡ applies sheet t command x) (h : b ≡ true) {c : Bool} (type : c ≡ x.restrictive) (i : p < 16) (near : some + 8 * all ≤ 8 * p) where
    is : applies sheet t command x ≡ true
    is = sym e ∙ h

    -- one that restricts has its own slots
    pub plan_restricts : (m : ℕ) (after headsAfter : List ℕ) → c ≡ true → all < length counts → m ≤ 8 → Outside (slot_of all * 8) (slot_of all * 8 + 64) ws after → Outside (slot_of all) (slot_of all + 8) heads headsAfter →
        ClausesLaid (kind_of sheet) (packed sheet) after headsAfter (slot_of all) (slot_of all + m) x.clauses → PlanTo sheet t command (p + 1) after headsAfter (set counts all m) some (all + 1)
    plan_restricts m after headsAfter so room few w v new =
        let r : x.restrictive ≡ true = sym type ∙ so in
        let a = chosen_same sheet (permits sheet t command) p l (ap (λ b. cond b false (applies sheet t command x)) r) in
        let d = chosen_more sheet (restricts sheet t command) p l ((λ y. r y && is y)) in
        subst (λ cs. Laid sheet after headsAfter (set counts all m) some (all + 1) cs (chosen sheet (restricts sheet t command) (p + 1))) (sym a) (subst (Laid sheet after headsAfter (set counts all m) some (all + 1) (chosen sheet (permits sheet t command) p)) (sym d) (
          clauses_kept (kind_of sheet) (packed sheet) ws after heads headsAfter 0 some (each (λ cs. cs) (chosen sheet (permits sheet t command) p)) (λ j a b. w.below j (omega arith)) (λ j a b. v.below j (omega arith)) g.0,
          policies_more (kind_of sheet) (packed sheet) after headsAfter counts all m (chosen sheet (restricts sheet t command) p) x.clauses room few
              (policies_kept (kind_of sheet) (packed sheet) ws after heads headsAfter counts all (chosen sheet (restricts sheet t command) p) (omega arith) (λ j a b. w.above j (omega arith)) (λ j a b. v.above j (omega arith)) g.1)
              new,
        ))

    -- one that permits stands behind those that do
    pub plan_permits : (m : ℕ) (after headsAfter : List ℕ) → c ≡ false → Outside (some * 8) (some * 8 + 64) ws after → Outside some (some + 8) heads headsAfter →
        ClausesLaid (kind_of sheet) (packed sheet) after headsAfter some (some + m) x.clauses → PlanTo sheet t command (p + 1) after headsAfter counts (some + m) all
    plan_permits m after headsAfter so w v new =
        let r : x.restrictive ≡ false = sym type ∙ so in
        let a = chosen_more sheet (permits sheet t command) p l ((λ y. cond (r y) false (is y))) in
        let d = chosen_same sheet (restricts sheet t command) p l (ap (λ b. b && applies sheet t command x) r) in
        let f : each (λ cs. cs) (chosen sheet (permits sheet t command) (p + 1)) ≡ each (λ cs. cs) (chosen sheet (permits sheet t command) p) ++ x.clauses =
        ap (each (λ cs. cs)) a ∙ each_append (λ cs. cs) (chosen sheet (permits sheet t command) p) (x.clauses ∷ []) ∙ ap (λ cs. each (λ cs. cs) (chosen sheet (permits sheet t command) p) ++ cs) (append-nil x.clauses) in (
          subst (ClausesLaid (kind_of sheet) (packed sheet) after headsAfter 0 (some + m)) (sym f) (clauses_join (kind_of sheet) (packed sheet) after headsAfter 0 some (some + m) (each (λ cs. cs) (chosen sheet (permits sheet t command) p)) x.clauses
              (clauses_kept (kind_of sheet) (packed sheet) ws after heads headsAfter 0 some (each (λ cs. cs) (chosen sheet (permits sheet t command) p)) (λ j a b. w.below j (omega arith)) (λ j a b. v.below j (omega arith)) g.0)
              new),
          subst (PoliciesLaid (kind_of sheet) (packed sheet) after headsAfter counts all) (sym d)
              (policies_kept (kind_of sheet) (packed sheet) ws after heads headsAfter counts all (chosen sheet (restricts sheet t command) p) (omega arith) (λ j a b. w.above j (omega arith)) (λ j a b. v.above j (omega arith)) g.1),
        )
