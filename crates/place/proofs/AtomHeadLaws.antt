-- An atom's head, read field by field at a lent place and judged as it is reached, is the head of the definitions' atom.
use Rattle.std.proofs.Common.{ℕ, ◌+◌, ◌-◌, ◌<◌, ◌≤◌, ◌≡◌, refl, sym, ap, ◌∙◌, Bool, true, false, cond, List, length, get_or, ltb, Ok, Err, arith}
use borrow.Author.Tests.{ltb-true, ltb-false, lt-ltb, le-ltb}
use Rattle.refusals.specs.declared.Refusal.{Refusal}
use Rattle.refusals.specs.declared.Refusal.TheVariants.{UnknownCode, NumberNotThere}
use Rattle.refusals.specs.Refusals.{number}
use Rattle.bits.specs.Fields.{place_at, pick, field_at}
use Rattle.bits.specs.declared.Place.{Place}
use Rattle.meaning.specs.Values.{kind_number, integer}
use Rattle.meaning.specs.Sheets.{Sheet, kind_of}
use Rattle.meaning.specs.Views.{KindsAre}
use Rattle.meaning.specs.Atoms.{Atom}
use Rattle.meaning.specs.Steps.{on}
use Rattle.meaning.specs.Reading.{Read, found, refused, on_read, need, variable, operand, atom}
use Rattle.meaning.specs.Reading as reading
use Rattle.values.specs.Reads.{Got}
use Rattle.values.proofs.ReadLaws.{goes_on, ends, field_reads}
use Rattle.place.specs.Lent.{Moves}
use Rattle.place.specs.Heads.{is_there, fits_kind, variable_of, atom_head}
use Rattle.place.specs.declared.AtomHead.{AtomHead}
use Rattle.place.proofs.HeadLaws.{moved, moved_lost}

-- a variable's kind by its number
pub kind_is : (facts : Sheet) (kinds : List ℕ) → KindsAre facts kinds → (v : ℕ) → v < 24 → get_or kinds v 0 ≡ kind_number (kind_of facts v)
kind_is facts kinds are v h = go (ltb v 16) refl
  where
    go : (b : Bool) → ltb v 16 ≡ b → get_or kinds v 0 ≡ kind_number (cond b (get_or facts.columns v integer) (get_or facts.keys (v - 16) integer))
    go true e = are.columns v (ltb-true v 16 e)
    go false e =
        let l : 16 ≤ v = ltb-false v 16 e in
        let f : v ≡ v - 16 + 16 = omega arith in
        ap (λ z. get_or kinds z 0) f ∙ are.keys (v - 16) (omega arith)

-- a variable that was judged is the one read, and below 24
pub judged_same : (v columns keys : ℕ) {w : ℕ} → Ok w ≡ variable_of v columns keys → w ≡ v
judged_same v columns keys {w} e = go (ltb v 24) (is_there v columns keys) e
  where
    go : (a b : Bool) → Ok w ≡ pick a (pick b (Ok v) (Err NumberNotThere)) (Err UnknownCode) → w ≡ v
    go true true f = cc
    go true false f = let z : ◌≡◌ {A = ℕ} 0 1 = cc in absurd (omega arith)
    go false b f = let z : ◌≡◌ {A = ℕ} 0 1 = cc in absurd (omega arith)

pub judged_small : (v columns keys : ℕ) {w : ℕ} → Ok w ≡ variable_of v columns keys → w < 24
judged_small v columns keys {w} e = go (ltb v 24) refl (is_there v columns keys) e
  where
    go : (a : Bool) → ltb v 24 ≡ a → (b : Bool) → Ok w ≡ pick a (pick b (Ok v) (Err NumberNotThere)) (Err UnknownCode) → w < 24
    go true h true f = let i : w ≡ v = cc in let j : v < 24 = ltb-true _ _ h in omega arith
    go true h false f = let z : ◌≡◌ {A = ℕ} 0 1 = cc in absurd (omega arith)
    go false h b f = let z : ◌≡◌ {A = ℕ} 0 1 = cc in absurd (omega arith)

-- a variable's field, judged
module _ (facts : Sheet) (s : List ℕ) (p : ℕ) {columns keys v : ℕ} {q : Place} (c : columns ≡ length facts.columns) (k : keys ≡ length facts.keys) (g : Got (reading.field 5 s p) (λ x. v ≡ x) q) where
  variable_is : variable facts s p ≡ on_read (need (ltb v 24) 5 s g.place) (λ x o. on_read (need (is_there v columns keys) 6 s o) (λ x o. found v o))
  unfolding variable
  variable_is = goes_on _ g ∙ rw (← g.holds, c, k)

  pub variable_got : {w : ℕ} → Ok w ≡ variable_of v columns keys → Got (variable facts s p) (λ x. w ≡ x) q
  variable_got {w} e = go (ltb v 24) (is_there v columns keys) e variable_is
    where
      go : (a b : Bool) → Ok w ≡ pick a (pick b (Ok v) (Err NumberNotThere)) (Err UnknownCode)
          → variable facts s p ≡ on_read (need a 5 s g.place) (λ x o. on_read (need b 6 s o) (λ x o. found v o)) → Got (variable facts s p) (λ x. w ≡ x) q
      go true true f i = record { item = v; place = g.place; read = i; here = g.here; holds = (cc) }
      go true false f i = let z : ◌≡◌ {A = ℕ} 0 1 = cc in absurd (omega arith)
      go false b f i = let z : ◌≡◌ {A = ℕ} 0 1 = cc in absurd (omega arith)

  pub variable_wrong : {x : Refusal} → Err x ≡ variable_of v columns keys → variable facts s p ≡ refused (number x)
  variable_wrong {x} e = go (ltb v 24) (is_there v columns keys) e variable_is
    where
      go : (a b : Bool) → Err x ≡ pick a (pick b (Ok v) (Err NumberNotThere)) (Err UnknownCode)
          → variable facts s p ≡ on_read (need a 5 s g.place) (λ x o. on_read (need b 6 s o) (λ x o. found v o)) → variable facts s p ≡ refused (number x)
      go true true f i = let z : ◌≡◌ {A = ℕ} 0 1 = cc in absurd (omega arith)
      go true false f i = let j : NumberNotThere ≡ x = cc in i ∙ ap (λ z. refused (number z)) j
      go false b f i = let j : UnknownCode ≡ x = cc in i ∙ ap (λ z. refused (number z)) j

-- an atom's head, field after field: each way on
module _ (facts : Sheet) (s : List ℕ) (p : ℕ) {at : Place} {columns keys : ℕ} {kinds : List ℕ}
    (c : columns ≡ length facts.columns) (k : keys ≡ length facts.keys) (are : KindsAre facts kinds) (here : at ≡ place_at p) where
  -- what is read behind the variable w
  abbrev operator_from : ℕ → ℕ → Read AtomHead
  operator_from w o =
      on_read (reading.field 4 s o) (λ n o. on_read (need (ltb n 9) 5 s o) (λ x o. on_read (need (fits_kind (kind_number (kind_of facts w)) n) 7 s o) (λ x o. found (record { variable = w; operator = n }) o)))

  pub first_lost : {x : Refusal} {q : Place} → Moves (field_at s at 5) at (Err x) q → atom_head facts s p ≡ refused (number x)
  unfolding atom_head variable
  first_lost m = ap (λ r. on_read r operator_from) (ends _ (moved_lost at (field_reads s at p 5 (omega arith) (omega arith) here refl) m))

  module _ {v : ℕ} {q : Place} (mv : Moves (field_at s at 5) at (Ok v) q) where
    g : Got (reading.field 5 s p) (λ x. v ≡ x) q
    g = moved at (field_reads s at p 5 (omega arith) (omega arith) here refl) mv

    pub variable_refused : {x : Refusal} → Err x ≡ variable_of v columns keys → atom_head facts s p ≡ refused (number x)
    unfolding atom_head
    variable_refused e = ends operator_from (variable_wrong facts s p c k g e)

    module _ {w : ℕ} (e : Ok w ≡ variable_of v columns keys) where
      gv : Got (variable facts s p) (λ x. w ≡ x) q
      gv = variable_got facts s p c k g e

      at_operator : atom_head facts s p ≡ operator_from w gv.place
      unfolding atom_head
      at_operator = goes_on operator_from gv ∙ ap (λ x. operator_from x gv.place) (sym gv.holds)

      pub operator_lost : {x : Refusal} {u : Place} → Moves (field_at s q 4) q (Err x) u → atom_head facts s p ≡ refused (number x)
      operator_lost m = at_operator ∙ ends _ (moved_lost q (field_reads s q gv.place 4 (omega arith) (omega arith) gv.here refl) m)

      module _ {o : ℕ} {r : Place} (mo : Moves (field_at s q 4) q (Ok o) r) where
        go : Got (reading.field 4 s gv.place) (λ x. o ≡ x) r
        go = moved q (field_reads s q gv.place 4 (omega arith) (omega arith) gv.here refl) mo

        at_tests : atom_head facts s p ≡ on_read (need (ltb o 9) 5 s go.place) (λ x u. on_read (need (fits_kind (kind_number (kind_of facts w)) o) 7 s u) (λ x u. found (record { variable = w; operator = o }) u))
        at_tests = at_operator ∙ goes_on _ go ∙ rw (← go.holds)

        pub operator_wrong : 9 ≤ o → atom_head facts s p ≡ refused 5
        operator_wrong h = at_tests ∙ rw (le-ltb o 9 h)

        fit : {b : Bool} → b ≡ fits_kind (get_or kinds w 0) o → fits_kind (kind_number (kind_of facts w)) o ≡ b
        fit f = ap (λ z. fits_kind z o) (sym (kind_is facts kinds are w (judged_small v columns keys e))) ∙ sym f

        pub operator_unfit : o < 9 → false ≡ fits_kind (get_or kinds w 0) o → atom_head facts s p ≡ refused 7
        operator_unfit h f = at_tests ∙ rw (lt-ltb o 9 h, fit f)

        pub head_got : o < 9 → true ≡ fits_kind (get_or kinds w 0) o → Got (atom_head facts s p) (λ x. record { variable = w; operator = o } ≡ x) r
        head_got h f = record { item = record { variable = w; operator = o }; place = go.place; read = at_tests ∙ rw (lt-ltb o 9 h, fit f); here = go.here; holds = refl }

abbrev pub head_on : ℕ → ℕ → AtomHead
head_on v o = record { variable = v; operator = o }

-- an atom is its head and what follows it
pub atom_by_head : (facts : Sheet) (s : List ℕ) (p : ℕ)
    → atom facts s p ≡ on_read (atom_head facts s p) (λ h q. on_read (operand facts h.variable h.operator s q) (λ x r. found (on h.variable x) r))
unfolding atom atom_head
atom_by_head facts s p = from (variable facts s p)
  where
    rest : ℕ → ℕ → ℕ → Read Atom
    rest v o q = on_read (operand facts v o s q) (λ x r. found (on v x) r)

    judged : (v o q : ℕ) (a b : Bool) → on_read (need a 5 s q) (λ x q. on_read (need b 7 s q) (λ x q. rest v o q))
        ≡ on_read (on_read (need a 5 s q) (λ x q. on_read (need b 7 s q) (λ x q. found (head_on v o) q))) (λ h q. rest h.variable h.operator q)
    judged v o q true true = refl
    judged v o q true false = refl
    judged v o q false b = refl

    second : (v : ℕ) (m : Read ℕ) → on_read m (λ o q. on_read (need (ltb o 9) 5 s q) (λ x q. on_read (need (fits_kind (kind_number (kind_of facts v)) o) 7 s q) (λ x q. rest v o q)))
        ≡ on_read (on_read m (λ o q. on_read (need (ltb o 9) 5 s q) (λ x q. on_read (need (fits_kind (kind_number (kind_of facts v)) o) 7 s q) (λ x q. found (head_on v o) q)))) (λ h q. rest h.variable h.operator q)
    second v (found o q) = judged v o q (ltb o 9) (fits_kind (kind_number (kind_of facts v)) o)
    second v (refused n) = refl

    from : (m : Read ℕ) → on_read m (λ v q. on_read (reading.field 4 s q) (λ o q. on_read (need (ltb o 9) 5 s q) (λ x q. on_read (need (fits_kind (kind_number (kind_of facts v)) o) 7 s q) (λ x q. rest v o q))))
        ≡ on_read (on_read m (λ v q. on_read (reading.field 4 s q) (λ o q. on_read (need (ltb o 9) 5 s q) (λ x q. on_read (need (fits_kind (kind_number (kind_of facts v)) o) 7 s q) (λ x q. found (head_on v o) q))))) (λ h q. rest h.variable h.operator q)
    from (found v q) = second v (reading.field 4 s q)
    from (refused n) = refl

-- the head as it stands in the definition of an atom
module _ (facts : Sheet) (s : List ℕ) where
  abbrev judges : ℕ → ℕ → ℕ → Read AtomHead
  judges v o r = on_read (need (ltb o 9) 5 s r) (λ x r. on_read (need (fits_kind (kind_number (kind_of facts v)) o) 7 s r) (λ x r. found (head_on v o) r))

  abbrev goes : ℕ → ℕ → Read AtomHead
  goes v q = on_read (reading.field 4 s q) (judges v)

  abbrev named : ℕ → ℕ → Read ℕ
  named v q = on_read (need (ltb v 24) 5 s q) (λ x q. on_read (need (is_there v (length facts.columns) (length facts.keys)) 6 s q) (λ x q. found v q))

-- a variable below 24, and an operator below 9
pub head_small : (facts : Sheet) (s : List ℕ) (p v o q : ℕ) → atom_head facts s p ≡ found (head_on v o) q → (v < 24) × (o < 9)
unfolding atom_head variable
head_small facts s p v o q e = from (reading.field 5 s p) e
  where
    no_read : {X : Type 0} {n : ℕ} → ◌≡◌ {A = Read AtomHead} (refused n) (found (head_on v o) q) → X
    no_read g = let z : ◌≡◌ {A = ℕ} 0 1 = cc in absurd (omega arith)

    last : (u w r : ℕ) → u < 24 → w < 9 → (b : Bool) → on_read (need b 7 s r) (λ x r. found (head_on u w) r) ≡ found (head_on v o) q → (v < 24) × (o < 9)
    last u w r h k true g =
        let same : head_on u w ≡ head_on v o = cc in
        let a : u ≡ v = ap (λ (z : AtomHead). z.variable) same in
        let b : w ≡ o = ap (λ (z : AtomHead). z.operator) same in
        (omega arith, omega arith)
    last u w r h k false g = no_read g

    second : (u w r : ℕ) → u < 24 → (b : Bool) → ltb w 9 ≡ b
        → on_read (need b 5 s r) (λ x r. on_read (need (fits_kind (kind_number (kind_of facts u)) w) 7 s r) (λ x r. found (head_on u w) r)) ≡ found (head_on v o) q → (v < 24) × (o < 9)
    second u w r h true k g = last u w r h (ltb-true w 9 k) (fits_kind (kind_number (kind_of facts u)) w) g
    second u w r h false k g = no_read g

    first : (u : ℕ) → u < 24 → (m : Read ℕ) → on_read m (judges facts s u) ≡ found (head_on v o) q → (v < 24) × (o < 9)
    first u h (found w r) g = second u w r h (ltb w 9) refl g
    first u h (refused n) g = no_read g

    there : (u r : ℕ) → u < 24 → (b : Bool) → on_read (on_read (need b 6 s r) (λ x r. found u r)) (goes facts s) ≡ found (head_on v o) q → (v < 24) × (o < 9)
    there u r h true g = first u h (reading.field 4 s r) g
    there u r h false g = no_read g

    below : (u r : ℕ) (b : Bool) → ltb u 24 ≡ b
        → on_read (on_read (need b 5 s r) (λ x r. on_read (need (is_there u (length facts.columns) (length facts.keys)) 6 s r) (λ x r. found u r))) (goes facts s) ≡ found (head_on v o) q
        → (v < 24) × (o < 9)
    below u r true h g = there u r (ltb-true u 24 h) (is_there u (length facts.columns) (length facts.keys)) g
    below u r false h g = no_read g

    from : (m : Read ℕ) → on_read (on_read m (named facts s)) (goes facts s) ≡ found (head_on v o) q → (v < 24) × (o < 9)
    from (found u r) g = below u r (ltb u 24) refl g
    from (refused n) g = no_read g
