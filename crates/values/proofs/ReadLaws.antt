-- What the code answers, against a reader of the definitions: one law for each way on after a field, and after a test.
use Prim.Native.Nat.{ℕ, ◌+◌, ◌*◌, ◌/◌, ◌%◌, ◌≤◌}
use native.Mathlib.Nat.{div-add-mod'}
use native.Mathlib.Omega.{arith}
use mathlib.Core.Path.{◌≡◌, refl, sym, ap, subst, ◌∙◌}
use mathlib.Core.Bool.{Bool, true, false, cond}
use mathlib.Core.List.{List}
use lib.ListN.{length}
use lib.Dec.{leb}
use borrow.Author.Tests.{le-leb}
use Rattle.std.specs.Prelude.{Result, Ok, Err}
use Rattle.std.specs.Result.{IsErrAnd}
use Rattle.std.proofs.lemmas.Result.{err_from_is_err_and}
use Rattle.refusals.specs.declared.Refusal.{Refusal}
use Rattle.refusals.specs.declared.Refusal.TheVariants.{CutOff}
use Rattle.refusals.specs.Refusals.{number}
use Rattle.bits.specs.Bits as bits
use Rattle.bits.specs.Fields.{place_at, pick, field_at}
use Rattle.bits.specs.declared.Place.{Place}
use Rattle.bits.proofs.Laws.{ok_pair}
use Rattle.meaning.specs.Reading.{Read, found, refused, on_read, field}
use Rattle.values.specs.Reads.{Got, Answers, answered, stopped, Reads}

-- an answer that is a value tells what was found, and one that is a refusal, by what
pub got : {A B : Type 0} {m : Read A} {H : B → A → Type 0} {b : B} {q : Place} → Answers m H (Ok (b, q)) → Got m (H b) q
got {A} {B} {m} {H} {b} {q} a = go a refl
  where
    go : {s : Result (B × Place) Refusal} → Answers m H s → s ≡ Ok (b, q) → Got m (H b) q
    go (answered {b = x} {q = y} g) f =
        let h : x ≡ b = (ok_pair f).0 in
        let i : y ≡ q = (ok_pair f).1 in
        record { item = g.item; place = g.place; read = g.read; here = sym i ∙ g.here; holds = subst (λ z. H z g.item) h g.holds }
    go (stopped h) f = let z : ◌≡◌ {A = ℕ} 0 1 = cc in absurd (omega arith)

pub lost : {A B : Type 0} {m : Read A} {H : B → A → Type 0} {e : Refusal} → Answers m H (Err e) → m ≡ refused (number e)
lost {A} {B} {m} {H} {e} a = go a refl
  where
    go : {s : Result (B × Place) Refusal} → Answers m H s → s ≡ Err e → m ≡ refused (number e)
    go (answered g) f = let z : ◌≡◌ {A = ℕ} 0 1 = cc in absurd (omega arith)
    go (stopped {e = y} h) f = let i : y ≡ e = cc in h ∙ ap (λ z. refused (number z)) i

-- a refusal that is handed on
pub handed : {A B : Type 0} {m : Read A} {H : B → A → Type 0} (r : Result (B × Place) Refusal) (e : Refusal) → IsErrAnd r (λ x. x ≡ e) → m ≡ refused (number e) → Answers m H r
handed {A} {B} {m} {H} r e i h = let p = err_from_is_err_and r i in subst (Answers m H) (sym p.1) (stopped (h ∙ ap (λ x. refused (number x)) (sym p.2)))

-- what comes after a reading: goes on with what was found, or ends in its refusal
pub goes_on : {A B : Type 0} {m : Read A} {H : A → Type 0} {q : Place} (k : A → ℕ → Read B) (g : Got m H q) → on_read m k ≡ k g.item g.place
goes_on k g = ap (λ x. on_read x k) g.read

pub ends : {A B : Type 0} {m : Read A} {n : ℕ} (k : A → ℕ → Read B) → m ≡ refused n → on_read m k ≡ refused n
ends k h = ap (λ x. on_read x k) h

-- a field of w bits at the place of a bit number: the definition's, or its refusal 2
pub field_read : (s : List ℕ) (p w : ℕ) → 1 ≤ w → w ≤ 64 → Reads (field w s p) (field_at s (place_at p) w)
unfolding field_at field
field_read s p w low high =
    let a : leb (p % 8) 7 ≡ true = le-leb (p % 8) 7 (omega arith) in
    let e : p / 8 * 8 + p % 8 ≡ p = div-add-mod' p 8 in
    rw (a, le-leb 1 w low, le-leb w 64 high, e) (go (leb (p + w) (length s * 8)))
  where
    go : (b : Bool) → Reads (cond b (found (bits.number s p w) (p + w)) (refused 2)) (pick b (Ok (bits.number s p w, place_at (p + w))) (Err CutOff))
    go true = answered record { item = _; place = _; read = refl; here = refl; holds = refl }
    go false = stopped refl

-- "2, a field isn't wholly there", and nothing else
pub field_refuses : (s : List ℕ) (p w : ℕ) {n : ℕ} → field w s p ≡ refused n → field w s p ≡ refused 2
unfolding field
field_refuses s p w {n} e = go (leb (p + w) (length s * 8)) e
  where
    go : (b : Bool) → cond b (found (bits.number s p w) (p + w)) (refused 2) ≡ refused n → cond b (found (bits.number s p w) (p + w)) (refused 2) ≡ refused 2
    go true f = let z : ◌≡◌ {A = ℕ} 0 1 = cc in absurd (omega arith)
    go false f = refl

-- the code's field of w bits at a place, by its promise
module _ (s : List ℕ) (at : Place) (p w : ℕ) (low : 1 ≤ w) (high : w ≤ 64) (here : at ≡ place_at p) where
  pub field_reads : {f : Result (ℕ × Place) Refusal} → f ≡ field_at s at w → Reads (field w s p) f
  field_reads g = subst (Reads (field w s p)) (sym (g ∙ ap (λ x. field_at s x w) here)) (field_read s p w low high)

  pub field_got : {v : ℕ} {q : Place} → Ok (v, q) ≡ field_at s at w → Got (field w s p) (λ x. v ≡ x) q
  field_got g = got (field_reads g)

  pub field_lost : {x : Refusal} → Err x ≡ field_at s at w → field w s p ≡ refused 2
  field_lost g = field_refuses s p w (lost (field_reads g))
