-- A clause is covered where each of its atoms is implied, free of code. Assumes nothing.
use Prim.Native.Nat.{ℕ, zero, suc, ◌+◌, ◌<◌}
use native.Mathlib.Omega.{arith}
use Rattle.std.proofs.Common.{min}
use native.Mathlib.Nat.{not-suc-le-zero}
use mathlib.Core.Path.{◌≡◌, refl, sym, ◌∙◌, ap, subst}
use mathlib.Core.Bool.{Bool, true, false}
use mathlib.Core.List.{List, [], ◌∷◌, ◌++◌, map, map-append}
use lib.ListN.{length, get_or, take}
use lib.Seq.{take-suc}
use Rattle.lists.specs.Lists.{All}
use Rattle.meaning.specs.Values.{Contents, with}
use Rattle.meaning.specs.Atoms as m
use Rattle.meaning.specs.Atoms.{met, clause_met}
use Rattle.meaning.specs.Sheets as sheets
use Rattle.meaning.specs.Sheets.{Sheet}
use Rattle.meaning.specs.Questions.{ClauseCovers}
use Rattle.meaning.specs.declared.Atom.{Atom}
use Rattle.meaning.specs.declared.Clause.{Clause}
use Rattle.meaning.specs.Views.{atom_of, clause_of}
use Rattle.asked.specs.Asked.{Ranges, There, Uses, every_column, Tells}
use Rattle.asked.proofs.Laying.{take_8}
use Rattle.lists.proofs.BoolLaws.{both, join}
use Rattle.asked.proofs.Sense.{append_every}
use Rattle.asked.proofs.Ways.{Covered, answer_yes, answer_no}

-- covers, atom by atom

-- each of the first i atoms is implied
pub record Implied (top : List ℕ) (xs : List Atom) (q : m.Clause) (i : ℕ) : Type 0 where
  pub each : (sheet : Sheet) → Ranges sheet top → Uses (every_column sheet) sheet (map atom_of (take i xs)) → Uses (every_column sheet) sheet q → ClauseCovers sheet (map atom_of (take i xs)) q

pub implied_none : (top : List ℕ) (xs : List Atom) (q : m.Clause) → Implied top xs q 0
implied_none top xs q = record { each = λ sheet g u v row session r s c. refl }

pub uses_parts : (held : ℕ → Bool) (sheet : Sheet) (c d : m.Clause) → Uses held sheet (c ++ d) → Uses held sheet c × Uses held sheet d
uses_parts held sheet [] d u = (tt, u)
uses_parts held sheet (a ∷ c) d u = let h = uses_parts held sheet c d u.1 in ((u.0, h.0), h.1)

pub next_atom : (xs : List Atom) (i : ℕ) (d : Atom) → i < length xs → map atom_of (take (i + 1) xs) ≡ map atom_of (take i xs) ++ (atom_of (get_or xs i d) ∷ [])
next_atom xs i d l =
    ap (λ (k : ℕ). map atom_of (take k xs)) (let z : i + 1 ≡ suc i = omega arith in z) ∙ ap (map atom_of) (take-suc xs i d l) ∙ map-append atom_of (take i xs) (get_or xs i d ∷ [])

pub implied_more : (top : List ℕ) (xs : List Atom) (q : m.Clause) (i : ℕ) (d : Atom) (r : Bool) → i < length xs → r ≡ true → Covered top q (atom_of (get_or xs i d)) r → Implied top xs q i → Implied top xs q (i + 1)
implied_more top xs q i d r l e h g =
    record {
      each = λ sheet k u v.
          let us = uses_parts (every_column sheet) sheet (map atom_of (take i xs)) (atom_of (get_or xs i d) ∷ []) (subst (Uses (every_column sheet) sheet) (next_atom xs i d l) u) in
          subst (λ (c : m.Clause). ClauseCovers sheet c q) (sym (next_atom xs i d l))
          (λ row session a b c.
          append_every (met (with row session)) (map atom_of (take i xs)) (atom_of (get_or xs i d) ∷ []) (g.each sheet k us.0 v row session a b c)
          ((h sheet k (us.1.0, v)).yes e row session a b c));
    }

pub implied_all : (top : List ℕ) (p : Clause) (q : m.Clause) (i n : ℕ) → length p.atoms ≡ 8 → i ≡ n → n ≡ min p.count 8 → Implied top p.atoms q i → Tells top (clause_of p ++ q) (λ sheet. ClauseCovers sheet (clause_of p) q) true
implied_all top p q i n len e f g sheet k u =
    let z : take i p.atoms ≡ take p.count p.atoms = ap (λ (j : ℕ). take j p.atoms) (e ∙ f) ∙ take_8 p.count p.atoms len in
    let h = subst (λ ys. Uses (every_column sheet) sheet (map atom_of ys) → Uses (every_column sheet) sheet q → ClauseCovers sheet (map atom_of ys) q) z (g.each sheet k) in
    let us = uses_parts (every_column sheet) sheet (clause_of p) q u in
    answer_yes (h us.0 us.1)

pub all_at : {A B : Type 0} (Q : B → Type 0) (f : A → B) (xs : List A) (n i : ℕ) (d : A) → i < n → i < length xs → All Q (map f (take n xs)) → Q (f (get_or xs i d))
all_at Q f [] n i d l k h = absurd (not-suc-le-zero k)
all_at Q f (x ∷ xs) zero i d l k h = absurd (not-suc-le-zero l)
all_at Q f (x ∷ xs) (suc n) zero d l k h = h.0
all_at Q f (x ∷ xs) (suc n) (suc i) d l k h = all_at Q f xs n i d (omega arith) (omega arith) h.1

pub all_met : (e : Contents) (c : m.Clause) → clause_met e c ≡ true → All (λ a. met e a ≡ true) c
all_met e [] h = tt
all_met e (a ∷ c) h = let g = both (met e a) (clause_met e c) h in (g.0, all_met e c g.1)

pub implied_not : (top : List ℕ) (p : Clause) (q : m.Clause) (i n : ℕ) (d : Atom) (r : Bool) → length p.atoms ≡ 8 → i < n → n ≡ min p.count 8 → r ≡ false → Covered top q (atom_of (get_or p.atoms i d)) r → Tells top (clause_of p ++ q) (λ sheet. ClauseCovers sheet (clause_of p) q) false
implied_not top p q i n d r len l f e h sheet k u =
    let z : take n p.atoms ≡ take p.count p.atoms = ap (λ (j : ℕ). take j p.atoms) f ∙ take_8 p.count p.atoms len in
    let us = uses_parts (every_column sheet) sheet (clause_of p) q u in
    let w = all_at (λ a. All (There (every_column sheet) sheet) (a.variable ∷ sheets.second a.operator)) atom_of p.atoms n i d l (omega arith) (subst (λ ys. Uses (every_column sheet) sheet (map atom_of ys)) (sym z) us.0) in
    answer_no
    (λ c.
    (h sheet k (w, us.1)).no e
    (λ row session a b x. join (met (with row session) (atom_of (get_or p.atoms i d))) true (all_at (λ a. met (with row session) a ≡ true) atom_of p.atoms n i d l (omega arith) (all_met (with row session) (map atom_of (take n p.atoms)) (subst (λ ys. clause_met (with row session) (map atom_of ys) ≡ true) (sym z) (c row session a b x)))) refl))
