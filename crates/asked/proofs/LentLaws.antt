-- What the answers on lent words say of clauses, free of code. Assumes nothing.
use Prim.Native.Nat.{ℕ, ◌*◌, ◌/◌, ◌%◌, ◌≤◌, ◌<◌}
use native.Mathlib.Omega.{arith}
use mathlib.Core.Path.{◌≡◌, refl, sym, ◌∙◌, ap}
use mathlib.Core.Bool.{Bool, true, false}
use mathlib.Core.List.{List, [], ◌∷◌, ◌++◌, map, append-nil, map-append}
use lib.ListN.{length, take}
use lib.Seq.{length-take-le, get_or-take}
use Rattle.words.specs.Meaning.{atoms}
use Rattle.reach.specs.Solution as search
use Rattle.meaning.specs.Values.{Contents, with}
use Rattle.meaning.specs.Atoms as m
use Rattle.meaning.specs.Atoms.{equals, clause_met}
use Rattle.meaning.specs.Steps.{on}
use Rattle.meaning.specs.Questions.{LiveClause}
use Rattle.asked.specs.Words.{word_atoms, slot_of, seen}
use Rattle.asked.specs.Asked.{every_column, Tells, TellsMeets, three, Differs}
use Rattle.asked.proofs.Laying.{words_same}
use Rattle.asked.proofs.Shared.{answered, told_apart, three_with, slot_one}

-- the words that are lent

pub words_cut : (words : List ℕ) (k n : ℕ) → k ≡ n * 11 → k ≤ length words → word_atoms (take k words) (atoms (take k words)) ≡ word_atoms words n
words_cut words k n e l =
    let a : length (take k words) ≡ k = length-take-le k words l in
    ap (word_atoms (take k words)) (let q : length (take k words) / 11 ≡ n = omega arith in q) ∙ words_same n (take k words) words (λ i d. get_or-take k words i 0 (omega arith))

one_clause : (s : List ℕ) (c : m.Clause) → word_atoms s (atoms s) ≡ map (seen false) c → (e : Contents) → clause_met e (word_atoms s (atoms s)) ≡ clause_met e (map (seen false) c ++ map (seen true) [])
one_clause s c w e = ap (clause_met e) (w ∙ sym (append-nil (map (seen false) c)))

pub meets_told : (words s top : List ℕ) (n : ℕ) (r : Bool) → word_atoms s (atoms s) ≡ word_atoms words n → search.Answers s top r → TellsMeets words n top r
meets_told words s top n r l h held sheet a w g u =
    let d = answered held sheet s top a [] (one_clause s a (l ∙ w)) g u tt r h in
    record {
      yes = λ q. let b = d.yes q in record { row = b.row; session = b.one; is_row = b.is_row; is_session = b.is_one; meets = b.meets_a };
      no = λ q x.
          d.no q
          record { row = x.row; one = x.session; two = x.session; is_row = x.is_row; is_one = x.is_session; is_two = x.is_session; meets_a = x.meets; meets_b = refl; also = tt };
    }

-- the same of rows with any columns
pub live_told : (words s top : List ℕ) (n : ℕ) (c : m.Clause) (r : Bool) → word_atoms s (atoms s) ≡ word_atoms words n → word_atoms words n ≡ map (seen false) c → search.Answers s top r → Tells top c (λ sheet. LiveClause sheet c) r
live_told words s top n c r l w h sheet ranges u =
    let d = meets_told words s top n r l h (every_column sheet) sheet c w ranges u in
    record {
      yes = λ q. let b = d.yes q in record { row = b.row; session = b.session; is_row = b.is_row; is_session = b.is_session; meets = b.meets };
      no = λ q x. d.no q record { row = x.row; session = x.session; is_row = x.is_row; is_session = x.is_session; meets = x.meets };
    }

pub differs_told : (words s top : List ℕ) (n u w : ℕ) (c : m.Clause) (r : Bool) → word_atoms s (atoms s) ≡ word_atoms words n → word_atoms words n ≡ map (seen false) c → search.Apart s top (u % 32) (w % 32) r →
    Tells top (on u (equals w) ∷ c) (λ sheet. Differs sheet c u w) r
differs_told words s top n u w c r l ws h sheet ranges us =
    let tu = us.0.0 in
    let tw = us.0.1.0 in
    let nu = tu.number in
    let nw = tw.number in
    let iu : slot_of false u ≡ u % 32 = slot_one u (omega arith) ∙ (let z : u ≡ u % 32 = omega arith in z) in
    let jw : slot_of false w ≡ w % 32 = slot_one w (omega arith) ∙ (let z : w ≡ w % 32 = omega arith in z) in
    let d = told_apart (every_column sheet) sheet s top c [] (one_clause s c (l ∙ ws)) ranges us.1 tt (u % 32) (w % 32) false false u w tu tw iu jw r h in
    record {
      yes = λ q.
          let b = d.yes q in
          let o = b.also in
          let at : (v i : ℕ) → v < 24 → slot_of false v ≡ i → with b.row b.one v ≡ three b.row b.one b.two i =
          (λ v i g z. sym (three_with b.row b.one b.two false v g) ∙ ap (three b.row b.one b.two) z) in
          record { row = b.row; session = b.one; is_row = b.is_row; is_session = b.is_one; meets = b.meets_a; unlike = (o.0, o.1, at u (u % 32) nu iu ∙ o.2, at w (w % 32) nw jw ∙ o.3, o.4) };
      no = λ q x.
          let o = x.unlike in
          let at : (v i : ℕ) → v < 24 → slot_of false v ≡ i → three x.row x.session x.session i ≡ with x.row x.session v =
          (λ v i g z. ap (three x.row x.session x.session) (sym z) ∙ three_with x.row x.session x.session false v g) in
          d.no q
          record {
            row = x.row;
            one = x.session;
            two = x.session;
            is_row = x.is_row;
            is_one = x.is_session;
            is_two = x.is_session;
            meets_a = x.meets;
            meets_b = refl;
            also = (o.0, o.1, at u (u % 32) nu iu ∙ o.2, at w (w % 32) nw jw ∙ o.3, o.4);
          };
    }

pub lays_last : (xs c : m.Clause) (a : m.Atom) → xs ≡ map (seen false) c → xs ++ (seen false a ∷ []) ≡ map (seen false) (c ++ (a ∷ []))
lays_last xs c a e = ap (λ zs. zs ++ (seen false a ∷ [])) e ∙ sym (map-append (seen false) c (a ∷ []))
