-- A row and two sessions are contents of the engine's 32 variables, free of code. Assumes nothing.
use Prim.Native.Nat.{ℕ, ◌+◌, ◌-◌, ◌%◌, ◌≤◌, ◌<◌}
use native.Mathlib.Omega.{arith}
use mathlib.Core.Path.{◌≡◌, refl, sym, ◌∙◌, ap, subst}
use mathlib.Core.Bool.{Bool, true, false, cond, ◌&&◌}
use mathlib.Core.List.{List, [], ◌∷◌, ◌++◌, map}
use lib.ListN.{length, get_or}
use lib.Dec.{ltb}
use borrow.Author.Tests.{ltb-true, ltb-false, lt-ltb, le-ltb}
use Rattle.words.specs.Meaning as e
use Rattle.words.specs.Meaning.{Content.null, Content.value, atoms, Sat}
use Rattle.reach.specs.Solution.{Answers, Apart, Parts}
use Rattle.meaning.specs.declared.Content.{Content}
use Rattle.meaning.specs.declared.Content.TheVariants.{Null, Value}
use Rattle.lists.specs.Lists.{All}
use Rattle.lists.proofs.BoolLaws.{join}
use Rattle.lists.proofs.OrderLaws.{all_map}
use Rattle.meaning.specs.Values.{Kind, integer, last, Fits, Contents, with}
use Rattle.meaning.specs.Atoms.{Operator, equals, in_list, not_in_list, order, is_null, is_not_null, Clause, is_value, passes, met, clause_met}
use Rattle.meaning.specs.Sheets as sheets
use Rattle.meaning.specs.Sheets.{Sheet}
use Rattle.meaning.specs.Questions.{Holds, IsSession}
use Rattle.asked.specs.Words.{word_atoms, slot_of, seen_by, seen}
use Rattle.lists.specs.Decides.{Decides}
use Rattle.asked.specs.Asked.{Ranges, There, Uses, Unlike, three, Both}
use Rattle.words.proofs.NeedLaws.{clash}
use Rattle.asked.proofs.Laying.{both, slot_key, slot_column}
use Rattle.asked.proofs.Sense.{told, said, told_said, said_told, every_parts, append_every, sat_met, met_sat}

-- an atom on other numbers

passes_seen : (m n : Contents) (second : Bool) (o : Operator) (x : Content) → All (λ u. m (slot_of second u) ≡ n u) (sheets.second o) → passes m (seen_by second o) x ≡ passes n o x
passes_seen m n second (equals u) Null h = refl
passes_seen m n second (equals u) (Value k) h = ap (is_value k) h.0
passes_seen m n second (in_list ns) Null h = refl
passes_seen m n second (in_list ns) (Value k) h = refl
passes_seen m n second (not_in_list ns) Null h = refl
passes_seen m n second (not_in_list ns) (Value k) h = refl
passes_seen m n second (order o y) Null h = refl
passes_seen m n second (order o y) (Value k) h = refl
passes_seen m n second is_null Null h = refl
passes_seen m n second is_null (Value k) h = refl
passes_seen m n second is_not_null Null h = refl
passes_seen m n second is_not_null (Value k) h = refl

clause_seen : (m n : Contents) (second : Bool) (c : Clause) → All (λ a. All (λ u. m (slot_of second u) ≡ n u) (a.variable ∷ sheets.second a.operator)) c → clause_met m (map (seen second) c) ≡ clause_met n c
clause_seen m n second [] h = refl
clause_seen m n second (a ∷ c) h =
    both ◌&&◌ (passes_seen m n second a.operator (m (slot_of second a.variable)) h.0.1 ∙ ap (passes n a.operator) h.0.0) (clause_seen m n second c h.1)

pub used_seen : (held : ℕ → Bool) (sheet : Sheet) (second : Bool) (m n : Contents) → ((v : ℕ) → There held sheet v → m (slot_of second v) ≡ n v) → (c : Clause) → Uses held sheet c → clause_met m (map (seen second) c) ≡ clause_met n c
used_seen held sheet second m n h c u = clause_seen m n second c (all_map _ _ c (λ x. all_map _ _ (x.variable ∷ sheets.second x.operator) h) u)

-- the engine's numbers

module _ (row one two : Contents) where
  pub three_column : (v : ℕ) → v < 16 → three row one two v ≡ row v
  three_column v l = ap (λ (b : Bool). cond b (row v) (cond (ltb v 24) (one (v - 16)) (two (v - 24)))) (lt-ltb v 16 l)

  pub three_one : (v : ℕ) → 16 ≤ v → v < 24 → three row one two v ≡ one (v - 16)
  three_one v l h =
      ap (λ (b : Bool). cond b (row v) (cond (ltb v 24) (one (v - 16)) (two (v - 24)))) (le-ltb v 16 l) ∙ ap (λ (b : Bool). cond b (one (v - 16)) (two (v - 24))) (lt-ltb v 24 h)

  three_two : (v : ℕ) → 24 ≤ v → three row one two v ≡ two (v - 24)
  three_two v l =
      ap (λ (b : Bool). cond b (row v) (cond (ltb v 24) (one (v - 16)) (two (v - 24)))) (le-ltb v 16 (omega arith)) ∙ ap (λ (b : Bool). cond b (one (v - 16)) (two (v - 24))) (le-ltb v 24 l)

with_column : (row session : Contents) (v : ℕ) → v < 16 → with row session v ≡ row v
with_column row session v l = ap (λ (b : Bool). cond b (row v) (session (v - 16))) (lt-ltb v 16 l)

with_key : (row session : Contents) (v : ℕ) → 16 ≤ v → with row session v ≡ session (v - 16)
with_key row session v l = ap (λ (b : Bool). cond b (row v) (session (v - 16))) (le-ltb v 16 l)

pub slot_one : (v : ℕ) → v < 32 → slot_of false v ≡ v
unfolding slot_of
slot_one v l = let e : v % 32 ≡ v = omega arith in e

slot_two : (v : ℕ) → 16 ≤ v → v < 24 → slot_of true v ≡ v + 8
slot_two v l h = sym (slot_key true v refl l) ∙ (let e : (v % 32 + 8) % 32 ≡ v + 8 = omega arith in e)

slot_row : (second : Bool) (v : ℕ) → v < 16 → slot_of second v ≡ v
slot_row second v l = sym (slot_column second v l) ∙ (let e : v % 32 ≡ v = omega arith in e)

-- which session a clause speaks of
abbrev pub session_of : Bool → Contents → Contents → Contents
session_of second one two = cond second two one

by_kind : (P : ℕ → Type 0) (v : ℕ) → (v < 16 → P v) → (16 ≤ v → P v) → P v
by_kind P v f g = go (ltb v 16) refl
  where
    go : (b : Bool) → ltb v 16 ≡ b → P v
    go true q = f (ltb-true v 16 q)
    go false q = g (ltb-false v 16 q)

pub three_with : (row one two : Contents) (second : Bool) (v : ℕ) → v < 24 → three row one two (slot_of second v) ≡ with row (session_of second one two) v
three_with row one two second v h =
    by_kind (λ v. v < 24 → three row one two (slot_of second v) ≡ with row (session_of second one two) v) v
    (λ l g. ap (three row one two) (slot_row second v l) ∙ three_column row one two v l ∙ sym (with_column row (session_of second one two) v l))
    (λ l g. key second l g) h
  where
    key : (second : Bool) → 16 ≤ v → v < 24 → three row one two (slot_of second v) ≡ with row (session_of second one two) v
    key false l g = ap (three row one two) (slot_one v (omega arith)) ∙ three_one row one two v l g ∙ sym (with_key row one v l)
    key true l g =
        ap (three row one two) (slot_two v l g) ∙ three_two row one two (v + 8) (omega arith) ∙ ap two (let e : v + 8 - 24 ≡ v - 16 = omega arith in e)
        ∙ sym (with_key row two v l)

module _ (held : ℕ → Bool) (sheet : Sheet) where
  -- what the engine's contents say of a row and two sessions: nothing where there is no such variable
  module _ (d : ℕ → e.Content) where
    abbrev pub row_of : Contents
    row_of c = cond (held c && ltb c 16) (told (d c)) Null

    abbrev pub keys_from : ℕ → Contents
    keys_from p k = cond (ltb k (length sheet.keys) && ltb k 8) (told (d (k + p))) Null

    -- the contents of a variable that is there
    there : (second : Bool) (v : ℕ) → There held sheet v → with row_of (session_of second (keys_from 16) (keys_from 24)) v ≡ told (d (slot_of second v))
    there second v h =
        by_kind (λ v. There held sheet v → with row_of (session_of second (keys_from 16) (keys_from 24)) v ≡ told (d (slot_of second v))) v
        (λ l t.
        with_column row_of (session_of second (keys_from 16) (keys_from 24)) v l
        ∙ ap (λ (b : Bool). cond b (told (d v)) Null)
        (join (held v) (ltb v 16) (sym (ap (λ (b : Bool). cond b (held v) (ltb (v - 16) (length sheet.keys))) (lt-ltb v 16 l)) ∙ t.has) (lt-ltb v 16 l))
        ∙ ap (λ (k : ℕ). told (d k)) (sym (slot_row second v l)))
        (λ l t. with_key row_of (session_of second (keys_from 16) (keys_from 24)) v l ∙ key second l t) h
      where
        given : 16 ≤ v → There held sheet v → (ltb (v - 16) (length sheet.keys) && ltb (v - 16) 8) ≡ true
        given l t =
            let n = t.number in
            join (ltb (v - 16) (length sheet.keys)) (ltb (v - 16) 8)
            (sym (ap (λ (b : Bool). cond b (held v) (ltb (v - 16) (length sheet.keys))) (le-ltb v 16 l)) ∙ t.has) (lt-ltb (v - 16) 8 (omega arith))

        key : (second : Bool) → 16 ≤ v → There held sheet v → session_of second (keys_from 16) (keys_from 24) (v - 16) ≡ told (d (slot_of second v))
        key false l t =
            let n = t.number in
            ap (λ (b : Bool). cond b (told (d (v - 16 + 16))) Null) (given l t)
            ∙ ap (λ (k : ℕ). told (d k)) ((let e : v - 16 + 16 ≡ v = omega arith in e) ∙ sym (slot_one v (omega arith)))
        key true l t =
            let n = t.number in
            ap (λ (b : Bool). cond b (told (d (v - 16 + 24))) Null) (given l t)
            ∙ ap (λ (k : ℕ). told (d k)) ((let e : v - 16 + 24 ≡ v + 8 = omega arith in e) ∙ sym (slot_two v l n))

    module _ (top : List ℕ) (ranges : Ranges sheet top) (fits : (v n : ℕ) → v < 32 → d v ≡ value n → n ≤ get_or top v 0) where
      fit : (b : Bool) (k : Kind) (v : ℕ) → (b ≡ true → v < 32) → (b ≡ true → get_or top v 0 ≡ last k) → Fits k (cond b (told (d v)) Null)
      fit false k v l q = tt
      fit true k v l q = go (d v) refl
        where
          go : (x : e.Content) → d v ≡ x → Fits k (told x)
          go null z = tt
          go (value n) z = let a = fits v n (l refl) z in let b = q refl in omega arith

      split : (a b : Bool) → (a && b) ≡ true → b ≡ true
      split true b e = e
      split false b e = absurd (clash e refl)

      pub row_holds : Holds held sheet.columns row_of
      row_holds =
          record {
            fits = λ i.
                fit (held i && ltb i 16) (get_or sheet.columns i integer) i (λ q. let l = ltb-true i 16 (split (held i) (ltb i 16) q) in omega arith)
                (λ q. ranges.columns i (ltb-true i 16 (split (held i) (ltb i 16) q)));
            absent = λ i q. ap (λ (b : Bool). cond (b && ltb i 16) (told (d i)) Null) q;
          }

      session : (p : ℕ) → p ≤ 24 → ((k : ℕ) → k < 8 → get_or top (k + p) 0 ≡ last (get_or sheet.keys k integer)) → IsSession sheet (keys_from p)
      session p lp r =
          record {
            fits = λ i.
                fit (ltb i (length sheet.keys) && ltb i 8) (get_or sheet.keys i integer) (i + p)
                (λ q. let l = ltb-true i 8 (split (ltb i (length sheet.keys)) (ltb i 8) q) in omega arith)
                (λ q. r i (ltb-true i 8 (split (ltb i (length sheet.keys)) (ltb i 8) q)));
            absent = λ i q. ap (λ (b : Bool). cond (b && ltb i 8) (told (d (i + p))) Null) q;
          }

      pub one_session : IsSession sheet (keys_from 16)
      one_session = session 16 (omega arith) ranges.keys

      pub two_session : IsSession sheet (keys_from 24)
      two_session = session 24 (omega arith) ranges.keys_two

  -- what a row and sessions hold is within the ranges
  module _ (top : List ℕ) (ranges : Ranges sheet top) (row one two : Contents) (r : Holds held sheet.columns row) (p : IsSession sheet one) (q : IsSession sheet two) where
    within : (k : Kind) (x : Content) (n t : ℕ) → t ≡ last k → Fits k x → x ≡ Value n → n ≤ t
    within k x n t z f e = let g : Fits k (Value n) = subst (λ (y : Content). Fits k y) e f in omega arith

    pub in_range : (v n : ℕ) → v < 32 → three row one two v ≡ Value n → n ≤ get_or top v 0
    in_range v n l e = go (ltb v 16) (ltb v 24) refl refl
      where
        go : (a b : Bool) → ltb v 16 ≡ a → ltb v 24 ≡ b → n ≤ get_or top v 0
        go true b x y =
            let h = ltb-true v 16 x in
            within (get_or sheet.columns v integer) (row v) n (get_or top v 0) (ranges.columns v h) (r.fits v) (sym (three_column row one two v h) ∙ e)
        go false true x y =
            let h = ltb-false v 16 x in
            let g = ltb-true v 24 y in
            within (get_or sheet.keys (v - 16) integer) (one (v - 16)) n (get_or top v 0)
            (ap (λ (k : ℕ). get_or top k 0) (let z : v ≡ v - 16 + 16 = omega arith in z) ∙ ranges.keys (v - 16) (omega arith)) (p.fits (v - 16)) (sym (three_one row one two v h g) ∙ e)
        go false false x y =
            let g = ltb-false v 24 y in
            within (get_or sheet.keys (v - 24) integer) (two (v - 24)) n (get_or top v 0)
            (ap (λ (k : ℕ). get_or top k 0) (let z : v ≡ v - 24 + 24 = omega arith in z) ∙ ranges.keys_two (v - 24) (omega arith)) (q.fits (v - 24)) (sym (three_two row one two v g) ∙ e)

  -- the words' atoms are those of a, for the first session, and those of b, for the second
  module _ (s top : List ℕ) (a b : Clause) (w : (m : Contents) → clause_met m (word_atoms s (atoms s)) ≡ clause_met m (map (seen false) a ++ map (seen true) b)) (ranges : Ranges sheet top) (ua : Uses held sheet a) (ub : Uses held sheet b) where
    use_of : (second : Bool) (m n : Contents) → ((v : ℕ) → There held sheet v → m (slot_of second v) ≡ n v) → (c : Clause) → Uses held sheet c → clause_met m (map (seen second) c) ≡ clause_met n c
    use_of = used_seen held sheet

    pub sat_both : (P : Contents → Type 0) (d : ℕ → e.Content) → Sat s top d → P (three (row_of d) (keys_from d 16) (keys_from d 24)) → Both held sheet a b P
    sat_both P d h p =
        let g = every_parts (met (λ v. told (d v))) (map (seen false) a) (map (seen true) b) (sym (w (λ v. told (d v))) ∙ sat_met s top d h) in
        record {
          row = row_of d;
          one = keys_from d 16;
          two = keys_from d 24;
          is_row = row_holds d top ranges h.fits;
          is_one = one_session d top ranges h.fits;
          is_two = two_session d top ranges h.fits;
          meets_a = sym (use_of false (λ v. told (d v)) (with (row_of d) (keys_from d 16)) (λ v t. sym (there d false v t)) a ua) ∙ g.0;
          meets_b = sym (use_of true (λ v. told (d v)) (with (row_of d) (keys_from d 24)) (λ v t. sym (there d true v t)) b ub) ∙ g.1;
          also = p;
        }

    pub both_sat : (P : Contents → Type 0) (x : Both held sheet a b P) → Sat s top (λ v. said (three x.row x.one x.two v))
    both_sat P x =
        let m = three x.row x.one x.two in
        met_sat s top m (in_range top ranges x.row x.one x.two x.is_row x.is_one x.is_two)
        (w m
        ∙ (append_every (met m) (map (seen false) a) (map (seen true) b)
        (use_of false m (with x.row x.one) (λ v t. three_with x.row x.one x.two false v t.number) a ua ∙ x.meets_a)
        (use_of true m (with x.row x.two) (λ v t. three_with x.row x.one x.two true v t.number) b ub ∙ x.meets_b)))

    -- what the engine's answers say
    pub answered : (r : Bool) → Answers s top r → Decides (Both held sheet a b (λ m. Unit {0})) r
    answered true h = record { yes = λ q. sat_both (λ m. Unit {0}) h.0 h.1 tt; no = λ q. absurd (clash refl q) }
    answered false h = record { yes = λ q. absurd (clash q refl); no = λ q x. h _ (both_sat (λ m. Unit {0}) x) }

    module _ (i j : ℕ) (x y : Bool) (u v : ℕ) (tu : There held sheet u) (tv : There held sheet v) (iu : slot_of x u ≡ i) (jv : slot_of y v ≡ j) where
      seen_there : (d : ℕ → e.Content) (second : Bool) (v : ℕ) → There held sheet v → (k : ℕ) → slot_of second v ≡ k → three (row_of d) (keys_from d 16) (keys_from d 24) k ≡ told (d k)
      seen_there d second v t k z =
          ap (three (row_of d) (keys_from d 16) (keys_from d 24)) (sym z) ∙ three_with (row_of d) (keys_from d 16) (keys_from d 24) second v t.number ∙ there d second v t ∙ ap (λ (k : ℕ). told (d k)) z

      pub told_apart : (r : Bool) → Apart s top i j r → Decides (Both held sheet a b (λ m. Unlike (m i) (m j))) r
      told_apart true h =
          let d = h.0 in
          let o = h.1 in
          record {
            yes = λ q.
                sat_both (λ m. Unlike (m i) (m j)) d o.sat
                (o.p, o.q, seen_there d x u tu i iu ∙ ap told o.holds_u, seen_there d y v tv j jv ∙ ap told o.holds_w, o.differ);
            no = λ q. absurd (clash refl q);
          }
      told_apart false h =
          record {
            yes = λ q. absurd (clash q refl);
            no = λ q z.
                let m = three z.row z.one z.two in
                let n = z.also in
                h (λ v. said (m v))
                record { sat = both_sat (λ m. Unlike (m i) (m j)) z; p = n.0; q = n.1; holds_u = ap said n.2; holds_w = ap said n.3; differ = n.4 };
          }

      pub told_parted : (r : Bool) → Parts s top i j r → Decides (Both held sheet a b (λ m. m i ≡ m j → ⊥)) r
      told_parted true h =
          let d = h.0 in
          record {
            yes = λ q.
                sat_both (λ m. m i ≡ m j → ⊥) d h.1
                (λ z. h.2 (sym (said_told (d i)) ∙ ap said (sym (seen_there d x u tu i iu) ∙ z ∙ seen_there d y v tv j jv) ∙ said_told (d j)));
            no = λ q. absurd (clash refl q);
          }
      told_parted false h =
          record {
            yes = λ q. absurd (clash q refl);
            no = λ q z.
                let m = three z.row z.one z.two in
                h (λ v. said (m v)) (both_sat (λ m. m i ≡ m j → ⊥) z) (λ g. z.also (sym (told_said (m i)) ∙ ap told g ∙ told_said (m j)));
          }
