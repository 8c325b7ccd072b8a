-- Listing row by row: which rows are written so far, and what the output holds of them.
use Prim.Native.Nat.{ℕ, ◌+◌, ◌-◌, ◌/◌, ◌%◌, ◌<◌, ◌≤◌}
use native.Mathlib.Numerals.{add-one}
use native.Mathlib.Decide.{dec_lt}
use native.Mathlib.Omega.{arith}
use mathlib.Core.Path.{◌≡◌, refl, sym, ap, subst, ◌∙◌}
use mathlib.Core.Bool.{Bool, true, false, cond, ◌&&◌}
use mathlib.Core.List.{List, [], ◌∷◌, ◌++◌, append-nil}
use lib.ListN.{length, get_or, take, drop, set, length-append, length-drop}
use lib.Seq.{paste, paste-suc, get_or-drop, take-append_seam, drop-append-add, drop-drop, length-take-le}
use borrow.Author.Tests.{lt-ltb, le-ltb}
use Rattle.lists.specs.Lists.{every, each}
use Rattle.meaning.specs.declared.Content.TheVariants.{Null}
use Rattle.std.specs.Prelude.{Ok}
use Rattle.meaning.specs.Values.{Contents, with}
use Rattle.meaning.specs.Atoms.{policy_met}
use Rattle.meaning.specs.Packed.{packed}
use Rattle.meaning.specs.Sheets.{Sheet, kind_of, table_at, permissive, restrictive, admits}
use Rattle.meaning.specs.Reading.{Read, found, refused, Row, row, rows, read_rows}
use Rattle.meaning.specs.Replies.{row_bytes, over, WritesRows}
use Rattle.meaning.proofs.ReadLaws.{found_same}
use Rattle.rows.specs.declared.form.Form.{Form}
use Rattle.rows.specs.Held.{RowHeld, RowRead}
use Rattle.admission.specs.declared.plan.Plan.{Plan}
use Rattle.rows.proofs.ListLaws.{row_at, Rowing, rowing_starts, rowing_ends, rowing_lost, rowing_stuck, rowing_on, list_short}
use Rattle.admission.proofs.PlanLaws.{plan_admits}
use Rattle.admission.specs.Plan.{PlanLaid}
use Rattle.listing.specs.Ready.{admitted, PlanOf, Ready}
use Rattle.lists.proofs.ListLaws.{each_append}
use Rattle.listing.proofs.PlanLaws.{keep_append}

-- a byte more is copied
pub copy_on : (list out now : List ℕ) (a at i : ℕ) → now ≡ paste out at (drop a list) i → at + i < length out → a + i < length list → set now (at + i) (get_or list (a + i) 0) ≡ paste out at (drop a list) (i + 1)
copy_on list out now a at i e l m =
    let n = length-drop a list in
    ap (λ o. set o (at + i) (get_or list (a + i) 0)) e
    ∙ ap (λ v. set (paste out at (drop a list) i) (at + i) v) (sym (get_or-drop a list i 0))
    ∙ paste-suc out at (drop a list) i 0 l (omega arith)
    ∙ ap (paste out at (drop a list)) (sym (add-one i))

-- what is written behind bytes that are written already
over_more : (bytes out list : List ℕ) (m : ℕ) → m ≤ length list → paste (over bytes out) (length bytes) list m ≡ over (bytes ++ take m list) out
over_more bytes out list m l =
    let size : length (bytes ++ take m list) ≡ length bytes + m = length-append bytes (take m list) ∙ ap (λ n. length bytes + n) (length-take-le m list l) in
    (λ i. take-append_seam bytes (drop (length bytes) out) i ++ take m list ++ (drop-append-add bytes (drop (length bytes) out) m ∙ drop-drop m (length bytes) out ∙ ap (λ n. drop n out) (sym size)) i)

-- a plan is laid in the bytes that the sheet stands packed in
pub laid_in : (sheet : Sheet) (t command : ℕ) (plan : Plan) {s : List ℕ} → s ≡ packed sheet → PlanOf sheet t command plan → PlanLaid (kind_of sheet) s plan (each (λ cs. cs) (permissive sheet t command)) (restrictive sheet t command)
laid_in sheet t command plan e = subst (λ s. PlanLaid (kind_of sheet) s plan (each (λ cs. cs) (permissive sheet t command)) (restrictive sheet t command)) (sym e)

-- what the variables hold of a row and a session is what the definitions hold of them
module _ (plan : Plan) (form : Form) (sheet : Sheet) (t command : ℕ) (key now : Contents) (small : form.n ≤ 16) (g : Ready plan form sheet t command key now)
    (q : ℕ) (x after : Contents) (h : RowHeld form.n q x now after) where
  pub ready_on : Ready plan form sheet t command key after
  ready_on = record { first = g.first; fields = g.fields; kind = g.kind; laid = g.laid; others = λ v l. h.others v l ∙ g.others v l }

  holds_row : (v : ℕ) → after v ≡ with x key v
  holds_row v = go (dec_lt v form.n) (dec_lt v 16)
    where
      go : Dec (v < form.n) → Dec (v < 16) → after v ≡ with x key v
      go (yes a) b = h.columns v a ∙ sym (ap (λ b. cond b (x v) (key (v - 16))) (lt-ltb v 16 (omega arith)))
      go (no a) (yes b) =
          let l : form.n ≤ v = omega arith in
          h.others v l ∙ g.others v l ∙ ap (λ b. cond b Null (key (v - 16))) (lt-ltb v 16 b) ∙ sym (ap (λ b. cond b (x v) (key (v - 16))) (lt-ltb v 16 b) ∙ h.none v l)
      go (no a) (no b) =
          let l : form.n ≤ v = omega arith in
          let m : 16 ≤ v = omega arith in
          h.others v l ∙ g.others v l ∙ ap (λ b. cond b Null (key (v - 16))) (le-ltb v 16 m) ∙ sym (ap (λ b. cond b (x v) (key (v - 16))) (le-ltb v 16 m))

  pub row_admitted : {r : Bool} → r ≡ (policy_met after (each (λ cs. cs) (permissive sheet t command)) && every (policy_met after) (restrictive sheet t command)) → r ≡ admits sheet t command (with x key)
  row_admitted e = plan_admits sheet t command after e ∙ ap (admits sheet t command) (λ i v. holds_row v i)

-- the rows up to bit number p are done, and the admitted of them written
pub record Listing (sheet : Sheet) (t command : ℕ) (key : Contents) (list : List ℕ) (p : ℕ) (before : List ℕ) (at count : ℕ) (out : List ℕ) : Type 0 where
  pub done : List Row
  pub rowing : Rowing sheet (table_at sheet t) list p done
  pub whole : p % 8 ≡ 0
  pub size : at ≡ length (row_bytes (admitted sheet t command key done))
  pub number : count ≡ length (admitted sheet t command key done)
  pub holds : out ≡ over (row_bytes (admitted sheet t command key done)) before

module _ (sheet : Sheet) (t command : ℕ) (key : Contents) (list before : List ℕ) where
  pub listing_starts : Listing sheet t command key list 0 before 0 0 before
  listing_starts = record { done = []; rowing = rowing_starts sheet (table_at sheet t) list; whole = refl; size = refl; number = refl; holds = refl }

  module _ (rs : List Row) (end : ℕ) (short : length list ≤ 65536) (is : read_rows sheet (table_at sheet t) list ≡ found rs end) (p at count : ℕ) (out : List ℕ) (g : Listing sheet t command key list p before at count out) where
    whole_list : rows (length list) sheet (table_at sheet t) list 0 ≡ found rs end
    whole_list = sym (list_short sheet (table_at sheet t) list short) ∙ is

    pub listing_ends : length list ≤ p / 8 → WritesRows (admitted sheet t command key rs) (Ok (record { length = at; count = count })) before out
    listing_ends l =
        let same : g.done ≡ rs = found_same (sym (rowing_ends sheet (table_at sheet t) list p g.done g.rowing l) ∙ whole_list) in
        subst (λ d. WritesRows (admitted sheet t command key d) (Ok (record { length = at; count = count })) before out) same ((λ i. Ok (record { length = g.size i; count = g.number i })), g.holds)

    module _ (form : Form) (l : p / 8 < length list) (now after : Contents) (q : ℕ) (read : RowRead form.n now after (row sheet (table_at sheet t) list p) q) where
      -- a list that is of the form has no row that is not
      x : (x : Contents) × (row sheet (table_at sheet t) list p ≡ found x q) × RowHeld form.n q x now after
      x = go (row sheet (table_at sheet t) list p) refl
        where
          go : (m : Read Contents) → row sheet (table_at sheet t) list p ≡ m → (x : Contents) × (row sheet (table_at sheet t) list p ≡ found x q) × RowHeld form.n q x now after
          go (found y o) e =
              let h = read y o e in
              (y, e ∙ ap (found y) (sym h.0), subst (λ m. RowHeld form.n m y now after) (sym h.0) h.1)
          go (refused k) e =
              let w : found rs end ≡ refused k = sym whole_list ∙ rowing_lost sheet (table_at sheet t) list p g.done g.rowing l e in
              let no : ◌≡◌ {A = ℕ} 0 1 = cc in absurd (omega arith)

      pub never_stuck : p ≤ q → q ≤ p → ⊥
      never_stuck a b =
          let same : q ≡ p = omega arith in
          let i = rowing_stuck sheet (table_at sheet t) list p g.done g.rowing l (x.1 ∙ ap (found x.0) same) in
          let w : found rs end ≡ refused i.0 = sym whole_list ∙ i.1 in
          let no : ◌≡◌ {A = ℕ} 0 1 = cc in omega arith

      module _ (far : p < q) (plan : Plan) (small : form.n ≤ 16) (ready : Ready plan form sheet t command key now) where
        pub ready_next : Ready plan form sheet t command key after
        ready_next = ready_on plan form sheet t command key now small ready q x.0 after x.2

        next : Row
        next = row_at list p q x.0

        rowing_next : Rowing sheet (table_at sheet t) list q (g.done ++ (next ∷ []))
        unfolding next
        rowing_next = let a = g.whole in let b = x.2.whole in rowing_on sheet (table_at sheet t) list p g.done g.rowing l x.1 (omega arith)

        kept_next : {b : Bool} → b ≡ admits sheet t command (with x.0 key) → admitted sheet t command key (g.done ++ (next ∷ [])) ≡ admitted sheet t command key g.done ++ cond b (next ∷ []) []
        unfolding next
        kept_next {b} y = keep_append (λ r. admits sheet t command (with r.columns key)) g.done (next ∷ []) ∙ ap (λ b. admitted sheet t command key g.done ++ cond b (next ∷ []) []) (sym y)

        module _ {b : Bool} (ran : b ≡ (policy_met after (each (λ cs. cs) (permissive sheet t command)) && every (policy_met after) (restrictive sheet t command))) where
          says : b ≡ admits sheet t command (with x.0 key)
          says = row_admitted plan form sheet t command key now small ready q x.0 after x.2 ran

          pub listing_drops : b ≡ false → Listing sheet t command key list q before at count out
          listing_drops not =
              let same : admitted sheet t command key g.done ≡ admitted sheet t command key (g.done ++ (next ∷ [])) = sym (kept_next says ∙ ap (λ b. admitted sheet t command key g.done ++ cond b (next ∷ []) []) not ∙ append-nil (admitted sheet t command key g.done)) in
              record {
                done = g.done ++ (next ∷ []);
                rowing = rowing_next;
                whole = x.2.whole;
                size = g.size ∙ ap (λ rs. length (row_bytes rs)) same;
                number = g.number ∙ ap length same;
                holds = g.holds ∙ ap (λ rs. over (row_bytes rs) before) same;
              }

          pub listing_keeps : q / 8 ≤ length list → b ≡ true → Listing sheet t command key list q before (at + (q / 8 - p / 8)) (count + 1) (paste out at (drop (p / 8) list) (q / 8 - p / 8))
          unfolding next
          listing_keeps inside met =
              let kept = admitted sheet t command key g.done in
              let m = q / 8 - p / 8 in
              let rest = drop (p / 8) list in
              let size-rest = length-drop (p / 8) list in
              let room : m ≤ length rest = omega arith in
              let same : admitted sheet t command key (g.done ++ (next ∷ [])) ≡ kept ++ (next ∷ []) = kept_next says ∙ ap (λ b. kept ++ cond b (next ∷ []) []) met in
              let bytes : row_bytes (admitted sheet t command key (g.done ++ (next ∷ []))) ≡ row_bytes kept ++ take m rest = ap row_bytes same ∙ each_append (λ r. r.bytes) kept (next ∷ []) ∙ ap (λ l. row_bytes kept ++ l) (append-nil (take m rest)) in
              let long : length (row_bytes kept ++ take m rest) ≡ length (row_bytes kept) + m = length-append (row_bytes kept) (take m rest) ∙ ap (λ n. length (row_bytes kept) + n) (length-take-le m rest room) in
              let one : length (kept ++ (next ∷ [])) ≡ length kept + 1 = length-append kept (next ∷ []) in
              record {
                done = g.done ++ (next ∷ []);
                rowing = rowing_next;
                whole = x.2.whole;
                size = ap (λ n. n + m) g.size ∙ sym (ap length bytes ∙ long);
                number = ap (λ n. n + 1) g.number ∙ sym (ap length same ∙ one);
                holds = ap (λ o. paste o at rest m) g.holds ∙ ap (λ n. paste (over (row_bytes kept) before) n rest m) g.size ∙ over_more (row_bytes kept) before rest m room ∙ ap (λ l. over l before) (sym bytes);
              }
