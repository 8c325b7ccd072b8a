-- A listing writes the admitted rows and no others; an isolated table's listing does not see what another tenant could.
use Prim.Native.Nat.{ℕ}
use native.Mathlib.Omega.{arith}
use mathlib.Core.Path.{◌≡◌, refl, sym, ap, subst, ◌∙◌}
use mathlib.Core.Bool.{Bool, true, false, ◌&&◌}
use mathlib.Core.List.{List, [], ◌∷◌}
use lib.ListN.{length}
use lib.Dec.{ltb, leb}
use Rattle.std.specs.Prelude.{Result, Ok, Err}
use Rattle.refusals.specs.declared.Refusal.{Refusal}
use Rattle.meaning.specs.declared.Listed.{Listed}
use Rattle.lists.specs.Lists.{keep, All, Keeps}
use Rattle.meaning.specs.Values.{Contents, with}
use Rattle.meaning.specs.Sheets.{Sheet, table_at, admits}
use Rattle.meaning.specs.Reading.{found, Row, read_sheet, read_session, read_rows}
use Rattle.meaning.specs.Questions.{IsRow, Admitted, IsIsolated}
use Rattle.meaning.specs.Replies.{Asked, asks, refuses, ◌>>=◌, ◌>>◌, need, whole, formed, asked_table, asked_rows, Replies, Untouched, WritesRows, row_bytes, over, rows_listed, ListingReply}
use Rattle.meaning.specs.Demands.{Accepted, OthersSee}
use Rattle.lists.proofs.ListLaws.{keep_keeps, keep_struck}
use Rattle.meaning.proofs.ReadLaws.{read_rows_hold, read_session_holds}

pub ok_same : {A : Type 0} {a b : A} → ◌≡◌ {A = Result A Refusal} (Ok a) (Ok b) → a ≡ b
ok_same e = cc

pub err_no_ok : {A : Type 0} {e : Refusal} {a : A} → ◌≡◌ {A = Result A Refusal} (Err e) (Ok a) → ⊥
err_no_ok e = cc

pub asks_same : {A : Type 0} {a b : A} → asks a ≡ asks b → a ≡ b
asks_same e = cc

-- what was asked in parts was asked
pub asked_split : {A B : Type 0} (m : Asked A) (f : A → Asked B) (b : B) → (m >>= f) ≡ asks b → (a : A) × (m ≡ asks a) × (f a ≡ asks b)
asked_split (asks a) f b e = (a, refl, e)
asked_split (refuses n) f b e = absurd (let z : ◌≡◌ {A = ℕ} 0 1 = cc in omega arith)

asked_known : {A B : Type 0} (m : Asked A) (f : A → Asked B) (a : A) (b : B) → m ≡ asks a → (m >>= f) ≡ asks b → f a ≡ asks b
asked_known m f a b e h = subst (λ x. (x >>= f) ≡ asks b) e h

pub passed : {B : Type 0} (ok : Bool) (n : ℕ) (k : Asked B) (b : B) → (need ok n >> k) ≡ asks b → k ≡ asks b
passed true n k b e = e
passed false n k b e = absurd (let z : ◌≡◌ {A = ℕ} 0 1 = cc in omega arith)

module _ (s : List ℕ) (sheet : Sheet) (t command : ℕ) (session list out : List ℕ) (key : Contents) (rows : List Row) (q m : ℕ)
    (accepted : Accepted s sheet) (is-session : read_session sheet session ≡ found key q) (are-rows : read_rows sheet (table_at sheet t) list ≡ found rows m) where
  -- the rows that the session is admitted to
  abbrev kept : List Row
  kept = keep (λ r. admits sheet t command (with r.columns key)) rows

  asked_rows_lem : (ks : List Row) → asked_rows s t command session list out ≡ asks ks → kept ≡ ks
  unfolding asked_rows asked_table
  asked_rows_lem ks h =
      let a = asked_split (asked_table s t command) _ ks h in
      let b = asked_known (whole (read_sheet s)) _ sheet a.0 (ap whole accepted.1) a.1 in
      let c : asks sheet ≡ asks a.0 = passed (ltb t (length sheet.tables) && leb command 3) 12 (asks sheet) a.0 b in
      let rest : Sheet → Asked (List Row) = λ x. need (leb (length list) (length out)) 14 >> (formed (read_session x session) >>= λ k. formed (read_rows x (table_at x t) list) >>= λ rs. asks (keep (λ r. admits x t command (with r.columns k)) rs)) in
      let d : rest sheet ≡ asks ks = subst (λ x. rest x ≡ asks ks) (sym (asks_same c)) a.2 in
      let e = passed (leb (length list) (length out)) 14 _ ks d in
      let f = asked_known (formed (read_session sheet session)) _ key ks (ap formed is-session) e in
      asks_same (asked_known (formed (read_rows sheet (table_at sheet t) list)) _ rows ks (ap formed are-rows) f)

  -- an answered listing: its length, count and output
  pub listing_says : (reply : Listed) (after : List ℕ) → ListingReply s t command session list out (Ok reply) after → (reply ≡ rows_listed kept) × (after ≡ over (row_bytes kept) out)
  unfolding ListingReply
  listing_says reply after h = go (asked_rows s t command session list out) asked_rows_lem h
    where
      go : (x : Asked (List Row)) → ((ks : List Row) → x ≡ asks ks → kept ≡ ks) →
          Replies x (λ c. Untouched c (Ok reply) out after) (λ rs. WritesRows rs (Ok reply) out after) →
          (reply ≡ rows_listed kept) × (after ≡ over (row_bytes kept) out)
      go (asks rs) is r = subst (λ x. (reply ≡ rows_listed x) × (after ≡ over (row_bytes x) out)) (sym (is rs refl)) (ok_same r.0, r.1)
      go (refuses c) is r = absurd r.0

  all_rows : All (λ r. IsRow sheet t r.columns) rows
  all_rows = read_rows_hold sheet (table_at sheet t) list rows m are-rows

  kept_admitted : (rs : List Row) → All (λ r. IsRow sheet t r.columns) rs →
      All (λ r. (admits sheet t command (with r.columns key) ≡ true → Admitted sheet t command r.columns key) × (Admitted sheet t command r.columns key → admits sheet t command (with r.columns key) ≡ true)) rs
  kept_admitted [] h = tt
  kept_admitted (r ∷ rs) h = ((λ e. record { is_row = h.0; is_session = read_session_holds sheet session key q is-session; admitted = e }, λ a. a.admitted), kept_admitted rs h.1)

  -- Demand 2: "Listing hands out the admitted rows, in order, and no others."
  pub listing_exact : (after : List ℕ) (reply : Listed) → ListingReply s t command session list out (Ok reply) after →
      (ks : List Row) × Keeps (λ r. Admitted sheet t command r.columns key) rows ks × (reply.length ≡ length (row_bytes ks)) × (reply.count ≡ length ks) × (after ≡ over (row_bytes ks) out)
  listing_exact after reply h =
      let l = listing_says reply after h in
      (kept, keep_keeps (λ r. admits sheet t command (with r.columns key)) (λ r. Admitted sheet t command r.columns key) rows (kept_admitted rows all_rows), ap (λ z. z.length) l.0, ap (λ z. z.count) l.0, l.1)

  -- Of an isolated table the session sees no row that another tenant's could see.
  unseen : IsIsolated sheet t command → (rs : List Row) → All (λ r. IsRow sheet t r.columns) rs → All (λ r. admits sheet t command (with r.columns key) ≡ true → OthersSee sheet t command key r → ⊥) rs
  unseen isolated [] h = tt
  unseen isolated (r ∷ rs) h =
      (λ e o. isolated r.columns key o.0 (record { is_row = h.0; is_session = read_session_holds sheet session key q is-session; admitted = e }) o.2 o.1, unseen isolated rs h.1)

  pub kept_struck : IsIsolated sheet t command → (struck : List Row) → Keeps (λ r. OthersSee sheet t command key r → ⊥) rows struck → kept ≡ keep (λ r. admits sheet t command (with r.columns key)) struck
  kept_struck isolated struck h = keep_struck (λ r. admits sheet t command (with r.columns key)) (λ r. OthersSee sheet t command key r → ⊥) h (unseen isolated rows all_rows)

-- Demand 3: "two fills that agree once every row that a session of some other tenant could see is struck out give one session the same rows, count and buffer"
pub listing_blind : (s : List ℕ) (sheet : Sheet) (t command : ℕ) (session : List ℕ) (key : Contents) (p : ℕ) →
    Accepted s sheet → IsIsolated sheet t command → read_session sheet session ≡ found key p →
    (one two out : List ℕ) (rows rows' struck : List Row) (q q' : ℕ) →
    read_rows sheet (table_at sheet t) one ≡ found rows q → read_rows sheet (table_at sheet t) two ≡ found rows' q' →
    Keeps (λ r. OthersSee sheet t command key r → ⊥) rows struck → Keeps (λ r. OthersSee sheet t command key r → ⊥) rows' struck →
    (reply reply' : Listed) (after after' : List ℕ) →
    ListingReply s t command session one out (Ok reply) after → ListingReply s t command session two out (Ok reply') after' →
    (reply.length ≡ reply'.length) × (reply.count ≡ reply'.count) × (after ≡ after')
listing_blind s sheet t command session key p a isolated e one two out rows rows' struck q q' f g h i reply reply' after after' l l' =
    let x = listing_says s sheet t command session one out key rows p q a e f reply after l in
    let y = listing_says s sheet t command session two out key rows' p q' a e g reply' after' l' in
    let same : keep (λ r. admits sheet t command (with r.columns key)) rows ≡ keep (λ r. admits sheet t command (with r.columns key)) rows' =
    kept_struck s sheet t command session one out key rows p q a e f isolated struck h ∙ sym (kept_struck s sheet t command session two out key rows' p q' a e g isolated struck i) in
    let replies : reply ≡ reply' = x.0 ∙ ap rows_listed same ∙ sym y.0 in
    (ap (λ z. z.length) replies, ap (λ z. z.count) replies, x.1 ∙ ap (λ z. over (row_bytes z) out) same ∙ sym y.1)
