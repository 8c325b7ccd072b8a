-- A listing's length and count are at most 65,536, a normal form's length at most 16,384: so a host's 32 bits hold them.
use Prim.Native.Nat.{ℕ, zero, suc, ◌+◌, ◌-◌, ◌*◌, ◌/◌, ◌%◌, ◌≤◌}
use native.Mathlib.Omega.{arith}
use mathlib.Core.Path.{◌≡◌, refl, ap, subst}
use mathlib.Core.Bool.{Bool, true, false, cond}
use mathlib.Core.List.{List, [], ◌∷◌}
use lib.ListN.{length, take, drop, length-append, length-take, length-drop}
use lib.Dec.{leb, eqb}
use borrow.Author.Tests.{leb-true}
use Rattle.lists.specs.Lists.{keep}
use Rattle.bits.specs.Bits.{number}
use Rattle.std.specs.Prelude.{Ok}
use Rattle.meaning.specs.declared.Listed.{Listed}
use Rattle.meaning.specs.declared.Content.TheVariants.{Null, Value}
use Rattle.meaning.specs.Values.{Kind, last, raw, with}
use Rattle.meaning.specs.Sheets.{Table, Sheet, table_at, admits, holds}
use Rattle.meaning.specs.Packed.{packed}
use Rattle.meaning.specs.Reading.{Read, found, refused, Reader, on_read, need, give, field, value, content, contents, padding, nothing_more, row, rows, Row, read_rows, read_sheet, read_session}
use Rattle.meaning.specs.Steps.{NormalSheet}
use Rattle.meaning.specs.Replies as asked
use Rattle.meaning.specs.Replies.{Asked, asks, refuses, ◌>>=◌, ◌>>◌, whole, formed, asked_table, asked_rows, asked_normal, Replies, Untouched, WritesRows, WritesForm, row_bytes, ListingReply, NormalFormReply}
use Rattle.meaning.proofs.ReadLaws.{read_split, need_true, found_same}
use Rattle.meaning.proofs.CodecLaws.{found_end, not_found}
use Rattle.meaning.proofs.SheetLaws.{accepted_as}
use Rattle.meaning.proofs.ListingLaws.{ok_same, asks_same, asked_split, passed}

-- what is read ends no earlier than it begins
abbrev Forward : {A : Type 0} → Reader A → Type 0
Forward {A} m = (s : List ℕ) (p : ℕ) (a : A) (q : ℕ) → m s p ≡ found a q → p ≤ q

forward_then : {A B : Type 0} (m : Reader A) (k : A → Reader B) → Forward m → ((a : A) → Forward (k a)) → Forward (λ s p. on_read (m s p) (λ a q. k a s q))
forward_then m k f g s p b q e =
    let x = read_split (m s p) (λ a r. k a s r) b q e in
    let l = f s p x.0 x.1 x.2 in
    let n = g x.0 s x.1 b q x.3 in
    omega arith

forward_give : {A : Type 0} (a : A) → Forward (give a)
forward_give a s p b q e = let h = found_end e in omega arith

forward_need : (ok : Bool) (n : ℕ) → Forward (need ok n)
forward_need true n s p u q e = let h = found_end e in omega arith
forward_need false n s p u q e = absurd (not_found e)

forward_field : (w : ℕ) → Forward (field w)
unfolding field
forward_field w s p v q e = go (leb (p + w) (length s * 8)) e
  where
    go : (b : Bool) → cond b (found (number s p w) (p + w)) (refused 2) ≡ found v q → p ≤ q
    go true h = let o = found_end h in omega arith
    go false h = absurd (not_found h)

forward_value : (k : Kind) → Forward (value k)
unfolding value
forward_value k =
    forward_then (field 64) _ (forward_field 64)
    (λ x. forward_then (need (leb (raw k x) (last k)) 7) _ (forward_need (leb (raw k x) (last k)) 7) (λ u. forward_give (raw k x)))

forward_content : (k : Kind) → Forward (content k)
unfolding content
forward_content k = forward_then (field 1) _ (forward_field 1) (λ b. go (eqb b 0))
  where
    go : (b : Bool) → Forward (cond b (give Null) (λ s p. on_read (value k s p) (λ n q. found (Value n) q)))
    go true = forward_give Null
    go false = forward_then (value k) _ (forward_value k) (λ n. forward_give (Value n))

forward_contents : (there : ℕ → Bool) (i : ℕ) (ks : List Kind) → Forward (contents there i ks)
unfolding contents
forward_contents there i [] = forward_give []
forward_contents there i (k ∷ ks) =
    forward_then (cond (there i) (content k) (give Null)) _ (go (there i))
    (λ x. forward_then (contents there (i + 1) ks) _ (forward_contents there (i + 1) ks) (λ more. forward_give (x ∷ more)))
  where
    go : (b : Bool) → Forward (cond b (content k) (give Null))
    go true = forward_content k
    go false = forward_give Null

forward_padding : Forward padding
unfolding padding
forward_padding s p u q e = go (eqb (number s p ((8 - p % 8) % 8)) 0) e
  where
    go : (b : Bool) → cond b (found tt (p + (8 - p % 8) % 8)) (refused 10) ≡ found u q → p ≤ q
    go true h = let o = found_end h in omega arith
    go false h = absurd (not_found h)

forward_row : (sheet : Sheet) (t : Table) → Forward (row sheet t)
unfolding row
forward_row sheet t =
    forward_then (contents (holds t) 0 sheet.columns) _ (forward_contents (holds t) 0 sheet.columns)
    (λ xs. forward_then padding _ forward_padding (λ u. forward_give _))

-- the rows of a list have no more bytes than the list, and are no more than its bytes
pub record Fewer (rs : List Row) (bytes most : ℕ) : Type 0 where
  pub total : length (row_bytes rs) ≤ bytes
  pub count : length rs ≤ most

rows_fewer : (n : ℕ) (sheet : Sheet) (t : Table) (s : List ℕ) (p : ℕ) (rs : List Row) (q : ℕ) → rows n sheet t s p ≡ found rs q → Fewer rs (length s - p / 8) n
unfolding rows
rows_fewer zero sheet t s p rs q e =
    let x = read_split (nothing_more s p) _ rs q e in subst (λ z. Fewer z (length s - p / 8) 0) (found_same x.3) (record { total = omega arith; count = omega arith })
rows_fewer (suc n) sheet t s p rs q e = go (leb (length s * 8) p) (rows_fewer n sheet t s) e
  where
    go : (b : Bool) → ((p : ℕ) (rs : List Row) (q : ℕ) → rows n sheet t s p ≡ found rs q → Fewer rs (length s - p / 8) n) →
        cond b (found [] p) (on_read (row sheet t s p) λ x q. on_read (rows n sheet t s q) λ more end. found (record { bytes = take (q / 8 - p / 8) (drop (p / 8) s); columns = x } ∷ more) end) ≡ found rs q → Fewer rs (length s - p / 8) (suc n)
    go true ih h = subst (λ z. Fewer z (length s - p / 8) (suc n)) (found_same h) (record { total = omega arith; count = omega arith })
    go false ih h =
        let x = read_split (row sheet t s p) _ rs q h in
        let y = read_split (rows n sheet t s x.1) _ rs q x.3 in
        let f = ih x.1 y.0 y.1 y.2 in
        let l = forward_row sheet t s p x.0 x.1 x.2 in
        let a = length-append (take (x.1 / 8 - p / 8) (drop (p / 8) s)) (row_bytes y.0) in
        let b = length-take (x.1 / 8 - p / 8) (drop (p / 8) s) in
        let c = length-drop (p / 8) s in
        let d = f.total in
        let g = f.count in
        subst (λ z. Fewer z (length s - p / 8) (suc n)) (found_same y.3) (record { total = omega arith; count = omega arith })

-- so have those of them that a test keeps
keep_fewer : (f : Row → Bool) (rs : List Row) (bytes most : ℕ) → Fewer rs bytes most → Fewer (keep f rs) bytes most
keep_fewer f rs bytes most h = let a = total rs in let b = h.total in let c = number_of rs in let d = h.count in record { total = omega arith; count = omega arith }
  where
    total : (xs : List Row) → length (row_bytes (keep f xs)) ≤ length (row_bytes xs)
    total [] = omega arith
    total (x ∷ xs) = go (f x) (total xs)
      where
        go : (b : Bool) → length (row_bytes (keep f xs)) ≤ length (row_bytes xs) → length (row_bytes (cond b (x ∷ keep f xs) (keep f xs))) ≤ length (row_bytes (x ∷ xs))
        go true i = let a = length-append x.bytes (row_bytes (keep f xs)) in let b = length-append x.bytes (row_bytes xs) in omega arith
        go false i = let b = length-append x.bytes (row_bytes xs) in omega arith

    number_of : (xs : List Row) → length (keep f xs) ≤ length xs
    number_of [] = omega arith
    number_of (x ∷ xs) = go (f x) (number_of xs)
      where
        go : (b : Bool) → length (keep f xs) ≤ length xs → length (cond b (x ∷ keep f xs) (keep f xs)) ≤ suc (length xs)
        go true i = omega arith
        go false i = omega arith

pub rows_bounded : (sheet : Sheet) (t : Table) (s : List ℕ) (rs : List Row) (q : ℕ) → read_rows sheet t s ≡ found rs q → Fewer rs 65536 65536
unfolding read_rows
rows_bounded sheet t s rs q e =
    let x = read_split (need (leb (length s) 65536) 15 s 0) _ rs q e in
    let l = leb-true (length s) 65536 (need_true (leb (length s) 65536) 15 s 0 x.1 x.0 x.2) in
    let f = rows_fewer (length s) sheet t s x.1 rs q x.3 in
    let a = f.total in
    let b = f.count in
    record { total = omega arith; count = omega arith }

-- what is asked of a listing: the rows are few
formed_found : {A : Type 0} (r : Read A) (a : A) → formed r ≡ asks a → (q : ℕ) × (r ≡ found a q)
formed_found (found b q) a e = (q, ap (λ x. found x q) (asks_same e))
formed_found (refused n) a e = absurd (let z : ◌≡◌ {A = ℕ} 0 1 = cc in omega arith)

asked_fewer : (s : List ℕ) (t command : ℕ) (session list out : List ℕ) (ks : List Row) → asked_rows s t command session list out ≡ asks ks → Fewer ks 65536 65536
unfolding asked_rows
asked_fewer s t command session list out ks h =
    let a = asked_split (asked_table s t command) _ ks h in
    let b = passed (leb (length list) (length out)) 14 _ ks a.2 in
    let c = asked_split (formed (read_session a.0 session)) _ ks b in
    let d = asked_split (formed (read_rows a.0 (table_at a.0 t) list)) _ ks c.2 in
    let r = formed_found (read_rows a.0 (table_at a.0 t) list) d.0 d.1 in
    let f = rows_bounded a.0 (table_at a.0 t) list d.0 r.0 r.1 in
    subst (λ z. Fewer z 65536 65536) (asks_same d.2) (keep_fewer (λ r. admits a.0 t command (with r.columns c.0)) d.0 65536 65536 f)

-- "A row list has at most 65,536 bytes": so has a listing, and no more rows
pub listing_bounded : (s : List ℕ) (t command : ℕ) (session list out : List ℕ) (reply : Listed) (after : List ℕ) →
    ListingReply s t command session list out (Ok reply) after → (reply.length ≤ 65536) × (reply.count ≤ 65536)
unfolding ListingReply
listing_bounded s t command session list out reply after h = go (asked_rows s t command session list out) refl h
  where
    go : (x : Asked (List Row)) → asked_rows s t command session list out ≡ x →
        Replies x (λ c. Untouched c (Ok reply) out after) (λ rs. WritesRows rs (Ok reply) out after) → (reply.length ≤ 65536) × (reply.count ≤ 65536)
    go (asks rs) e r =
        let f = asked_fewer s t command session list out rs e in
        let a = f.total in
        let b = f.count in
        let c = ap (λ z. z.length) (ok_same r.0) in
        let d = ap (λ z. z.count) (ok_same r.0) in
        (omega arith, omega arith)
    go (refuses m) e r = absurd r.0

-- "A sheet has at most 16,384 bytes": so has its normal form
pub normal_bounded : (s out : List ℕ) (n : ℕ) (after : List ℕ) → NormalFormReply s out (Ok n) after → n ≤ 16384
unfolding NormalFormReply asked_normal
normal_bounded s out n after h = go (read_sheet s) refl h
  where
    short : (sheet : Sheet) (p : ℕ) → read_sheet s ≡ found sheet p → length s ≤ 16384
    short sheet p e = let a = accepted_as s sheet (p, e) in let b = a.allowed.short in let c = a.as_long in omega arith

    fits : (b : Bool) (normal : Sheet) → leb (length (packed normal)) (length s) ≡ b → length s ≤ 16384 → WritesForm b normal (Ok n) out after → n ≤ 16384
    fits true normal e l r = let a = leb-true (length (packed normal)) (length s) e in let c = ok_same r.0 in omega arith
    fits false normal e l r = absurd r.0

    Answer : Sheet → Type 0
    Answer sheet = (normal : Sheet) × NormalSheet sheet normal × WritesForm (leb (length (packed normal)) (length s)) normal (Ok n) out after

    room : (sheet : Sheet) (b : Bool) → length s ≤ 16384 → Replies (asked.need b 14 >> asks sheet) (λ m. Untouched m (Ok n) out after) Answer → n ≤ 16384
    room sheet true l r = fits (leb (length (packed r.0)) (length s)) r.0 refl l r.2
    room sheet false l r = absurd r.0

    go : (x : Read Sheet) → read_sheet s ≡ x → Replies (whole x >>= λ sheet. asked.need (leb (length s) (length out)) 14 >> asks sheet) (λ m. Untouched m (Ok n) out after) Answer → n ≤ 16384
    go (found sheet p) e r = room sheet (leb (length s) (length out)) (short sheet p e) r
    go (refused m) e r = absurd r.0
