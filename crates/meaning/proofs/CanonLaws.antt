-- Sessions and rows are written in one way.
use Prim.Native.Nat.{ℕ, zero, suc, ◌+◌, ◌-◌, ◌*◌, ◌/◌, ◌%◌, ◌^◌, ◌<◌, ◌≤◌}
use native.Mathlib.Nat.{add-zero}
use native.Mathlib.Omega.{arith}
use mathlib.Core.Path.{◌≡◌, refl, sym, ap, subst, ◌∙◌}
use mathlib.Core.Bool.{Bool, true, false, cond}
use mathlib.Core.List.{List, [], ◌∷◌}
use lib.ListN.{length, get_or, take, drop, length-take, length-drop, get_or-eq_default}
use lib.Seq.{get_or-take, get_or-drop}
use lib.Dec.{leb, eqb}
use borrow.Author.Tests.{leb-false, eqb-true}
use Rattle.meaning.specs.declared.Content.{Content}
use Rattle.meaning.specs.declared.Content.TheVariants.{Null, Value}
use Rattle.lists.specs.Lists.{All}
use Rattle.meaning.specs.Values.{Kind, Contents}
use Rattle.meaning.specs.Sheets.{Table, Sheet, holds}
use Rattle.bits.specs.Bits.{bits, bytes_of, bit_at, number}
use Rattle.meaning.specs.Packed.{content_bits, contents_bits, packed_session, packed_row}
use Rattle.meaning.specs.Reading.{found, refused, on_read, give, need, field, value, content, contents, padding, nothing_more, Row, row, rows, read_session, read_rows}
use Rattle.meaning.specs.Demands.{AreBytes}
use Rattle.meaning.proofs.ReadLaws.{read_split, found_same}
use Rattle.bits.proofs.StandLaws.{Written, written_nil, written_append}
use Rattle.meaning.proofs.CodecLaws.{reads_field, found_end, not_found, made}
use Rattle.meaning.proofs.FormLaws.{value_reads}
use Rattle.bits.proofs.ByteLaws.{Filled, filled_back, by_lt, stands_at, zero_bits}
use Rattle.meaning.proofs.PaddingLaws.{filled}

content_written : (k : Kind) (s : List ℕ) (p : ℕ) (c : Content) (q : ℕ) → p ≤ length s * 8 → content k s p ≡ found c q → Written s p q (content_bits k c)
unfolding content
content_written k s p c q l e =
    let x = read_split (field 1 s p) _ c q e in
    let w = (reads_field 1).reads s p x.0 x.1 l x.2 in
    go x.0 x.1 w.0 w.1 x.3
  where
    go : (v r : ℕ) → v < 2 ^ 1 → Written s p r (bits 1 v) → cond (eqb v 0) (give Null) (λ s p. on_read (value k s p) (λ n q. found (Value n) q)) s r ≡ found c q → Written s p q (content_bits k c)
    go zero r l w h = subst (λ z. Written s p q (content_bits k z)) (found_same h) (subst (λ z. Written s p z (bits 1 0)) (found_end h) w)
    go (suc zero) r l w h =
        let y = made (value_reads k) s r Value c q w.inside h in
        subst (λ z. Written s p q (content_bits k z)) y.1 (written_append s p r q (bits 1 1) _ w y.3)
    go (suc (suc v)) r l w h = absurd (omega arith)

-- the contents x has from number i on are xs
contents_written : (there : ℕ → Bool) (x : Contents) (i : ℕ) (ks : List Kind) (s : List ℕ) (p : ℕ) (xs : List Content) (q : ℕ) → p ≤ length s * 8 → contents there i ks s p ≡ found xs q →
    ((j : ℕ) → j < length ks → x (i + j) ≡ get_or xs j Null) → Written s p q (contents_bits there x i ks)
unfolding contents
contents_written there x i [] s p xs q l e f = subst (λ z. Written s p z []) (found_end e) (written_nil s p l)
contents_written there x i (k ∷ ks) s p xs q l e f =
    let y = read_split (cond (there i) (content k) (give Null) s p) _ xs q e in
    let z = read_split (contents there (i + 1) ks s y.1) _ xs q y.3 in
    let o : y.0 ∷ z.0 ≡ xs = found_same z.3 in
    let h : x i ≡ y.0 = ap x (sym (add-zero i)) ∙ f 0 (omega arith) ∙ ap (λ u. get_or u 0 Null) (sym o) in
    let w : Written s p y.1 (cond (there i) (content_bits k (x i)) []) = subst (λ u. Written s p y.1 (cond (there i) (content_bits k u) [])) (sym h) (one (there i) y.0 y.1 y.2) in
    written_append s p y.1 q (cond (there i) (content_bits k (x i)) []) (contents_bits there x (i + 1) ks) w
    (subst (λ u. Written s y.1 u (contents_bits there x (i + 1) ks)) (found_end z.3)
    (contents_written there x (i + 1) ks s y.1 z.0 z.1 w.inside z.2 (λ j g. let a : i + 1 + j ≡ i + suc j = omega arith in ap x a ∙ f (suc j) (omega arith) ∙ ap (λ u. get_or u (suc j) Null) (sym o))))
  where
    one : (b : Bool) (c : Content) (r : ℕ) → cond b (content k) (give Null) s p ≡ found c r → Written s p r (cond b (content_bits k c) [])
    one true c r h = content_written k s p c r l h
    one false c r h = subst (λ u. Written s p u []) (found_end h) (written_nil s p l)

pub session_canonical : (sheet : Sheet) (s : List ℕ) (key : Contents) (p : ℕ) → AreBytes s → read_session sheet s ≡ found key p → packed_session sheet key ≡ s
unfolding read_session packed_session
session_canonical sheet s key p h e =
    let c = read_split (contents (λ k. true) 0 sheet.keys s 0) _ key p e in
    let d = read_split (padding s c.1) _ key p c.3 in
    let f = read_split (nothing_more s d.1) _ key p d.3 in
    let o : (λ k. get_or c.0 k Null) ≡ key = found_same f.3 in
    let w = contents_written (λ k. true) key 0 sheet.keys s 0 c.0 c.1 (omega arith) c.2 (λ j l. let a : 0 + j ≡ j = omega arith in ap key a ∙ (λ i. sym o i j)) in
    filled_back s (contents_bits (λ k. true) key 0 sheet.keys) h (filled s (contents_bits (λ k. true) key 0 sheet.keys) c.1 d.1 f.1 d.0 f.0 w d.2 f.2)

-- the bytes from byte a on, n of them
part_bit : (s : List ℕ) (a n i : ℕ) → i < n * 8 → bit_at (take n (drop a s)) i ≡ bit_at s (a * 8 + i)
unfolding bit_at
part_bit s a n i l =
    let d : (a * 8 + i) / 8 ≡ a + i / 8 = omega arith in
    let m : (a * 8 + i) % 8 ≡ i % 8 = omega arith in
    let g : get_or (take n (drop a s)) (i / 8) 0 ≡ get_or s (a + i / 8) 0 = get_or-take n (drop a s) (i / 8) 0 (omega arith) ∙ get_or-drop a s (i / 8) 0 in
    rw (g, d, m)

bytes_take : (n : ℕ) (s : List ℕ) → AreBytes s → AreBytes (take n s)
bytes_take zero s h = tt
bytes_take (suc n) [] h = tt
bytes_take (suc n) (b ∷ s) h = (h.0, bytes_take n s h.1)

bytes_drop : (n : ℕ) (s : List ℕ) → AreBytes s → AreBytes (drop n s)
bytes_drop zero s h = h
bytes_drop (suc n) [] h = tt
bytes_drop (suc n) (b ∷ s) h = bytes_drop n s h.1

-- bits from a whole byte on, and zeros to the end of the byte, fill these bytes
part_filled : (s bs : List ℕ) (p q r : ℕ) (u : Unit {0}) → p % 8 ≡ 0 → Written s p q bs → padding s q ≡ found u r → Filled (take (r / 8 - p / 8) (drop (p / 8) s)) bs × (r % 8 ≡ 0)
unfolding padding
part_filled s bs p q r u h w e = go (eqb (number s q ((8 - q % 8) % 8)) 0) refl e
  where
    go : (b : Bool) → eqb (number s q ((8 - q % 8) % 8)) 0 ≡ b → cond b (found tt (q + (8 - q % 8) % 8)) (refused 10) ≡ found u r → Filled (take (r / 8 - p / 8) (drop (p / 8) s)) bs × (r % 8 ≡ 0)
    go true x k =
        let o : q + (8 - q % 8) % 8 ≡ r = found_end k in
        let z = eqb-true (number s q ((8 - q % 8) % 8)) 0 x in
        let f = w.ended in
        let i = w.inside in
        let a = length-take (r / 8 - p / 8) (drop (p / 8) s) in
        let b = length-drop (p / 8) s in
        let c : length (take (r / 8 - p / 8) (drop (p / 8) s)) ≡ (length bs + 7) / 8 = omega arith in
        let y : (j : ℕ) → j < (length bs + 7) / 8 * 8 → bit_at (take (r / 8 - p / 8) (drop (p / 8) s)) j ≡ get_or bs j 0 = λ j l.
        (let m : p / 8 * 8 + j ≡ p + j = omega arith in
        part_bit s (p / 8) (r / 8 - p / 8) j (omega arith) ∙ ap (bit_at s) m
        ∙ by_lt j (length bs) (λ g. stands_at s p bs w.stand j g) (λ g. let n : p + j ≡ q + (j - length bs) = omega arith in ap (bit_at s) n ∙ zero_bits s q ((8 - q % 8) % 8) z (j - length bs) (omega arith) ∙ sym (get_or-eq_default bs 0 g)))
        in
        (record { bit = λ j l. y j (omega arith); size = c }, omega arith)
    go false x k = absurd (not_found k)

module _ (sheet : Sheet) (t : Table) (s : List ℕ) (are : AreBytes s) where
  abbrev IsPacked : Row → Type 0
  IsPacked r = packed_row sheet t r.columns ≡ r.bytes

  row_canonical : (p : ℕ) (x : Contents) (q : ℕ) → p % 8 ≡ 0 → p ≤ length s * 8 → row sheet t s p ≡ found x q → (packed_row sheet t x ≡ take (q / 8 - p / 8) (drop (p / 8) s)) × (q % 8 ≡ 0)
  unfolding row packed_row
  row_canonical p x q h l e =
      let c = read_split (contents (holds t) 0 sheet.columns s p) _ x q e in
      let d = read_split (padding s c.1) _ x q c.3 in
      let o : (λ k. get_or c.0 k Null) ≡ x = found_same d.3 in
      let w = contents_written (holds t) x 0 sheet.columns s p c.0 c.1 l c.2 (λ j m. let a : 0 + j ≡ j = omega arith in ap x a ∙ (λ i. sym o i j)) in
      let f = part_filled s (contents_bits (holds t) x 0 sheet.columns) p c.1 d.1 d.0 h w d.2 in
      let g : d.1 ≡ q = found_end d.3 in
      subst (λ z. (bytes_of (contents_bits (holds t) x 0 sheet.columns) ≡ take (z / 8 - p / 8) (drop (p / 8) s)) × (z % 8 ≡ 0)) g
      (filled_back (take (d.1 / 8 - p / 8) (drop (p / 8) s)) (contents_bits (holds t) x 0 sheet.columns) (bytes_take (d.1 / 8 - p / 8) (drop (p / 8) s) (bytes_drop (p / 8) s are)) f.0, f.1)

  rows_canonical : (n p : ℕ) (rs : List Row) (q : ℕ) → p % 8 ≡ 0 → rows n sheet t s p ≡ found rs q → All IsPacked rs
  unfolding rows
  rows_canonical zero p rs q h e = let x = read_split (nothing_more s p) _ rs q e in subst (All IsPacked) (found_same x.3) tt
  rows_canonical (suc n) p rs q h e = go (leb (length s * 8) p) refl (rows_canonical n) e
    where
      go : (b : Bool) → leb (length s * 8) p ≡ b → ((p : ℕ) (rs : List Row) (q : ℕ) → p % 8 ≡ 0 → rows n sheet t s p ≡ found rs q → All IsPacked rs) →
          cond b (found [] p) (on_read (row sheet t s p) λ x q. on_read (rows n sheet t s q) λ more end. found (record { bytes = take (q / 8 - p / 8) (drop (p / 8) s); columns = x } ∷ more) end) ≡ found rs q → All IsPacked rs
      go true b ih k = subst (All IsPacked) (found_same k) tt
      go false b ih k =
          let l = leb-false (length s * 8) p b in
          let x = read_split (row sheet t s p) _ rs q k in
          let y = read_split (rows n sheet t s x.1) _ rs q x.3 in
          let c = row_canonical p x.0 x.1 h (omega arith) x.2 in
          subst (All IsPacked) (found_same y.3) (c.0, ih x.1 y.0 y.1 c.1 y.2)

pub row_list_canonical : (sheet : Sheet) (t : Table) (s : List ℕ) (rs : List Row) (q : ℕ) → AreBytes s → read_rows sheet t s ≡ found rs q → All (λ r. packed_row sheet t r.columns ≡ r.bytes) rs
unfolding read_rows
row_list_canonical sheet t s rs q h e =
    let x = read_split (need (leb (length s) 65536) 15 s 0) _ rs q e in
    let o : x.1 ≡ 0 = start (leb (length s) 65536) x.0 x.1 x.2 in
    rows_canonical sheet t s h (length s) x.1 rs q (ap (λ z. z % 8) o) x.3
  where
    start : (b : Bool) (u : Unit {0}) (p : ℕ) → need b 15 s 0 ≡ found u p → p ≡ 0
    start true u p h = sym (found_end h)
    start false u p h = absurd (not_found h)
