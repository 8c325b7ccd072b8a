-- Reading a session or a row that was packed gives it back.
use Prim.Native.Nat.{ℕ, zero, suc, ◌+◌, ◌*◌, ◌/◌, ◌≤◌}
use native.Mathlib.Nat.{add-zero}
use native.Mathlib.Omega.{arith}
use mathlib.Core.Path.{◌≡◌, refl, sym, ap, subst, ◌∙◌}
use mathlib.Core.Bool.{Bool, true, false, cond}
use mathlib.Core.List.{List, [], ◌∷◌}
use lib.ListN.{length, get_or}
use lib.Dec.{lit≤}
use borrow.Author.Tests.{le-ltb}
use Rattle.meaning.specs.declared.Content.{Content}
use Rattle.meaning.specs.declared.Content.TheVariants.{Null, Value}
use Rattle.meaning.specs.Values.{Kind, integer, Fits, Contents}
use Rattle.meaning.specs.Sheets.{Table, Sheet, holds}
use Rattle.bits.specs.Bits.{bits, bytes_of}
use Rattle.meaning.specs.Packed.{value_bits, content_bits, contents_bits, packed_session, packed_row}
use Rattle.meaning.specs.Reading.{found, give, field, content, contents, padding, nothing_more, row, read_session}
use Rattle.meaning.specs.Questions.{Holds, IsSession}
use Rattle.bits.proofs.StandLaws.{Written, written_split, Binary}
use Rattle.lists.proofs.ListLaws.{all_append}
use Rattle.meaning.proofs.CodecLaws.{reads_field, makes}
use Rattle.meaning.proofs.FormLaws.{value_reads}
use Rattle.bits.proofs.ByteLaws.{packed_written}
use Rattle.meaning.proofs.PaddingLaws.{packed_padding, packed_ends}
use Rattle.meaning.proofs.SheetLaws.{step}

content_found : (k : Kind) (s : List ℕ) (p : ℕ) (c : Content) (q : ℕ) → Fits k c → Written s p q (content_bits k c) → content k s p ≡ found c q
unfolding content
content_found k s p Null q h w = step (field 1 s p) _ 0 q (found Null q) ((reads_field 1).finds s p 0 q (lit≤ tt) w) refl
content_found k s p (Value n) q h w =
    let y = written_split s p q (bits 1 1) (value_bits k n) w in
    let r = p + length (bits 1 1) in
    step (field 1 s p) _ 1 r (found (Value n) q) ((reads_field 1).finds s p 1 r (lit≤ tt) y.0) (makes (value_reads k) s r Value n q h y.1)

content_binary : (k : Kind) (c : Content) → Fits k c → Binary (content_bits k c)
content_binary k Null h = (reads_field 1).binary 0 (lit≤ tt)
content_binary k (Value n) h = all_append (λ b. b ≤ 1) (bits 1 1) (value_bits k n) ((reads_field 1).binary 1 (lit≤ tt)) ((value_reads k).binary n h)

module _ (there : ℕ → Bool) (x : Contents) where
  -- what is read: the contents from number i on, null where none is there
  abbrev held_from : ℕ → List Kind → List Content
  held_from i [] = []
  held_from i (k ∷ ks) = cond (there i) (x i) Null ∷ held_from (i + 1) ks

  abbrev FitFrom : ℕ → List Kind → Type 0
  FitFrom i [] = Unit {0}
  FitFrom i (k ∷ ks) = Fits k (x i) × FitFrom (i + 1) ks

  contents_found : (i : ℕ) (ks : List Kind) (s : List ℕ) (p q : ℕ) → FitFrom i ks → Written s p q (contents_bits there x i ks) → contents there i ks s p ≡ found (held_from i ks) q
  unfolding contents
  contents_found i [] s p q h w = let o : p ≡ q = sym (w.ended ∙ add-zero p) in ap (found []) o
  contents_found i (k ∷ ks) s p q h w =
      let y = written_split s p q (cond (there i) (content_bits k (x i)) []) (contents_bits there x (i + 1) ks) w in
      let r = p + length (cond (there i) (content_bits k (x i)) []) in
      step (cond (there i) (content k) (give Null) s p) _ (cond (there i) (x i) Null) r (found (held_from i (k ∷ ks)) q) (one (there i) r y.0)
      (step (contents there (i + 1) ks s r) _ (held_from (i + 1) ks) q (found (held_from i (k ∷ ks)) q) (contents_found (i + 1) ks s r q h.1 y.1) refl)
    where
      one : (b : Bool) (r : ℕ) → Written s p r (cond b (content_bits k (x i)) []) → cond b (content k) (give Null) s p ≡ found (cond b (x i) Null) r
      one true r w = content_found k s p (x i) r h.0 w
      one false r w = let o : p ≡ r = sym (w.ended ∙ add-zero p) in ap (found Null) o

  contents_binary : (i : ℕ) (ks : List Kind) → FitFrom i ks → Binary (contents_bits there x i ks)
  contents_binary i [] h = tt
  contents_binary i (k ∷ ks) h = all_append (λ b. b ≤ 1) (cond (there i) (content_bits k (x i)) []) (contents_bits there x (i + 1) ks) (one (there i)) (contents_binary (i + 1) ks h.1)
    where
      one : (b : Bool) → Binary (cond b (content_bits k (x i)) [])
      one true = content_binary k (x i) h.0
      one false = tt

  fit_from : (i : ℕ) (ks : List Kind) → ((j : ℕ) → Fits (get_or ks j integer) (x (i + j))) → FitFrom i ks
  fit_from i [] f = tt
  fit_from i (k ∷ ks) f = (subst (λ z. Fits k (x z)) (add-zero i) (f 0), fit_from (i + 1) ks (λ j. let e : i + suc j ≡ i + 1 + j = omega arith in subst (λ z. Fits (get_or ks j integer) (x z)) e (f (suc j))))

  -- by number: what is there, null elsewhere
  held_at : (i : ℕ) (ks : List Kind) (j : ℕ) → ((there (i + j) ≡ false) → x (i + j) ≡ Null) → (length ks ≤ j → x (i + j) ≡ Null) → get_or (held_from i ks) j Null ≡ x (i + j)
  held_at i [] j f g = sym (g (omega arith))
  held_at i (k ∷ ks) zero f g = let e = add-zero i in one (there i) refl ∙ ap x (sym e)
    where
      one : (b : Bool) → there i ≡ b → cond b (x i) Null ≡ x i
      one true h = refl
      one false h = sym (subst (λ z. there z ≡ false → x z ≡ Null) (add-zero i) f h)
  held_at i (k ∷ ks) (suc j) f g =
      let e : i + suc j ≡ i + 1 + j = omega arith in
      held_at (i + 1) ks j (subst (λ z. there z ≡ false → x z ≡ Null) e f) (λ l. sym (ap x e) ∙ g (omega arith)) ∙ sym (ap x e)

pub session_back : (sheet : Sheet) (key : Contents) → IsSession sheet key → (p : ℕ) × (read_session sheet (packed_session sheet key) ≡ found key p)
unfolding read_session packed_session
session_back sheet key h =
    let all : ℕ → Bool = λ k. true in
    let bs : List ℕ = contents_bits all key 0 sheet.keys in
    let s : List ℕ = bytes_of bs in
    let f = fit_from all key 0 sheet.keys (λ j. let e : j ≡ 0 + j = omega arith in subst (λ z. Fits (get_or sheet.keys j integer) (key z)) e (h.fits j)) in
    let b : Binary bs = contents_binary all key 0 sheet.keys f in
    let end : ℕ = (length bs + 7) / 8 * 8 in
    let same : (λ k. get_or (held_from all key 0 sheet.keys) k Null) ≡ key =
    λ i k. (held_at all key 0 sheet.keys k (λ t. absurd (let z : ◌≡◌ {A = ℕ} 0 1 = cc in omega arith)) (λ l. let e : 0 + k ≡ k = omega arith in ap key e ∙ h.absent k (le-ltb k (length sheet.keys) l)) ∙ (let e : 0 + k ≡ k = omega arith in ap key e)) i
    in (
      end,
      step (contents all 0 sheet.keys s 0) _ (held_from all key 0 sheet.keys) (length bs) (found key end) (contents_found all key 0 sheet.keys s 0 (length bs) f (packed_written bs b))
          (step (padding s (length bs)) _ tt end (found key end) (packed_padding bs b) (step (nothing_more s end) _ tt end (found key end) (packed_ends bs b) (ap (λ z. found z end) same))),
    )

pub row_back : (sheet : Sheet) (t : Table) (x : Contents) → Holds (holds t) sheet.columns x → ((i : ℕ) → length sheet.columns ≤ i → x i ≡ Null) → (p : ℕ) × (row sheet t (packed_row sheet t x) 0 ≡ found x p)
unfolding row packed_row
row_back sheet t x h past =
    let bs : List ℕ = contents_bits (holds t) x 0 sheet.columns in
    let s : List ℕ = bytes_of bs in
    let f = fit_from (holds t) x 0 sheet.columns (λ j. let e : j ≡ 0 + j = omega arith in subst (λ z. Fits (get_or sheet.columns j integer) (x z)) e (h.fits j)) in
    let b : Binary bs = contents_binary (holds t) x 0 sheet.columns f in
    let end : ℕ = (length bs + 7) / 8 * 8 in
    let same : (λ k. get_or (held_from (holds t) x 0 sheet.columns) k Null) ≡ x =
    λ i k. (held_at (holds t) x 0 sheet.columns k (λ a. let e : 0 + k ≡ k = omega arith in ap x e ∙ h.absent k (ap (holds t) (sym e) ∙ a)) (λ l. let e : 0 + k ≡ k = omega arith in ap x e ∙ past k l) ∙ (let e : 0 + k ≡ k = omega arith in ap x e)) i
    in (
      end,
      step (contents (holds t) 0 sheet.columns s 0) _ (held_from (holds t) x 0 sheet.columns) (length bs) (found x end) (contents_found (holds t) x 0 sheet.columns s 0 (length bs) f (packed_written bs b))
          (step (padding s (length bs)) _ tt end (found x end) (packed_padding bs b) (ap (λ z. found z end) same)),
    )
