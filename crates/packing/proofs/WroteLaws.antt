-- One field more, one thing after another, and loops of things: what has been written grows so.
use Prim.Native.Nat.{ℕ, ◌+◌, ◌*◌, ◌^◌, ◌<◌, ◌≤◌}
use mathlib.Core.Path.{◌≡◌, sym, ap, subst, ◌∙◌}
use mathlib.Core.List.{List, [], ◌∷◌, ◌++◌, append_assoc, append-nil}
use native.Mathlib.Omega.{arith}
use lib.ListN.{length, take, length-append}
use lib.Seq.{take_all}
use Rattle.lists.specs.Lists.{each}
use Rattle.lists.proofs.ListLaws.{each_append}
use Rattle.bits.specs.Bits.{number, bits}
use Rattle.bits.specs.Put.{put_field}
use Rattle.bits.proofs.BitLaws.{bits_length}
use Rattle.bits.proofs.Laws.{number_lt, number_append}
use Rattle.bits.proofs.PackLaws.{bits_append}
use Rattle.bits.proofs.PutFieldLaws.{Holds, holds_step}
use Rattle.packing.specs.Wrote.{most_bits, Wrote}

module _ (o bs : List ℕ) where
  -- past the bits of any sheet nothing is promised
  pub wrote_past : (cs s t : List ℕ) (p q : ℕ) → most_bits < p → Wrote o bs s p → Wrote o (bs ++ cs) t q
  wrote_past cs s t p q h w l m =
      let a : length (bs ++ cs) ≡ length bs + length cs = length-append bs cs in
      let e : p ≡ length bs = (w (omega arith) (omega arith)).0 in
      absurd (omega arith)

  pub wrote_field : (s t : List ℕ) (p w v : ℕ) → w ≤ 64 → Wrote o bs s p → v < 2 ^ w → t ≡ put_field s p w v → Wrote o (bs ++ bits w v) t (p + w)
  wrote_field s t p w v small h less e l m =
      let a : length (bs ++ bits w v) ≡ length bs + length (bits w v) = length-append bs (bits w v) in
      let b : length (bits w v) ≡ w = bits_length w v in
      let k = h (omega arith) (omega arith) in
      let f : p ≡ length bs = k.0 in
      let i : length bs ≤ length o * 8 = omega arith in
      let old : Holds o bs s = record { packed = k.1; are = k.2; inside = i } in
      let new : Holds o (bs ++ bits w v) t = holds_step o bs s t p w v old f small (omega arith) less e in
      (omega arith, new.packed, new.are)

  -- two things in turn
  pub wrote_both : (a b s : List ℕ) (p : ℕ) → Wrote o ((bs ++ a) ++ b) s p → Wrote o (bs ++ (a ++ b)) s p
  wrote_both a b s p w = subst (λ (x : List ℕ). Wrote o x s p) (append_assoc bs a b) w

  pub wrote_as : (a b s : List ℕ) (p : ℕ) → a ≡ b → Wrote o (bs ++ a) s p → Wrote o (bs ++ b) s p
  wrote_as a b s p e w = subst (λ (x : List ℕ). Wrote o (bs ++ x) s p) e w

  pub wrote_none : (s : List ℕ) (p : ℕ) → Wrote o bs s p → Wrote o (bs ++ []) s p
  wrote_none s p w = subst (λ (x : List ℕ). Wrote o x s p) (sym (append-nil bs)) w

-- a loop over a list: none of them yet, one more, all
module _ {A : Type 0} (o bs : List ℕ) (code : A → List ℕ) (l : List A) (s : List ℕ) (p : ℕ) where
  pub wrote_starts : Wrote o bs s p → Wrote o (bs ++ each code (take 0 l)) s p
  wrote_starts w = wrote_none o bs s p w

  pub wrote_more : (i : ℕ) (x : A) → take (i + 1) l ≡ take i l ++ (x ∷ []) → Wrote o ((bs ++ each code (take i l)) ++ code x) s p → Wrote o (bs ++ each code (take (i + 1) l)) s p
  wrote_more i x e w =
      wrote_as o bs (each code (take i l) ++ code x) (each code (take (i + 1) l)) s p
      (sym (ap (each code) e ∙ each_append code (take i l) (x ∷ []) ∙ ap (λ t. each code (take i l) ++ t) (append-nil (code x))))
      (wrote_both o bs (each code (take i l)) (code x) s p w)

  pub wrote_all : (i : ℕ) → length l ≤ i → Wrote o (bs ++ each code (take i l)) s p → Wrote o (bs ++ each code l) s p
  wrote_all i h w = wrote_as o bs (each code (take i l)) (each code l) s p (ap (each code) (take_all i l h)) w

-- the n bits of b from bit number `from` on
abbrev pub run : List ℕ → ℕ → ℕ → List ℕ
run b from n = bits n (number b from n)

-- a run of bits copied: none yet, w more, all
module _ (o bs b : List ℕ) (from : ℕ) (s : List ℕ) (p : ℕ) where
  pub copy_starts : (n : ℕ) → n ≡ 0 → Wrote o bs s p → Wrote o (bs ++ run b from n) s p
  unfolding bits
  copy_starts n e w = subst (λ (x : ℕ). Wrote o (bs ++ run b from x) s p) (sym e) (wrote_none o bs s p w)

  run_more : (m w : ℕ) → run b from (m + w) ≡ run b from m ++ bits w (number b (from + m) w)
  run_more m w = ap (bits (m + w)) (number_append b from m w) ∙ bits_append m w (number b from m) (number b (from + m) w) (number_lt b from m) (number_lt b (from + m) w)

  pub copy_more : (m w n at v : ℕ) → at ≡ from + m → n ≡ m + w → v ≡ number b at w → Wrote o ((bs ++ run b from m) ++ bits w v) s p → Wrote o (bs ++ run b from n) s p
  copy_more m w n at v ea en ev h =
      wrote_as o bs (run b from m ++ bits w v) (run b from n) s p
      (ap (λ (x : ℕ). run b from m ++ bits w x) (ev ∙ ap (λ (x : ℕ). number b x w) ea) ∙ sym (run_more m w) ∙ ap (run b from) (sym en))
      (wrote_both o bs (run b from m) (bits w v) s p h)

  pub copy_all : (m n : ℕ) → m ≡ n → Wrote o (bs ++ run b from m) s p → Wrote o (bs ++ run b from n) s p
  copy_all m n e w = subst (λ (x : ℕ). Wrote o (bs ++ run b from x) s p) e w
