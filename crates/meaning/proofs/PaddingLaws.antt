-- Padding, read: "zero bits to the end of the byte and nothing more".
use Prim.Native.Nat.{ℕ, ◌+◌, ◌-◌, ◌*◌, ◌/◌, ◌%◌}
use native.Mathlib.Omega.{arith}
use mathlib.Core.Path.{◌≡◌, refl, sym, ap, ◌∙◌}
use mathlib.Core.Bool.{Bool, true, false, cond}
use mathlib.Core.List.{List}
use lib.ListN.{length, get_or-eq_default}
use lib.Dec.{leb, eqb}
use borrow.Author.Tests.{leb-true, le-leb, eqb-true, eq-eqb}
use Rattle.bits.specs.Bits.{bit_at, number, bytes_from, bytes_of}
use Rattle.bits.proofs.StandLaws.{Written, Binary}
use Rattle.bits.proofs.ByteLaws.{by_lt, stands_at, packed_bit, packed_size, zero_bits, bits_zero, Filled}
use Rattle.meaning.specs.Reading.{Read, found, padding, nothing_more}
use Rattle.meaning.proofs.CodecLaws.{not_found, found_end}

-- what is read to its end, padded, fills its bytes
pub filled : (s bs : List ℕ) (q r t : ℕ) (u v : Unit {0}) → Written s 0 q bs → padding s q ≡ found u r → nothing_more s r ≡ found v t → Filled s bs
unfolding padding nothing_more
filled s bs q r t u v w h k = go (eqb (number s q ((8 - q % 8) % 8)) 0) refl (leb (length s * 8) r) refl h k
  where
    go : (a : Bool) → eqb (number s q ((8 - q % 8) % 8)) 0 ≡ a → (b : Bool) → leb (length s * 8) r ≡ b → cond a (found tt (q + (8 - q % 8) % 8)) (Read.refused 10) ≡ found u r → cond b (found tt r) (Read.refused 10) ≡ found v t → Filled s bs
    go true x true y h k =
        let e = w.ended in
        let i = w.inside in
        let m = leb-true (length s * 8) r y in
        let o : q + (8 - q % 8) % 8 ≡ r = found_end h in
        let z = eqb-true (number s q ((8 - q % 8) % 8)) 0 x in
        record {
          bit = λ j l.
              by_lt j (length bs) (λ g. let f : j ≡ 0 + j = omega arith in ap (bit_at s) f ∙ stands_at s 0 bs w.stand j g)
              (λ g. let f : j ≡ q + (j - q) = omega arith in ap (bit_at s) f ∙ zero_bits s q ((8 - q % 8) % 8) z (j - q) (omega arith) ∙ sym (get_or-eq_default bs 0 g));
          size = omega arith;
        }
    go true x false y h k = absurd (not_found k)
    go false x b y h k = absurd (not_found h)

-- and what is packed is padded so
module _ (bs : List ℕ) (binary : Binary bs) where
  abbrev size : ℕ
  size = (length bs + 7) / 8

  pub packed_padding : padding (bytes_of bs) (length bs) ≡ found tt (size * 8)
  unfolding padding bytes_of
  packed_padding =
      let z : number (bytes_from size bs) (length bs) ((8 - length bs % 8) % 8) ≡ 0 =
      bits_zero (bytes_from size bs) (length bs) ((8 - length bs % 8) % 8) (λ i l. packed_bit size bs binary (length bs + i) (omega arith) ∙ get_or-eq_default bs 0 (omega arith))
      in
      let o : length bs + (8 - length bs % 8) % 8 ≡ size * 8 = omega arith in
      rw (eq-eqb (number (bytes_from size bs) (length bs) ((8 - length bs % 8) % 8)) 0 z) (ap (found tt) o)

  pub packed_ends : nothing_more (bytes_of bs) (size * 8) ≡ found tt (size * 8)
  unfolding nothing_more
  packed_ends = let n = packed_size bs binary in rw (le-leb (length (bytes_of bs) * 8) (size * 8) (omega arith))
