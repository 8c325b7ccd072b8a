-- An atom that stands packed, and the word that is laid for it.
use Prim.Native.Nat.{ℕ, suc, ◌+◌, ◌*◌, ◌%◌, ◌^◌, ◌<◌, ◌≤◌}
use native.Mathlib.Omega.{arith}
use mathlib.Core.Path.{◌≡◌, refl, sym, ap, subst, ◌∙◌}
use mathlib.Core.Bool.{Bool, true, false, cond}
use mathlib.Core.List.{List, [], ◌∷◌, ◌++◌, append_assoc}
use lib.ListN.{length}
use lib.Dec.{leb, lit≤}
use borrow.Author.Tests.{leb-true}
use Rattle.lists.specs.Lists.{All, each}
use Rattle.bits.specs.Bits.{number, bits}
use Rattle.bits.proofs.BitLaws.{bits_length}
use Rattle.bits.proofs.Laws.{number_lt}
use Rattle.meaning.specs.Values.{Kind, last, raw}
use Rattle.meaning.specs.Atoms.{at_most, at_least, is_below, is_above, Operator, equals, in_list, not_in_list, order, is_null, is_not_null, Atom}
use Rattle.meaning.specs.Sheets.{Sheet, kind_of}
use Rattle.meaning.specs.Steps.{on}
use Rattle.meaning.specs.Views.{operator_of}
use Rattle.meaning.specs.Packed.{value_bits, operator_number, operand_bits, atom_bits}
use Rattle.meaning.specs.Allowed.{OperatorAllowed, AtomAllowed}
use Rattle.meaning.specs.Reading.{found, refused, need, field, value}
use Rattle.meaning.proofs.ReadLaws.{read_split, found_same}
use Rattle.bits.proofs.StandLaws.{Written, written_split}
use Rattle.meaning.proofs.CodecLaws.{reads_field}
use Rattle.meaning.proofs.FormLaws.{value_reads}
use Rattle.admission.specs.Plan.{value_at, values_at, operator_number_of, variable_of, other_of, operator_of_word, atom_of_word, size_by, size_of, other_at, LaidAt}

-- a field that is read is the number at its place, within the bytes
pub field_number : (w : ℕ) (s : List ℕ) (p v q : ℕ) → field w s p ≡ found v q → (number s p w ≡ v) × (p + w ≤ length s * 8)
unfolding field
field_number w s p v q e = go (leb (p + w) (length s * 8)) refl e
  where
    go : (b : Bool) → leb (p + w) (length s * 8) ≡ b → cond b (found (number s p w) (p + w)) (refused 2) ≡ found v q → (number s p w ≡ v) × (p + w ≤ length s * 8)
    go true t h = (found_same h, leb-true (p + w) (length s * 8) t)
    go false t h = absurd (let z : ◌≡◌ {A = ℕ} 0 1 = cc in omega arith)

module _ (s : List ℕ) where
  -- a field that stands packed, and a value, and a run of values
  pub number_written : (w v p q : ℕ) (rest : List ℕ) → v < 2 ^ w → Written s p q (bits w v ++ rest) → (number s p w ≡ v) × Written s (p + w) q rest
  number_written w v p q rest l h =
      let x = written_split s p q (bits w v) rest h in
      ((field_number w s p v _ ((reads_field w).finds s p v _ l x.0)).0, subst (λ n. Written s (p + n) q rest) (bits_length w v) x.1)

  value_written : (k : Kind) (n p q : ℕ) (rest : List ℕ) → n ≤ last k → Written s p q (value_bits k n ++ rest) → (value_at k s p ≡ n) × Written s (p + 64) q rest
  unfolding value
  value_written k n p q rest l h =
      let x = written_split s p q (value_bits k n) rest h in
      let e = (value_reads k).finds s p n _ l x.0 in
      let y = read_split (field 64 s p) _ n _ e in
      let u = read_split (need (leb (raw k y.0) (last k)) 7 s y.1) _ n _ y.3 in
      (ap (raw k) (field_number 64 s p y.0 y.1 y.2).0 ∙ found_same u.3, subst (λ m. Written s (p + m) q rest) (bits_length 64 (raw k n)) x.1)

  values_written : (k : Kind) (ns : List ℕ) (p q : ℕ) (rest : List ℕ) → All (λ n. n ≤ last k) ns → Written s p q (each (value_bits k) ns ++ rest) → (values_at k s p (length ns) ≡ ns) × Written s (p + 64 * length ns) q rest
  unfolding values_at
  values_written k [] p q rest a h = let e : p ≡ p + 64 * 0 = omega arith in (refl, subst (λ m. Written s m q rest) e h)
  values_written k (n ∷ ns) p q rest a h =
      let x = value_written k n p q (each (value_bits k) ns ++ rest) a.0 (subst (Written s p q) (append_assoc (value_bits k n) (each (value_bits k) ns) rest) h) in
      let y = values_written k ns (p + 64) q rest a.1 x.1 in
      let e : p + 64 + 64 * length ns ≡ p + 64 * suc (length ns) = omega arith in
      ((λ i. x.0 i ∷ y.0 i), subst (λ m. Written s m q rest) e y.1)

  operator_small : (x : Operator) → operator_number x < 9
  operator_small (equals u) = lit≤ tt
  operator_small (in_list ns) = lit≤ tt
  operator_small (not_in_list ns) = lit≤ tt
  operator_small (order at_most n) = lit≤ tt
  operator_small (order at_least n) = lit≤ tt
  operator_small (order is_below n) = lit≤ tt
  operator_small (order is_above n) = lit≤ tt
  operator_small is_null = lit≤ tt
  operator_small is_not_null = lit≤ tt

  -- the operator that a word's parts stand for, where o is its number
  abbrev laid_operator : Kind → ℕ → ℕ → Operator
  laid_operator k p o = operator_of o (other_at s p o) (value_at k s (p + 9)) (values_at k s (p + 13) (other_at s p o))

  -- what is packed behind an operator's number is what the word's parts stand for: a list, a bound, any
  list_laid : (f : List ℕ → Operator) (k : Kind) (p q : ℕ) (rest ns : List ℕ) → length ns ≤ 8 → All (λ n. n ≤ last k) ns → Written s (p + 9) q ((bits 4 (length ns) ++ each (value_bits k) ns) ++ rest) →
      (f (values_at k s (p + 13) (number s (p + 9) 4)) ≡ f ns) × Written s (p + (13 + 64 * number s (p + 9) 4)) q rest
  list_laid f k p q rest ns few a h =
      let x = number_written 4 (length ns) (p + 9) q (each (value_bits k) ns ++ rest) (omega arith) (subst (Written s (p + 9) q) (append_assoc (bits 4 (length ns)) (each (value_bits k) ns) rest) h) in
      let e : p + 9 + 4 ≡ p + 13 = omega arith in
      let y = values_written k ns (p + 13) q rest a (subst (λ m. Written s m q (each (value_bits k) ns ++ rest)) e x.1) in
      let n = x.0 in
      let d : p + 13 + 64 * length ns ≡ p + (13 + 64 * number s (p + 9) 4) = omega arith in
      (ap f (ap (values_at k s (p + 13)) x.0 ∙ y.0), subst (λ m. Written s m q rest) d y.1)

  bound_laid : (f : ℕ → Operator) (k : Kind) (p q : ℕ) (rest : List ℕ) (n : ℕ) → n ≤ last k → Written s (p + 9) q (value_bits k n ++ rest) →
      (f (value_at k s (p + 9)) ≡ f n) × Written s (p + 73) q rest
  bound_laid f k p q rest n a h =
      let x = value_written k n (p + 9) q rest a h in
      let e : p + 9 + 64 ≡ p + 73 = omega arith in
      (ap f x.0, subst (λ m. Written s m q rest) e x.1)

  operand_laid : (facts : Sheet) (v p q : ℕ) (rest : List ℕ) (x : Operator) → OperatorAllowed facts v x → Written s (p + 9) q (operand_bits (kind_of facts v) x ++ rest) →
      (laid_operator (kind_of facts v) p (operator_number x) ≡ x) × Written s (p + size_by (operator_number x) (other_at s p (operator_number x))) q rest
  operand_laid facts v p q rest (equals u) a h =
      let small : u < 24 = a.0.0 in
      let x = number_written 5 u (p + 9) q rest (omega arith) h in
      let e : p + 9 + 5 ≡ p + 14 = omega arith in
      (ap equals x.0, subst (λ m. Written s m q rest) e x.1)
  operand_laid facts v p q rest (in_list ns) a h = list_laid in_list (kind_of facts v) p q rest ns a.1 a.2 h
  operand_laid facts v p q rest (not_in_list ns) a h = list_laid not_in_list (kind_of facts v) p q rest ns a.1 a.2 h
  operand_laid facts v p q rest (order at_most n) a h = bound_laid (order at_most) (kind_of facts v) p q rest n a.1 h
  operand_laid facts v p q rest (order at_least n) a h = bound_laid (order at_least) (kind_of facts v) p q rest n a.1 h
  operand_laid facts v p q rest (order is_below n) a h = bound_laid (order is_below) (kind_of facts v) p q rest n a.1 h
  operand_laid facts v p q rest (order is_above n) a h = bound_laid (order is_above) (kind_of facts v) p q rest n a.1 h
  operand_laid facts v p q rest is_null a h = (refl, h)
  operand_laid facts v p q rest is_not_null a h = (refl, h)

  -- so a word laid at an atom that stands packed is that atom, and the rest stands behind it
  pub atom_laid : (facts : Sheet) (a : Atom) (p q : ℕ) (rest : List ℕ) (w : ℕ) → AtomAllowed facts a → LaidAt s p w → Written s p q (atom_bits (kind_of facts) a ++ rest) →
      (atom_of_word (kind_of facts) s w p ≡ a) × Written s (p + size_of w) q rest
  unfolding atom_of_word operator_of_word size_of
  atom_laid facts a p q rest w ok h stands =
      let v = a.variable in
      let o = operator_number a.operator in
      let vs : v < 24 = ok.0.0 in
      let os = operator_small a.operator in
      let tail = bits 4 o ++ operand_bits (kind_of facts v) a.operator in
      let x = number_written 5 v p q (tail ++ rest) (omega arith) (subst (Written s p q) (append_assoc (bits 5 v) tail rest) stands) in
      let y = number_written 4 o (p + 5) q (operand_bits (kind_of facts v) a.operator ++ rest) (omega arith) (subst (Written s (p + 5) q) (append_assoc (bits 4 o) (operand_bits (kind_of facts v) a.operator) rest) x.1) in
      let e : p + 5 + 4 ≡ p + 9 = omega arith in
      let z = operand_laid facts v p q rest a.operator ok.1 (subst (λ m. Written s m q (operand_bits (kind_of facts v) a.operator ++ rest)) e y.1) in
      let op : operator_number_of w ≡ o = h.operator ∙ y.0 in
      let var : variable_of w ≡ v = h.variable ∙ x.0 in
      let oth : other_of w ≡ other_at s p o = h.other ∙ ap (other_at s p) y.0 in (
        (λ i. on (var i) (operator_of (op i) (oth i) (value_at (kind_of facts (var i)) s (p + 9)) (values_at (kind_of facts (var i)) s (p + 13) (oth i)))) ∙ ap (on v) z.0,
        subst (λ m. Written s (p + m) q rest) (sym (λ i. size_by (op i) (oth i))) z.1,
      )

-- the parts of a word, as the code joins them
pub laid_by : (s : List ℕ) (p v o n word : ℕ) → v ≡ number s p 5 → o ≡ number s (p + 5) 4 → n ≡ other_at s p o → n < 32
    → (operator_number_of word ≡ o % 16) × (variable_of word ≡ v % 32) × (other_of word ≡ n % 32) → LaidAt s p word
laid_by s p v o n word is-v is-o is-n l parts =
    let x = number_lt s p 5 in
    let y = number_lt s (p + 5) 4 in
    let last : n % 32 ≡ n = omega arith in
    record {
      operator = parts.0 ∙ omega arith;
      variable = parts.1 ∙ omega arith;
      other = parts.2 ∙ last ∙ is-n ∙ ap (other_at s p) is-o;
    }
