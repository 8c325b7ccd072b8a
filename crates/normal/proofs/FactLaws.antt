-- The facts of a sheet, written field by field.
use Prim.Native.Nat.{ℕ, suc, ◌+◌, ◌≤◌, ◌<◌}
use mathlib.Core.Path.{◌≡◌, refl, sym, ap, subst, ◌∙◌}
use mathlib.Core.List.{List, [], ◌∷◌, ◌++◌, map, append_assoc}
use native.Mathlib.Omega.{arith}
use lib.ListN.{length, take, drop, get_or}
use lib.Seq.{drop-cons}
use Rattle.meaning.specs.Values.{Kind, integer, kind_number}
use Rattle.lists.specs.Lists.{each}
use Rattle.bits.specs.Bits.{bits}
use Rattle.bits.proofs.PutFieldLaws.{holds_start}
use Rattle.meaning.specs.Sheets.{Sheet}
use Rattle.meaning.specs.Packed.{kind_bits, table_bits, count_bits, fact_bits}
use Rattle.packing.specs.Wrote.{Wrote}

-- nothing is written at first
pub wrote_start : (o s : List ℕ) → o ≡ s → Wrote o [] s 0
wrote_start o s e l m = let h = holds_start o in (refl, sym e ∙ h.packed, h.are)

pub begun : (o s : List ℕ) (p : ℕ) → s ≡ o → p ≡ 0 → Wrote o [] s p
begun o s p e f = subst (λ (n : ℕ). Wrote o [] s n) (sym f) (wrote_start o s (sym e))

five_parts : (a b c d e : List ℕ) → (((a ++ b) ++ c) ++ d) ++ e ≡ a ++ (b ++ (c ++ (d ++ e)))
five_parts a b c d e = simp append_assoc

-- "edition", "columns C, keys K, tables T, policies P"
pub counts_written : (sheet : Sheet) {c k t n : ℕ} (o s : List ℕ) (p : ℕ) → c ≡ length sheet.columns → k ≡ length sheet.keys → t ≡ length sheet.tables → n ≡ length sheet.policies
    → Wrote o ((((([] ++ bits 4 1) ++ bits 5 c) ++ bits 4 k) ++ bits 5 t) ++ bits 5 n) s p → Wrote o (count_bits sheet) s p
counts_written sheet {c} {k} {t} {n} o s p e f g h w =
    subst (λ (x : List ℕ). Wrote o x s p)
    (five_parts (bits 4 1) (bits 5 c) (bits 4 k) (bits 5 t) (bits 5 n)
    ∙ ap (λ (i : ℕ). bits 4 1 ++ (bits 5 i ++ (bits 4 k ++ (bits 5 t ++ bits 5 n)))) e
    ∙ ap (λ (i : ℕ). bits 4 1 ++ (bits 5 (length sheet.columns) ++ (bits 4 i ++ (bits 5 t ++ bits 5 n)))) f
    ∙ ap (λ (i : ℕ). bits 4 1 ++ (bits 5 (length sheet.columns) ++ (bits 4 (length sheet.keys) ++ (bits 5 i ++ bits 5 n)))) g
    ∙ ap (λ (i : ℕ). bits 4 1 ++ (bits 5 (length sheet.columns) ++ (bits 4 (length sheet.keys) ++ (bits 5 (length sheet.tables) ++ bits 5 i)))) h)
    w

-- the kinds of columns and keys, and the tables, behind them
pub facts_written : (sheet : Sheet) (o s : List ℕ) (p : ℕ) → Wrote o (((count_bits sheet ++ each kind_bits sheet.columns) ++ each kind_bits sheet.keys) ++ each table_bits sheet.tables) s p → Wrote o (count_bits sheet ++ fact_bits sheet) s p
facts_written sheet o s p w = subst (λ (x : List ℕ). Wrote o x s p) (three (count_bits sheet) (each kind_bits sheet.columns) (each kind_bits sheet.keys) (each table_bits sheet.tables)) w
  where
    three : (a b c d : List ℕ) → ((a ++ b) ++ c) ++ d ≡ a ++ (b ++ (c ++ d))
    three a b c d = simp append_assoc

-- the kinds by their numbers from the one at `from` on, as many as there are
pub kinds_taken : (kinds : List ℕ) (ks : List Kind) (from : ℕ) → from + length ks ≤ length kinds → ((i : ℕ) → i < length ks → get_or kinds (i + from) 0 ≡ kind_number (get_or ks i integer))
    → take (length ks) (drop from kinds) ≡ map kind_number ks
kinds_taken kinds [] from h e = refl
kinds_taken kinds (k ∷ ks) from h e =
    ap (take (suc (length ks))) (drop-cons kinds from 0 (omega arith))
    ∙ ap (λ (n : ℕ). n ∷ take (length ks) (drop (suc from) kinds)) (ap (λ (i : ℕ). get_or kinds i 0) {x = from} {y = 0 + from} (omega arith) ∙ e 0 (omega arith))
    ∙ ap (λ t. kind_number k ∷ t) (kinds_taken kinds ks (suc from) (omega arith) (λ i l. ap (λ (j : ℕ). get_or kinds j 0) {x = i + suc from} {y = suc i + from} (omega arith) ∙ e (suc i) (omega arith)))
