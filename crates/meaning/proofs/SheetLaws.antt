-- The format has one way of writing a sheet: what is accepted is allowed and is the sheet's packed form, and what is allowed is accepted, packed.
use Prim.Native.Nat.{ℕ, ◌+◌, ◌-◌, ◌*◌, ◌/◌, ◌%◌, ◌≤◌}
use native.Mathlib.Omega.{arith}
use mathlib.Core.Path.{◌≡◌, refl, sym, ap, subst, ◌∙◌}
use mathlib.Core.Bool.{Bool, true, false, cond}
use mathlib.Core.List.{List, [], ◌++◌, append-nil}
use lib.ListN.{length}
use lib.Dec.{leb, eqb, lit≤}
use borrow.Author.Tests.{leb-true, le-leb, eqb-true}
use Rattle.lists.specs.Lists.{All, each}
use Rattle.meaning.specs.Sheets.{Policy, Sheet, kind_of, tables_serve}
use Rattle.bits.specs.Bits.{bits, bytes_of, number}
use Rattle.meaning.specs.Packed.{kind_bits, table_bits, policy_bits, count_bits, fact_bits, sheet_bits, packed}
use Rattle.meaning.specs.Reading.{Read, found, refused, on_read, need, times, policy, padding, nothing_more, Counts, counts, table_facts, sheet_fields, read_sheet}
use Rattle.meaning.specs.Allowed.{TableAllowed, PolicyAllowed, facts_of, SheetAllowed}
use Rattle.meaning.specs.Demands.{Accepted, AreBytes}
use Rattle.meaning.proofs.ReadLaws.{read_split, need_true, found_same}
use Rattle.bits.proofs.StandLaws.{Written, written_append, written_split, Binary}
use Rattle.lists.proofs.ListLaws.{all_append}
use Rattle.meaning.proofs.CodecLaws.{Reads, reads_as, reads_then, reads_need, reads_give, reads_times, reads_field, found_end, refused_same, not_refused, split_refused}
use Rattle.meaning.proofs.FormLaws.{count_reads, kind_reads, table_reads, policy_reads}
use Rattle.meaning.proofs.AgainLaws.{all_any}
use Rattle.bits.proofs.ByteLaws.{Filled, filled_back, bytes_length, packed_written}
use Rattle.meaning.proofs.PaddingLaws.{filled, packed_padding, packed_ends}

abbrev CountsAllowed : Counts → Type 0
CountsAllowed n = (n.columns ≤ 16) × ((1 ≤ n.keys) × (n.keys ≤ 8)) × ((1 ≤ n.tables) × (n.tables ≤ 16)) × (n.policies ≤ 16)

abbrev counts_form : Counts → List ℕ
counts_form n = bits 4 1 ++ (bits 5 n.columns ++ (bits 4 n.keys ++ (bits 5 n.tables ++ bits 5 n.policies)))

counts_reads : Reads counts CountsAllowed counts_form
unfolding counts
counts_reads =
    reads_as (λ n g. (g.1.1.0.1, g.1.1.1.0, g.1.1.1.1.0, g.1.1.1.1.1.0.1))
    (λ n g. (lit≤ tt, (refl, ((omega arith, g.0), (g.1, (g.2, ((omega arith, g.3), refl)))))))
    (λ n. ap (λ z. bits 4 1 ++ (bits 5 n.columns ++ (bits 4 n.keys ++ (bits 5 n.tables ++ z)))) (append-nil (bits 5 n.policies)))
    (reads_then (λ n. 1) (λ e n g h. sym (eqb-true e 1 h.0)) (reads_field 4) λ edition.
    reads_need (eqb edition 1) 3 (lit≤ tt)
    (reads_then (λ n. n.columns) (λ a n g h. ap (λ z. z.columns) h.1.1.1) (count_reads 5 0 16 (lit≤ tt)) λ c.
    reads_then (λ n. n.keys) (λ a n g h. ap (λ z. z.keys) h.1.1) (count_reads 4 1 8 (lit≤ tt)) λ k.
    reads_then (λ n. n.tables) (λ a n g h. ap (λ z. z.tables) h.1) (count_reads 5 1 16 (lit≤ tt)) λ t.
    reads_then (λ n. n.policies) (λ a n g h. ap (λ z. z.policies) h) (count_reads 5 0 16 (lit≤ tt)) λ p.
    reads_give (record { columns = c; keys = k; tables = t; policies = p })))

-- the sheet without its policies, of these counts
abbrev FactsAllowed : Counts → Sheet → Type 0
FactsAllowed n f = (length f.columns ≡ n.columns) × (length f.keys ≡ n.keys) × (length f.tables ≡ n.tables) × All (TableAllowed n.columns) f.tables × (f.policies ≡ [])

facts_reads : (n : Counts) → Reads (table_facts n) (FactsAllowed n) fact_bits
unfolding table_facts
facts_reads n =
    reads_as (λ f g. (g.0.1, g.1.0.1, g.1.1.0.1, g.1.1.0.0, ap (λ z. z.policies) g.1.1.1))
    (λ f g. ((all_any (λ k. Unit {0}) (λ k. tt) f.columns, g.0), ((all_any (λ k. Unit {0}) (λ k. tt) f.keys, g.1), ((g.3, g.2), λ i. record { columns = f.columns; keys = f.keys; tables = f.tables; policies = g.4 i }))))
    (λ f. ap (λ z. each kind_bits f.columns ++ (each kind_bits f.keys ++ z)) (append-nil (each table_bits f.tables)))
    (reads_then (λ f. f.columns) (λ a f g h. ap (λ z. z.columns) h.1.1) (reads_times kind_reads n.columns) λ columns.
    reads_then (λ f. f.keys) (λ a f g h. ap (λ z. z.keys) h.1) (reads_times kind_reads n.keys) λ keys.
    reads_then (λ f. f.tables) (λ a f g h. ap (λ z. z.tables) h) (reads_times (table_reads n.columns) n.tables) λ tables.
    reads_give (record { columns = columns; keys = keys; tables = tables; policies = [] }))

abbrev counts_of : Sheet → Counts
counts_of s = record { columns = length s.columns; keys = length s.keys; tables = length s.tables; policies = length s.policies }

-- all that is allowed but 1 and 11
abbrev FieldsAllowed : Sheet → Type 0
FieldsAllowed sheet = CountsAllowed (counts_of sheet) × All (TableAllowed (length sheet.columns)) sheet.tables × All (PolicyAllowed (facts_of sheet)) sheet.policies

-- what was read of the counts and the facts is what the sheet has
parts : (s : List ℕ) (p q r : ℕ) (n : Counts) (facts : Sheet) (policies : List Policy) (t : ℕ) →
    CountsAllowed n × Written s p q (counts_form n) → FactsAllowed n facts × Written s q r (fact_bits facts) → (All (PolicyAllowed facts) policies × (length policies ≡ n.policies)) × Written s r t (each (policy_bits (kind_of facts)) policies) →
    (sheet : Sheet) → record { columns = facts.columns; keys = facts.keys; tables = facts.tables; policies = policies } ≡ sheet → FieldsAllowed sheet × Written s p t (sheet_bits sheet)
unfolding sheet_bits
parts s p q r n facts policies t c f g sheet e =
    subst (λ z. FieldsAllowed z × Written s p t (count_bits z ++ (fact_bits z ++ each (policy_bits (kind_of z)) z.policies))) e (
      (subst CountsAllowed same c.0, subst (λ z. All (TableAllowed z) facts.tables) (sym f.0.0) f.0.3, subst (λ z. All (PolicyAllowed z) policies) bare g.0.0),
      written_append s p q t (count_bits sheet') (fact_bits facts ++ each (policy_bits (kind_of facts)) policies) (subst (λ z. Written s p q (counts_form z)) same c.1) (written_append s q r t (fact_bits facts) (each (policy_bits (kind_of facts)) policies) f.1 g.1),
    )
  where
    sheet' : Sheet
    sheet' = record { columns = facts.columns; keys = facts.keys; tables = facts.tables; policies = policies }

    bare : facts ≡ facts_of facts
    bare = λ i. record { columns = facts.columns; keys = facts.keys; tables = facts.tables; policies = f.0.4 i }

    same : n ≡ counts_of (record { columns = facts.columns; keys = facts.keys; tables = facts.tables; policies = policies })
    same = λ i. record { columns = sym f.0.0 i; keys = sym f.0.1 i; tables = sym f.0.2 i; policies = sym g.0.1 i }

fields_to : (s : List ℕ) (sheet : Sheet) (q : ℕ) → sheet_fields s 0 ≡ found sheet q → FieldsAllowed sheet × Filled s (sheet_bits sheet)
unfolding sheet_fields
fields_to s sheet q e =
    let n = read_split (counts s 0) _ sheet q e in
    let facts = read_split (table_facts n.0 s n.1) _ sheet q n.3 in
    let policies = read_split (times n.0.policies (policy facts.0) s facts.1) _ sheet q facts.3 in
    let pad = read_split (padding s policies.1) _ sheet q policies.3 in
    let end = read_split (nothing_more s pad.1) _ sheet q pad.3 in
    let c = counts_reads.reads s 0 n.0 n.1 (omega arith) n.2 in
    let f = (facts_reads n.0).reads s n.1 facts.0 facts.1 c.1.inside facts.2 in
    let g = (reads_times (policy_reads facts.0) n.0.policies).reads s facts.1 policies.0 policies.1 f.1.inside policies.2 in
    let w = parts s 0 n.1 facts.1 n.0 facts.0 policies.0 policies.1 c f g sheet (found_same end.3) in
    (w.0, filled s (sheet_bits sheet) policies.1 pad.1 end.1 pad.0 end.0 w.1 pad.2 end.2)

-- one step of a reading that finds
pub step : {A B : Type 0} (m : Read A) (f : A → ℕ → Read B) (a : A) (p : ℕ) (x : Read B) → m ≡ found a p → f a p ≡ x → on_read m f ≡ x
step m f a p x e h = ap (λ t. on_read t f) e ∙ h

sheet_binary : (sheet : Sheet) → FieldsAllowed sheet → Binary (sheet_bits sheet)
unfolding sheet_bits
sheet_binary sheet h =
    all_append (λ b. b ≤ 1) (count_bits sheet) (fact_bits sheet ++ each (policy_bits (kind_of sheet)) sheet.policies) (counts_reads.binary (counts_of sheet) h.0)
    (all_append (λ b. b ≤ 1) (fact_bits sheet) (each (policy_bits (kind_of sheet)) sheet.policies) ((facts_reads (counts_of sheet)).binary (facts_of sheet) (refl, refl, refl, h.1, refl))
    ((reads_times (policy_reads (facts_of sheet)) (length sheet.policies)).binary sheet.policies (h.2, refl)))

fields_back : (sheet : Sheet) → FieldsAllowed sheet → (q : ℕ) × (sheet_fields (packed sheet) 0 ≡ found sheet q)
unfolding sheet_fields packed sheet_bits
fields_back sheet h =
    let bs : List ℕ = count_bits sheet ++ (fact_bits sheet ++ each (policy_bits (kind_of sheet)) sheet.policies) in
    let s : List ℕ = bytes_of bs in
    let b : Binary bs = sheet_binary sheet h in
    let w = written_split s 0 (length bs) (count_bits sheet) (fact_bits sheet ++ each (policy_bits (kind_of sheet)) sheet.policies) (packed_written bs b) in
    let p : ℕ = 0 + length (count_bits sheet) in
    let v = written_split s p (length bs) (fact_bits sheet) (each (policy_bits (kind_of sheet)) sheet.policies) w.1 in
    let r : ℕ = p + length (fact_bits sheet) in
    let end : ℕ = (length bs + 7) / 8 * 8 in (
      end,
      step (counts s 0) _ (counts_of sheet) p (found sheet end) (counts_reads.finds s 0 (counts_of sheet) p h.0 w.0)
          (step (table_facts (counts_of sheet) s p) _ (facts_of sheet) r (found sheet end) ((facts_reads (counts_of sheet)).finds s p (facts_of sheet) r (refl, refl, refl, h.1, refl) v.0)
          (step (times (length sheet.policies) (policy (facts_of sheet)) s r) _ sheet.policies (length bs) (found sheet end) ((reads_times (policy_reads (facts_of sheet)) (length sheet.policies)).finds s r sheet.policies (length bs) (h.2, refl) v.1)
          (step (padding s (length bs)) _ tt end (found sheet end) (packed_padding bs b)
          (step (nothing_more s end) _ tt end (found sheet end) (packed_ends bs b) refl)))),
    )

pub packed_length : (sheet : Sheet) → length (packed sheet) ≡ (length (sheet_bits sheet) + 7) / 8
unfolding packed bytes_of
packed_length sheet = bytes_length ((length (sheet_bits sheet) + 7) / 8) (sheet_bits sheet)

bytes_are : (s : List ℕ) (sheet : Sheet) → Filled s (sheet_bits sheet) → AreBytes s → packed sheet ≡ s
unfolding packed
bytes_are s sheet f h = filled_back s (sheet_bits sheet) h f

-- what acceptance of s as this sheet says
pub record AcceptedAs (s : List ℕ) (sheet : Sheet) : Type 0 where
  pub allowed : SheetAllowed sheet
  pub as_long : length (packed sheet) ≡ length s
  pub same : AreBytes s → packed sheet ≡ s

pub accepted_as : (s : List ℕ) (sheet : Sheet) → Accepted s sheet → AcceptedAs s sheet
unfolding read_sheet
accepted_as s sheet a =
    let x = read_split (need (leb (length s) 16384) 1 s 0) _ sheet a.0 a.1 in
    let y = read_split (sheet_fields s x.1) _ sheet a.0 x.3 in
    let z = read_split (need (tables_serve y.0) 11 s y.1) _ sheet a.0 y.3 in
    let o : x.1 ≡ 0 = start (leb (length s) 16384) x.0 x.1 x.2 in
    let l = leb-true (length s) 16384 (need_true (leb (length s) 16384) 1 s 0 x.1 x.0 x.2) in
    let e : y.0 ≡ sheet = found_same z.3 in
    let t : tables_serve sheet ≡ true = subst (λ u. tables_serve u ≡ true) e (need_true (tables_serve y.0) 11 s y.1 z.1 z.0 z.2) in
    let f : FieldsAllowed sheet × Filled s (sheet_bits sheet) = fields_to s sheet y.1 (subst (λ u. sheet_fields s u ≡ found sheet y.1) o (y.2 ∙ ap (λ u. found u y.1) e)) in
    let n : length (packed sheet) ≡ length s = packed_length sheet ∙ sym f.1.size in
    record {
      allowed = record { columns = f.0.0.0; keys = f.0.0.1; tables = f.0.0.2; policies = f.0.0.3; each_table = f.0.1; each_policy = f.0.2; serves = t; short = omega arith };
      as_long = n;
      same = bytes_are s sheet f.1;
    }
  where
    start : (b : Bool) (u : Unit {0}) (p : ℕ) → need b 1 s 0 ≡ found u p → p ≡ 0
    start true u p h = sym (found_end h)
    start false u p h = absurd (let z : ◌≡◌ {A = ℕ} 0 1 = cc in omega arith)

-- Reading what was packed gives the sheet.
pub allowed_accepted : (sheet : Sheet) → SheetAllowed sheet → Accepted (packed sheet) sheet
unfolding read_sheet
allowed_accepted sheet h =
    let s : List ℕ = packed sheet in
    let f = fields_back sheet ((h.columns, h.keys, h.tables, h.policies), h.each_table, h.each_policy) in (
      f.0,
      ap (λ b. on_read (need b 1 s 0) (λ u p. on_read (sheet_fields s p) (λ x p. on_read (need (tables_serve x) 11 s p) (λ v p. found x p)))) (le-leb (length s) 16384 h.short)
          ∙ step (sheet_fields s 0) _ sheet f.0 (found sheet f.0) f.1 (ap (λ b. on_read (need b 11 s f.0) (λ v p. found sheet p)) h.serves),
    )

-- A sheet by itself is refused by 1 to 11 only.
ends_refuse : (b : Bool) (q n : ℕ) → ◌≡◌ {A = Read (Unit {0})} (cond b (found tt q) (refused 10)) (refused n) → n ≤ 11
ends_refuse true q n h = absurd (not_refused h)
ends_refuse false q n h = subst (λ z. z ≤ 11) (refused_same h) (lit≤ tt)

padding_refuses : (s : List ℕ) (p n : ℕ) → padding s p ≡ refused n → n ≤ 11
unfolding padding
padding_refuses s p n e = ends_refuse (eqb (number s p ((8 - p % 8) % 8)) 0) (p + (8 - p % 8) % 8) n e

nothing_more_refuses : (s : List ℕ) (p n : ℕ) → nothing_more s p ≡ refused n → n ≤ 11
unfolding nothing_more
nothing_more_refuses s p n e = ends_refuse (leb (length s * 8) p) p n e

fields_refuse : (s : List ℕ) (p n : ℕ) → sheet_fields s p ≡ refused n → n ≤ 11
unfolding sheet_fields
fields_refuse s p n e =
    split_refused (counts s p) _ n e (counts_reads.refuses s p n) λ c q e.
    split_refused (table_facts c s q) _ n e ((facts_reads c).refuses s q n) λ f r e.
    split_refused (times c.policies (policy f) s r) _ n e ((reads_times (policy_reads f) c.policies).refuses s r n) λ ps t e.
    split_refused (padding s t) _ n e (padding_refuses s t n) λ u v e.
    split_refused (nothing_more s v) _ n e (nothing_more_refuses s v n) λ w x e. absurd (not_refused e)

need_refuses : (b : Bool) (k : ℕ) (s : List ℕ) (p n : ℕ) → k ≤ 11 → need b k s p ≡ refused n → n ≤ 11
need_refuses true k s p n l e = absurd (not_refused e)
need_refuses false k s p n l e = subst (λ z. z ≤ 11) (refused_same e) l

pub sheet_refusals : (s : List ℕ) (n : ℕ) → read_sheet s ≡ refused n → n ≤ 11
unfolding read_sheet
sheet_refusals s n e =
    split_refused (need (leb (length s) 16384) 1 s 0) _ n e (need_refuses (leb (length s) 16384) 1 s 0 n (lit≤ tt)) λ u p e.
    split_refused (sheet_fields s p) _ n e (fields_refuse s p n) λ sheet q e.
    split_refused (need (tables_serve sheet) 11 s q) _ n e (need_refuses (tables_serve sheet) 11 s q n (lit≤ tt)) λ v r e. absurd (not_refused e)
