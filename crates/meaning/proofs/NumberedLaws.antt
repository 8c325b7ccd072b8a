-- Each refusal of a sheet is one of 01's, by its number; no two have the same, and none is 0, which a host reads as an answer.
use Prim.Native.Nat.{ℕ, zero, suc, ◌+◌, ◌-◌, ◌*◌, ◌%◌, ◌≤◌}
use mathlib.Core.Path.{◌≡◌, refl, sym, ap, ◌∙◌}
use mathlib.Core.Bool.{Bool, true, false, cond, ◌&&◌}
use mathlib.Core.List.{List, [], ◌∷◌}
use lib.ListN.{length, get_or}
use lib.Dec.{ltb, leb, eqb, lit≤}
use Rattle.refusals.specs.declared.Refusal.{Refusal}
use Rattle.refusals.specs.declared.Refusal.TheVariants.{TooLong, CutOff, OtherEdition, WrongCount, UnknownCode, NumberNotThere, WrongKind, NoCommand, TooDeep, LeftOver, ColumnNotHeld, NotAsked, TooManyBranches, NoRoom, WrongRows, LongerForm}
use Rattle.refusals.specs.Refusals as refusals
use Rattle.lists.specs.Lists.{numbers_from, every}
use Rattle.bits.specs.Bits.{number}
use Rattle.meaning.specs.Values.{Kind, kind_number, last, raw}
use Rattle.meaning.specs.Sheets.{member, Selector, Sheet, kind_of, tables_serve}
use Rattle.meaning.specs.Atoms.{Operator}
use Rattle.meaning.specs.Reading.{Read, found, refused, Reader, on_read, give, refuse, need, times, field, count, kind, table, number_below, selector_node, selector, variable, value, values, mate, operand, atom, clause, policy, padding, nothing_more, Counts, counts, table_facts, sheet_fields, read_sheet}
use Rattle.meaning.proofs.CodecLaws.{refused_same, not_refused}

-- the refusal of a number
abbrev of_number : ℕ → Refusal
of_number n = get_or (TooLong ∷ TooLong ∷ CutOff ∷ OtherEdition ∷ WrongCount ∷ UnknownCode ∷ NumberNotThere ∷ WrongKind ∷ NoCommand ∷ TooDeep ∷ LeftOver ∷ ColumnNotHeld ∷ NotAsked ∷ TooManyBranches ∷ NoRoom ∷ WrongRows ∷ LongerForm ∷ []) n TooLong

of_its_number : (e : Refusal) → of_number (refusals.number e) ≡ e
of_its_number TooLong = refl
of_its_number CutOff = refl
of_its_number OtherEdition = refl
of_its_number WrongCount = refl
of_its_number UnknownCode = refl
of_its_number NumberNotThere = refl
of_its_number WrongKind = refl
of_its_number NoCommand = refl
of_its_number TooDeep = refl
of_its_number LeftOver = refl
of_its_number ColumnNotHeld = refl
of_its_number NotAsked = refl
of_its_number TooManyBranches = refl
of_its_number NoRoom = refl
of_its_number WrongRows = refl
of_its_number LongerForm = refl

pub same_number : (e f : Refusal) → refusals.number e ≡ refusals.number f → e ≡ f
same_number e f h = sym (of_its_number e) ∙ ap of_number h ∙ of_its_number f

pub number_from_1 : (e : Refusal) → 1 ≤ refusals.number e
number_from_1 TooLong = lit≤ tt
number_from_1 CutOff = lit≤ tt
number_from_1 OtherEdition = lit≤ tt
number_from_1 WrongCount = lit≤ tt
number_from_1 UnknownCode = lit≤ tt
number_from_1 NumberNotThere = lit≤ tt
number_from_1 WrongKind = lit≤ tt
number_from_1 NoCommand = lit≤ tt
number_from_1 TooDeep = lit≤ tt
number_from_1 LeftOver = lit≤ tt
number_from_1 ColumnNotHeld = lit≤ tt
number_from_1 NotAsked = lit≤ tt
number_from_1 TooManyBranches = lit≤ tt
number_from_1 NoRoom = lit≤ tt
number_from_1 WrongRows = lit≤ tt
number_from_1 LongerForm = lit≤ tt

-- the number of one of 01's refusals
abbrev pub Named : ℕ → Type 0
Named n = (e : Refusal) × (refusals.number e ≡ n)

abbrev Numbered : {A : Type 0} → Reader A → Type 0
Numbered m = (s : List ℕ) (p n : ℕ) → m s p ≡ refused n → Named n

numbered_then : {A B : Type 0} (m : Reader A) (k : A → Reader B) → Numbered m → ((a : A) → Numbered (k a)) → Numbered (λ s p. on_read (m s p) (λ a q. k a s q))
numbered_then {A} {B} m k f g s p n e = go (m s p) refl e
  where
    go : (r : Read A) → m s p ≡ r → on_read r (λ a q. k a s q) ≡ refused n → Named n
    go (found a q) h e = g a s q n e
    go (refused j) h e = let l = f s p j h in (l.0, l.1 ∙ refused_same e)

numbered_give : {A : Type 0} (a : A) → Numbered (give a)
numbered_give a s p n e = absurd (not_refused e)

numbered_refuse : {A : Type 0} (r : Refusal) → Numbered (refuse {A = A} (refusals.number r))
numbered_refuse r s p n e = (r, refused_same e)

numbered_need : (ok : Bool) (r : Refusal) → Numbered (need ok (refusals.number r))
numbered_need true r = numbered_give tt
numbered_need false r = numbered_refuse r

numbered_times : {A : Type 0} (n : ℕ) (m : Reader A) → Numbered m → Numbered (times n m)
numbered_times zero m f = numbered_give []
numbered_times (suc n) m f = numbered_then m _ f (λ a. numbered_then (times n m) _ (numbered_times n m f) (λ more. numbered_give (a ∷ more)))

numbered_field : (w : ℕ) → Numbered (field w)
unfolding field
numbered_field w s p n e = go (leb (p + w) (length s * 8)) e
  where
    go : (b : Bool) → cond b (found (number s p w) (p + w)) (refused 2) ≡ refused n → Named n
    go true h = absurd (not_refused h)
    go false h = (CutOff, refused_same h)

-- a field, a test with its refusal, and what is made of them
numbered_tested : {A : Type 0} (w : ℕ) (e : Refusal) (ok : ℕ → Bool) (f : ℕ → A) → Numbered (λ s p. on_read (field w s p) (λ x q. on_read (need (ok x) (refusals.number e) s q) (λ u r. found (f x) r)))
numbered_tested w e ok f = numbered_then (field w) _ (numbered_field w) (λ x. numbered_then (need (ok x) (refusals.number e)) _ (numbered_need (ok x) e) (λ u. numbered_give (f x)))

numbered_count : (w low high : ℕ) → Numbered (count w low high)
unfolding count
numbered_count w low high = numbered_tested w WrongCount (λ n. leb low n && leb n high) (λ n. n)

numbered_kind : Numbered kind
unfolding kind
numbered_kind = numbered_tested 2 UnknownCode (λ k. ltb k 3) _

numbered_table : (c : ℕ) → Numbered (table c)
unfolding table
numbered_table c =
    numbered_then (field 6) _ (numbered_field 6)
    (λ schema. numbered_then (field 8) _ (numbered_field 8) (λ tags. numbered_tested 16 NumberNotThere (λ columns. every (λ i. cond (member 16 columns i) (ltb i c) true) (numbers_from 0 16)) _))

numbered_below : (w most : ℕ) → Numbered (number_below w most)
unfolding number_below
numbered_below w most = numbered_tested w NumberNotThere (λ n. ltb n most) (λ n. n)

made : {A B : Type 0} (m : Reader A) (f : A → B) → Numbered m → Numbered (λ s p. on_read (m s p) (λ a q. found (f a) q))
made m f h = numbered_then m _ h (λ a. numbered_give (f a))

-- what follows a node's number
numbered_node : (facts : Sheet) (inner : Reader Selector) → Numbered inner → (node : ℕ) → Numbered (selector_node facts inner node)
unfolding selector_node
numbered_node facts inner h zero = numbered_give Selector.all
numbered_node facts inner h (suc zero) = made (number_below 4 (length facts.columns)) _ (numbered_below 4 (length facts.columns))
numbered_node facts inner h (suc (suc zero)) = made (field 6) _ (numbered_field 6)
numbered_node facts inner h (suc (suc (suc zero))) = made (number_below 4 (length facts.tables)) _ (numbered_below 4 (length facts.tables))
numbered_node facts inner h (suc (suc (suc (suc zero)))) = made (field 3) _ (numbered_field 3)
numbered_node facts inner h (suc (suc (suc (suc (suc zero))))) = numbered_then inner _ h (λ a. made inner _ h)
numbered_node facts inner h (suc (suc (suc (suc (suc (suc zero)))))) = numbered_then inner _ h (λ a. made inner _ h)
numbered_node facts inner h (suc (suc (suc (suc (suc (suc (suc zero))))))) = made inner _ h
numbered_node facts inner h (suc (suc (suc (suc (suc (suc (suc (suc n)))))))) = numbered_refuse UnknownCode

numbered_selector : (depth : ℕ) (facts : Sheet) → Numbered (selector depth facts)
unfolding selector
numbered_selector zero facts = numbered_refuse TooDeep
numbered_selector (suc depth) facts = numbered_then (field 3) _ (numbered_field 3) (numbered_node facts (selector depth facts) (numbered_selector depth facts))

numbered_variable : (facts : Sheet) → Numbered (variable facts)
unfolding variable
numbered_variable facts =
    numbered_then (field 5) _ (numbered_field 5)
    (λ v. numbered_then (need (ltb v 24) 5) _ (numbered_need (ltb v 24) UnknownCode)
    (λ u. numbered_then (need (cond (ltb v 16) (ltb v (length facts.columns)) (ltb (v - 16) (length facts.keys))) 6) _
    (numbered_need (cond (ltb v 16) (ltb v (length facts.columns)) (ltb (v - 16) (length facts.keys))) NumberNotThere) (λ w. numbered_give v)))

numbered_value : (k : Kind) → Numbered (value k)
unfolding value
numbered_value k = numbered_tested 64 WrongKind (λ x. leb (raw k x) (last k)) (raw k)

numbered_values : (k : Kind) → Numbered (values k)
unfolding values
numbered_values k = numbered_then (count 4 1 8) _ (numbered_count 4 1 8) (λ n. numbered_times n (value k) (numbered_value k))

numbered_mate : (facts : Sheet) (v : ℕ) → Numbered (mate facts v)
unfolding mate
numbered_mate facts v =
    numbered_then (variable facts) _ (numbered_variable facts)
    (λ u. numbered_then (need (eqb (kind_number (kind_of facts v)) (kind_number (kind_of facts u))) 7) _ (numbered_need (eqb (kind_number (kind_of facts v)) (kind_number (kind_of facts u))) WrongKind) (λ w. numbered_give u))

numbered_operand : (facts : Sheet) (v o : ℕ) → Numbered (operand facts v o)
unfolding operand
numbered_operand facts v zero = made (mate facts v) _ (numbered_mate facts v)
numbered_operand facts v (suc zero) = made (values (kind_of facts v)) _ (numbered_values (kind_of facts v))
numbered_operand facts v (suc (suc zero)) = made (values (kind_of facts v)) _ (numbered_values (kind_of facts v))
numbered_operand facts v (suc (suc (suc zero))) = made (value (kind_of facts v)) _ (numbered_value (kind_of facts v))
numbered_operand facts v (suc (suc (suc (suc zero)))) = made (value (kind_of facts v)) _ (numbered_value (kind_of facts v))
numbered_operand facts v (suc (suc (suc (suc (suc zero))))) = made (value (kind_of facts v)) _ (numbered_value (kind_of facts v))
numbered_operand facts v (suc (suc (suc (suc (suc (suc zero)))))) = made (value (kind_of facts v)) _ (numbered_value (kind_of facts v))
numbered_operand facts v (suc (suc (suc (suc (suc (suc (suc zero))))))) = numbered_give Operator.is_null
numbered_operand facts v (suc (suc (suc (suc (suc (suc (suc (suc zero)))))))) = numbered_give Operator.is_not_null
numbered_operand facts v (suc (suc (suc (suc (suc (suc (suc (suc (suc n))))))))) = numbered_refuse UnknownCode

numbered_atom : (facts : Sheet) → Numbered (atom facts)
unfolding atom
numbered_atom facts =
    numbered_then (variable facts) _ (numbered_variable facts)
    (λ v. numbered_then (field 4) _ (numbered_field 4)
    (λ o. numbered_then (need (ltb o 9) 5) _ (numbered_need (ltb o 9) UnknownCode)
    (λ u. numbered_then (need (cond (leb 3 o && leb o 6) (eqb (kind_number (kind_of facts v)) 0) true) 7) _
    (numbered_need (cond (leb 3 o && leb o 6) (eqb (kind_number (kind_of facts v)) 0) true) WrongKind) (λ w. made (operand facts v o) _ (numbered_operand facts v o)))))

numbered_clause : (facts : Sheet) → Numbered (clause facts)
unfolding clause
numbered_clause facts = numbered_then (count 4 0 8) _ (numbered_count 4 0 8) (λ n. numbered_times n (atom facts) (numbered_atom facts))

numbered_policy : (facts : Sheet) → Numbered (policy facts)
unfolding policy
numbered_policy facts =
    numbered_then (field 1) _ (numbered_field 1)
    (λ t. numbered_then (field 4) _ (numbered_field 4)
    (λ c. numbered_then (need (ltb 0 c) 8) _ (numbered_need (ltb 0 c) NoCommand)
    (λ u. numbered_then (selector 6 facts) _ (numbered_selector 6 facts)
    (λ x. numbered_then (count 4 0 8) _ (numbered_count 4 0 8) (λ n. made (times n (clause facts)) _ (numbered_times n (clause facts) (numbered_clause facts)))))))

numbered_padding : Numbered padding
unfolding padding
numbered_padding s p n e = go (eqb (number s p ((8 - p % 8) % 8)) 0) e
  where
    go : (b : Bool) → ◌≡◌ {A = Read (Unit {0})} (cond b (found tt (p + (8 - p % 8) % 8)) (refused 10)) (refused n) → Named n
    go true h = absurd (not_refused h)
    go false h = (LeftOver, refused_same h)

numbered_more : Numbered nothing_more
unfolding nothing_more
numbered_more s p n e = go (leb (length s * 8) p) e
  where
    go : (b : Bool) → ◌≡◌ {A = Read (Unit {0})} (cond b (found tt p) (refused 10)) (refused n) → Named n
    go true h = absurd (not_refused h)
    go false h = (LeftOver, refused_same h)

numbered_counts : Numbered counts
unfolding counts
numbered_counts =
    numbered_then (field 4) _ (numbered_field 4)
    (λ e. numbered_then (need (eqb e 1) 3) _ (numbered_need (eqb e 1) OtherEdition)
    (λ u. numbered_then (count 5 0 16) _ (numbered_count 5 0 16)
    (λ c. numbered_then (count 4 1 8) _ (numbered_count 4 1 8)
    (λ k. numbered_then (count 5 1 16) _ (numbered_count 5 1 16) (λ t. made (count 5 0 16) _ (numbered_count 5 0 16))))))

numbered_facts : (n : Counts) → Numbered (table_facts n)
unfolding table_facts
numbered_facts n =
    numbered_then (times n.columns kind) _ (numbered_times n.columns kind numbered_kind)
    (λ cs. numbered_then (times n.keys kind) _ (numbered_times n.keys kind numbered_kind)
    (λ ks. made (times n.tables (table n.columns)) _ (numbered_times n.tables (table n.columns) (numbered_table n.columns))))

numbered_fields : Numbered sheet_fields
unfolding sheet_fields
numbered_fields =
    numbered_then counts _ numbered_counts
    (λ n. numbered_then (table_facts n) _ (numbered_facts n)
    (λ facts. numbered_then (times n.policies (policy facts)) _ (numbered_times n.policies (policy facts) (numbered_policy facts))
    (λ ps. numbered_then padding _ numbered_padding (λ u. numbered_then nothing_more _ numbered_more (λ w. numbered_give _)))))

-- a sheet is refused by one of 01's refusals
pub sheet_numbered : (s : List ℕ) (n : ℕ) → read_sheet s ≡ refused n → Named n
unfolding read_sheet
sheet_numbered s n e =
    numbered_then (need (leb (length s) 16384) 1) _ (numbered_need (leb (length s) 16384) TooLong)
    (λ u. numbered_then sheet_fields _ numbered_fields
    (λ sheet. numbered_then (need (tables_serve sheet) 11) _ (numbered_need (tables_serve sheet) ColumnNotHeld) (λ w. numbered_give sheet))) s 0 n e
