-- "Normalising twice gives the same bytes as once": for sheets.
use Prim.Native.Nat.{◌-◌}
use mathlib.Core.Path.{◌≡◌, refl, ap, sym, subst, ◌∙◌}
use mathlib.Core.Bool.{cond}
use mathlib.Core.List.{List, [], ◌∷◌}
use lib.ListN.{length, get_or}
use lib.Dec.{ltb}
use Rattle.lists.specs.Lists.{All, One, Prunes, Each, sort}
use Rattle.meaning.specs.Values.{integer, Contents, with}
use Rattle.meaning.specs.Atoms.{Atom, Clause, met}
use Rattle.meaning.specs.Sheets.{Policy, Sheet, kind_of}
use Rattle.meaning.specs.Packed.{clause_bits}
use Rattle.meaning.specs.Questions.{Holds, IsAnyRow, IsSession, LiveClause, ClauseCovers}
use Rattle.meaning.specs.Steps.{tidied, NormalClause, clause_before, NormalClauses, NormalPolicy, NormalSheet}
use Rattle.lists.proofs.ListLaws.{keeps_one}
use Rattle.meaning.proofs.NormalLaws.{clause_met_lem}
use Rattle.lists.proofs.SubLaws.{Sub, sub_all, sub_every, sub_one, keeps_all, keeps_same, prunes_sub, prunes_again}
use Rattle.lists.proofs.OrderLaws.{sort_all, sort_sorted, sort_same, sub_sorted}
use Rattle.meaning.proofs.AgainLaws.{tidied_same}

-- the normal form of a live clause is live
pub normal_live : (sheet : Sheet) (c d : Clause) → LiveClause sheet c → NormalClause sheet c d → LiveClause sheet d
normal_live sheet c d l n =
    record { row = l.row; session = l.session; is_row = l.is_row; is_session = l.is_session; meets = clause_met_lem sheet l.row l.session l.is_row l.is_session c d l n ∙ l.meets }

-- a sheet, and its normal form, which has the same columns and keys
module _ (sheet normal : Sheet) (columns : normal.columns ≡ sheet.columns) (keys : normal.keys ≡ sheet.keys) where
  pub same_kinds : kind_of normal ≡ kind_of sheet
  same_kinds = λ i v. cond (ltb v 16) (get_or (columns i) v integer) (get_or (keys i) (v - 16) integer)

  same_rows : (row : Contents) → IsAnyRow normal row ≡ IsAnyRow sheet row
  same_rows row = ap (λ ks. Holds (λ c. ltb c (length ks)) ks row) columns

  same_sessions : (session : Contents) → IsSession normal session ≡ IsSession sheet session
  same_sessions session = ap (λ ks. Holds (λ k. ltb k (length ks)) ks session) keys

  row_back : (row : Contents) → IsAnyRow sheet row → IsAnyRow normal row
  row_back row r = subst (λ t. t) (sym (same_rows row)) r

  session_back : (session : Contents) → IsSession sheet session → IsSession normal session
  session_back session s = subst (λ t. t) (sym (same_sessions session)) s

  live_back : (c : Clause) → LiveClause sheet c → LiveClause normal c
  live_back c l = record { row = l.row; session = l.session; is_row = row_back l.row l.is_row; is_session = session_back l.session l.is_session; meets = l.meets }

  covers_on : (p q : Clause) → ClauseCovers normal p q → ClauseCovers sheet p q
  covers_on p q h row session r s m = h row session (row_back row r) (session_back session s) m

  -- an atom that some others imply, more others imply
  implied_more : (a : Atom) (us vs : Clause) → Sub us vs → ClauseCovers normal (a ∷ []) us → ClauseCovers sheet (a ∷ []) vs
  implied_more a us vs s h row session r k m = h row session (row_back row r) (session_back session k) (sub_every (met (with row session)) s m)

  covered_more : (c : Clause) (ds es : List Clause) → Sub ds es → One (λ d. ClauseCovers normal d c) ds → One (λ d. ClauseCovers sheet d c) es
  covered_more c ds es s o = sub_one (λ d. ClauseCovers normal d c) (λ d. ClauseCovers sheet d c) (λ d. covers_on d c) s o

  -- a clause that is the normal form of a live one
  abbrev Made : Clause → Type 0
  Made d = (c : Clause) × LiveClause sheet c × NormalClause sheet c d

  clause_again : (d e : Clause) → Made d → NormalClause normal d e → e ≡ d
  clause_again d e m n =
      let t : tidied (kind_of normal) d ≡ d = ap (λ k. tidied k d) same_kinds ∙ tidied_same (kind_of sheet) m.0 d (prunes_sub m.2) in
      prunes_again (λ a others. ClauseCovers sheet (a ∷ []) others) (λ a others. ClauseCovers normal (a ∷ []) others) implied_more m.2
      (subst (λ z. Prunes (λ a others. ClauseCovers normal (a ∷ []) others) [] z e) t n)

  each_made : {cs ds : List Clause} → All (LiveClause sheet) cs → Each (NormalClause sheet) cs ds → All Made ds
  each_made h Each.none = tt
  each_made h (Each.one {a} r e) = ((a, h.0, r), each_made h.1 e)

  each_again : {ds es : List Clause} → All Made ds → Each (NormalClause normal) ds es → es ≡ ds
  each_again h Each.none = refl
  each_again h (Each.one {a} {b} {xs} {bs} r e) = ap (λ t. t ∷ bs) (clause_again a b h.0 r) ∙ ap (λ t. a ∷ t) (each_again h.1 e)

  made_live : (ds : List Clause) → All Made ds → All (LiveClause normal) ds
  made_live [] h = tt
  made_live (d ∷ ds) h = (live_back d (normal_live sheet h.0.0 d h.0.1 h.0.2), made_live ds h.1)

  clauses_again : (cs ds es : List Clause) → NormalClauses sheet cs ds → NormalClauses normal ds es → es ≡ ds
  clauses_again cs ds es p q =
      let s : Sub ds (sort (clause_before (kind_of sheet)) p.tidy) = prunes_sub p.step_6 in
      let made : All Made ds = sub_all Made s (sort_all (clause_bits (kind_of sheet)) Made p.tidy (each_made (keeps_all p.step_1) p.steps_2_5)) in
      let l : q.live ≡ ds = keeps_one q.step_1 (keeps_same ds (made_live ds made)) in
      let e : q.tidy ≡ ds = each_again made (subst (λ z. Each (NormalClause normal) z q.tidy) l q.steps_2_5) in
      let o : sort (clause_before (kind_of normal)) ds ≡ ds =
      ap (λ k. sort (clause_before k) ds) same_kinds ∙ sort_same (clause_bits (kind_of sheet)) ds (sub_sorted (clause_bits (kind_of sheet)) s (sort_sorted (clause_bits (kind_of sheet)) p.tidy))
      in
      prunes_again (λ c others. One (λ d. ClauseCovers sheet d c) others) (λ c others. One (λ d. ClauseCovers normal d c) others) covered_more p.step_6
      (subst (λ z. Prunes (λ c others. One (λ d. ClauseCovers normal d c) others) [] z es) (ap (sort (clause_before (kind_of normal))) e ∙ o) q.step_6)

  policies_again : {ps qs rs : List Policy} → Each (NormalPolicy sheet) ps qs → Each (NormalPolicy normal) qs rs → rs ≡ qs
  policies_again Each.none Each.none = refl
  policies_again (Each.one {a = p} {b = q} {xs = ps} {bs = qs} m e) (Each.one {b = r} {bs = rs} n f) =
      let same : r ≡ q = λ i. record { restrictive = n.restrictive i; commands = n.commands i; selector = n.selector i; clauses = clauses_again p.clauses q.clauses r.clauses m.clauses n.clauses i } in
      ap (λ t. t ∷ rs) same ∙ ap (λ t. q ∷ t) (policies_again e f)

-- The normal form of a normal form is that normal form.
pub sheet_again : (sheet normal again : Sheet) → NormalSheet sheet normal → NormalSheet normal again → again ≡ normal
sheet_again sheet normal again m n = λ i. record { columns = n.columns i; keys = n.keys i; tables = n.tables i; policies = policies_again sheet normal m.columns m.keys m.policies n.policies i }
