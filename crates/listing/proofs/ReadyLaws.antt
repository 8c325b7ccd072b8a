-- What an accepted sheet gives is what the rows are read by.
use Prim.Native.Nat.{ℕ, zero, suc, ◌+◌, ◌-◌, ◌<◌, ◌≤◌}
use native.Mathlib.Decide.{dec_lt}
use native.Mathlib.Omega.{arith}
use mathlib.Core.Path.{◌≡◌, refl, sym, ap, ◌∙◌}
use mathlib.Core.Bool.{true, cond}
use mathlib.Core.List.{List}
use lib.ListN.{length, get_or}
use borrow.Author.Tests.{lt-ltb, le-ltb}
use Rattle.meaning.specs.declared.Content.TheVariants.{Null}
use Rattle.meaning.specs.Values.{integer, kind_number, Contents, with}
use Rattle.meaning.specs.Sheets.{member, Sheet, kind_of, table_at, holds}
use Rattle.meaning.specs.Views.{KindsAre}
use Rattle.sheet.specs.declared.Table as s
use Rattle.sheet.specs.Directory.{table_of}
use Rattle.rows.specs.declared.form.Form.{Form}
use Rattle.rows.specs.Held.{Fields, SessionHeld}
use Rattle.admission.specs.declared.plan.Plan.{Plan}
use Rattle.listing.specs.Ready.{PlanOf, Ready}

-- each key of a session is there
all_there : (c : ℕ) → c < 8 → true ≡ member 16 65535 c
all_there zero l = refl
all_there (suc zero) l = refl
all_there (suc (suc zero)) l = refl
all_there (suc (suc (suc zero))) l = refl
all_there (suc (suc (suc (suc zero)))) l = refl
all_there (suc (suc (suc (suc (suc zero))))) l = refl
all_there (suc (suc (suc (suc (suc (suc zero)))))) l = refl
all_there (suc (suc (suc (suc (suc (suc (suc zero))))))) l = refl
all_there (suc (suc (suc (suc (suc (suc (suc (suc c)))))))) l = absurd (omega arith)

module _ (sheet : Sheet) (kinds : List ℕ) (are : KindsAre sheet kinds) where
  pub session_fields : (form : Form) → form.there ≡ 65535 → form.first ≡ 16 → form.n ≡ length sheet.keys → form.n ≤ 8 → form.kinds ≡ kinds → Fields form (λ k. true) sheet.keys
  session_fields form all from n few is =
      record {
        count = sym n;
        which = λ c l. all_there c (omega arith) ∙ ap (λ set. member 16 set c) (sym all);
        kind = λ c l. let z : form.first + c ≡ c + 16 = omega arith in ap (λ i. get_or form.kinds i 0) z ∙ ap (λ kinds. get_or kinds (c + 16) 0) is ∙ are.keys c (omega arith);
      }

  pub row_fields : (form : Form) (t : ℕ) → form.first ≡ 0 → form.n ≡ length sheet.columns → form.n ≤ 16 → {table : s.Table} → table_of table ≡ table_at sheet t → form.there ≡ table.columns → form.kinds ≡ kinds
      → Fields form (holds (table_at sheet t)) sheet.columns
  row_fields form t from n few told h is =
      let same_set : (table_at sheet t).columns ≡ form.there = sym (h ∙ ap (λ x. x.columns) told) in
      record {
        count = sym n;
        which = λ c m. ap (λ set. member 16 set c) same_set;
        kind = λ c m. let z : form.first + c ≡ c = omega arith in ap (λ i. get_or form.kinds i 0) z ∙ ap (λ kinds. get_or kinds c 0) is ∙ are.columns c (omega arith);
      }

  kinds_are : (v : ℕ) → v < 24 → kind_number (kind_of sheet v) ≡ get_or kinds v 0
  kinds_are v l = go (dec_lt v 16)
    where
      go : Dec (v < 16) → kind_number (kind_of sheet v) ≡ get_or kinds v 0
      go (yes m) = ap (λ b. kind_number (cond b (get_or sheet.columns v integer) (get_or sheet.keys (v - 16) integer))) (lt-ltb v 16 m) ∙ sym (are.columns v m)
      go (no m) =
          let z : v - 16 + 16 ≡ v = omega arith in
          ap (λ b. kind_number (cond b (get_or sheet.columns v integer) (get_or sheet.keys (v - 16) integer))) (le-ltb v 16 (omega arith)) ∙ sym (are.keys (v - 16) (omega arith)) ∙ ap (λ i. get_or kinds i 0) z

  -- a session's keys are held, and no row yet: all is ready
  pub made_ready : (plan : Plan) (form : Form) (t command : ℕ) (key start now : Contents) → form.first ≡ 0 → form.kinds ≡ kinds → Fields form (holds (table_at sheet t)) sheet.columns → PlanOf sheet t command plan
      → ((v : ℕ) → start v ≡ Null) → SessionHeld key start now → Ready plan form sheet t command key now
  made_ready plan form t command key start now from is fields laid null session =
      record { first = from; fields = fields; kind = λ v l. kinds_are v l ∙ ap (λ kinds. get_or kinds v 0) (sym is); laid = laid; others = λ v l. go v (dec_lt v 16) }
    where
      go : (v : ℕ) → Dec (v < 16) → now v ≡ with (λ c. Null) key v
      go v (yes m) = session.columns v m ∙ null v ∙ sym (ap (λ b. cond b Null (key (v - 16))) (lt-ltb v 16 m))
      go v (no m) =
          let l : 16 ≤ v = omega arith in
          session.keys v l (λ u k. null u) ∙ sym (ap (λ b. cond b Null (key (v - 16))) (le-ltb v 16 l))
