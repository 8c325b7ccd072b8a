-- Lines of the read-out, written one after another.
use Prim.Native.Nat.{ℕ, ◌+◌, ◌*◌, ◌/◌, ◌%◌, ◌<◌, ◌≤◌}
use native.Mathlib.Omega.{arith}
use mathlib.Core.Path.{◌≡◌, refl, sym, ap, subst, ◌∙◌}
use mathlib.Core.Bool.{cond}
use mathlib.Core.List.{List, [], ◌∷◌, ◌++◌, append_assoc, append-nil}
use lib.ListN.{length}
use borrow.Author.Tests.{le-leb, lt-leb}
use Rattle.std.specs.Prelude.{Ok, Err}
use Rattle.refusals.specs.declared.Refusal.{Refusal}
use Rattle.lists.specs.Lists.{each, Each}
use Rattle.lists.proofs.ListLaws.{each_more}
use Rattle.lists.proofs.NumberLaws.{numbers_more}
use Rattle.meaning.specs.declared.Life.{Life}
use Rattle.meaning.specs.declared.Isolation.{Isolation}
use Rattle.meaning.specs.Sheets.{Sheet, branch_count}
use Rattle.meaning.specs.Packed.{packed}
use Rattle.meaning.specs.Text.{ascii}
use Rattle.meaning.specs.Replies.{DeadReply, IsolatedReply, BranchesReply}
use Rattle.meaning.specs.Reading.{refused, read_sheet}
use Rattle.meaning.specs.ReadOut.{decimal, Verdicts, Line, Printed, ReadOut}
use Rattle.meaning.specs.Demands.{Accepted}
use Rattle.text.specs.declared.Writer.{Writer}
use Rattle.text.specs.Wrote.{Adds}
use Rattle.text.proofs.WroteLaws.{adds_none, adds_then}
use Rattle.report.specs.Texts.{verdicts_text, letter_of, head_text, opening_text, refusal_text}
use Rattle.report.specs.Lines.{Writes, IsRest, Asked, FirstLines}
use Rattle.report.proofs.KnownLaws.{count_known, life_known, isolation_known}

module _ (sheet : Sheet) (t command : ℕ) where
  -- N is what is replied
  count_is : (n : ℕ) → BranchesReply (packed sheet) t command (Ok n) → Asked sheet t command (n ≡ branch_count sheet t command)
  count_is n h allowed there known = let c = count_known sheet t command allowed there known (Ok n) h in cc

  module _ {w v : Writer} where
    -- no count: that is not so of a table that is there
    pub rest_lost : (e : Refusal) → BranchesReply (packed sheet) t command (Err e) → Asked sheet t command (Writes (IsRest sheet t command) w v)
    rest_lost e h allowed there known = let c = count_known sheet t command allowed there known (Err e) h in absurd (cc)

    -- too many branches
    pub rest_refused : (n : ℕ) → BranchesReply (packed sheet) t command (Ok n) → 256 < n → Adds w (ascii "refused 13") v → Asked sheet t command (Writes (IsRest sheet t command) w v)
    rest_refused n h many g allowed there known =
        let m = count_is n h allowed there known in
        record { text = ascii "refused 13"; adds = g; says = subst (λ b. cond b (Verdicts sheet t command (ascii "refused 13")) (ascii "refused 13" ≡ ascii "refused 13")) (sym (lt-leb (branch_count sheet t command) 256 (omega arith))) refl }

  -- else there are verdicts
  module _ (n : ℕ) (h : BranchesReply (packed sheet) t command (Ok n)) (few : n ≤ 256) where
    few_there : Asked sheet t command (branch_count sheet t command ≤ 256)
    few_there allowed there known = let m = count_is n h allowed there known in omega arith

    module _ {w v : Writer} where
      pub life_lost : (e : Refusal) → DeadReply (packed sheet) t command (Err e) → Asked sheet t command (Writes (IsRest sheet t command) w v)
      life_lost e d allowed there known = absurd (life_known sheet t command allowed there known (few_there allowed there known) (Err e) d)

      pub isolation_lost : (e : Refusal) → IsolatedReply (packed sheet) t command (Err e) → Asked sheet t command (Writes (IsRest sheet t command) w v)
      isolation_lost e i allowed there known = absurd (isolation_known sheet t command allowed there known (few_there allowed there known) (Err e) i)

      pub rest_told : (life : Life) (isolation : Isolation) → DeadReply (packed sheet) t command (Ok life) → IsolatedReply (packed sheet) t command (Ok isolation) → Adds w (verdicts_text n life isolation) v →
          Asked sheet t command (Writes (IsRest sheet t command) w v)
      unfolding Verdicts
      rest_told life isolation d i g allowed there known =
          let l = few_there allowed there known in
          record {
            text = verdicts_text n life isolation;
            adds = g;
            says = subst (λ b. cond b (Verdicts sheet t command (verdicts_text n life isolation)) (verdicts_text n life isolation ≡ ascii "refused 13")) (sym (le-leb (branch_count sheet t command) 256 l)) (
              life,
              isolation,
              life_known sheet t command allowed there known l (Ok life) d,
              isolation_known sheet t command allowed there known l (Ok isolation) i,
              ap (λ k. verdicts_text k life isolation) (count_is n h allowed there known),
            );
          }

-- a line: its head, its rest and its end
pub line_told : (sheet : Sheet) (t command : ℕ) {w v u z : Writer} → Adds w (head_text t command) v → Asked sheet t command (Writes (IsRest sheet t command) v u) → Adds u (10 ∷ []) z →
    Asked sheet t command (Writes (Line sheet t command) w z)
unfolding letter_of
line_told sheet t command h f e allowed there known =
    let g = f allowed there known in
    record {
      text = head_text t command ++ (g.text ++ (10 ∷ []));
      adds = adds_then h (adds_then g.adds e);
      says =
          record {
            rest = g.text;
            verdicts = g.says;
            text_is =
                append_assoc (decimal t) (ascii " " ++ (letter_of command ∷ ascii " ")) (g.text ++ (10 ∷ []));
          };
    }

joined : (ls : List (List ℕ)) (l : List ℕ) → each (λ x. x) (ls ++ (l ∷ [])) ≡ each (λ x. x) ls ++ l
joined [] l = append-nil l
joined (x ∷ ls) l = ap (λ y. x ++ y) (joined ls l) ∙ sym (append_assoc x (each (λ y. y) ls) l)

pub lines_none : (sheet : Sheet) → FirstLines sheet 0 []
lines_none sheet = record { lines = []; each_line = Each.none; text_is = refl }

pub lines_more : (sheet : Sheet) (n : ℕ) (text line : List ℕ) → FirstLines sheet n text → Line sheet (n / 4) (n % 4) line → FirstLines sheet (n + 1) (text ++ line)
lines_more sheet n text line f l =
    record {
      lines = f.lines ++ (line ∷ []);
      each_line =
          subst (λ ks. Each (λ k x. Line sheet (k / 4) (k % 4) x) ks (f.lines ++ (line ∷ [])))
          (sym (numbers_more n))
          (each_more _ _ l f.each_line);
      text_is = ap (λ x. x ++ line) f.text_is ∙ sym (joined f.lines line);
    }

-- one line more
pub lines_step : (sheet : Sheet) (n : ℕ) {w v u : Writer} → Writes (FirstLines sheet n) w v → Writes (Line sheet (n / 4) (n % 4)) v u → Writes (FirstLines sheet (n + 1)) w u
lines_step sheet n f l = record { text = f.text ++ l.text; adds = adds_then f.adds l.adds; says = lines_more sheet n f.text l.text f.says l.says }

pub lines_start : (sheet : Sheet) (w : Writer) → Writes (FirstLines sheet 0) w w
lines_start sheet w = record { text = []; adds = adds_none w; says = lines_none sheet }

-- the whole: a refused sheet's line, or the opening and the lines
pub out_refused : (s : List ℕ) (n : ℕ) {k : ℕ} {w v : Writer} → n ≡ k → read_sheet s ≡ refused k → Adds w (refusal_text n) v → Writes (ReadOut s) w v
unfolding ReadOut
out_refused s n is e g = record { text = refusal_text n; adds = g; says = subst (λ x. Printed x (refusal_text n)) (sym (e ∙ ap refused (sym is))) refl }

pub out_told : (s : List ℕ) (x : Sheet) (tables policies : ℕ) {w v u : Writer} → Accepted s x → tables ≡ length x.tables → policies ≡ length x.policies →
    Adds w (opening_text tables policies) v → Writes (FirstLines x (length x.tables * 4)) v u → Writes (ReadOut s) w u
unfolding ReadOut
out_told s x tables policies {w} {v} {u} acc T P g l =
    let text = opening_text tables policies ++ l.text in
    let parts : text ≡ ascii "tables " ++ (decimal (length x.tables) ++ (ascii " policies " ++ (decimal (length x.policies) ++ (ascii "\n" ++ each (λ y. y) l.says.lines)))) =
    ap (λ z. opening_text tables policies ++ z) l.says.text_is ∙ ap (λ z. opening_text z policies ++ each (λ y. y) l.says.lines) T ∙ ap (λ z. opening_text (length x.tables) z ++ each (λ y. y) l.says.lines) P
    ∙ simp append_assoc in
    record { text = text; adds = adds_then g l.adds; says = subst (λ z. Printed z text) (sym acc.1) (record { lines = l.says.lines; each_line = l.says.each_line; text_is = parts }) }
