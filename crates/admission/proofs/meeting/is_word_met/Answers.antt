-- `admission::meeting::is_word_met` meets its contract. Null meets only "is null"; of a value the word's operator decides.
use Rattle.std.proofs.Common.{sym, ap, ◌∙◌}
use Rattle.meaning.specs.Values.{kind_number}
use Rattle.meaning.specs.Atoms.{is_value}
use Rattle.rows.specs.Held.{held}
use Rattle.admission.proofs.WordLaws.{is_variable, word_null, word_value, word_equals}
use Rattle.admission.proofs.meeting.is_word_met.Goals as goal

pub returns-in_default : goal.returns-in_default
returns-in_default c = λ kind K. word_null kind _ _ _ _ 0 (ap (held c.args.vars.now) (sym c.from-v.ensures) ∙ sym c.get.ensures.value ∙ c.in_default.is)

pub returns-then-op-eq0 : goal.returns-then-op-eq0
returns-then-op-eq0 c = λ kind K. word_equals kind _ _ _ _ _ (ap (held c.args.vars.now) (sym c.from-v.ensures) ∙ sym c.get.ensures.value ∙ c.in-Value.is) c.if-op-eq0.true (c.is_value.ensures ∙ ap (is_value _) (c.get-then-op-eq0.ensures.value ∙ ap (held c.args.vars.now) c.from.ensures))

pub returns : goal.returns
returns c = λ kind K. let v = c.from-v.ensures in
    word_value kind _ _ _ _ _ (ap (held c.args.vars.now) (sym v) ∙ sym c.get.ensures.value ∙ c.in-Value.is)
    (c.passes_word.ensures kind _ (ap (λ v. kind_number (kind v)) (sym v) ∙ K _ (is_variable _ c.get.ensures.past c.in-Value.is)) c.if-op-eq0.false)
