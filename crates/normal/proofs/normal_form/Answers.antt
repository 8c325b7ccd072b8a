-- A refusal is the sheet's own or 14; else the facts and the policies are written, which together are a normal form.
use Rattle.std.proofs.Common.{arith, ℕ, ◌≡◌, ◌+◌, ◌/◌, ◌++◌, ◌∙◌, sym, subst, Ok}
use Rattle.std.proofs.lemmas.Result.{err_from_is_err_and}
use Rattle.meaning.specs.Packed.{count_bits, fact_bits}
use Rattle.meaning.specs.Replies.{NormalFormReply}
use Rattle.normal.proofs.FactLaws.{begun}
use Rattle.normal.proofs.ReplyLaws.{form_refused, form_short, sheet_written}
use Rattle.normal.proofs.normal_form.Goals as goal

pub returns-in_err-a : goal.returns-in_err-a
returns-in_err-a c = let p = err_from_is_err_and c.from_residual.result c.from_residual.ensures.1 in
    rw (p.1, p.2) (form_refused c.args.sheet.now c.args.out.now _ c.in_err-a.ensures.refused)

pub returns-then-out-sheet : goal.returns-then-out-sheet
returns-then-out-sheet c = form_short c.args.sheet.now c.args.out.now _ c.in_ok-a.ensures.accepted.0 c.if-out-sheet.true

pub returns : goal.returns
returns c = let a = c.args in
    let x = c.in_ok-a.a in
    let s = a.sheet.now in
    let o = a.out.now in
    let begin = c.new-w in
    let end = c.write_policies in
    let after = end.new.w.out.now in
    let p = end.new.w.bits in
    let facts = c.write_facts.ensures.wrote o (begun o begin.result.out.now begin.result.bits begin.ensures.found begin.ensures.none) in
    -- the writer's output is the caller's
    let held = end.ensures.same ∙ c.write_facts.ensures.same ∙ begin.ensures.same in
    let bytes : c.div_ceil.result ≡ (p + 7) / 8 = omega (arith, c.div_ceil.ensures, c.bits.ensures) in
    subst (λ (n : ℕ). NormalFormReply s o (Ok n) c.out-1.given.0) (sym bytes)
    (subst (NormalFormReply s o (Ok ((p + 7) / 8))) (sym (c.out-1.given.1.1 (sym held)))
    (sheet_written s o x c.in_ok-a.ensures.accepted.0 c.if-out-sheet.false after p (end.ensures.wrote o (count_bits x ++ fact_bits x) facts)))
