-- One value more, kept or not.
use Rattle.std.proofs.Common.{◌≡◌, ◌∷◌, ◌++◌, [], ◌∙◌, ap, sym, get_or, map, length, length-append, arith, true, cond}
use lib.Dec.{eqb}
use Rattle.meaning.specs.Atoms as m
use Rattle.meaning.specs.Steps.{spares, is_common}
use Rattle.meaning.specs.Views.{atom_of}
use Rattle.steps.specs.Lists.{elements}
use Rattle.steps.proofs.ClauseLaws.{all_every, keep_yes, keep_not}
use Rattle.steps.proofs.clauses.common_values.Goals as goal
use Rattle.steps.proofs.clauses.common_values.Goals.{then-is_common, else-is_common}

pub loop-n-preserved : goal.loop-n-preserved
loop-n-preserved c =
    let f = is_common (map atom_of c.args.atoms.now) c.args.v in
    let i = c.loop-n.n-index in
    let n = get_or c.args.vs.now i 0 in
    let is : c.is_common.result ≡ f n = c.is_common.ensures ∙ all_every atom_of (λ (a : m.Atom). cond (eqb a.variable c.args.v) (spares n a.operator) true) c.args.atoms.now in
    elim c.if-is_common.branch [
      | then-is_common w ↦ record {
        few = omega (arith, ap length (ap elements w.out-is ∙ w.push.ensures), length-append (elements c.loop-n.out) (n ∷ []));
        written = ap elements w.out-is ∙ w.push.ensures ∙ ap (λ t. t ++ (n ∷ [])) c.loop-n.invariant.written ∙ keep_yes f c.args.vs.now i 0 c.loop-n-test.true (sym is ∙ w.if-is_common.true);
      }
      | else-is_common w ↦ record {
        few = omega (arith, ap length (ap elements w.out-is));
        written = ap elements w.out-is ∙ c.loop-n.invariant.written ∙ keep_not f c.args.vs.now i 0 c.loop-n-test.true (sym is ∙ w.if-is_common.false);
      }
    ]
