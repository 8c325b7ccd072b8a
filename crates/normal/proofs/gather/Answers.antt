-- The first i clauses have been through steps 1 to 5.
use Rattle.std.proofs.Common.{arith, rules, List, ◌≡◌, ◌<◌, ◌∷◌, ◌++◌, ◌∙◌, [], ap, sym, subst, length, take, get_or, map, ◌+◌, length-append}
use Rattle.lists.proofs.ListLaws.{all_at}
use Rattle.meaning.specs.Sheets.{policy_at}
use Rattle.meaning.specs.Views.{clause_of}
use Rattle.sheet.proofs.AcceptedLaws.{policy_there}
use Rattle.asked.proofs.UseLaws.{policy_used}
use Rattle.std.proofs.lemmas.List.{map-append}
use Rattle.steps.specs.Lists.{elements}
use Rattle.pruned.specs.Pruned.{Fits, Tidied}
use Rattle.pruned.proofs.TidiedLaws.{nothing_tidied, one_stays, one_goes}
use Rattle.normal.proofs.ReadableLaws.{known, taken_more, taken_all}
use Rattle.normal.proofs.gather.Goals as goal
use Rattle.normal.proofs.gather.Goals.{then-satisfiable, else-satisfiable}

-- one more
longer : {A : Type 0} (xs ys : List A) (x : A) → ys ≡ xs ++ (x ∷ []) → length ys ≡ length xs + 1
longer xs ys x e = ap length e ∙ length-append xs (x ∷ [])

pub loop-i-init : goal.loop-i-init
loop-i-init c = record {
  few = omega (arith, ap length c.none-cs.ensures);
  tidied = λ r. subst (λ t. Tidied c.args.sheet.now [] (map clause_of t)) (sym c.none-cs.ensures) (nothing_tidied c.args.sheet.now);
}

pub loop-i-preserved : goal.loop-i-preserved
loop-i-preserved c = let l = c.loop-i in
    let a = c.args in
    let i = l.i in
    let sheet = a.sheet.now in
    let cs = (policy_at sheet a.k).clauses in
    let n = c.clause_count-i-end.ensures in
    let x = clause_of c.clause-c.result in
    let h : i < length cs = omega (arith, n.number, c.loop-i-test.true) in
    let e : x ≡ get_or cs i [] = c.clause-c.ensures h in
    let fit : Fits sheet x = subst (Fits sheet) (sym e) (all_at (Fits sheet) [] cs i h (policy_used sheet n.allowed a.k (policy_there sheet a.k h))) in
    elim c.if-satisfiable.branch [
      | then-satisfiable w ↦ record {
        few = omega (arith, longer (elements l.cs) _ _ (ap elements w.cs-is ∙ w.push.ensures));
        tidied = λ r.
            let k = known sheet c.kinds-kinds.result a.top c.kinds-kinds.ensures (search rules) n.allowed r in
            taken_more sheet cs i x h e
            (subst (Tidied sheet (take i cs ++ (x ∷ []))) (sym (ap (map clause_of) (ap elements w.cs-is ∙ w.push.ensures) ∙ map-append clause_of (elements l.cs) (w.normal_clause.result ∷ [])))
            (one_stays sheet (l.invariant.tidied r) x (clause_of w.normal_clause.result) ((c.satisfiable.ensures sheet r fit).yes w.if-satisfiable.true) (w.normal_clause.ensures.1 sheet k fit)));
      }
      | else-satisfiable w ↦ record {
        few = omega (arith, ap length (ap elements w.cs-is));
        tidied = λ r. subst (λ t. Tidied sheet (take (i + 1) cs) (map clause_of t)) (sym (ap elements w.cs-is))
            (taken_more sheet cs i x h e (one_goes sheet (l.invariant.tidied r) x ((c.satisfiable.ensures sheet r fit).no w.if-satisfiable.false)));
      }
    ]

pub returns-clause-tidied : goal.returns-clause-tidied
returns-clause-tidied c = λ r. taken_all c.args.sheet.now (policy_at c.args.sheet.now c.args.k).clauses c.loop-i.i (omega (arith, c.clause_count-i-end.ensures.number, c.loop-i-test.false)) (c.loop-i.invariant.tidied r)
