-- An atom of the class that is another list sifts the values.
use Rattle.std.proofs.Common.{arith, refl, sym, subst, ℕ, get_or}
use Rattle.std.proofs.lemmas.Grind.{common_steps}
use Rattle.least.specs.Least.{Fair}
use Rattle.least.proofs.SiftLaws.{no_list, own_fair, lives_skip, lives_sift}
use Rattle.least.proofs.Class.sift_all.Goals as goal
use Rattle.least.proofs.Class.sift_all.Goals.{then-has+then-is_list+then-i-list+else-none_left-2, else-has, else-has-via-then-has+then-is_list+else-i-list, else-has-via-then-has+else-is_list, else-has-via-else-has}

pub loop-i-preserved : goal.loop-i-preserved
loop-i-preserved c =
    let h = c.loop-i.invariant in
    record {
      size = elim c.if-has.branch [ then-has+then-is_list+then-i-list+else-none_left-2 w ↦ grind (arith, common_steps) | else-has w ↦ grind (arith, common_steps) ];
      lives = elim c.if-has.branch [
        | then-has+then-is_list+then-i-list+else-none_left-2 w ↦ rw w.live-is (lives_sift _ _ _ _ _ _ _ _ _ (w.if-has.ensures.yes refl) w.sift.ensures h.lives)
        | else-has w ↦ rw w.live-is
            (lives_skip _ _ _ _ _ _ _ _
            (λ j l o. elim w.else-has.branch [
              | else-has-via-then-has+then-is_list+else-i-list v ↦ subst (λ (k : ℕ). Fair c.args.self.now.s.now k (get_or c.args.values.now j 0)) (sym v.if-i-list.false) (own_fair _ _ _ c.requires j l)
              | else-has-via-then-has+else-is_list v ↦ no_list _ _ _ (v.if-is_list.ensures.no refl)
              | else-has-via-else-has v ↦ absurd (v.if-has.ensures.no refl o)
            ])
            h.lives)
      ];
    }
