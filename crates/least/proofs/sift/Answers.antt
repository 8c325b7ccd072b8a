-- A value that is left stays where the atom allows it, and is marked no more where not.
use Rattle.std.proofs.Common.{arith, length-set}
use Rattle.words.proofs.NeedLaws.{clash}
use Rattle.least.proofs.SiftLaws.{same_from, differ_from, fair_when, unfair_when, sifts_keep, sifts_strike, rest_more}
use Rattle.least.proofs.sift.Goals as goal
use Rattle.least.proofs.sift.Goals.{then-live-k+then-among-wanted, else-live-k, else-live-k-via-then-live-k+else-among-wanted, else-live-k-via-else-live-k}

pub loop-k-preserved : goal.loop-k-preserved
loop-k-preserved c =
    let h = c.loop-k.invariant in
    let g = c.listed-list.ensures in
    elim c.if-live-k.branch [
      | then-live-k+then-among-wanted w ↦ rw w.live-is
          (record {
            size = simp length-set h.size;
            rest = rest_more _ _ _ _ _ _ h.rest h.sifted _;
            sifted = sifts_strike _ _ _ _ _ _ h.rest h.sifted (omega arith) (unfair_when _ _ _ g.count g.values _ _ c.requires.a_list.1 w.among.ensures (differ_from _ _ w.if-among-wanted.true));
          })
      | else-live-k w ↦ rw w.live-is
          (record {
            size = h.size;
            rest = λ j l. h.rest j (omega arith);
            sifted = sifts_keep _ _ _ _ _ _ h.rest h.sifted
                (λ e. elim w.else-live-k.branch [
                  | else-live-k-via-then-live-k+else-among-wanted v ↦ fair_when _ _ _ g.count g.values _ _ c.requires.a_list.1 v.among.ensures (same_from _ _ v.if-among-wanted.false)
                  | else-live-k-via-else-live-k v ↦ absurd (clash e v.if-live-k.false)
                ]);
          })
    ]
