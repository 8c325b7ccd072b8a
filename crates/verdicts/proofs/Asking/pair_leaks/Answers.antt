-- `verdicts::Asking::pair_leaks` meets its contract: branch b is laid behind the atoms that stand there, for the second session, and leaves them.
use Rattle.std.proofs.Common.{true, ap}
use Rattle.asked.specs.Words.{word_atoms}
use Rattle.verdicts.proofs.LayLaws.{known, laid_at, pair_told, kept_behind}
use Rattle.verdicts.proofs.Asking.pair_leaks.Goals as goal

pub returns-clause-told : goal.returns-clause-told
returns-clause-told c l =
    let p = known c.self.inside c.self.invariant c.self.view_is in
    let m = c.lay_branch-m in
    pair_told p m.new.words m.result l (laid_at p true (word_atoms c.args.words.now c.args.n) (ap (λ q. q.sheet) c.self.view_is) c.pick-c.ensures m.ensures.atoms l) c.leaks.ensures

pub returns-clause-kept : goal.returns-clause-kept
returns-clause-kept c = kept_behind c.args.words.now c.lay_branch-m.new.words c.args.n c.lay_branch-m.result _ c.lay_branch-m.ensures.atoms
