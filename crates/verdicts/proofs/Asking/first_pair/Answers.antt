-- `verdicts::Asking::first_pair` meets its contract: at the head of each loop no earlier pair leaks, nothing has been found, and branch a is laid.
use Rattle.std.proofs.Common.{arith, sym, subst, ◌<◌, ◌≤◌}
use Rattle.meaning.specs.Replies.{IsolationOf}
use Rattle.verdicts.specs.Questions.{number_of}
use Rattle.verdicts.proofs.LayLaws.{known}
use Rattle.verdicts.proofs.LeakLaws.{quiet_row, quiet_all, leak_first}
use Rattle.verdicts.proofs.Asking.first_pair.Goals as goal

pub search-preserved : goal.search-preserved
search-preserved c =
    let n = (known c.self.inside c.self.invariant c.self.view_is).number in
    let i = c.loop-b-test.false in
    let l : number_of c.args.self.now ≤ c.loop-b.b = omega arith in
    (c.loop-b.invariant.0, quiet_row _ _ _ c.loop-b.invariant.2 l)

pub returns-after-search : goal.returns-after-search
returns-after-search c =
    let n = (known c.self.inside c.self.invariant c.self.view_is).number in
    let i = c.search-test.false in
    let q = c.args.self.now in
    let l : number_of q ≤ c.search.a = omega arith in
    subst (IsolationOf q.sheet q.table q.command) (sym c.search.invariant.0) (quiet_all _ _ _ c.search.invariant.1 l)

pub returns-then-leaks_at : goal.returns-then-leaks_at
returns-then-leaks_at c =
    let n = (known c.self.inside c.self.invariant c.self.view_is).number in
    let i = c.search-test.true in
    let j = c.loop-b-test.true in
    let la : c.search.a < number_of c.args.self.now = omega arith in
    let lb : c.loop-b.b < number_of c.args.self.now = omega arith in
    leak_first _ _ _ c.loop-b.invariant.2 ((c.leaks_at.ensures.told c.requires.1 la lb c.loop-b.invariant.1).yes c.if-leaks_at.true)
