use Rattle.meaning.specs.Views.{clause_of}
use Rattle.asked.proofs.Ways.{implies_null, implies_null_yes, implies_other_yes, implies_equals, implies_plain}
use Rattle.asked.proofs.implies.Goals as goal

pub returns-then-a-eq7 : goal.returns-then-a-eq7
returns-then-a-eq7 c = implies_null _ (clause_of c.args.others) c.args.a c.turned_atom.result _ c.turned_atom.ensures c.meets_both.ensures c.if-a-eq7.true

pub returns-then-meets_both : goal.returns-then-meets_both
returns-then-meets_both c = implies_null_yes _ (clause_of c.args.others) c.args.a c.null_of.result _ c.null_of.ensures c.meets_both-2.ensures c.if-meets_both.true c.if-a-eq7.false

pub returns-then-a-ne0 : goal.returns-then-a-ne0
returns-then-a-ne0 c = implies_plain _ (clause_of c.args.others) c.args.a c.null_of.result c.turned_atom-then-a-ne0.result _ _ c.null_of.ensures c.meets_both-2.ensures c.if-meets_both.false c.turned_atom-then-a-ne0.ensures c.meets_both-then-a-ne0.ensures c.if-a-ne0.true c.if-a-eq7.false

pub returns-then-not-meets_both : goal.returns-then-not-meets_both
returns-then-not-meets_both c = implies_equals _ (clause_of c.args.others) c.args.a c.null_of.result c.null_of-2.result _ _ _ c.null_of.ensures c.meets_both-2.ensures c.if-meets_both.false c.null_of-2.ensures c.meets_both-3.ensures c.if-not-meets_both.true c.differs.ensures c.if-a-ne0.false

pub returns-else-not-meets_both : goal.returns-else-not-meets_both
returns-else-not-meets_both c = rw c.if-not-meets_both.false (implies_other_yes _ (clause_of c.args.others) c.args.a c.null_of-2.result _ c.null_of-2.ensures c.meets_both-3.ensures c.if-not-meets_both.false c.if-a-ne0.false)
