-- The reply's numbers are the reply.
use Rattle.fiddlecomet.proofs.ToldLaws.{normal_form_told}
use Rattle.fiddlecomet.proofs.fiddlecomet_normal_form.Goals as goal

pub returns : goal.returns
returns c = normal_form_told c.normal_form.result c.normal_form.ensures c.from.ensures
