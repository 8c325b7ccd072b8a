-- Each field's answer, in the order of reading, and each test on it. What the two fields are goes by the lender's law: the operator's is the one
-- at the place that the variable's leaves; where it was not read, what reading there would answer.
use Rattle.std.proofs.Common.{refl}
use Rattle.values.specs.Reads.{answered, stopped}
use Rattle.values.proofs.ReadLaws.{handed}
use Rattle.place.proofs.HeadLaws.{atom_fields_are}
use Rattle.place.proofs.AtomHeadLaws.{judged_small, first_lost, variable_refused, operator_lost, operator_wrong, operator_unfit, head_got}
use Rattle.place.proofs.atom_head.Goals as goal

pub returns-in_err-next_field-clause-read : goal.returns-in_err-next_field-clause-read
returns-in_err-next_field-clause-read c facts p e k are h =
    let f = atom_fields_are _ _ c.in_err-next_field.ensures (refl, refl) in
    handed _ _ c.from_residual.ensures.1 (first_lost facts _ p e k are h (f.0, refl))

pub returns-in_err-variable-clause-read : goal.returns-in_err-variable-clause-read
returns-in_err-variable-clause-read c facts p e k are h =
    let f = atom_fields_are _ _ c.in_ok-next_field.ensures (refl, refl) in
    handed _ _ c.from_residual-in_err-variable.ensures.1 (variable_refused facts _ p e k are h (f.0, refl) c.in_err-variable.ensures)

pub returns-in_err-operator-clause-read : goal.returns-in_err-operator-clause-read
returns-in_err-operator-clause-read c facts p e k are h =
    let f = atom_fields_are _ _ c.in_ok-next_field.ensures c.in_err-operator.ensures in
    handed _ _ c.from_residual-in_err-operator.ensures.1 (operator_lost facts _ p e k are h (f.0, refl) c.in_ok-variable.ensures (f.1, f.2))

pub returns-then-operator-ge9-clause-read : goal.returns-then-operator-ge9-clause-read
returns-then-operator-ge9-clause-read c facts p e k are h =
    let f = atom_fields_are _ _ c.in_ok-next_field.ensures c.in_ok-operator.ensures in
    stopped (operator_wrong facts _ p e k are h (f.0, refl) c.in_ok-variable.ensures (f.1, f.2) c.if-operator-ge9.true)

pub returns-then-fits_kind-clause-read : goal.returns-then-fits_kind-clause-read
returns-then-fits_kind-clause-read c facts p e k are h =
    let f = atom_fields_are _ _ c.in_ok-next_field.ensures c.in_ok-operator.ensures in
    answered (head_got facts _ p e k are h (f.0, refl) c.in_ok-variable.ensures (f.1, f.2) c.if-operator-ge9.false (rw (← c.kind_at.ensures) c.if-fits_kind.ensures))

pub returns-then-fits_kind-clause-fit : goal.returns-then-fits_kind-clause-fit
returns-then-fits_kind-clause-fit c = (judged_small c.in_ok-next_field.field-0 c.args.columns c.args.keys c.in_ok-variable.ensures, c.if-operator-ge9.false)

pub returns-else-fits_kind-clause-read : goal.returns-else-fits_kind-clause-read
returns-else-fits_kind-clause-read c facts p e k are h =
    let f = atom_fields_are _ _ c.in_ok-next_field.ensures c.in_ok-operator.ensures in
    stopped (operator_unfit facts _ p e k are h (f.0, refl) c.in_ok-variable.ensures (f.1, f.2) c.if-operator-ge9.false (rw (← c.kind_at.ensures) c.if-fits_kind.ensures))
