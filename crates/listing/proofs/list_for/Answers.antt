-- `listing::list_for` meets its contract. The session, then the list is judged; then the rows are listed by a plan that is the table's and command's.
use Rattle.std.proofs.Common.{refl, Ok}
use Rattle.meaning.specs.Sheets.{table_at}
use Rattle.rows.specs.Held.{held}
use Rattle.listing.proofs.ReadyLaws.{session_fields, row_fields, made_ready}
use Rattle.listing.proofs.ReplyLaws.{session_read, refused_session, rows_read, refused_rows, rows_asked}
use Rattle.listing.proofs.list_for.Goals as goal
use Rattle.listing.proofs.list_for.Goals.{then-not-session_at-via-then-not-session_at, then-not-session_at-via-else-not-session_at+then-not-are_rows}

pub returns-then-not-session_at : goal.returns-then-not-session_at
returns-then-not-session_at c =
    let a = c.args in
    let sheet = a.a.now in
    let told = c.session_at.ensures sheet refl (session_fields sheet _ c.kinds-kinds.ensures _ refl refl c.keys.ensures.number c.keys.ensures.few refl) in
    elim c.then-not-session_at.branch [
      | then-not-session_at-via-then-not-session_at w ↦ refused_session sheet a.t a.command a.session.now a.rows.now a.out.now (held c.new-vars.result) (held c.session_at.new.vars) w.if-not-session_at.true told
      | then-not-session_at-via-else-not-session_at+then-not-are_rows w ↦
          let S = session_read sheet a.t a.command a.session.now a.rows.now a.out.now (held c.new-vars.result) (held c.session_at.new.vars) w.if-not-session_at.false told in
          refused_rows sheet a.t a.command a.session.now a.rows.now a.out.now (held c.new-vars.result) (held c.session_at.new.vars) S.0 S.1 S.2 w.if-not-are_rows.true
          (w.are_rows.ensures.1 sheet (table_at sheet a.t) (row_fields sheet _ c.kinds-kinds.ensures _ a.t refl c.columns.ensures.number c.columns.ensures.few (c.table.ensures c.requires.0) c.from.ensures refl))
    ]

pub returns : goal.returns
returns c =
    let a = c.args in
    let sheet = a.a.now in
    let told = c.session_at.ensures sheet refl (session_fields sheet _ c.kinds-kinds.ensures _ refl refl c.keys.ensures.number c.keys.ensures.few refl) in
    let S = session_read sheet a.t a.command a.session.now a.rows.now a.out.now (held c.new-vars.result) (held c.session_at.new.vars) c.if-not-session_at.false told in
    let fields = row_fields sheet _ c.kinds-kinds.ensures _ a.t refl c.columns.ensures.number c.columns.ensures.few (c.table.ensures c.requires.0) c.from.ensures refl in
    let R = rows_read sheet a.t a.command a.session.now a.rows.now a.out.now (held c.new-vars.result) (held c.session_at.new.vars) S.0 S.1 S.2 c.if-not-are_rows.false (c.are_rows.ensures.1 sheet (table_at sheet a.t) fields) in
    let ready = made_ready sheet _ c.kinds-kinds.ensures _ _ a.t a.command S.0 (held c.new-vars.result) (held c.session_at.new.vars) refl refl fields (c.lay_policies.ensures c.requires.0) c.new-vars.ensures S.3 in
    let writes = c.list.ensures a.t a.command S.0 R.0 R.1 ready R.2 in
    rows_asked sheet a.t a.command a.session.now a.rows.now a.out.now (held c.new-vars.result) (held c.session_at.new.vars) S.0 S.1 S.2 R.0 R.1 R.2 (Ok c.list.result) _ writes
