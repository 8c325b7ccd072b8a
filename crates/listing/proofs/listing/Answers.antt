-- `listing::listing` meets its contract. What was accepted is handed on, the bytes being its packed form; what was not is refused by the sheet's own number.
use Rattle.std.proofs.Common.{subst}
use Rattle.std.proofs.lemmas.Result.{err_from_is_err_and}
use Rattle.meaning.specs.Replies.{ListingReply}
use Rattle.listing.proofs.ReplyLaws.{refused_sheet}
use Rattle.listing.proofs.listing.Goals as goal

pub returns-in_err-a : goal.returns-in_err-a
returns-in_err-a c = let p = err_from_is_err_and c.from_residual.result c.from_residual.ensures.1 in rw (p.1, p.2) (refused_sheet _ _ _ _ _ _ _ c.in_err-a.ensures.refused)

pub returns : goal.returns
returns c = let a = c.args in subst (λ s. ListingReply s a.table a.command a.session.now a.rows.now a.out.now c.listed.result c.listed.new.out) c.in_ok-a.ensures.accepted.1 c.listed.ensures
