-- `rows::session_at` meets its contract. A session is its contents, zero bits, and no byte more.
use Rattle.std.proofs.Common.{arith, true}
use Rattle.rows.proofs.RowLaws.{session_lost, session_padded, session_ends}
use Rattle.rows.proofs.session_at.Goals as goal

pub returns-in_default : goal.returns-in_default
returns-in_default c = λ sheet z F. session_lost _ (omega arith) sheet _ _ _ _ z (c.contents_at.ensures.1 (λ k. true) sheet.keys F) c.in_default.is

pub returns-in_default-padded : goal.returns-in_default-padded
returns-in_default-padded c = λ sheet z F. session_padded _ (omega arith) sheet _ _ _ _ z (c.contents_at.ensures.1 (λ k. true) sheet.keys F) c.in-Some.is c.padded.ensures.0 c.in_default-padded.is

pub returns : goal.returns
returns c = λ sheet z F. session_ends _ (omega arith) sheet _ _ _ _ z (c.contents_at.ensures.1 (λ k. true) sheet.keys F) c.in-Some.is c.padded.ensures.0 c.in-Some-padded.is
