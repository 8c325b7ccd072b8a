-- `sheet::policy_fields::bit_of` meets its contract: a place of a sheet has its byte number below 65,536 and its bit number below 8.
use Rattle.sheet.proofs.PolicyLaws.{bit_number}
use Rattle.sheet.proofs.policy_fields.bit_of.Goals as goal

pub returns : goal.returns
returns c n e h = bit_number _ n e h
