-- `strings::dlt_zero_terminated_string_intern` meets its contract: `search` goes through the rule as the code does.
use borrow.Author.Rules.{rules}
use Rattle.strings.proofs.Strings.{texts}
use Rattle.strings.proofs.Reasons.{no_longer}
use Rattle.strings.proofs.dlt_zero_terminated_string_intern.Goals as goal

pub returns-then-before_zero-rest : goal.returns-then-before_zero-rest
returns-then-before_zero-rest c = search texts depth 20

pub returns-then-rest-size : goal.returns-then-rest-size
returns-then-rest-size c = search texts depth 20

pub why_ended-ended-requires : goal.why_ended-ended-requires
why_ended-ended-requires c = search (rules, no_longer)

pub returns : goal.returns
returns c = search texts depth 20
