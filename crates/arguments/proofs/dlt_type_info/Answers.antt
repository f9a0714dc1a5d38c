-- `arguments::dlt_type_info` meets its contract: `search` goes through the rule as the code does.
use Rattle.arguments.proofs.Reading.{arguments-reading}
use Rattle.arguments.specs.Argument.{type_info_of}
use Rattle.arguments.proofs.dlt_type_info.Goals as goal

pub returns-in_err-word : goal.returns-in_err-word
unfolding type_info_of
returns-in_err-word c = search arguments-reading depth 20

pub returns-in_err-info : goal.returns-in_err-info
unfolding type_info_of
returns-in_err-info c = search arguments-reading depth 20

pub returns : goal.returns
unfolding type_info_of
returns c = search arguments-reading depth 20
