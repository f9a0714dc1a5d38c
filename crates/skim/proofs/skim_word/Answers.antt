-- `skim::skim_word` meets its contract: `search` goes through the rule as the code does.
use Rattle.skim.proofs.Reading.{skim-reading, word_none}
use Rattle.skim.proofs.skim_word.Goals as goal

pub returns-in_err-skim_bool-in-1 : goal.returns-in_err-skim_bool-in-1
returns-in_err-skim_bool-in-1 c = search skim-reading depth 20

pub returns-in_ok-skim_bool-in-1 : goal.returns-in_ok-skim_bool-in-1
returns-in_ok-skim_bool-in-1 c = search skim-reading depth 20

pub returns-in-2 : goal.returns-in-2
returns-in-2 c = search skim-reading depth 20

pub returns-in-8 : goal.returns-in-8
returns-in-8 c = search skim-reading depth 20

pub returns-in_err-skim_string-in-32 : goal.returns-in_err-skim_string-in-32
returns-in_err-skim_string-in-32 c = search skim-reading depth 20

pub returns-in_ok-skim_string-in-32 : goal.returns-in_ok-skim_string-in-32
returns-in_ok-skim_string-in-32 c = search skim-reading depth 20

pub returns-in_err-skim_raw-in-64 : goal.returns-in_err-skim_raw-in-64
returns-in_err-skim_raw-in-64 c = search skim-reading depth 20

pub returns-in_ok-skim_raw-in-64 : goal.returns-in_ok-skim_raw-in-64
returns-in_ok-skim_raw-in-64 c = search skim-reading depth 20

pub returns-in_default : goal.returns-in_default
returns-in_default c = let r = c.in_default.in_default-own.rest in word_none _ _ _ _ r.0.0.0.0.1 r.0.0.0.1 r.0.0.1 r.0.1 r.1
