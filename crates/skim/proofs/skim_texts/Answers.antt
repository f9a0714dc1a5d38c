-- `skim::skim_texts` meets its contract: `search` goes through the rule as the code does.
use Rattle.skim.proofs.Reading.{skim-reading}
use Rattle.skim.specs.Skim.{skim_texts_of}
use Rattle.skim.proofs.skim_texts.Goals as goal

pub returns-in_err-next : goal.returns-in_err-next
unfolding skim_texts_of
returns-in_err-next c = search skim-reading depth 20

pub returns : goal.returns
unfolding skim_texts_of
returns c = search skim-reading depth 20
