-- `strings::content` meets its contract: `search` goes through the rule as the code does.
use Rattle.strings.proofs.Strings.{letters_all, letters_end, content_is}
use Rattle.strings.proofs.content.Goals as goal

pub returns-then-plain-n : goal.returns-then-plain-n
returns-then-plain-n c = search letters_all depth 20

pub returns-then-s-at-eq0 : goal.returns-then-s-at-eq0
returns-then-s-at-eq0 c = search letters_end depth 20

pub returns : goal.returns
returns c = search content_is depth 20
