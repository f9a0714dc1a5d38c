-- `numbers::put_standard_at` meets its contract: `search` goes through the rule as the code does.
use Rattle.numbers.proofs.Outlined.{standard_row_there, ecu_end_there}
use Rattle.numbers.proofs.put_standard_at.Goals as goal

pub returns : goal.returns
returns c = (standard_row_there _ _ _ _ _ _ _ _ _ _ _ c.requires.0 c.behind_if-session.ensures.0 c.behind_if-time.ensures.0 c.put_front_at.ensures c.put_text_if-ecu_end.ensures.0 c.put_num_if.ensures c.put_num_if-2.ensures, ecu_end_there _ _ _ _ _ c.put_text_if-ecu_end.ensures.1)
