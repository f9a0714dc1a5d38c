-- `skim::text_need` meets its contract: a text that lacks bytes has a need, and with nothing kept it has the same.
use Rattle.skim.proofs.Reading.{text_lacks, text_waits}
use Rattle.skim.proofs.text_need.Goals as goal

pub returns : goal.returns
returns c = text_lacks _ _ _ _ c.dlt_zero_terminated_string_intern.ensures _ c.in-Err.is

pub unreachable-requires : goal.unreachable-requires
unreachable-requires c = text_waits _ _ _ _ c.dlt_zero_terminated_string_intern.ensures _ c.requires c.in-Ok.is
