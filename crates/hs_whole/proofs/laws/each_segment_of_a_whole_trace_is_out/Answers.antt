use Rattle.hs_whole.proofs.Stretches.{each_is_out}
use Rattle.hs_whole.proofs.laws.each_segment_of_a_whole_trace_is_out.Goals as goal

pub returns : goal.returns
returns c = record { each = each_is_out }
