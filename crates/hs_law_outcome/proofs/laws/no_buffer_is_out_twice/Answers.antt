use Rattle.hs_law_outcome.proofs.Buffers.{no_buffer_is_out_twice}
use Rattle.hs_law_outcome.proofs.laws.no_buffer_is_out_twice.Goals as goal

pub returns : goal.returns
returns c = no_buffer_is_out_twice
