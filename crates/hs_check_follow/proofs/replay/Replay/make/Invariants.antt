use Rattle.std.proofs.Common.{◌≡◌, replicate}
use Rattle.hs_check_follow.proofs.Prelude.{range_with_len}
use Rattle.hs_check_follow.proofs.replay.Replay.make.Given as goal

abbrev pub invariant-loop-buffer : goal.invariant-loop-buffer
invariant-loop-buffer l = record {
  waiting : l.waiting.items ≡ range_with_len 0 l.buffer;
  out : l.out.items ≡ replicate l.buffer 0;
}
