use Rattle.std.proofs.Common.{length}
use Rattle.hs_check_follow.proofs.Prelude.{Where, AtChunk, WereChunks, HasChunks, chunks_at}
use Rattle.hs_check_follow.proofs.Queues.{Midway}
use Rattle.hs_check_follow.proofs.gathering.take_chunks.Given as goal

abbrev pub invariant-loop-held : goal.invariant-loop-held
invariant-loop-held l =
    (w : Where) → WereChunks w l.number l.initial.player l.initial.keeping l.initial.numbers.items
    → Midway (AtChunk w l.number) (λ items. HasChunks w.settings.size items l.keeping l.numbers.items) (chunks_at w) l.number l.player

abbrev pub decreases-loop-held : goal.decreases-loop-held
decreases-loop-held l = length l.player.works.chunks
