-- Each item that is taken leaves one less waiting.
use Rattle.std.proofs.Common.{ℕ, ◌+◌, ◌<◌, List, length, ap, ◌∙◌, arith, length-drop}
use Rattle.hs_check_follow.proofs.Prelude.{PlainReplayClient, AreInOrder, ChunksAreInOrder, Keeping, Where, AtChunk, AtCrumb, AtTrigger, WereChunks, chunks_at}
use Rattle.hs_replay_client.specs.Places.{Waits}

fewer : {A : Type 0} (sent waiting waiting' : List A) (k : ℕ) → Waits k sent waiting → Waits (k + 1) sent waiting' → length waiting' < length waiting
fewer sent waiting waiting' k was is =
    let before = ap length was.1 ∙ length-drop k sent in
    let after = ap length is.1 ∙ length-drop (k + 1) sent in
    let most = is.0 in
    omega (arith, before, after, most)

pub chunks_fewer : (w : Where) (number k : ℕ) (player next : PlainReplayClient) → AtChunk w number k player → AtChunk w number (k + 1) next → length next.works.chunks < length player.works.chunks
chunks_fewer w number k player next at after = fewer _ player.works.chunks next.works.chunks k at.chunks after.chunks

pub crumbs_fewer : (w : Where) (number k : ℕ) (player next : PlainReplayClient) → AtCrumb w number k player → AtCrumb w number (k + 1) next → length next.works.crumbs < length player.works.crumbs
crumbs_fewer w number k player next at after = fewer _ player.works.crumbs next.works.crumbs k at.crumbs after.crumbs

pub triggers_fewer : (w : Where) (number k : ℕ) (player next : PlainReplayClient) → AtTrigger w number k player → AtTrigger w number (k + 1) next → length next.works.triggers < length player.works.triggers
triggers_fewer w number k player next at after = fewer _ player.works.triggers next.works.triggers k at.triggers after.triggers

pub chunks_ordered : ChunksAreInOrder → (w : Where) (number : ℕ) (player : PlainReplayClient) {keeping : Keeping} {numbers : List ℕ} → WereChunks w number player keeping numbers → AreInOrder 0 (chunks_at w)
chunks_ordered order w number player was = order w.settings.size w.client w.ops w.drawn was.at.playable.least was.at.playable.client.bracketed
