-- How a replayed pool stands behind its events, of which the last stands first: what waits is its queue, and of each buffer and of
-- the draws that found nothing it knows what a later event asks about.
use Rattle.std.specs.Prelude.{◌≡◌, ℕ, ◌+◌, ◌<◌, ◌≤◌, ◌^◌, List, length, drop, slice_index, count_by}
use Rattle.std.specs.List.{AllByRecursion}
use Rattle.hs_words.specs.PoolHistory.{PoolEvent, is_got, is_given, is_empty, is_missed, queue_after}
use Rattle.hs_check_follow.specs.declared.replay.Replay.{Replay}

-- these buffers waited at some time, of which so many are gone; so often more each buffer was got than given, and so many more draws
-- found nothing than gives missed
pub record ReplayStands (n : ℕ) (earlier : List PoolEvent) (waiting : List ℕ) (gone : ℕ) (out : List ℕ) (owed : ℕ) : Type 0 where
  pub queue : drop gone waiting ≡ queue_after n earlier
  pub behind : gone ≤ length waiting
  -- only buffers of the pool ever wait
  pub low : AllByRecursion (λ buffer. buffer < n) waiting
  pub many : length out ≡ n
  pub counts : (buffer : ℕ) → buffer < n → slice_index out buffer + count_by (is_given buffer) earlier ≡ count_by (is_got buffer) earlier
  pub never : (buffer : ℕ) → n ≤ buffer → count_by (is_got buffer) earlier ≡ 0
  pub missing : owed + count_by is_missed earlier ≡ count_by is_empty earlier

abbrev pub IsReplayed : ℕ → List PoolEvent → Replay → Type 0
IsReplayed n earlier replay = ReplayStands n earlier replay.waiting.items replay.gone replay.out.items replay.owed

-- it stands behind some events, to which one can be added
abbrev pub IsReplaying : Replay → Type 0
IsReplaying replay = (n : ℕ) × (earlier : List PoolEvent) × IsReplayed n earlier replay × (length earlier + 1 < 2 ^ 64)
