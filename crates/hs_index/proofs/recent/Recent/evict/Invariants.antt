use Rattle.std.proofs.Common.{◌≡◌, ◌+◌, ◌≤◌, length}
use Rattle.hs_index.specs.Index.{count_chunks, kept, evicted}
use Rattle.hs_index.proofs.recent.Recent.evict.Given as goal

-- what goes and what stays is the same as at first
abbrev pub invariant-loop-self : goal.invariant-loop-self
invariant-loop-self g l =
    (evicted l.threshold l.most l.self.traces ≡ evicted l.threshold l.most l.initial.self.traces) ×
    (kept l.threshold l.most l.self.traces ≡ kept l.threshold l.most l.initial.self.traces) ×
    (count_chunks l.self.traces ≤ l.threshold + 1) ×
    (length l.self.traces ≤ l.most + 1) ×
    (l.self.room ≡ l.initial.self.room)

abbrev pub decreases-loop-self : goal.decreases-loop-self
decreases-loop-self g l = length l.self.traces
