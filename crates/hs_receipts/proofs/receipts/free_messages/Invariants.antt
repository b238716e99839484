use Rattle.std.proofs.Common.{◌≡◌, ◌+◌, ◌≤◌, ◌++◌, not, take, filter}
use Rattle.std.specs.VecDeque.{deque_len, deque_capacity}
use Rattle.hs_receipts.specs.Receipts.{waits_elsewhere}
use Rattle.hs_receipts.proofs.receipts.free_messages.Given as goal

-- what was looked at so far is added
abbrev pub invariant-loop-message : goal.invariant-loop-message
invariant-loop-message l =
    (l.done.items ≡ l.fn.done.items ++ filter (λ message. not (waits_elsewhere l.waiting message)) (take l.message-index l.served))
    × (deque_len l.done ≤ deque_len l.fn.done + l.message-index)
    × (deque_capacity l.done ≡ deque_capacity l.fn.done)
