use Rattle.std.proofs.Common.{◌≡◌, ◌+◌, ◌≤◌, ◌++◌, take}
use Rattle.std.specs.Prelude.{vec_len, vec_capacity}
use Rattle.hs_receipts.specs.Receipts.{messages_for}
use Rattle.hs_receipts.proofs.receipts.move_messages.Given as goal

-- what was looked at so far is moved
abbrev pub invariant-loop-waits : goal.invariant-loop-waits
invariant-loop-waits l =
    (l.served.items ≡ l.fn.served.items ++ messages_for l.trace (take l.waits-index l.waiting))
    × (vec_len l.served ≤ vec_len l.fn.served + l.waits-index)
    × (vec_capacity l.served ≡ vec_capacity l.fn.served)
