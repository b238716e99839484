use Rattle.std.proofs.Common.{◌≡◌, ◌++◌, ◌+◌, ◌≤◌, length, take}
use Rattle.hs_collect.proofs.records.join.Given as goal

abbrev pub invariant-loop-byte : goal.invariant-loop-byte
invariant-loop-byte l = (l.payload.items ≡ l.initial.payload.items ++ take l.byte-index l.more) × (length l.initial.payload.items + length l.more ≤ l.payload.room)
