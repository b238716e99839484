use Rattle.std.proofs.Common.{◌≡◌, take}
use Rattle.std.specs.Prelude.{fold}
use Rattle.hs_hub.specs.Hub.{noted}
use Rattle.hs_hub.proofs.hub.note_each.Given as goal

-- the message waits for those that were looked at
abbrev pub invariant-loop-place : goal.invariant-loop-place
invariant-loop-place l = l.receipts ≡ fold (noted l.now l.message) l.fn.receipts (take l.place l.traces)
