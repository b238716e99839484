use Rattle.std.proofs.Common.{◌≡◌, length}
use Rattle.hs_link.specs.Contents.{sent}
use Rattle.tests_threads.proofs.links.send_numbers.Given as goal

abbrev pub invariant-loop-number : goal.invariant-loop-number
invariant-loop-number g l = (length (sent l.sender) ≡ l.number) × (l.sender.room ≡ l.initial.sender.room) × (l.sender.link ≡ l.initial.sender.link)
