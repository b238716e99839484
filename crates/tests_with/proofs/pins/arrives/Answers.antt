use Rattle.tests_with.proofs.ClaimLemmas.{arrival_ready}
use Rattle.tests_with.proofs.pins.arrives.Goals as goal

pub returns-in-Ok : goal.returns-in-Ok
returns-in-Ok c = let before = c.requires in arrival_ready c.arrive.new.self before.0 _ before.2 (c.in-Ok.ensures.after before.0 before.1)
