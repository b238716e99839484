use Rattle.std.proofs.Common.{◌≡◌, List, [], drop}
use Rattle.hs_check_follow.proofs.Prelude.{StampedEvent, answers_through}
use Rattle.hs_check_follow.specs.Answering.{IsLatest}
use Rattle.hs_check_follow.proofs.answers.answer_in_order.Given as goal

abbrev pub invariant-loop-event : goal.invariant-loop-event
invariant-loop-event l = (before : List StampedEvent) × IsLatest before l.latest × (answers_through before (drop l.event-index l.events) ≡ answers_through [] l.events)
