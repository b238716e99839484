use Rattle.hs_agent.proofs.Meeting.{meets-model}
use Rattle.hs_agent.proofs.laws.any_calls_meet_the_model.Goals as goal

pub returns : goal.returns
returns g c = λ settings node calls. meets-model {L = g.row.L.Denot} c.events_lead_on.ensures c.steps_say_what_they_tell.ensures settings node calls
