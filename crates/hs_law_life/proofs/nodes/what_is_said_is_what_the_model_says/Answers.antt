use Rattle.hs_law_life.proofs.Spoken.{said_by_model}
use Rattle.hs_law_life.proofs.nodes.what_is_said_is_what_the_model_says.Goals as goal

pub returns : goal.returns
returns c = said_by_model c.steps_say_what_they_tell.ensures c.events_lead_on.ensures c.events_add_this.ensures c.messages_go_out_in_order.ensures.in_order
