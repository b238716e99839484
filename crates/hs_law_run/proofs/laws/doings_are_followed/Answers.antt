use Rattle.hs_law_run.proofs.Following.{doings_are_followed}
use Rattle.hs_law_run.proofs.laws.doings_are_followed.Goals as goal

pub returns : goal.returns
returns c = doings_are_followed c.events_add_this.ensures c.events_go_on.ensures c.steps_say_what_they_tell.ensures c.done_is_at_rest.ensures c.orders_agree.ensures
