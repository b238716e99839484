use Rattle.hs_law_life.proofs.Acts.{is_well}
use Rattle.hs_law_life.proofs.nodes.acts_are_a_life_of_the_model.Goals as goal

pub returns : goal.returns
returns c = is_well c.lives_go_on_well.ensures c.events_lead_on.ensures c.events_add_this.ensures
