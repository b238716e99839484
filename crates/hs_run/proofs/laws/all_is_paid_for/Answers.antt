use Rattle.hs_run.proofs.FewPasses.{pays_begins}
use Rattle.hs_run.proofs.laws.all_is_paid_for.Goals as goal

pub returns : goal.returns
returns c = pays_begins c.events_add_few.ensures c.steps_say_what_they_tell.ensures
