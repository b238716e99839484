use Rattle.hs_run.proofs.FewPasses.{few_passes}
use Rattle.hs_run.proofs.laws.passes_are_few.Goals as goal

pub returns : goal.returns
returns c = λ passes nodes coordinator p.
    few_passes c.events_add_few.ensures c.steps_say_what_they_tell.ensures c.events_go_on.ensures p.workload p.rounds p.moment p.came p.sents p.fit nodes coordinator p.at passes p.pays
