use Rattle.hs_run.proofs.Paying.{pays_on}
use Rattle.hs_run.proofs.laws.passes_pay.Goals as goal

pub returns : goal.returns
returns c = λ W rounds m sents old nodes last coordinator c1 c2 c3 at p more hears a fit left passes pays.
    pays_on W
    (record {
      adds = c.events_add_this.ensures;
      few = c.events_add_few.ensures;
      says = c.steps_say_what_they_tell.ensures;
      goes_on = c.events_go_on.ensures;
      reports = c.turns_report.ensures;
      places = c.lists_have_their_chunks.ensures;
      claims = c.chunks_stand_by_their_claim.ensures;
      weights = (c.valid_workloads_run.ensures W at.stand.valid).weights;
    })
    rounds m sents old nodes last coordinator c1 c2 c3 at p more hears a fit left passes pays
