use Rattle.hs_run_actors.proofs.Sending.{in_all}
use Rattle.hs_run_actors.proofs.laws.callers_sent_all.Goals as goal

pub returns : goal.returns
returns c = λ settings client ops caller at done.
    in_all
    (record {
      started = c.the_first_operations_send.ensures;
      chunks = c.all_is_sent_in_the_end.ensures.chunks;
      crumbs = c.all_is_sent_in_the_end.ensures.crumbs;
      triggers = c.all_is_sent_in_the_end.ensures.triggers;
    })
    settings client ops caller at (c.callers_have_sent.ensures settings client ops caller at) done
