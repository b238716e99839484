use Rattle.hs_run_actors.proofs.Sending.{so_far}
use Rattle.hs_run_actors.proofs.laws.callers_have_sent.Goals as goal

pub returns : goal.returns
returns c = λ settings client ops caller at.
    so_far
    (record {
      books = c.any_steps_make_the_book.ensures;
      sent_is = c.what_was_done_was_sent.ensures;
      handed = c.cores_hand_out_so_far.ensures;
      crumbs = c.the_first_crumbs_are_sent.ensures;
      triggers = c.the_first_triggers_are_sent.ensures;
    })
    settings client ops caller at
