use Rattle.std.proofs.Common.{ap, ◌∙◌, map}
use Rattle.hs_law_run.proofs.Prelude.{Run, Message, agent_of, doings_of}
use Rattle.hs_law_run.proofs.Doing.{draws_are, all_heard_are}
use Rattle.hs_law_run.proofs.Lawful.{Known, fit, are_playable, are_lawful, are_pooled_unread, agents_are}
use Rattle.hs_law_run.proofs.laws.stories_are_lawful.Goals as goal

pub returns : goal.returns
returns c W s valid story =
    let known : Known =
    record {
      timely = c.timed_pages_are_timely.ensures;
      paged = c.timed_pages_are_the_pages.ensures;
      chunks = c.all_is_sent_in_the_end.ensures.chunks;
      crumbs = c.all_is_sent_in_the_end.ensures.crumbs;
      triggers = c.all_is_sent_in_the_end.ensures.triggers;
      adds = c.events_add_this.ensures;
      keep = c.closed_pools_keep.ensures;
    }
    in
    record {
      lawful = c.doings_are_lawful.ensures W (doings_of W s) (are_lawful known W valid s story) (c.unread_could_be.ensures W (doings_of W s) (fit known W valid s story).buffers (are_playable known W valid s story) (are_pooled_unread known W valid s story));
      draws = draws_are W s story;
      told = ap (map (λ (m : Message). m.node)) (all_heard_are W s story);
      agents = ap (λ (run : Run). map agent_of run.nodes) (c.doings_are_followed.ensures W (doings_of W s) (are_playable known W valid s story)) ∙ agents_are known W valid s story;
    }
