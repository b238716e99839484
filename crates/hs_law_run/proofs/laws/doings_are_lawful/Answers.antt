use Rattle.hs_law_run.proofs.laws.doings_are_lawful.Goals as goal

pub returns : goal.returns
returns c W d all unreads =
    record {
      L1 = c.doings_have_shape.ensures W d all.playable all.drawn;
      L2 = c.doings_are_stamped.ensures W d all.playable all.pools;
      L3 = c.doings_are_histories.ensures W d all.playable all.pools;
      L4 = c.doings_answer_draws.ensures W d all.playable all.pools;
      L5 = c.doings_are_whole_passes.ensures W d all.playable all.passes;
      L6 = c.doings_make_their_offers.ensures W d all.playable all.offers;
      L7 = unreads;
      L8 = c.doings_can_be_followed.ensures W d all.playable;
      L9 = c.doings_are_enough.ensures W d all.playable all.passes all.rounds;
      L10 = c.doings_are_bare.ensures W d all.playable all.left;
      L11 = c.doings_are_in_pace.ensures W d all.playable all.passes all.pace;
    }
