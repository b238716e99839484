use Rattle.hs_compare.proofs.AllNamed.{claimed_traces_are_named}
use Rattle.hs_compare.proofs.laws.claimed_traces_are_named.Goals as goal

pub returns : goal.returns
returns c = claimed_traces_are_named c.following_plays_out.ensures c.all_is_sent_in_the_end.ensures.triggers c.claims_are_of_what_is_brought.ensures
