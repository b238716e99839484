use Rattle.hs_law_outcome.proofs.Prelude.{followed}
use Rattle.hs_law_outcome.proofs.laws.asked_sets_are_least.Goals as goal

pub returns : goal.returns
returns c = λ W J group some.
    let orderly = c.messages_are_orderly.ensures W J (followed W J) (c.following_plays_out.ensures W J).leads group in
    record {
      closed = c.asked_set_is_least.ensures.closed group (followed W J).heard orderly some;
      least = λ other closes. c.asked_set_is_least.ensures.least group (followed W J).heard other orderly closes;
    }
