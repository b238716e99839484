use Rattle.hs_law_outcome.proofs.Prelude.{followed}
use Rattle.hs_law_outcome.proofs.Orderly.{answered_as_told}
use Rattle.hs_law_outcome.proofs.laws.answers_are_to_asks.Goals as goal

pub returns : goal.returns
returns c = λ W J group node.
    let leads = (c.following_plays_out.ensures W J).leads in
    let orderly = c.messages_are_orderly.ensures W J (followed W J) leads group in
    answered_as_told group node (followed W J).heard (c.answers_follow_asks.ensures group (followed W J).heard orderly node) (c.answers_come_from_asked.ensures W J group node (followed W J) leads)
