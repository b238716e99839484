use Rattle.hs_law_life.proofs.Followed.{followed_by}
use Rattle.hs_law_life.proofs.nodes.chunks_are_followed.Goals as goal

pub returns : goal.returns
returns c = λ life client number port settings node acts d has order contains end lived.
    followed_by life client number port settings node acts d (c.points_stand_on_pages.ensures.way life client port has order contains) end lived
    (c.acts_are_a_life_of_the_model.ensures settings node acts lived.settled)
