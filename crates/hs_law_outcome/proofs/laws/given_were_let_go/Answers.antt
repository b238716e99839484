use Rattle.hs_law_outcome.proofs.LetGo.{given_were_let_go}
use Rattle.hs_law_outcome.proofs.laws.given_were_let_go.Goals as goal

pub returns : goal.returns
returns c = given_were_let_go c.agents_keep_their_model.ensures
