use Rattle.std.proofs.Common.{ℕ, ◌≤◌, subst}
use Rattle.hs_node_client.proofs.Prelude.{HasPlaces, PlainClient}
use Rattle.hs_node_client.proofs.paged.Paged.trigger_places.Goals as goal

pub returns-clause-most : goal.returns-clause-most
returns-clause-most c = subst (λ (client : PlainClient). (more : ℕ) → HasPlaces more client.triggers → more ≤ c.trigger_places.result) c.self.view_is c.trigger_places.ensures.most
