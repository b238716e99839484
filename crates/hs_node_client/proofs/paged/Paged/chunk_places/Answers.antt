use Rattle.std.proofs.Common.{ℕ, ◌≤◌, subst}
use Rattle.hs_node_client.proofs.Prelude.{HasPlaces, PlainClient}
use Rattle.hs_node_client.proofs.paged.Paged.chunk_places.Goals as goal

pub returns-clause-most : goal.returns-clause-most
returns-clause-most c = subst (λ (client : PlainClient). (more : ℕ) → HasPlaces more client.chunks → more ≤ c.chunk_places.result) c.self.view_is c.chunk_places.ensures.most
