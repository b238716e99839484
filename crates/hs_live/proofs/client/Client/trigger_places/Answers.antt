use Rattle.std.proofs.Common.{ℕ, ◌≤◌, subst}
use Rattle.hs_live.proofs.Prelude.{PlainClient}
use Rattle.hs_link.specs.Contents.{HasPlaces}
use Rattle.hs_live.proofs.client.Client.trigger_places.Goals as goal

pub returns-clause-most : goal.returns-clause-most
returns-clause-most c = subst (λ (client : PlainClient). (more : ℕ) → HasPlaces more client.triggers → more ≤ c.places.result) c.self.view_is c.places.ensures.most
