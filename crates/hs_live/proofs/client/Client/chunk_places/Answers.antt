use Rattle.std.proofs.Common.{ℕ, ◌≤◌, subst}
use Rattle.hs_live.proofs.Prelude.{PlainClient}
use Rattle.hs_link.specs.Contents.{HasPlaces}
use Rattle.hs_live.proofs.Senders.{places_held}
use Rattle.hs_live.proofs.client.Client.chunk_places.Goals as goal

pub returns-clause-most : goal.returns-clause-most
returns-clause-most c =
    subst (λ (client : PlainClient). (more : ℕ) → HasPlaces more client.chunks → more ≤ c.places.result) c.self.view_is
    (λ more places. c.places.ensures.most more (places_held more c.self.inside.writer.chunks places))
