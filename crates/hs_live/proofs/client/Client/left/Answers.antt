use Rattle.std.proofs.Common.{subst}
use Rattle.hs_live.proofs.Prelude.{PlainClient}
use Rattle.hs_link.specs.Contents.{HasPlaces}
use Rattle.hs_live.proofs.Senders.{places_seen}
use Rattle.hs_live.proofs.client.Client.left.Goals as goal

pub returns-clause-chunks : goal.returns-clause-chunks
returns-clause-chunks c = subst (λ (client : PlainClient). HasPlaces c.places-chunks.result client.chunks) c.self.view_is (places_seen c.places-chunks.result c.self.inside.writer.chunks c.places-chunks.ensures.enough)
