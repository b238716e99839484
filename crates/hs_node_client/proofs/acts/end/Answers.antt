use Rattle.hs_node_client.proofs.Living.{lives_more}
use Rattle.hs_records.specs.Plain.{End}
use Rattle.hs_node_client.proofs.acts.end.Goals as goal

pub returns-clause-does : goal.returns-clause-does
returns-clause-does c = lives_more End c.args.client.now c.has_chunk_places.new.client c.end.new.self c.has_chunk_places.ensures.does c.in-Done.ensures.does
