use Rattle.hs_node_client.proofs.Living.{lives_more}
use Rattle.hs_records.specs.Plain.{Crumb}
use Rattle.hs_node_client.proofs.acts.crumb.Goals as goal

pub returns-clause-does : goal.returns-clause-does
returns-clause-does c = lives_more (Crumb c.args.node) c.args.client.now c.has_crumb_place.new.client c.crumb.new.self c.has_crumb_place.ensures.does c.in-Done.ensures.does
