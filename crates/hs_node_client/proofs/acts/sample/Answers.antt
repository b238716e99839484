use Rattle.hs_node_client.proofs.Living.{lives_more}
use Rattle.hs_records.specs.Plain.{Sample}
use Rattle.hs_node_client.proofs.acts.sample.Goals as goal

pub returns-clause-does : goal.returns-clause-does
returns-clause-does c = lives_more (Sample c.args.moment c.args.auto c.args.value) c.args.client.now c.has_trigger_place.new.client c.sample.new.self c.has_trigger_place.ensures.does c.in-Done.ensures.does
