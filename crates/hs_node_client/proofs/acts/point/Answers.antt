use Rattle.hs_node_client.proofs.Ends.{keeps_trans, written_keeps}
use Rattle.hs_node_client.proofs.Living.{lives_more}
use Rattle.hs_records.specs.Plain.{Point}
use Rattle.hs_node_client.proofs.acts.point.Goals as goal

pub returns-clause-does : goal.returns-clause-does
returns-clause-does c = lives_more (Point c.args.moment c.args.payload.now) c.args.client.now c.prepare.new.client c.point.new.self c.prepare.ensures.does c.in-Done-point.ensures.does

pub returns-clause-keeps : goal.returns-clause-keeps
returns-clause-keeps c = keeps_trans c.args.client.now c.prepare.new.client c.point.new.self c.prepare.ensures.keeps (written_keeps _ c.prepare.new.client c.point.new.self c.point.ensures.spends c.point.ensures.only)
