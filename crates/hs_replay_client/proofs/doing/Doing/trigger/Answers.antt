use Rattle.hs_replay_client.proofs.Prelude.{working_in}
use Rattle.hs_replay_client.proofs.Operations.{trigger_done}
use Rattle.hs_replay_client.proofs.doing.Doing.trigger.Goals as goal

pub returns-clause-done : goal.returns-clause-done
returns-clause-done c =
    trigger_done (record { numbered = c.one_operation_more.ensures.numbered; crumbs = c.one_operation_more.ensures.crumbs; triggers = c.one_operation_more.ensures.triggers })
    c.args.trigger (working_in c.args.self.now) c.push_back.new.self.items c.in_ok-push_back.ensures.items
