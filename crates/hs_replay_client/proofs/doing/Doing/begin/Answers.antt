use Rattle.hs_replay_client.proofs.Prelude.{working_in}
use Rattle.hs_replay_client.proofs.Operations.{begin_done}
use Rattle.hs_replay_client.proofs.doing.Doing.begin.Goals as goal

pub returns-clause-done : goal.returns-clause-done
returns-clause-done c =
    begin_done (record { numbered = c.one_operation_more.ensures.numbered; crumbs = c.one_operation_more.ensures.crumbs; triggers = c.one_operation_more.ensures.triggers })
    c.args.trace (working_in c.args.self.now) c.begin.new.self c.requires.sound c.in-Began.ensures.may c.in-Began.ensures.after
