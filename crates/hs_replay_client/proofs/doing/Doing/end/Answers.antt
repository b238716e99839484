use Rattle.hs_replay_client.proofs.Prelude.{on_ok_weaker, working_in, writing_in}
use Rattle.hs_replay_client.proofs.Operations.{end_done}
use Rattle.hs_replay_client.proofs.doing.Doing.end.Goals as goal

pub returns-clause-done : goal.returns-clause-done
returns-clause-done c =
    on_ok_weaker c.end.result
    (λ ended.
    end_done (record { numbered = c.one_operation_more.ensures.numbered; crumbs = c.one_operation_more.ensures.crumbs; triggers = c.one_operation_more.ensures.triggers })
    (working_in c.args.self.now) (writing_in c.end.new.self) c.requires.open ended)
    c.end.ensures

pub returns-clause-spends : goal.returns-clause-spends
returns-clause-spends c = on_ok_weaker c.end.result (λ ended. ended.spends) c.end.ensures
