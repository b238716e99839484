use Rattle.hs_replay_client.proofs.Prelude.{on_ok_weaker, working_in, writing_in}
use Rattle.hs_replay_client.proofs.Operations.{point_done}
use Rattle.hs_replay_client.proofs.doing.Doing.point.Goals as goal

pub returns-clause-done : goal.returns-clause-done
returns-clause-done g c =
    on_ok_weaker c.point.result
    (λ recorded.
    point_done (record { numbered = c.one_operation_more.ensures.numbered; crumbs = c.one_operation_more.ensures.crumbs; triggers = c.one_operation_more.ensures.triggers })
    c.args.moment c.args.payload.now (working_in c.args.self.now) (writing_in c.point.new.self) g.W.Well.way c.args.well.now c.point.new.well c.requires.open recorded)
    c.point.ensures

pub returns-clause-spends : goal.returns-clause-spends
returns-clause-spends g c = on_ok_weaker c.point.result (λ recorded. recorded.spends) c.point.ensures
