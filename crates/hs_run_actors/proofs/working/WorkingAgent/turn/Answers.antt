use Rattle.std.proofs.Common.{[], refl}
use Rattle.hs_run_actors.proofs.Prelude.{Turn, plain_working_agent}
use Rattle.hs_run_actors.proofs.Stages.{stands_more}
use Rattle.hs_run_actors.proofs.working.WorkingAgent.turn.Goals as goal

pub take-requires : goal.take-requires
take-requires g c =
    let (W, work, lines, stands) = c.requires in
    (W, work, stands.works, tt)

pub returns : goal.returns
returns g c = λ W work lines stands.
    stands_more W work Turn [] (plain_working_agent c.args.self.now) (plain_working_agent c.take.new.self) lines lines stands (c.in_ok-take.ensures.works W work stands.works tt) c.take.ensures.asks refl stands.lines_are
