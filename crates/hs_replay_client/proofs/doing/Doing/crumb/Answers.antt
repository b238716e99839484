use Rattle.std.proofs.Common.{sym, ◌∙◌}
use Rattle.hs_replay_client.proofs.Prelude.{working_in}
use Rattle.hs_replay_client.proofs.Operations.{crumb_done}
use Rattle.hs_replay_client.proofs.doing.Doing.crumb.Goals as goal

pub returns-clause-done : goal.returns-clause-done
returns-clause-done c =
    crumb_done (record { numbered = c.one_operation_more.ensures.numbered; crumbs = c.one_operation_more.ensures.crumbs; triggers = c.one_operation_more.ensures.triggers })
    c.args.node c.in-Some.trace (working_in c.args.self.now) c.push_back.new.self.items (sym c.trace.ensures ∙ c.in-Some.is) c.in_ok-push_back.ensures.items
