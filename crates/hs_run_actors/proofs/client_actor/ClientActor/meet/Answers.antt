use Rattle.std.proofs.Common.{sym, subst}
use Rattle.hs_run_actors.proofs.Prelude.{PlainClientActor, ClientActorIsAt}
use Rattle.hs_run_actors.proofs.Going.{at_same}
use Rattle.hs_run_actors.proofs.ClientsMeeting.{meets_so}
use Rattle.hs_run_actors.proofs.client_actor.ClientActor.meet.Goals as goal

pub returns-clause-at : goal.returns-clause-at
returns-clause-at c = λ settings client ops at.
    let s = c.self.inside in
    let here = subst (λ (caller : PlainClientActor). ClientActorIsAt settings client ops caller) (sym c.self.view_is) at in
    at_same settings client ops s.done s.client c.meet.new.client here (meets_so c.args.number c.args.port.now c.meet.new.self s.client c.meet.new.client c.meet.ensures.met c.meet.ensures.does)
