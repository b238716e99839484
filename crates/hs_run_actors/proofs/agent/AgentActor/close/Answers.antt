use Rattle.std.proofs.Common.{◌≡◌, List, map, sym, ap, subst, ◌∙◌}
use Rattle.hs_run_actors.proofs.Prelude.{Incoming, Crumb, Trigger, Key, incoming, outgoing, Leased, Buffer, working_agent_of, AreRests, PlainClosedAgent, AreMatesOf}
use Rattle.std.proofs.lemmas.Result.{IfOk-at_ok, IfOk-weaker}
use Rattle.hs_run_actors.specs.ClosedAgentLayout.{IsJoined, closed_agent_in}
use Rattle.hs_run_actors.specs.ClosedAgents.{IsClosedAgent, all_sent}
use Rattle.hs_run_actors.specs.declared.rests.Rests.{Rests}
use Rattle.hs_run_actors.proofs.Resting.{buffered, held_ends, rests_buffered}
use Rattle.hs_run_actors.proofs.Shutting.{ends_of, shut_so}
use Rattle.hs_run_actors.proofs.agent.AgentActor.close.Goals as goal

pub of-rests-requires-clause-chunks : goal.of-rests-requires-clause-chunks
of-rests-requires-clause-chunks c =
    let same : map incoming c.parts.result.chunks.items ≡ c.args.self.port.chunks = ap (λ p. p.chunks) c.parts.ensures ∙ ap (λ m. m.port.chunks) c.self.view_is in
    held_ends c.args.chunks.items c.parts.result.chunks.items
    (ends_of (map outgoing c.args.chunks.items) (map incoming c.parts.result.chunks.items) (subst (λ (l : List (Incoming (Buffer Leased) Key)). AreMatesOf (map outgoing c.args.chunks.items) l) (sym same) c.requires.chunks))

pub of-rests-requires-clause-crumbs : goal.of-rests-requires-clause-crumbs
of-rests-requires-clause-crumbs c =
    let same : c.parts.result.crumbs.items ≡ c.args.self.port.crumbs = ap (λ p. p.crumbs) c.parts.ensures ∙ ap (λ m. m.port.crumbs) c.self.view_is in
    ends_of c.args.crumbs.items c.parts.result.crumbs.items (subst (λ (l : List (Incoming Crumb Key)). AreMatesOf c.args.crumbs.items l) (sym same) c.requires.crumbs)

pub of-rests-requires-clause-triggers : goal.of-rests-requires-clause-triggers
of-rests-requires-clause-triggers c =
    let same : c.parts.result.triggers.items ≡ c.args.self.port.triggers = ap (λ p. p.triggers) c.parts.ensures ∙ ap (λ m. m.port.triggers) c.self.view_is in
    ends_of c.args.triggers.items c.parts.result.triggers.items (subst (λ (l : List (Incoming Trigger Key)). AreMatesOf c.args.triggers.items l) (sym same) c.requires.triggers)

pub returns-clause-shut : goal.returns-clause-shut
returns-clause-shut c = λ W work manned.
    let parts = c.parts.result in
    let left = c.of-rests.ensures in
    let chunks : map incoming parts.chunks.items ≡ c.args.self.port.chunks = ap (λ p. p.chunks) c.parts.ensures ∙ ap (λ m. m.port.chunks) c.self.view_is in
    let crumbs : parts.crumbs.items ≡ c.args.self.port.crumbs = ap (λ p. p.crumbs) c.parts.ensures ∙ ap (λ m. m.port.crumbs) c.self.view_is in
    let triggers : parts.triggers.items ≡ c.args.self.port.triggers = ap (λ p. p.triggers) c.parts.ensures ∙ ap (λ m. m.port.triggers) c.self.view_is in
    IfOk-weaker c.joined.result (IsJoined c.self.inside.desk c.of-rests.result c.self.inside.clients) _
    (λ (shut : PlainClosedAgent) (is : IsJoined c.self.inside.desk c.of-rests.result c.self.inside.clients shut).
    let rests = is.rests in
    let a = rests_buffered c.args.chunks.items parts.chunks.items rests.chunks.items (IfOk-at_ok (λ (r : Rests). AreRests c.args.chunks.items parts.chunks.items r.chunks.items) is.left_is left.chunks) in
    let b = IfOk-at_ok (λ (r : Rests). AreRests c.args.crumbs.items parts.crumbs.items r.crumbs.items) is.left_is left.crumbs in
    let d = IfOk-at_ok (λ (r : Rests). AreRests c.args.triggers.items parts.triggers.items r.triggers.items) is.left_is left.triggers in
    let giver = IfOk-at_ok (λ (r : Rests). r.giver ≡ parts.giver) is.left_is left.giver in
    subst (IsClosedAgent W work (all_sent (map outgoing c.args.chunks.items) c.args.crumbs.items c.args.triggers.items)) (sym is.is)
    (shut_so W work c.args.self (closed_agent_in (record { desk = c.self.inside.desk; rests = rests; clients = c.self.inside.clients })) (map outgoing c.args.chunks.items) c.args.crumbs.items c.args.triggers.items manned
    (subst (λ (l : List (Incoming (Buffer Leased) Key)). AreRests (map outgoing c.args.chunks.items) l (buffered rests.chunks.items)) chunks a)
    (subst (λ (l : List (Incoming Crumb Key)). AreRests c.args.crumbs.items l rests.crumbs.items) crumbs b)
    (subst (λ (l : List (Incoming Trigger Key)). AreRests c.args.triggers.items l rests.triggers.items) triggers d) (ap working_agent_of c.self.view_is) (giver ∙ ap (λ p. p.giver) c.parts.ensures ∙ ap (λ m. m.port.giver) c.self.view_is)
    (ap (λ m. m.clients) c.self.view_is)))
    c.joined.ensures

pub returns-clause-only : goal.returns-clause-only
returns-clause-only c =
    let left = c.of-rests.ensures in
    IfOk-weaker c.joined.result (IsJoined c.self.inside.desk c.of-rests.result c.self.inside.clients) _
    (λ (shut : PlainClosedAgent) (is : IsJoined c.self.inside.desk c.of-rests.result c.self.inside.clients shut).
    let giver = IfOk-at_ok (λ (r : Rests). r.giver ≡ c.parts.result.giver) is.left_is left.giver in (
      ap (λ (s : PlainClosedAgent). s.agent) is.is ∙ ap (λ m. m.agent) c.self.view_is,
      ap (λ (s : PlainClosedAgent). s.giver) is.is ∙ giver ∙ ap (λ p. p.giver) c.parts.ensures ∙ ap (λ m. m.port.giver) c.self.view_is,
      ap (λ (s : PlainClosedAgent). s.asks) is.is ∙ ap (λ m. m.asks) c.self.view_is,
      ap (λ (s : PlainClosedAgent). s.said) is.is ∙ ap (λ m. m.said) c.self.view_is,
    ))
    c.joined.ensures
