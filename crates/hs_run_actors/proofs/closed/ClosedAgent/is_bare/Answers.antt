use Rattle.std.proofs.Common.{◌≡◌, ◌&&◌, ◌∙◌, sym, ap, subst, Bool}
use Rattle.hs_run_actors.proofs.Prelude.{are_given, PlainClosedAgent, IsClosedAgent, IsClosedAgentBare, closed_agent_in}
use Rattle.hs_run_actors.proofs.Resting.{given_buffered}
use Rattle.hs_run_actors.proofs.Shutting.{last_run, nothing_waits, not_bare, bare_by_pins}
use Rattle.hs_run_actors.proofs.closed.ClosedAgent.is_bare.Goals as goal

pub returns-then-not-are_empty : goal.returns-then-not-are_empty
returns-then-not-are_empty c = λ W work all shut.
    let s = closed_agent_in c.self.inside in
    let same : c.are_empty.result ≡ (are_given s.chunks && are_given s.crumbs && are_given s.triggers) = c.are_empty.ensures ∙ ap (λ (b : Bool). b && are_given s.crumbs && are_given s.triggers) (sym (given_buffered c.self.inside.rests.chunks.items)) in
    let none : IsClosedAgentBare W work s → _ = not_bare W work s (sym same ∙ c.if-not-are_empty.true) in
    (λ e. absurd cc, λ e bare. none (subst (λ (x : PlainClosedAgent). IsClosedAgentBare W work x) (sym c.self.view_is) bare))

pub returns : goal.returns
returns c = λ W work all shut.
    let s = closed_agent_in c.self.inside in
    let here : IsClosedAgent W work all s = subst (λ (x : PlainClosedAgent). IsClosedAgent W work all x) (sym c.self.view_is) shut in
    let same : c.are_empty.result ≡ (are_given s.chunks && are_given s.crumbs && are_given s.triggers) = c.are_empty.ensures ∙ ap (λ (b : Bool). b && are_given s.crumbs && are_given s.triggers) (sym (given_buffered c.self.inside.rests.chunks.items)) in
    let asks = nothing_waits c.self.inside.desk.asks.items _ c.is_empty.result c.self.inside.desk.asks.ok.0 c.is_empty.ensures c.if-not-is_empty.false in
    let said = nothing_waits c.self.inside.desk.said.items _ c.is_empty-2.result c.self.inside.desk.said.ok.0 c.is_empty-2.ensures c.if-not-is_empty-2.false in
    let pins = c.pinned.ensures (last_run W work all s here) here.stands.works.is.follows in
    let both = bare_by_pins W work s (sym same ∙ c.if-not-are_empty.false) asks said c.pinned.result pins in
    (λ on. subst (λ (x : PlainClosedAgent). IsClosedAgentBare W work x) c.self.view_is (both.0 on), λ off bare. both.1 off (subst (λ (x : PlainClosedAgent). IsClosedAgentBare W work x) (sym c.self.view_is) bare))
