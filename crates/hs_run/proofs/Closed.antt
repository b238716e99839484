-- A pass of all behind the rounds leads on.
use Rattle.std.proofs.Common.{◌≡◌, ℕ, suc, ◌<◌, ◌≤◌, List, [], ◌++◌, length, Option, Some, refl, sym, ap, subst, ◌∙◌, arith, filter, slice_get, append-nil}
use Rattle.hs_run.proofs.Prelude.{AllByRecursion, option_map_or, length-append, slice_get_within, get_there, Messages, Asks, AgentEvent, PlainWorkload, few_nodes, asks_in, crumbs_in, triggers_in, steps_of, log_stamps, Leased, Buffer, PlainClientActor, PlainCoordinatorActor, Hears, heard_of, asks_for, PlainClosedAgent, NodeWork, is_of, PlainNodeActors, RunState, moved_by, asked_by, NodeBetweenPasses, AllSents, PassedAlone, ClosingStands, Passing, Asked, ClosingAt}
use Rattle.hs_run_actors.specs.ClosedAgents.{closed_intakes, closed_working_agent}
use Rattle.hs_run.specs.Spans.{IsNodeBetweenPasses, IsStep}
use Rattle.hs_run.specs.Closing.{TakesAllOfClient, IsPassAlone}
use Rattle.hs_run.specs.Laws.{ClosingGoesOn, AgentsAreBetweenPasses}
use Rattle.hs_run.specs.Closings.{LedOn, PassesPay}

-- what was heard, and nothing was asked yet
pub asked_begins : (W : PlainWorkload) (sents : AllSents) (heard : Messages) (begun : ℕ → NodeWork) (old nodes : List PlainClosedAgent) (c c' : PlainCoordinatorActor) → ClosingStands W sents heard begun old c → (p : Passing W sents heard begun (length old) old nodes c')
    → (more : Messages) (c2 : PlainCoordinatorActor) → Hears W heard more (moved_by p.works) (asked_by p.works) c2 → Asked W sents (heard ++ more) p.works nodes nodes c2
asked_begins W sents heard begun old nodes c c' stand p more c2 hears =
    record {
      works = p.works;
      few = let few = few_nodes W stand.valid in let many = p.many in let count = stand.count in omega (arith, few, many, count);
      same = λ n. (record { node = refl; pool = refl; events = refl; came = refl }, refl);
      stands = p.stands;
      only =
          record {
            many = refl;
            each = λ k x y a b.
                let same : Some x ≡ Some y = sym a ∙ b in
                let is : x ≡ y = cc in
                record { giver = ap (λ (s : PlainClosedAgent). s.giver) (sym is); said = ap (λ (s : PlainClosedAgent). s.said) (sym is) };
          };
      coordinates = hears.stands;
    }

module _ (goes_on : ClosingGoesOn) (are_posts : AgentsAreBetweenPasses) (W : PlainWorkload) (rounds : ℕ) (m : RunState) (sents : AllSents) (old nodes last : List PlainClosedAgent) (c c1 c2 c3 : PlainCoordinatorActor) (at : ClosingAt W rounds m sents old c)
    (p : Passing W sents at.heard (λ node. (at.posts node).work) (length old) old nodes c1) (more : Messages) (hears : Hears W at.heard more (moved_by p.works) (asked_by p.works) c2)
    (a : Asked W sents (at.heard ++ more) p.works nodes last c3) (none : c3.asks ≡ [])
  where
    abbrev posts : ℕ → NodeBetweenPasses
    posts node = record { work = a.works node; giver = option_map_or (λ (s : PlainClosedAgent). s.giver) (slice_get last node) (at.posts node).giver }

    post_is : (node : ℕ) (z : PlainClosedAgent) → slice_get last node ≡ Some z → posts node ≡ record { work = a.works node; giver = z.giver }
    post_is node z there = ap (λ (o : Option PlainClosedAgent). record { work = a.works node; giver = option_map_or (λ (s : PlainClosedAgent). s.giver) o (at.posts node).giver }) there

    lengths : length last ≡ W.settings.nodes
    lengths = a.only.many ∙ p.many ∙ at.stand.count

    -- one node
    module _ (node : ℕ) (low : node < W.settings.nodes) (x y z : PlainClosedAgent) (first : slice_get old node ≡ Some x) (mid : slice_get nodes node ≡ Some y) (end : slice_get last node ≡ Some z) where
      alone : PassedAlone W node sents (at.posts node).work (p.works node) x.giver y.giver
      alone = (p.passed node x y (let inside = slice_get_within old node x first in inside) first mid).0

      said : z.said ≡ []
      said = (a.only.each node y z mid end).said ∙ (p.passed node x y (let inside = slice_get_within old node x first in inside) first mid).1

      step : IsStep W node at.heard (at.heard ++ more) (at.posts node) (record { work = a.works node; giver = z.giver })
      step =
          let s = (p.passed node x y (let inside = slice_get_within old node x first in inside) first mid).0 in
          let same = (a.same node).0 in
          let giver = at.givers node x first in
          let last_giver = (a.only.each node y z mid end).giver in
          let taken = ap (λ (l : List AgentEvent). length (asks_in l)) same.events in
          let asks = s.asks in
          let few = s.few in
          let heard = hears.all node low in
          let grows = s.grows in
          let floor = s.gives.floor in
          let floors = ap (λ g. g.floor) giver in
          let ends = ap (λ g. g.floor) last_giver in
          record {
            pass = s.pass;
            events = same.events ∙ s.events;
            came = s.came;
            came_is = same.came ∙ s.came_is;
            ends = s.ends;
            more = s.gives.added;
            turns = ap (λ g. g.turns) last_giver ∙ s.gives.turns ∙ ap (λ g. s.gives.added ++ g.turns) (sym giver);
            high = subst (λ g. AllByRecursion (λ stamp. g.floor ≤ stamp) (log_stamps (steps_of s.pass))) (sym giver) s.gives.above;
            floor = omega (arith, floor, floors, ends);
            asks = omega (arith, asks, taken);
            few = omega (arith, few, taken);
            hears = omega (arith, heard, grows);
          }

      stands : IsNodeBetweenPasses W node (at.heard ++ more) (record { work = a.works node; giver = z.giver })
      stands =
          let shut = a.stands.each node z end in
          let told = get_there c3.told node (let count = a.coordinates.count in omega (arith, count, low)) in
          let waits = ap length (a.coordinates.waits node told.0 told.1) in
          let both = length-append (heard_of node (at.heard ++ more)) told.0 in
          are_posts W node (at.heard ++ more) (a.works node) (closed_working_agent z) (closed_intakes z) shut.node_is shut.is.stands
          ((a.only.each node y z mid end).said ∙ (p.passed node x y (let inside = slice_get_within old node x first in inside) first mid).1)
          (a.coordinates.asks_are node low ∙ ap (λ (l : List Asks). (a.works node).asked ++ asks_for node l) none ∙ append-nil (a.works node).asked) (omega (arith, waits, both))

      takes : (site : PlainNodeActors) → slice_get m.standing.nodes node ≡ Some site → (client : ℕ) (caller : PlainClientActor) → slice_get site.callers client ≡ Some caller → TakesAllOfClient client caller (at.posts node).work (a.works node)
      takes site there client caller mine =
          let s = (p.passed node x y (let inside = slice_get_within old node x first in inside) first mid).0 in
          let same = (a.same node).0 in
          let inside = slice_get_within site.callers client caller mine in
          let count = (at.clients node site there).1 in
          let t = s.takes client (omega (arith, inside, count)) in
          let chunks = ap length (at.sents_are.chunks node client site caller there mine) in
          let crumbs = ap length (at.sents_are.crumbs node client site caller there mine) in
          let triggers = ap length (at.sents_are.triggers node client site caller there mine) in
          let came = ap (λ (l : List (Buffer Leased)). length (filter (is_of client) l)) same.came in
          let left = ap (λ (l : List AgentEvent). length (crumbs_in client l)) same.events in
          let fired = ap (λ (l : List AgentEvent). length (triggers_in client l)) same.events in
          let t1 = t.chunks in
          let t2 = t.crumbs in
          let t3 = t.triggers in
          record { chunks = omega (arith, t1, chunks, came); crumbs = omega (arith, t2, crumbs, left); triggers = omega (arith, t3, triggers, fired) }

      pass_alone : (site : PlainNodeActors) → slice_get m.standing.nodes node ≡ Some site → IsPassAlone W node site at.heard (at.heard ++ more) (at.posts node) (posts node)
      pass_alone site there =
          subst (IsPassAlone W node site at.heard (at.heard ++ more) (at.posts node)) (sym (post_is node z end)) (record { step = step; stands = stands; takes = takes site there })

    alone_at : (node : ℕ) (site : PlainNodeActors) → slice_get m.standing.nodes node ≡ Some site → IsPassAlone W node site at.heard (at.heard ++ more) (at.posts node) (posts node)
    alone_at node site there =
        let low = (at.clients node site there).0 in
        let count = at.stand.count in
        let many = p.many in
        let all = lengths in
        let x = get_there old node (omega (arith, low, count)) in
        let y = get_there nodes node (omega (arith, low, count, many)) in
        let z = get_there last node (omega (arith, low, all)) in
        pass_alone node low x.0 y.0 z.0 x.1 y.1 z.1 site there

    pub closing_more : ClosingAt W rounds m sents last c3
    closing_more =
        record {
          clients = at.clients;
          sents_are = at.sents_are;
          passes = suc at.passes;
          posts = posts;
          heard = at.heard ++ more;
          closing = goes_on W rounds m at.passes at.posts posts at.heard more at.closing alone_at;
          stand = record { valid = at.stand.valid; few = at.stand.few; count = lengths; stands = a.stands; coordinates = a.coordinates };
          givers = λ node shut there. ap (λ (q : NodeBetweenPasses). q.giver) (post_is node shut there);
          said = λ node shut there.
              let inside = slice_get_within last node shut there in
              let all = lengths in
              let count = at.stand.count in
              let many = p.many in
              let x = get_there old node (omega (arith, inside, all, count)) in
              let y = get_there nodes node (omega (arith, inside, all, count, many)) in
              (a.only.each node y.0 shut y.1 there).said ∙ (p.passed node x.0 y.0 (slice_get_within old node x.0 x.1) x.1 y.1).1;
          kept = λ node site shut stood there.
              let inside = slice_get_within last node shut there in
              let all = lengths in
              let count = at.stand.count in
              let many = p.many in
              let x = get_there old node (omega (arith, inside, all, count)) in
              let y = get_there nodes node (omega (arith, inside, all, count, many)) in
              let before = at.kept node site x.0 stood x.1 in
              let gives = (p.passed node x.0 y.0 (slice_get_within old node x.0 x.1) x.1 y.1).0.gives in
              let same = (a.only.each node y.0 shut y.1 there).giver in
              record {
                pool = ap (λ g. g.pool) same ∙ gives.pool ∙ before.pool;
                buffers = ap (λ g. g.buffers) same ∙ gives.buffers ∙ before.buffers;
                drawers = ap (λ g. g.drawers) same ∙ gives.drawers ∙ before.drawers;
              };
        }

    pub led_on : PassesPay → LedOn W rounds m sents old c at last c3
    unfolding closing_more
    led_on pay = record { next = closing_more; pays = λ fit left passes pays. pay W rounds m sents old nodes last c c1 c2 c3 at p more hears a fit left passes pays }
