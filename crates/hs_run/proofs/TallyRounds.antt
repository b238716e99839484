-- How the counts go on behind a round: what was counted behind the round before is a part of what there is to count now, and no sum is large.
use Rattle.std.proofs.Common.{◌≡◌, ℕ, suc, ◌*◌, ◌/◌, ◌%◌, ◌<◌, ◌≤◌, true, List, ◌++◌, length, map, take, replicate, Some, sym, ap, ◌∙◌, arith, slice_get, count_by, length-append, div-lt_iff_lt-mul, div-add-mod'}
use Rattle.hs_run.proofs.Prelude.{mod-lt, suc-mul, mul-le-mul_right, length-map, map-append, same_Some, flat_map, all_each, get_there, steps_of, MAX_OPERATIONS, client_of, PlainClientActor, ClientCount, LogCount, AreCounts, client_count, log_count, PlainCoordinatorActor, PlainAgentActor, IsAgentActor, NodeWork, came_of, is_of, Step, EventsAddThis, ListsHaveTheirChunks, brought_by, noted_as, is_point, is_chunk, is_given, PlainWorkload, Leased, NodeActorsMeet, PlainNodeActors, RunState, NodeActorsStand, RunStands, IsBegun, operations_at, place_of, Buffer, IsValid, product_few, few_nodes, last_low, ActingNode, EachChanged, RoundsMade, sites_of, FitTotals, no_operations, no_steps, MayCountClient, MayCountNodes, CountedNodes, MayCountLog, LogCounted}
use Rattle.std.proofs.Math.Seq.{take-append_seam}
use Rattle.std.proofs.lemmas.List.{length-replicate}
use Rattle.std.proofs.lemmas.Option.{slice_get_within as within}
use Rattle.hs_law_journal.proofs.ItemsTaken.{own_log}
use Rattle.hs_base.specs.declared.limits.TheConstants.{MAX_NODES, MAX_CLIENTS}
use Rattle.hs_run_actors.specs.Agents.{IsPageThere}
use Rattle.hs_run.proofs.StoryMeetings.{caller_at, done_at, here_at}
use Rattle.hs_run.proofs.StoryMoments.{doing_same, round_steps, site_acts, site_meets, site_of, site_there, stands_at}
use Rattle.hs_records.specs.declared.setting.Setting.TheVariants as settings
use Rattle.hs_run.specs.TallyingNodes.{MayCountLogs}
use Rattle.hs_run.proofs.FewTaken.{few_clients}
use Rattle.hs_run.proofs.Moments.{node_count, node_low, node_stands, node_there, site_there as there_among}
use Rattle.hs_run.proofs.Pages.{of_client}
use Rattle.hs_run.proofs.Rounded.{few_operations}
use Rattle.hs_run.proofs.TallyAgents.{chunks_noted, few_gives}
use Rattle.hs_run.proofs.TallyClients.{SendSo, few_chunks, few_nulls, few_points, nothing_counted}
use Rattle.hs_run.proofs.TallyLists.{few_filtered, replicated, sum_below}

-- ---- a node

-- the agent's log has the steps of its work
log_is : EventsAddThis → (W : PlainWorkload) (work : NodeWork) (manned : PlainAgentActor) → IsAgentActor W work manned → manned.agent.log ≡ steps_of work.events
log_is adds W work manned is = is.stands.works.is.follows.log ∙ own_log adds W.settings work.node work.events

-- no more buffers are given than chunks are taken
gives_low : EventsAddThis → ListsHaveTheirChunks → (W : PlainWorkload) (work : NodeWork) (manned : PlainAgentActor) → IsAgentActor W work manned → count_by is_given (steps_of work.events) ≤ count_by is_chunk (steps_of work.events)
gives_low adds lists W work manned is = few_gives adds lists W.settings work.node work.events is.stands.works.is.hands

as_many : {X Y : Type 0} (f : X → Y) (xs : List X) (ys : List Y) → map f xs ≡ ys → length xs ≡ length ys
as_many f xs ys is = sym (length-map xs f) ∙ ap length is

-- the clients of a node sent what its agent took, in a meeting
module _ (so : SendSo) (W : PlainWorkload) (node : ℕ) (work : NodeWork) (old new : PlainNodeActors) (stands : NodeActorsStand W node work old) (meets : NodeActorsMeet W node work old new) where
  came_few : (number : ℕ) → number < W.settings.clients → length (came_of number work) ≤ MAX_OPERATIONS
  came_few number low =
      let old_count = stands.count in
      let new_count = meets.stands.count in
      let (caller, at) = get_there old.callers number (omega (arith, low, old_count)) in
      let (caller', at') = get_there new.callers number (omega (arith, low, new_count)) in
      let met = meets.callers number caller caller' at at' in
      let (r, end, ends) = (stands.mates number caller at).chunks in
      let (r', end', ends') = (meets.stands.mates number caller' at').chunks in
      let link = met.chunks r r' end end' in
      let (ring, all, put) = link.contents in
      let parts = ap length all in
      let long = length-append r.received (ring ++ caller.client.chunks.outbox) in
      let is = ap length (stands.agent.received.chunks number r end) in
      let few = few_chunks so W.settings (client_of node number) (operations_at W (place_of W.settings.clients node number)) caller (stands.callers number caller at) in
      omega (arith, parts, long, is, few)

  owned : (buffer : Buffer Leased) → IsPageThere W work.node work.pool buffer → (k : ℕ) × (k < W.settings.clients) × (is_of k buffer ≡ true)
  owned buffer there = (there.client, there.is.low, of_client W work.node work.pool buffer there)

  chunks_low : count_by is_chunk (steps_of work.events) ≤ W.settings.clients * MAX_OPERATIONS
  chunks_low =
      let is = stands.agent.stands.works.is in
      let came =
      few_filtered is_of W.settings.clients MAX_OPERATIONS work.came
      (all_each (IsPageThere W work.node work.pool) (λ buffer. (k : ℕ) × (k < W.settings.clients) × (is_of k buffer ≡ true)) work.came owned is.pages) came_few in
      let sheets = as_many _ work.came (flat_map brought_by work.events) is.sheets in
      let noted = chunks_noted work.events in
      omega (arith, came, sheets, noted)

-- ---- behind a round

module _ (W : PlainWorkload) (rounds : ℕ) (nodes : List ActingNode) (c : PlainCoordinatorActor) (made : RoundsMade W (suc rounds) nodes c) where
  is_valid : IsValid W
  is_valid = made.here.stands.valid

  work_now : (node : ℕ) → (made.came.at (suc rounds)).works node ≡ made.moment.works node
  work_now node = ap (λ (m : RunState). m.works node) made.came.last

  site_at : (node : ℕ) (at : ActingNode) → slice_get nodes node ≡ Some at → slice_get made.moment.standing.nodes node ≡ Some at.site
  site_at node at there = ap (λ (l : List PlainNodeActors). slice_get l node) made.here.nodes_are ∙ there_among nodes node at there

  -- what an agent took in all is little
  taken_low : SendSo → (node : ℕ) → node < W.settings.nodes → count_by is_chunk (steps_of (made.moment.works node).events) ≤ W.settings.clients * MAX_OPERATIONS
  taken_low so node low =
      let valid = is_valid in
      let m = made.moment in
      let came = made.came in
      let last : rounds < suc rounds = omega arith in
      let acts = site_acts W valid (suc rounds) m came rounds node last low in
      let meets = site_meets W valid (suc rounds) m came rounds node last low in
      let same = doing_same W valid (suc rounds) m came rounds node last in
      let few = chunks_low so W node ((came.acted rounds).works node) (site_of W valid (suc rounds) m came (came.acted rounds) node) (site_of W valid (suc rounds) m came (came.met rounds) node) acts.stands meets in
      let events = ap (λ (w : NodeWork). count_by is_chunk (steps_of w.events)) (work_now node) in
      let acted = ap (λ l. count_by is_chunk (steps_of l)) same.events in
      omega (arith, few, events, acted)

  -- each sum of two kinds of steps is a number of 32 bits, and no more is given than taken
  record LogSmall (log : List Step) : Type 0 where
    taken : count_by is_chunk log ≤ MAX_CLIENTS * MAX_OPERATIONS
    given : count_by is_given log ≤ MAX_CLIENTS * MAX_OPERATIONS

  log_small : SendSo → EventsAddThis → ListsHaveTheirChunks → (node : ℕ) (at : ActingNode) → slice_get nodes node ≡ Some at → LogSmall at.site.agent.agent.log
  log_small so adds lists node at there =
      let manned = (node_stands W made.moment nodes c made.here node at there).agent in
      let work = made.moment.works node in
      let is = log_is adds W work at.site.agent manned in
      let low = node_low W made.moment nodes c made.here node at there in
      let taken = taken_low so node low in
      let most = mul-le-mul_right MAX_OPERATIONS (few_clients W is_valid) in
      let gives = gives_low adds lists W work at.site.agent manned in
      let taken_is = ap (λ (l : List Step). count_by is_chunk l) is in
      let given_is = ap (λ (l : List Step). count_by is_given l) is in
      record { taken = omega (arith, taken, most, taken_is); given = omega (arith, taken, most, gives, given_is) }

  module _ (clients : List ClientCount) (logs : List LogCount) (counted : AreCounts W (made.came.at rounds) (record { clients = clients; logs = logs })) where
    -- ---- what may be counted on

    may_client : (node number : ℕ) (at : ActingNode) (caller : PlainClientActor) (count : ClientCount) → slice_get nodes node ≡ Some at → slice_get at.site.callers number ≡ Some caller
        → slice_get clients (place_of W.settings.clients node number) ≡ Some count → MayCountClient (operations_at W (place_of W.settings.clients node number)) caller count
    may_client node number at caller count there found stood =
        let valid = is_valid in
        let m = made.moment in
        let came = made.came in
        let ops = operations_at W (place_of W.settings.clients node number) in
        let low = node_low W m nodes c made.here node at there in
        let stands = node_stands W m nodes c made.here node at there in
        let is = stands.callers number caller found in
        let below = within at.site.callers number caller found in
        let many = stands.count in
        let own : number < W.settings.clients = omega (arith, below, many) in
        let before : rounds ≤ suc rounds = omega arith in
        let old = caller_at W valid (suc rounds) m came node rounds number in
        let was = done_at W valid (suc rounds) m came node low rounds number before own in
        let now = made.done node number at.site caller (site_at node at there) found in
        let counted_there =
        counted.clients node number (site_of W valid (suc rounds) m came (came.at rounds) node) old (site_there W valid (suc rounds) m came (came.at rounds) (stands_at W valid (suc rounds) m came rounds before) node low)
        (here_at W valid (suc rounds) m came node low rounds number before own) in
        let same : count ≡ client_count ops old = same_Some count (client_count ops old) (sym stood ∙ counted_there) in
        let done = ap (λ (x : ClientCount). x.done) same in
        let next = suc-mul rounds W.settings.stride in
        record {
          few = few_operations W valid (place_of W.settings.clients node number);
          grown = omega (arith, done, was, now, next);
          within = is.within;
          points = ap (λ (x : ClientCount). x.points) same ∙ ap (λ (n : ℕ). count_by is_point (take n ops)) (sym done);
        }

    pub may_clients : MayCountNodes W nodes clients
    may_clients =
        record {
          each = λ node at there.
              record {
                valid = is_valid;
                low = node_low W made.moment nodes c made.here node at there;
                many = (node_stands W made.moment nodes c made.here node at there).count;
                counts_are = counted.clients_are;
                each = λ number caller count found stood. may_client node number at caller count there found stood;
              };
        }

    may_log : SendSo → EventsAddThis → ListsHaveTheirChunks → (node : ℕ) (at : ActingNode) (count : LogCount) → slice_get nodes node ≡ Some at → slice_get logs node ≡ Some count → MayCountLog at.site.agent.agent.log count
    may_log so adds lists node at count there stood =
        let valid = is_valid in
        let m = made.moment in
        let came = made.came in
        let low = node_low W m nodes c made.here node at there in
        let last : rounds < suc rounds = omega arith in
        let step = round_steps W valid (suc rounds) m came rounds node last low in
        let log = at.site.agent.agent.log in
        let old = steps_of ((came.at rounds).works node).events in
        let same : count ≡ log_count old = same_Some count (log_count old) (sym stood ∙ counted.logs node low) in
        let steps = ap (λ (x : LogCount). x.steps) same in
        let whole : log ≡ old ++ steps_of step.pass =
        log_is adds W (m.works node) at.site.agent (node_stands W m nodes c made.here node at there).agent
        ∙ ap (λ (w : NodeWork). steps_of w.events) (sym (work_now node))
        ∙ ap steps_of step.events
        ∙ map-append noted_as ((came.at rounds).works node).events step.pass in
        let first : take count.steps log ≡ old = ap (λ (n : ℕ). take n log) steps ∙ ap (take (length old)) whole ∙ take-append_seam old (steps_of step.pass) in
        let long = ap length whole in
        let both = length-append old (steps_of step.pass) in
        let small = log_small so adds lists node at there in
        let taken = small.taken in
        let given = small.given in
        record {
          within = omega (arith, steps, long, both);
          counted = same ∙ ap (λ (l : List Step). log_count l) (sym first);
          few = (omega (arith, taken), omega (arith, given));
        }

    pub may_logs : SendSo → EventsAddThis → ListsHaveTheirChunks → MayCountLogs nodes logs
    may_logs so adds lists =
        record {
          many = counted.logs_are ∙ sym (node_count W made.moment nodes c made.here);
          each = λ node at count there stood. may_log so adds lists node at count there stood;
        }

    -- ---- what is counted

    module _ (clients' : List ClientCount) (logs' : List LogCount) (gone_on : CountedNodes W (length nodes) nodes clients clients') (noted : EachChanged (LogCounted nodes) logs logs') where
      pub are_counts : EventsAddThis → (m : RunState) → RunStands W m → m.standing.nodes ≡ sites_of nodes → AreCounts W m (record { clients = clients'; logs = logs' })
      are_counts adds m stands same =
          record {
            clients_are = gone_on.many ∙ counted.clients_are;
            logs_are = noted.many ∙ counted.logs_are;
            clients = λ node number site caller at found.
                let (x, there, is) = node_there nodes node site (sym (ap (λ (l : List PlainNodeActors). slice_get l node) same) ∙ at) in
                gone_on.first node number x caller (within nodes node x there) there (ap (λ (s : PlainNodeActors). slice_get s.callers number) is ∙ found);
            logs = λ node low.
                let count = node_count W made.moment nodes c made.here in
                let (x, there) = get_there nodes node (omega (arith, low, count)) in
                let were = counted.logs_are in
                let many = noted.many in
                let (old, stood) = get_there logs node (omega (arith, low, were)) in
                let (new, stands') = get_there logs' node (omega (arith, low, were, many)) in
                let log = log_is adds W (m.works node) x.site.agent (stands.each node x.site (ap (λ (l : List PlainNodeActors). slice_get l node) same ∙ there_among nodes node x there)).agent in
                stands' ∙ ap (λ (count : LogCount). Some count) (noted.each node old new stood stands' x there) ∙ ap (λ (l : List Step). Some (log_count l)) log;
          }

      -- the count of a client is small
      record ClientSmall (count : ClientCount) : Type 0 where
        done : count.done ≤ MAX_OPERATIONS
        points : count.points ≤ MAX_OPERATIONS
        nulls : count.nulls ≤ MAX_OPERATIONS

      client_small : (place : ℕ) (count : ClientCount) → slice_get clients' place ≡ Some count → ClientSmall count
      client_small place count at =
          let valid = is_valid in
          let each = W.settings.clients in
          let node = place / each in
          let number = place % each in
          let some = (valid.head settings.Clients).0 in
          let below = within clients' place count at in
          let many = gone_on.many in
          let were = counted.clients_are in
          let all = valid.count in
          let low : node < W.settings.nodes = (div-lt_iff_lt-mul {k = each} {x = place} {y = W.settings.nodes} (omega (arith, some))).1 (omega (arith, below, many, were, all)) in
          let own : number < each = mod-lt place (omega (arith, some)) in
          let is : place_of each node number ≡ place = div-add-mod' place each in
          let nodes_are = node_count W made.moment nodes c made.here in
          let (x, there) = get_there nodes node (omega (arith, low, nodes_are)) in
          let stands = node_stands W made.moment nodes c made.here node x there in
          let callers = stands.count in
          let (caller, found) = get_there x.site.callers number (omega (arith, own, callers)) in
          let ops = operations_at W (place_of each node number) in
          let counted_there = gone_on.first node number x caller (omega (arith, low, nodes_are)) there found in
          let same : count ≡ client_count ops caller = same_Some count (client_count ops caller) (sym at ∙ ap (slice_get clients') (sym is) ∙ counted_there) in
          let a = stands.callers number caller found in
          let client = client_of node number in
          let done_is = ap (λ (x : ClientCount). x.done) same in
          let points_are = ap (λ (x : ClientCount). x.points) same in
          let nulls_are = ap (λ (x : ClientCount). x.nulls) same in
          let few = few_operations W valid (place_of each node number) in
          let within = a.within in
          let points_few = few_points W.settings client ops caller a in
          let nulls_few = few_nulls W.settings client ops caller a in
          record { done = omega (arith, done_is, within, few); points = omega (arith, points_are, points_few, few); nulls = omega (arith, nulls_are, nulls_few) }

      -- the count of a log is small
      record CountSmall (count : LogCount) : Type 0 where
        taken : count.taken ≤ MAX_CLIENTS * MAX_OPERATIONS
        given : count.given ≤ MAX_CLIENTS * MAX_OPERATIONS

      count_small : SendSo → EventsAddThis → ListsHaveTheirChunks → (node : ℕ) (count : LogCount) → slice_get logs' node ≡ Some count → CountSmall count
      count_small so adds lists node count at =
          let below = within logs' node count at in
          let many = noted.many in
          let were = counted.logs_are in
          let nodes_are = node_count W made.moment nodes c made.here in
          let (x, there) = get_there nodes node (omega (arith, below, many, were, nodes_are)) in
          let (old, stood) = get_there logs node (omega (arith, below, many)) in
          let same = noted.each node old count stood at x there in
          let small = log_small so adds lists node x there in
          let taken_is = ap (λ (x : LogCount). x.taken) same in
          let given_is = ap (λ (x : LogCount). x.given) same in
          let taken = small.taken in
          let given = small.given in
          record { taken = omega (arith, taken_is, taken); given = omega (arith, given_is, given) }

      few_counts : length clients' ≤ MAX_NODES * MAX_CLIENTS
      few_counts =
          let many = gone_on.many in
          let were = counted.clients_are in
          let all = is_valid.count in
          let few = product_few W.settings.nodes W.settings.clients (few_nodes W is_valid) (few_clients W is_valid) in
          omega (arith, many, were, all, few)

      few_logs : length logs' ≤ MAX_NODES
      few_logs =
          let many = noted.many in
          let were = counted.logs_are in
          let few = few_nodes W is_valid in
          omega (arith, many, were, few)

      pub fit : SendSo → EventsAddThis → ListsHaveTheirChunks → FitTotals (record { clients = clients'; logs = logs' })
      fit so adds lists =
          let operations = sum_below (λ (x : ClientCount). x.done) (MAX_NODES * MAX_CLIENTS) MAX_OPERATIONS clients' few_counts (λ place x at. (client_small place x at).done) in
          let records = sum_below (λ (x : ClientCount). x.points) (MAX_NODES * MAX_CLIENTS) MAX_OPERATIONS clients' few_counts (λ place x at. (client_small place x at).points) in
          let nulls = sum_below (λ (x : ClientCount). x.nulls) (MAX_NODES * MAX_CLIENTS) MAX_OPERATIONS clients' few_counts (λ place x at. (client_small place x at).nulls) in
          let taken = sum_below (λ (x : LogCount). x.taken) MAX_NODES (MAX_CLIENTS * MAX_OPERATIONS) logs' few_logs (λ node x at. (count_small so adds lists node x at).taken) in
          let given = sum_below (λ (x : LogCount). x.given) MAX_NODES (MAX_CLIENTS * MAX_OPERATIONS) logs' few_logs (λ node x at. (count_small so adds lists node x at).given) in
          record { operations = omega (arith, operations); records = omega (arith, records); nulls = omega (arith, nulls); taken = omega (arith, taken); given = omega (arith, given) }

-- ---- before the first round

pub none_counted : (W : PlainWorkload) (clients : List ClientCount) (logs : List LogCount) → IsValid W → clients ≡ replicate (length W.clients) no_operations → logs ≡ replicate W.settings.nodes no_steps
    → (m : RunState) → IsBegun W m → AreCounts W m (record { clients = clients; logs = logs })
none_counted W clients logs valid clients_none logs_none m begun =
    record {
      clients_are = ap length clients_none ∙ length-replicate (length W.clients) no_operations;
      logs_are = ap length logs_none ∙ length-replicate W.settings.nodes no_steps;
      clients = λ node number site caller at found.
          let low = within m.standing.nodes node site at in
          let count = begun.stands.count in
          let stands = begun.stands.each node site at in
          let below = within site.callers number caller found in
          let many = stands.count in
          let last = last_low W valid node (omega (arith, low, count)) in
          let ops = operations_at W (place_of W.settings.clients node number) in
          ap (λ (l : List ClientCount). slice_get l (place_of W.settings.clients node number)) clients_none
          ∙ replicated no_operations (length W.clients) (place_of W.settings.clients node number) (omega (arith, last, below, many))
          ∙ ap (λ (x : ClientCount). Some x) (sym (nothing_counted W.settings (client_of node number) ops caller (stands.callers number caller found) (begun.done node number site caller at found)));
      logs = λ node low.
          ap (λ (l : List LogCount). slice_get l node) logs_none
          ∙ replicated no_steps W.settings.nodes node low
          ∙ ap (λ (w : NodeWork). Some (log_count (steps_of w.events))) (sym (begun.works node));
    }
