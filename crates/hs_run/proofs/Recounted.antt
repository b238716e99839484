-- What the story of a run that is over comes to.
use Rattle.std.proofs.Common.{◌≡◌, ℕ, suc, ◌+◌, ◌*◌, ◌<◌, ◌≤◌, length, refl, sym, ap, subst, ◌∙◌, Option, Some, None, unwrap_or, option_map, arith, map, filter, slice_get, List, []}
use Rattle.hs_run.proofs.Prelude.{added, range_with_len, option_map_or, map-map, Message, Messages, PlainJournal, Incoming, Key, book_of, EventsAddThis, after, PlainWorkload, draws_at, place_of, IsValid, crumbs_in, triggers_in, steps_of, PlainClientActor, NodeWork, is_of, PlainNodeActors, RunState, Came, Story, grown_all, Step, slice_get_within, NodeBetweenPasses, Closing, IsOver}
use Rattle.std.proofs.Math.Nat.{mul-le-mul_right}
use Rattle.hs_law_journal.specs.Following.{NodeRun, followed, log_at}
use Rattle.hs_law_journal.specs.Doings.{NodeDoings, all_events, journal_of}
use Rattle.hs_law_run.specs.Laws.{AgentAt, agent_of, agent_behind, IsTold, StoriesAreLawful}
use Rattle.hs_law_run.specs.Stories.{doings_of, node_doings}
use Rattle.std.proofs.lemmas.Option.{slice_get-map}
use Rattle.hs_base.proofs.Ranges.{map_range_at}
use Rattle.hs_run.specs.Laws.{LinkIsNew, AllLinksBegin, IsRecounted}
use Rattle.hs_run.proofs.Joined.{heard_last, post_last}
use Rattle.hs_run.proofs.LinkKinds.{chunk_links, crumb_links, trigger_links}
use Rattle.hs_run.proofs.Links.{Kind, LinkBegan}
use Rattle.hs_run.proofs.StoryMoments.{site_of, site_there, stands_at}
use Rattle.hs_run.proofs.StoryMeetings.{HaveSent, caller_at, here_at}
use Rattle.hs_run.proofs.Whole.{HaveSentAll, LinksBegan, story, is_story, callers_drew, callers_few, agents_last}

module _ (W : PlainWorkload) (valid : IsValid W) (rounds : ℕ) (m : RunState) (came : Came W rounds m) (begins : AllLinksBegin (came.at 0)) (node : ℕ) (few : node < W.settings.nodes) (client : ℕ) (own : client < W.settings.clients) where
  link_began : {T : Type 0} (kind : Kind T W node client) → length (kind.got ((came.at 0).works node)) ≡ 0
      → LinkIsNew client (kind.ends (site_of W valid rounds m came (came.at 0) node).agent.port) (kind.sender (caller_at W valid rounds m came node 0 client).client) → LinkBegan W valid rounds m came node few client own kind
  link_began {T} kind none b =
      record {
        taken = b.taken ∙ sym none;
        capacity = b.capacity;
        told = either (slice_get (kind.ends (site_of W valid rounds m came (came.at 0) node).agent.port) client) refl;
      }
    where
      either : (o : Option (Incoming T Key)) → slice_get (kind.ends (site_of W valid rounds m came (came.at 0) node).agent.port) client ≡ o
          → option_map_or (λ (r : Incoming T Key). length r.told) (slice_get (kind.ends (site_of W valid rounds m came (came.at 0) node).agent.port) client) 0 ≡ 0
      either None is = ap (λ o. option_map_or (λ (r : Incoming T Key). length r.told) o 0) is
      either (Some r) is = ap (λ o. option_map_or (λ (r : Incoming T Key). length r.told) o 0) is ∙ ap length (b.told r is)

  links_began : LinksBegan W valid rounds m came node few client own
  links_began =
      let stands = came.begun.stands in
      let b = begins node client (site_of W valid rounds m came (came.at 0) node) (caller_at W valid rounds m came node 0 client) (site_there W valid rounds m came (came.at 0) stands node few)
      (here_at W valid rounds m came node few 0 client (omega arith) own) in
      let none = came.begun.works node in
      record {
        chunks = link_began (chunk_links W node client) (ap (λ (w : NodeWork). length (filter (is_of client) w.came)) none) b.chunks;
        crumbs = link_began (crumb_links W node client) (ap (λ (w : NodeWork). length (crumbs_in client w.events)) none) b.crumbs;
        triggers = link_began (trigger_links W node client) (ap (λ (w : NodeWork). length (triggers_in client w.events)) none) b.triggers;
      }

module _ (adds : EventsAddThis) (sends : HaveSent) (sends_all : HaveSentAll) (lawful : StoriesAreLawful) (W : PlainWorkload) (rounds : ℕ) (m : RunState) (passes : ℕ) (nodes : ℕ → NodeBetweenPasses) (heard : Messages) (valid : IsValid W) (came : Came W rounds m)
    (begins : AllLinksBegin (came.at 0)) (closing : Closing W rounds m passes nodes heard) (over : IsOver W m nodes heard)
  where
    abbrev told_by : Story
    told_by = story adds sends sends_all W valid rounds m came passes nodes heard closing over (links_began W valid rounds m came begins)

    is_told : IsTold W told_by
    is_told = lawful W told_by valid (is_story adds sends sends_all W valid rounds m came passes nodes heard closing over (links_began W valid rounds m came begins))

    count : length m.standing.nodes ≡ W.settings.nodes
    count = subst (λ (moment : RunState). length moment.standing.nodes ≡ W.settings.nodes) came.last (stands_at W valid rounds m came rounds (omega arith)).count

    drew : (node client : ℕ) (site : PlainNodeActors) (caller : PlainClientActor) → slice_get m.standing.nodes node ≡ Some site → slice_get site.callers client ≡ Some caller
        → draws_at (journal_of W (doings_of W told_by)) (place_of W.settings.clients node client) ≡ caller.client.core.draws
    drew node client site caller there mine =
        let within = slice_get_within m.standing.nodes node site there in
        let all = count in
        let few : node < W.settings.nodes = omega (arith, within, all) in
        let own = callers_few adds sends sends_all W valid rounds m came passes nodes heard closing over (links_began W valid rounds m came begins) node client site caller few there mine in
        let more : suc node * W.settings.clients ≤ W.settings.nodes * W.settings.clients = mul-le-mul_right W.settings.clients (omega (arith, few)) in
        let next : suc node * W.settings.clients ≡ node * W.settings.clients + W.settings.clients = omega arith in
        let places = valid.count in
        is_told.draws (place_of W.settings.clients node client) (omega (arith, more, next, own, places))
        ∙ callers_drew adds sends sends_all W valid rounds m came passes nodes heard closing over (links_began W valid rounds m came begins) node client site caller few own there mine

    books_are : map (λ (run : NodeRun). book_of run.node run.state) (followed W (journal_of W (doings_of W told_by))).nodes ≡ map (λ node. book_of node (after W.settings node (nodes node).work.events)) (range_with_len 0 W.settings.nodes)
    books_are =
        sym (map-map (λ (a : AgentAt). book_of a.node a.state) agent_of (followed W (journal_of W (doings_of W told_by))).nodes) ∙ ap (map (λ (a : AgentAt). book_of a.node a.state)) is_told.agents
        ∙ map-map (λ (a : AgentAt). book_of a.node a.state) (agent_behind W told_by) (range_with_len 0 W.settings.nodes)
        ∙ agents_last adds sends sends_all W valid rounds m came passes nodes heard closing over (links_began W valid rounds m came begins) 0 W.settings.nodes (omega arith)

    logs_are : (node : ℕ) → node < W.settings.nodes → log_at (journal_of W (doings_of W told_by)) node ≡ steps_of (nodes node).work.events
    logs_are node few =
        let story_at = (is_story adds sends sends_all W valid rounds m came passes nodes heard closing over (links_began W valid rounds m came begins)).each node few in
        let last = ap (λ (p : NodeBetweenPasses). p.work.events) (post_last W valid rounds m came passes nodes heard closing node few) in
        let log : NodeDoings → List Step = λ n. steps_of (all_events n) in
        ap (λ (o : Option (List Step)). unwrap_or o [])
        (slice_get-map log (map (node_doings told_by) (range_with_len 0 W.settings.nodes)) node ∙ ap (option_map log) (map_range_at (node_doings told_by) W.settings.nodes node few))
        ∙ ap steps_of (grown_all (told_by.nodes node).events (added (told_by.nodes node).events) passes story_at.begins story_at.grows ∙ last)

    pub recounted : (J : PlainJournal) × IsRecounted W m nodes heard J
    recounted = (
      journal_of W (doings_of W told_by),
      record { lawful = is_told.lawful; draws = drew; logs = logs_are; agents = books_are; told = is_told.told ∙ ap (map (λ (m : Message). m.node)) (heard_last W valid rounds m came passes nodes heard closing) },
    )
