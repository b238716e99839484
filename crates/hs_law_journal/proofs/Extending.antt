-- Step by step: what is ready in the shorter journal's run is ready in the longer one's, since items stand at the same places.
use Rattle.std.proofs.Common.{◌≡◌, inl, inr, ℕ, zero, suc, ◌+◌, List, [], ◌∷◌, ◌++◌, length, set, drop, refl, sym, ap, subst, ◌∙◌, Option, Some, None, append_assoc, append-nil, map, filter, option_map, slice_get, count_by}
use Rattle.hs_law_journal.proofs.Prelude.{AllByRecursion, range_with_len, option_and_then, map-append, filter-append, slice_get-map, same_Some, get_front, all_set, all_at, mapped_from, ClientId, NodeId, Message, Messages, message, Draw, Step, PlainJournal, EventsAddThis, noted_as, AgentEvent, Took, Gave, Chunk, Crumbed, Triggered, Asked, Turn, Answered, Given, Missed, Unread, step_of_answer, PlainWorkload, DrawnPage, has_buffer, drawn_from, Sent, ClientSends, operations_at, place_of, sheet_of, sent_chunks, client_sends, node_sends, draws_at, TimedPage, timed_pages, Queue, Chunks, Crumbs, Triggers, Asks, taken, asks_to, NodeRun, Run, is_from, next_of, event_of, step_node, message_of, node_start, run_start, followed, IsOfJournal, Performs, Leads, Stays, Goes, FollowingPlaysOut}
use Rattle.hs_base.proofs.Places.{map_set}
use Rattle.hs_records.specs.declared.journal.Step.TheVariants as steps
use Rattle.hs_law_journal.specs.Following.{log_at}
use Rattle.hs_law_journal.specs.Extending.{HasMore, GoesOn, node_behind, run_behind, JournalsGoOn, NodesAreOfJournal, RunsAreOfTheJournal, IsNoted, StepsAreNoted}
use Rattle.hs_law_journal.proofs.Steps.{step_from, step_to, heard_from, heard_to}

-- ---- lists

more_dropped : {A : Type 0} (list longer : List A) → HasMore list longer → list ++ drop (length list) longer ≡ longer
more_dropped {A = A} list longer h = ap (λ (l : List A). list ++ drop (length list) l) h.is ∙ ap (λ (l : List A). list ++ l) (dropped list h.more) ∙ sym h.is
  where
    dropped : (xs ys : List A) → drop (length xs) (xs ++ ys) ≡ ys
    dropped [] ys = refl
    dropped (x ∷ xs) ys = dropped xs ys

-- ---- what clients send, with more draws

drawn_more : (client : ClientId) (k : ℕ) (pages : List TimedPage) (draws more : List Draw) → HasMore (drawn_from client k pages draws) (drawn_from client k pages (draws ++ more))
drawn_more client k [] draws more = record { more = []; is = refl }
drawn_more client k (page ∷ pages) [] more = record { more = drawn_from client k (page ∷ pages) more; is = refl }
drawn_more client k (page ∷ pages) (draw ∷ draws) more =
    let rest = drawn_more client (k + 1) pages draws more in
    record {
      more = rest.more;
      is = ap (λ (later : List DrawnPage). record { client = client; number = k; page = page.page; started = page.started; sent = page.sent; draw = draw } ∷ later) rest.is;
    }

chunks_more : (drawn longer : List DrawnPage) → HasMore drawn longer → HasMore (sent_chunks drawn) (sent_chunks longer)
chunks_more drawn longer h =
    record {
      more = sent_chunks h.more;
      is =
          ap sent_chunks h.is
          ∙ ap (map (λ (d : DrawnPage). record { number = d.sent; item = sheet_of d })) (filter-append (λ (d : DrawnPage). has_buffer d.draw) drawn h.more)
          ∙ map-append (λ (d : DrawnPage). record { number = d.sent; item = sheet_of d }) (filter (λ (d : DrawnPage). has_buffer d.draw) drawn)
          (filter (λ (d : DrawnPage). has_buffer d.draw) h.more);
    }

module _ (W : PlainWorkload) (J K : PlainJournal) (goes : GoesOn J K) where
  -- of a client the same crumbs and triggers, and the chunks with more behind them
  record SendsMore (a b : ClientSends) : Type 0 where
    chunks : HasMore a.chunks b.chunks
    crumbs : b.crumbs ≡ a.crumbs
    triggers : b.triggers ≡ a.triggers

  client_more : (node number : ℕ) → SendsMore (client_sends W J node number) (client_sends W K node number)
  client_more node number =
      let place = place_of W.settings.clients node number in
      let d = goes.draws place in
      let pages = timed_pages W.settings.size (operations_at W place) in
      let client : ClientId = record { node = node; number = number } in
      let m = drawn_more client 0 pages (draws_at J place) d.more in
      let whole : HasMore (drawn_from client 0 pages (draws_at J place)) (drawn_from client 0 pages (draws_at K place)) =
      record { more = m.more; is = ap (drawn_from client 0 pages) d.is ∙ m.is }
      in
      record {
        chunks = chunks_more (drawn_from client 0 pages (draws_at J place)) (drawn_from client 0 pages (draws_at K place)) whole;
        crumbs = refl;
        triggers = refl;
      }

  -- the same client stands at the same place
  record FoundMore (node place : ℕ) (sends : ClientSends) : Type 0 where
    found : ClientSends
    there : slice_get (node_sends W K node) place ≡ Some found
    more : SendsMore sends found

  found_more : (node place : ℕ) (sends : ClientSends) → slice_get (node_sends W J node) place ≡ Some sends → FoundMore node place sends
  found_more node place sends h =
      let m = mapped_from (client_sends W J node) (slice_get (range_with_len 0 W.settings.clients) place) sends (sym (slice_get-map (client_sends W J node) (range_with_len 0 W.settings.clients) place) ∙ h) in
      record {
        found = client_sends W K node m.item;
        there = slice_get-map (client_sends W K node) (range_with_len 0 W.settings.clients) place ∙ ap (option_map (client_sends W K node)) m.there;
        more = subst (λ (s : ClientSends). SendsMore s (client_sends W K node m.item)) (sym m.is) (client_more node m.item);
      }

  -- ---- events

  record HasItem {A : Type 0} (f : A → AgentEvent) (queue : Queue) (pick : ClientSends → List (Sent A)) (run : NodeRun) (client : ℕ) (event : AgentEvent) : Type 0 where
    sends : ClientSends
    item : Sent A
    client_there : slice_get run.sends client ≡ Some sends
    item_there : slice_get (pick sends) (taken queue run.state.log) ≡ Some item
    is : event ≡ f item.item

  item_from : {A : Type 0} (f : A → AgentEvent) (queue : Queue) (pick : ClientSends → List (Sent A)) (run : NodeRun) (client : ℕ) (event : AgentEvent) (o : Option ClientSends)
      → slice_get run.sends client ≡ o → option_and_then (λ (sends : ClientSends). option_map f (next_of queue run.state (pick sends))) o ≡ Some event → HasItem f queue pick run client event
  item_from {A = A} f queue pick run client event None e h = let no : None ≡ Some event = h in absurd cc
  item_from {A = A} f queue pick run client event (Some sends) e h =
      let m = mapped_from f (next_of queue run.state (pick sends)) event h in
      let i = mapped_from (λ (item : Sent A). item.item) (slice_get (pick sends) (taken queue run.state.log)) m.item m.there in
      record {
        sends = sends;
        item = i.item;
        client_there = e;
        item_there = i.there;
        is = m.is ∙ ap f i.is;
      }

  item_to : {A : Type 0} (f : A → AgentEvent) (queue : Queue) (pick : ClientSends → List (Sent A)) (run : NodeRun) (client : ℕ) (event : AgentEvent) → HasItem f queue pick run client event
      → option_and_then (λ (sends : ClientSends). option_map f (next_of queue run.state (pick sends))) (slice_get run.sends client) ≡ Some event
  item_to {A = A} f queue pick run client event h =
      ap (option_and_then (λ (sends : ClientSends). option_map f (next_of queue run.state (pick sends)))) h.client_there
      ∙ ap (λ o. option_map f (option_map (λ (item : Sent A). item.item) o)) h.item_there
      ∙ ap Some (sym h.is)

  item_behind : {A : Type 0} (f : A → AgentEvent) (queue : Queue) (pick : ClientSends → List (Sent A))
      → ((a b : ClientSends) → SendsMore a b → HasMore (pick a) (pick b)) → (run : NodeRun) (client : ℕ) (event : AgentEvent) → run.sends ≡ node_sends W J run.node
      → option_and_then (λ (sends : ClientSends). option_map f (next_of queue run.state (pick sends))) (slice_get run.sends client) ≡ Some event
      → option_and_then (λ (sends : ClientSends). option_map f (next_of queue run.state (pick sends))) (slice_get (node_sends W K run.node) client) ≡ Some event
  item_behind {A = A} f queue pick longer run client event sends h =
      let was = item_from f queue pick run client event (slice_get run.sends client) refl h in
      let now = found_more run.node client was.sends (ap (λ (s : List ClientSends). slice_get s client) (sym sends) ∙ was.client_there) in
      let more = longer was.sends now.found now.more in
      item_to f queue pick (node_behind W J K run) client event
      (record {
        sends = now.found;
        item = was.item;
        client_there = now.there;
        item_there = ap (λ (items : List (Sent A)). slice_get items (taken queue run.state.log)) more.is ∙ get_front (pick was.sends) more.more (taken queue run.state.log) was.item was.item_there;
        is = was.is;
      })

  same_more : {X : Type 0} (a b : List X) → b ≡ a → HasMore a b
  same_more a b e = record { more = []; is = e ∙ sym (append-nil a) }

  event_behind : (run : NodeRun) (heard : Messages) (step : Step) (event : AgentEvent) → run.sends ≡ node_sends W J run.node → event_of run heard step ≡ Some event → event_of (node_behind W J K run) heard step ≡ Some event
  event_behind run heard (steps.Chunk client) event sends h =
      item_behind (λ sheet. Took (Chunk client sheet)) (Chunks client) (λ (s : ClientSends). s.chunks) (λ a b m. m.chunks) run client event sends h
  event_behind run heard (steps.Crumb client) event sends h =
      item_behind (λ crumb. Took (Crumbed client crumb)) (Crumbs client) (λ (s : ClientSends). s.crumbs) (λ a b m. same_more a.crumbs b.crumbs m.crumbs) run client event sends h
  event_behind run heard (steps.Trigger client) event sends h =
      item_behind (λ trigger. Took (Triggered client trigger)) (Triggers client) (λ (s : ClientSends). s.triggers) (λ a b m. same_more a.triggers b.triggers m.triggers) run client event sends h
  event_behind run heard steps.Ask event sends h = h
  event_behind run heard steps.Turn event sends h = h
  event_behind run heard (steps.Given stamp) event sends h = h
  event_behind run heard (steps.Missed stamp) event sends h = h
  event_behind run heard steps.Unread event sends h = h

  -- ---- steps

  abbrev HasSends : NodeRun → Type 0
  HasSends run = run.sends ≡ node_sends W J run.node

  abbrev extra : ℕ → List Step
  extra node = drop (length (log_at J node)) (log_at K node)

  step_behind : (heard : Messages) (run stepped : NodeRun) → HasSends run → step_node W.settings heard run ≡ Some stepped → step_node W.settings heard (node_behind W J K run) ≡ Some (node_behind W J K stepped)
  step_behind heard run stepped sends h =
      let s = step_from W.settings heard run stepped h in
      step_to W.settings heard (node_behind W J K run) (node_behind W J K stepped)
      (record {
        step = s.step;
        rest = s.rest ++ extra run.node;
        event = s.event;
        left = ap (λ (left : List Step). left ++ extra run.node) s.left;
        met = event_behind run heard s.step s.event sends s.met;
        is = ap (node_behind W J K) s.is;
      })

  keeps_sends : (heard : Messages) (run stepped : NodeRun) → HasSends run → step_node W.settings heard run ≡ Some stepped → HasSends stepped
  keeps_sends heard run stepped sends h = let s = step_from W.settings heard run stepped h in subst HasSends (sym s.is) sends

  message_behind : (runs : List NodeRun) (heard : Messages) (from : NodeId) (m : Message) → message_of runs heard from ≡ Some m → message_of (map (node_behind W J K) runs) heard from ≡ Some m
  message_behind runs heard from m h =
      ap (option_and_then (λ (run : NodeRun). option_map (message from) (slice_get run.state.said (count_by (is_from from) heard)))) (slice_get-map (node_behind W J K) runs from.0)
      ∙ both (slice_get runs from.0) ∙ h
    where
      both : (o : Option NodeRun) → option_and_then (λ (run : NodeRun). option_map (message from) (slice_get run.state.said (count_by (is_from from) heard))) (option_map (node_behind W J K) o)
          ≡ option_and_then (λ (run : NodeRun). option_map (message from) (slice_get run.state.said (count_by (is_from from) heard))) o
      both None = refl
      both (Some run) = refl

  performs_behind : (run next : Run) → AllByRecursion HasSends run.nodes → Performs W.settings run next → Performs W.settings (run_behind W J K run) (run_behind W J K next)
  performs_behind run next sends (inl s) =
      inl (record {
        place = s.place;
        node = node_behind W J K s.node;
        stepped = node_behind W J K s.stepped;
        stands = slice_get-map (node_behind W J K) run.nodes s.place ∙ ap (option_map (node_behind W J K)) s.stands;
        ready = step_behind run.heard s.node s.stepped (all_at HasSends run.nodes s.place s.node sends s.stands) s.ready;
        result = ap (run_behind W J K) s.result ∙ ap (λ (nodes : List NodeRun). record (run_behind W J K run) { nodes = nodes }) (map_set (node_behind W J K) run.nodes s.place s.stepped);
      })
  performs_behind run next sends (inr k) =
      let s = heard_from run next k in
      inr (heard_to (run_behind W J K run) (run_behind W J K next)
      (record {
        node = s.node;
        rest = s.rest ++ drop (length J.told) K.told;
        heard = s.heard;
        left = ap (λ (left : List NodeId). left ++ drop (length J.told) K.told) s.left;
        told = message_behind run.nodes run.heard s.node s.heard s.told;
        is = ap (run_behind W J K) s.is;
      }))

  performs_sends : (run next : Run) → AllByRecursion HasSends run.nodes → Performs W.settings run next → AllByRecursion HasSends next.nodes
  performs_sends run next sends (inl s) =
      subst (λ (r : Run). AllByRecursion HasSends r.nodes) (sym s.result)
      (all_set HasSends run.nodes s.place s.stepped sends (keeps_sends run.heard s.node s.stepped (all_at HasSends run.nodes s.place s.node sends s.stands) s.ready))
  performs_sends run next sends (inr k) = let s = heard_from run next k in subst (λ (r : Run). AllByRecursion HasSends r.nodes) (sym s.is) sends

  leads_behind : (run last : Run) → AllByRecursion HasSends run.nodes → Leads W.settings run last → Leads W.settings (run_behind W J K run) (run_behind W J K last)
  leads_behind run last sends (Stays r) = Stays (run_behind W J K run)
  leads_behind run last sends (Goes r next l p leads) =
      Goes (run_behind W J K run) (run_behind W J K next) (run_behind W J K last) (performs_behind run next sends p) (leads_behind next last (performs_sends run next sends p) leads)

  start_sends : (nodes : List ℕ) → AllByRecursion HasSends (map (node_start W J) nodes)
  start_sends [] = tt
  start_sends (node ∷ nodes) = (refl, start_sends nodes)

  nodes_begin : (nodes : List ℕ) → map (node_behind W J K) (map (node_start W J) nodes) ≡ map (node_start W K) nodes
  nodes_begin [] = refl
  nodes_begin (node ∷ nodes) =
      ap (λ (left : List Step). record (node_start W K node) { left = left } ∷ map (node_behind W J K) (map (node_start W J) nodes)) (more_dropped (log_at J node) (log_at K node) (goes.logs node))
      ∙ ap (λ (rest : List NodeRun). node_start W K node ∷ rest) (nodes_begin nodes)

  begins : run_behind W J K (run_start W J) ≡ run_start W K
  begins =
      ap (λ (nodes : List NodeRun). record { nodes = nodes; left = J.told ++ drop (length J.told) K.told; heard = [] }) (nodes_begin (range_with_len 0 W.settings.nodes))
      ∙ ap (λ (left : List NodeId). record (run_start W K) { left = left }) (more_dropped J.told K.told goes.told)

pub journals_go_on : FollowingPlaysOut → JournalsGoOn
journals_go_on plays W J K goes =
    subst (λ (r : Run). Leads W.settings r (run_behind W J K (followed W J))) (begins W J K goes)
    (leads_behind W J K goes (run_start W J) (followed W J) (start_sends W J K goes (range_with_len 0 W.settings.nodes)) (plays W J).leads)

-- ---- the journal's nodes

-- the step that was next is the one that an event notes
module _ (run : NodeRun) (heard : Messages) (event : AgentEvent) where
  offer_step : (step : Step) (answer : Answered) (hand : List ℕ) → step_of_answer answer ≡ step → option_map (λ _. Gave answer) (slice_get hand 0) ≡ Some event → noted_as event ≡ step
  offer_step step answer [] same h = let no : None ≡ Some event = h in absurd cc
  offer_step step answer (place ∷ hand) same h = ap (noted_as) (sym (same_Some (Gave answer) event h)) ∙ same

  item_step : {A : Type 0} (f : A → AgentEvent) (step : Step) (queue : Queue) (pick : ClientSends → List (Sent A)) (client : ℕ) → ((a : A) → noted_as (f a) ≡ step)
      → (o : Option ClientSends) → option_and_then (λ (sends : ClientSends). option_map f (next_of queue run.state (pick sends))) o ≡ Some event → noted_as event ≡ step
  item_step f step queue pick client same None h = let no : None ≡ Some event = h in absurd cc
  item_step f step queue pick client same (Some sends) h =
      let m = mapped_from f (next_of queue run.state (pick sends)) event h in ap (noted_as) m.is ∙ same m.item

  pub noted_step : (step : Step) → event_of run heard step ≡ Some event → noted_as event ≡ step
  noted_step (steps.Chunk client) h =
      item_step (λ sheet. Took (Chunk client sheet)) (steps.Chunk client) (Chunks client) (λ (s : ClientSends). s.chunks) client (λ a. refl) (slice_get run.sends client) h
  noted_step (steps.Crumb client) h =
      item_step (λ crumb. Took (Crumbed client crumb)) (steps.Crumb client) (Crumbs client) (λ (s : ClientSends). s.crumbs) client (λ a. refl) (slice_get run.sends client) h
  noted_step (steps.Trigger client) h =
      item_step (λ trigger. Took (Triggered client trigger)) (steps.Trigger client) (Triggers client) (λ (s : ClientSends). s.triggers) client (λ a. refl) (slice_get run.sends client) h
  noted_step steps.Ask h =
      let m = mapped_from (λ ask. Took (Asked ask)) (slice_get (asks_to run.node heard) (taken Asks run.state.log)) event h in ap (noted_as) m.is
  noted_step steps.Turn h = ap (noted_as) (sym (same_Some (Took Turn) event h))
  noted_step (steps.Given stamp) h = offer_step (steps.Given stamp) (Given stamp) run.state.hand refl h
  noted_step (steps.Missed stamp) h = offer_step (steps.Missed stamp) (Missed stamp) run.state.hand refl h
  noted_step steps.Unread h = offer_step steps.Unread Unread run.state.hand refl h

pub steps_are_noted : EventsAddThis → StepsAreNoted
steps_are_noted adds settings heard run stepped h =
    let s = step_from settings heard run stepped h in
    subst (IsNoted run) (sym s.is)
    (record {
      log =
          ap (λ (log : List Step). log ++ s.rest) ((adds settings run.node run.state).log s.event)
          ∙ ap (λ (step : Step). (run.state.log ++ step ∷ []) ++ s.rest) (noted_step run heard s.event s.step s.met)
          ∙ append_assoc run.state.log (s.step ∷ []) s.rest
          ∙ ap (λ (left : List Step). run.state.log ++ left) (sym s.left);
      sends = refl;
      node = refl;
    })

module _ (adds : EventsAddThis) (W : PlainWorkload) (J : PlainJournal) where
  step_keeps : (heard : Messages) (run stepped : NodeRun) → IsOfJournal W J run → step_node W.settings heard run ≡ Some stepped → IsOfJournal W J stepped
  step_keeps heard run stepped o h =
      let n = steps_are_noted adds W.settings heard run stepped h in
      record { sends = n.sends ∙ o.sends ∙ ap (node_sends W J) (sym n.node); log = n.log ∙ o.log ∙ ap (log_at J) (sym n.node) }

  abbrev numbers_of : List NodeRun → List ℕ
  numbers_of runs = map (λ (node : NodeRun). node.node) runs

  set_same : {X : Type 0} (xs : List X) (i : ℕ) (x : X) → slice_get xs i ≡ Some x → set xs i x ≡ xs
  set_same [] i x h = refl
  set_same (y ∷ xs) zero x h = ap (λ z. z ∷ xs) (sym (same_Some y x h))
  set_same (y ∷ xs) (suc i) x h = ap (λ rest. y ∷ rest) (set_same xs i x h)

  numbers_keep : (runs : List NodeRun) (place : ℕ) (run stepped : NodeRun) → slice_get runs place ≡ Some run → stepped.node ≡ run.node → numbers_of (set runs place stepped) ≡ numbers_of runs
  numbers_keep runs place run stepped stands same =
      map_set (λ (node : NodeRun). node.node) runs place stepped
      ∙ ap (set (numbers_of runs) place) same
      ∙ set_same (numbers_of runs) place run.node (slice_get-map (λ (node : NodeRun). node.node) runs place ∙ ap (option_map (λ (node : NodeRun). node.node)) stands)

  performs_keeps : (run next : Run) → NodesAreOfJournal W J run → Performs W.settings run next → NodesAreOfJournal W J next
  performs_keeps run next o (inl s) =
      let step = step_from W.settings run.heard s.node s.stepped s.ready in
      subst (NodesAreOfJournal W J) (sym s.result)
      (record {
        each =
            all_set (IsOfJournal W J) run.nodes s.place s.stepped o.each
            (step_keeps run.heard s.node s.stepped (all_at (IsOfJournal W J) run.nodes s.place s.node o.each s.stands) s.ready);
        numbers = numbers_keep run.nodes s.place s.node s.stepped s.stands (ap (λ (node : NodeRun). node.node) step.is) ∙ o.numbers;
      })
  performs_keeps run next o (inr k) =
      let s = heard_from run next k in subst (NodesAreOfJournal W J) (sym s.is) (record { each = o.each; numbers = o.numbers })

  leads_keeps : (run last : Run) → NodesAreOfJournal W J run → Leads W.settings run last → NodesAreOfJournal W J last
  leads_keeps run last o (Stays r) = o
  leads_keeps run last o (Goes r next l p leads) = leads_keeps next last (performs_keeps run next o p) leads

  starts : (nodes : List ℕ) → AllByRecursion (IsOfJournal W J) (map (node_start W J) nodes)
  starts [] = tt
  starts (node ∷ nodes) = (record { sends = refl; log = refl }, starts nodes)

  start_numbers : (nodes : List ℕ) → numbers_of (map (node_start W J) nodes) ≡ nodes
  start_numbers [] = refl
  start_numbers (node ∷ nodes) = ap (λ rest. node ∷ rest) (start_numbers nodes)

pub runs_are_of_the_journal : EventsAddThis → RunsAreOfTheJournal
runs_are_of_the_journal adds W J run leads =
    leads_keeps adds W J (run_start W J) run (record { each = starts adds W J (range_with_len 0 W.settings.nodes); numbers = start_numbers adds W J (range_with_len 0 W.settings.nodes) }) leads
