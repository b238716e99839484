-- The story of a run that is over.
use Rattle.std.proofs.Common.{◌≡◌, ℕ, zero, suc, ◌+◌, ◌*◌, ◌/◌, ◌%◌, ◌<◌, ◌≤◌, min, true, List, [], ◌∷◌, length, reverse, refl, sym, ap, subst, ◌∙◌, Option, Some, None, arith, map, filter, slice_get, nat_lt, eq-eqb}
use Rattle.hs_run.proofs.Prelude.{AllByRecursion, range_with_len, length-map, slice_get_within, sheet_in, ClientId, MAX_TAKEN, Message, Messages, message, sent, book_of, EventsAddThis, AgentEvent, after, Operation, PlainSettings, PlainWorkload, Leased, Sent, ClientSends, sends_of, place_of, ops_of, Buffer, Answer, Sheet, IsValid, is_from, steps_of, chunks_in, crumbs_in, triggers_in, draw_answer, PlainClientActor, ClientActorIsAt, IsPageThere, NodeWork, is_of, came_of, lent_of, PlainNodeActors, RunState, Came, done_by, PoolEnds, Story, sent_by, NodeBetweenPasses, IsNodeBetweenPasses, IsStep, Closing, IsOver}
use Rattle.std.proofs.lemmas.Nat.{div-mul-add}
use Rattle.std.proofs.Math.Nat.{mod-eq-sub-div-mul}
use Rattle.hs_base.proofs.Alls.{all_at}
use Rattle.hs_base.proofs.Filters.{filter_few}
use Rattle.hs_client.specs.OneMore.{items_of}
use Rattle.hs_words.specs.Ends.{Deed, IsTogether}
use Rattle.hs_law_journal.specs.Shape.{log_stamps}
use Rattle.hs_run_actors.specs.Standing.{IsLeasedTo, HasSentAll}
use Rattle.hs_law_run.specs.Stories.{NodeStory, draws_of, sends_at, state_by, IsQueueStory, TakesFrom, TalksWith, IsDrawnFor, PoolsWith, IsNodeStory, IsStory}
use Rattle.hs_run.specs.Closing.{TakesAllOfClient, IsNodeBare, drawn_at}
use Rattle.hs_run.proofs.Chunks.{own_events, chunks_came, sheet_is, sheets_are}
use Rattle.hs_run.proofs.Drawing.{draws_answers}
use Rattle.hs_run.proofs.Joined.{post, heard_by, post_low, post_high, last_site, heard_low, heard_last, post_last, heard_grows, all_posts, all_steps, ends_by, all_met, ends_low}
use Rattle.hs_run.proofs.LinkKinds.{chunk_links, crumb_links, trigger_links}
use Rattle.hs_run.proofs.Links.{Kind, LinkBegan, told_at, takes_told, hears_sent, told_few}
use Rattle.hs_law_journal.proofs.Lists.{all_passing}
use Rattle.hs_run.proofs.StoryMoments.{site_of, site_stands}
use Rattle.hs_run.proofs.StoryMeetings.{HaveSent, caller_at, acted_at, here_at, is_at, done_at, sent_at, started_at, none_drawn}
use Rattle.hs_run.proofs.Sending.{last_draws, sends_last, chunks_sent, crumbs_sent, triggers_sent}
use Rattle.hs_run.proofs.Spanning.{added_is, grows, ends_pass, turns_by, lents_are, asked_before, asks_taken, said_before, hears_said, heard_messages}

abbrev pub HaveSentAll : Type 0
HaveSentAll = (settings : PlainSettings) (client : ClientId) (ops : List Operation) (caller : PlainClientActor) → ClientActorIsAt settings client ops caller → caller.done ≡ length ops → HasSentAll settings client ops caller

-- each kind of links of each client began with nothing told
pub record LinksBegan (W : PlainWorkload) (valid : IsValid W) (rounds : ℕ) (m : RunState) (came : Came W rounds m) (node : ℕ) (few : node < W.settings.nodes) (client : ℕ) (own : client < W.settings.clients) : Type 0 where
  pub chunks : LinkBegan W valid rounds m came node few client own (chunk_links W node client)
  pub crumbs : LinkBegan W valid rounds m came node few client own (crumb_links W node client)
  pub triggers : LinkBegan W valid rounds m came node few client own (trigger_links W node client)

module _ (adds : EventsAddThis) (sends : HaveSent) (sends_all : HaveSentAll) (W : PlainWorkload) (valid : IsValid W) (rounds : ℕ) (m : RunState) (came : Came W rounds m) (passes : ℕ) (nodes : ℕ → NodeBetweenPasses) (heard : Messages)
    (closing : Closing W rounds m passes nodes heard) (over : IsOver W m nodes heard)
    (began : (node : ℕ) (few : node < W.settings.nodes) (client : ℕ) (own : client < W.settings.clients) → LinksBegan W valid rounds m came node few client own)
  where
    -- ---- the story

    pub log_in : (node : ℕ) (o : Option PlainNodeActors) → slice_get m.standing.nodes node ≡ o → List Deed
    log_in node None is = []
    log_in node (Some site) is = (over.pools node site is).0

    abbrev pub node_story : ℕ → NodeStory
    node_story node =
        record {
          events = λ k. (post W valid rounds m came passes nodes heard closing node k).work.events;
          ends = ends_by W valid rounds m came passes nodes heard closing node;
          lents = map lent_of (post W valid rounds m came passes nodes heard closing node passes).work.came;
          log = log_in node (slice_get m.standing.nodes node) refl;
        }

    abbrev pub story : Story
    story =
        record {
          rounds = rounds;
          passes = passes;
          draws = λ place. (caller_at W valid rounds m came (place / W.settings.clients) rounds (place % W.settings.clients)).client.core.draws;
          nodes = node_story;
          heard = heard_by W valid rounds m came passes nodes heard closing;
        }

    -- ---- one node

    module _ (node : ℕ) (few : node < W.settings.nodes) where
      abbrev last : NodeBetweenPasses
      last = post W valid rounds m came passes nodes heard closing node passes

      last_caller : (client : ℕ) → client < W.settings.clients → slice_get (site_of W valid rounds m came m node).callers client ≡ Some (caller_at W valid rounds m came node rounds client)
      last_caller client own =
          ap (λ moment. slice_get (site_of W valid rounds m came moment node).callers client) (sym came.last) ∙ here_at W valid rounds m came node few rounds client (omega arith) own

      bare : IsNodeBare W node (site_of W valid rounds m came m node) heard (post W valid rounds m came passes nodes heard closing node passes)
      bare =
          subst (IsNodeBare W node (site_of W valid rounds m came m node) heard) (sym (post_last W valid rounds m came passes nodes heard closing node few))
          (over.bare node (site_of W valid rounds m came m node) (last_site W valid rounds m came passes nodes heard closing node few))

      -- ---- the pool

      draws_last : (client : ℕ) (own : client < W.settings.clients) → draws_of W story node client ≡ last_draws W valid rounds m came sends node few client own
      draws_last client own =
          let parts = mod-eq-sub-div-mul (place_of W.settings.clients node client) W.settings.clients in
          let whole = div-mul-add node W.settings.clients client own in
          let multiple = ap (λ q. q * W.settings.clients) whole in
          let rest : place_of W.settings.clients node client % W.settings.clients ≡ client = omega (arith, parts, multiple) in
          ap (λ q. (caller_at W valid rounds m came q rounds (place_of W.settings.clients node client % W.settings.clients)).client.core.draws) whole
          ∙ ap (λ r. (caller_at W valid rounds m came node rounds r).client.core.draws) rest

      sends_are : (client : ℕ) (own : client < W.settings.clients) → sends_at W story node client ≡ sends_last W valid rounds m came sends node few client own
      sends_are client own = ap (sends_of W.settings (record { node = node; number = client }) (ops_of W node client)) (draws_last client own)

      last_at : (client : ℕ) → client < W.settings.clients → ClientActorIsAt W.settings (record { node = node; number = client }) (ops_of W node client) (caller_at W valid rounds m came node rounds client)
      last_at client own = is_at W valid rounds m came node few rounds client (omega arith) own

      all_done : (client : ℕ) → client < W.settings.clients → (caller_at W valid rounds m came node rounds client).done ≡ length (ops_of W node client)
      all_done client own = over.done node client (site_of W valid rounds m came m node) (caller_at W valid rounds m came node rounds client) (last_site W valid rounds m came passes nodes heard closing node few) (last_caller client own)

      sent_all : (client : ℕ) → client < W.settings.clients → HasSentAll W.settings (record { node = node; number = client }) (ops_of W node client) (caller_at W valid rounds m came node rounds client)
      sent_all client own = sends_all W.settings (record { node = node; number = client }) (ops_of W node client) (caller_at W valid rounds m came node rounds client) (last_at client own) (all_done client own)

      done : (client : ℕ) → client < W.settings.clients → length (ops_of W node client) ≤ rounds * W.settings.stride
      done client own = let is = done_at W valid rounds m came node few rounds client (omega arith) own in let all = all_done client own in omega (arith, is, all)

      post_stands_at : (k : ℕ) → k ≤ passes → IsNodeBetweenPasses W node (heard_by W valid rounds m came passes nodes heard closing k) (post W valid rounds m came passes nodes heard closing node k)
      post_stands_at k low = all_posts W valid rounds m came passes nodes heard closing node few k low

      post_steps : (k : ℕ) → k < passes → IsStep W node (heard_by W valid rounds m came passes nodes heard closing k) (heard_by W valid rounds m came passes nodes heard closing (suc k)) (post W valid rounds m came passes nodes heard closing node k)
          (post W valid rounds m came passes nodes heard closing node (suc k))
      post_steps k low = all_steps W valid rounds m came passes nodes heard closing node few k low

      -- a chunk's lease is that of the draw for its page
      lease : (buffer : Buffer Leased) (there : IsPageThere W node last.work.pool buffer) → IsLeasedTo (record { node = node; number = there.client }) (last_draws W valid rounds m came sends node few there.client there.is.low) buffer
          → IsDrawnFor W story node (lent_of buffer)
      lease buffer there leased =
          let sheet = sheet_is buffer leased.sheet leased.page in
          let owner : (sheet_in buffer).header.client.number ≡ there.client = ap (λ (s : Sheet). s.header.client.number) sheet ∙ ap (λ (c : ClientId). c.number) leased.owner in
          record {
            client = subst (λ c. c < W.settings.clients) (sym owner) there.is.low;
            draw = ap (λ c. slice_get (draws_of W story node c) (sheet_in buffer).header.page) owner
                ∙ ap (λ draws. slice_get draws (sheet_in buffer).header.page) (draws_last there.client there.is.low)
                ∙ ap (λ (s : Sheet). slice_get (last_draws W valid rounds m came sends node few there.client there.is.low) s.header.page) sheet ∙ leased.draw;
          }

      leases : AllByRecursion (IsDrawnFor W story node) (map lent_of (post W valid rounds m came passes nodes heard closing node passes).work.came)
      leases = mapped (post W valid rounds m came passes nodes heard closing node passes).work.came (λ i buffer h. at i buffer h)
        where
          mapped : (came : List (Buffer Leased)) → ((i : ℕ) (buffer : Buffer Leased) → slice_get came i ≡ Some buffer → IsDrawnFor W story node (lent_of buffer)) → AllByRecursion (IsDrawnFor W story node) (map lent_of came)
          mapped [] each = tt
          mapped (buffer ∷ came) each = (each 0 buffer refl, mapped came (λ i. each (suc i)))

          at : (i : ℕ) (buffer : Buffer Leased) → slice_get (post W valid rounds m came passes nodes heard closing node passes).work.came i ≡ Some buffer → IsDrawnFor W story node (lent_of buffer)
          at i buffer h =
              let all = (post_stands_at passes (omega arith)).pages in
              let there = all_at (IsPageThere W node (post W valid rounds m came passes nodes heard closing node passes).work.pool) (post W valid rounds m came passes nodes heard closing node passes).work.came i buffer all h in
              let sheet = sheet_is buffer there.is.sheet there.is.page in
              let owner : (sheet_in buffer).header.client.number ≡ there.client = ap (λ (s : Sheet). s.header.client.number) sheet ∙ ap (λ (c : ClientId). c.number) there.is.owner in
              let draws = last_draws W valid rounds m came sends node few there.client there.is.low in
              let sent_leases = (sent_at W valid rounds m came node few sends rounds there.client (omega arith) there.is.low).leases in
              let came_leases =
              subst (AllByRecursion (IsLeasedTo (record { node = node; number = there.client }) draws)) (sym (bare.chunks there.client (caller_at W valid rounds m came node rounds there.client) (last_caller there.client there.is.low))) sent_leases
              in
              lease buffer there
              (all_at (λ (b : Buffer Leased). is_of there.client b ≡ true → IsLeasedTo (record { node = node; number = there.client }) draws b) (post W valid rounds m came passes nodes heard closing node passes).work.came i buffer
              (all_passing (IsLeasedTo (record { node = node; number = there.client }) draws) (is_of there.client) (post W valid rounds m came passes nodes heard closing node passes).work.came came_leases) h
              (eq-eqb (sheet_in buffer).header.client.number there.client owner))

      closed_in : (o : Option PlainNodeActors) (is : slice_get m.standing.nodes node ≡ o) → o ≡ Some (site_of W valid rounds m came m node)
          → IsTogether W.settings.buffers (nodes node).giver.turns (drawn_at (site_of W valid rounds m came m node)) (log_in node o is)
      unfolding log_in
      closed_in None is some = let no : None ≡ Some (site_of W valid rounds m came m node) = some in absurd cc
      closed_in (Some site) is some =
          let same : site ≡ site_of W valid rounds m came m node = cc in
          subst (λ (s : PlainNodeActors). IsTogether W.settings.buffers (nodes node).giver.turns (drawn_at s) (over.pools node site is).0) same (over.pools node site is).1

      -- the drawers by the numbers of their clients
      drawers_are : drawn_at (site_of W valid rounds m came m node) ≡ map (ends_by W valid rounds m came passes nodes heard closing node rounds).answers (range_with_len 0 W.settings.clients)
      drawers_are =
          by_numbers (site_of W valid rounds m came m node).callers 0 W.settings.clients count
          (λ i caller h.
          let low : i < W.settings.clients = let within = slice_get_within (site_of W valid rounds m came m node).callers i caller h in omega (arith, within, count) in
          let same : Some caller ≡ Some (caller_at W valid rounds m came node rounds i) = sym h ∙ last_caller i low in
          let is : caller ≡ caller_at W valid rounds m came node rounds i = cc in
          let zeroth : i ≡ 0 + i = omega arith in
          let least : rounds ≡ min rounds rounds = omega arith in
          ap (λ (c : PlainClientActor). c.client.drawer.answers) is ∙ ap (λ r. (caller_at W valid rounds m came node r i).client.drawer.answers) least
          ∙ ap (λ j. (caller_at W valid rounds m came node (min rounds rounds) j).client.drawer.answers) zeroth)
        where
          count : length (site_of W valid rounds m came m node).callers ≡ W.settings.clients
          count = subst (λ moment. length (site_of W valid rounds m came moment node).callers ≡ W.settings.clients) came.last (site_stands W valid rounds m came rounds node (omega arith) few).count

          by_numbers : (callers : List PlainClientActor) (start count : ℕ) → length callers ≡ count → ((i : ℕ) (caller : PlainClientActor) → slice_get callers i ≡ Some caller → caller.client.drawer.answers ≡ (ends_by W valid rounds m came passes nodes heard closing node rounds).answers (start + i))
              → map (λ (caller : PlainClientActor). caller.client.drawer.answers) callers ≡ map (ends_by W valid rounds m came passes nodes heard closing node rounds).answers (range_with_len start count)
          by_numbers [] start zero long each = refl
          by_numbers [] start (suc count) long each = absurd (omega (arith, long))
          by_numbers (caller ∷ callers) start zero long each = absurd (omega (arith, long))
          by_numbers (caller ∷ callers) start (suc count) long each =
              let zeroth : start + 0 ≡ start = omega arith in
              ap (λ x. x ∷ map (λ (caller : PlainClientActor). caller.client.drawer.answers) callers) (each 0 caller refl ∙ ap (ends_by W valid rounds m came passes nodes heard closing node rounds).answers zeroth)
              ∙ ap (λ rest. (ends_by W valid rounds m came passes nodes heard closing node rounds).answers start ∷ rest)
              (by_numbers callers (start + 1) count (omega (arith, long))
              (λ i c h. let next : start + suc i ≡ start + 1 + i = omega arith in each (suc i) c h ∙ ap (ends_by W valid rounds m came passes nodes heard closing node rounds).answers next))

      together : IsTogether W.settings.buffers (ends_by W valid rounds m came passes nodes heard closing node passes).turns
          (map (ends_by W valid rounds m came passes nodes heard closing node rounds).answers (range_with_len 0 W.settings.clients)) (log_in node (slice_get m.standing.nodes node) refl)
      together =
          subst (λ (lists : List (List Answer)). IsTogether W.settings.buffers (ends_by W valid rounds m came passes nodes heard closing node passes).turns lists (log_in node (slice_get m.standing.nodes node) refl)) drawers_are
          (subst (λ (p : NodeBetweenPasses). IsTogether W.settings.buffers p.giver.turns (drawn_at (site_of W valid rounds m came m node)) (log_in node (slice_get m.standing.nodes node) refl)) (sym (post_last W valid rounds m came passes nodes heard closing node few))
          (closed_in (slice_get m.standing.nodes node) refl (last_site W valid rounds m came passes nodes heard closing node few)))

      pools_with : PoolsWith W story node
      pools_with =
          record {
            new = λ client own. ap (λ (e : PoolEnds). e.answers client) (ends_low W valid rounds m came passes nodes heard closing node 0 (omega arith)) ∙ none_drawn W valid rounds m came node few sends client own;
            passes = λ k low.
                let step = post_steps k low in
                record {
                  more = step.more;
                  turns = step.turns;
                  high = subst (λ (pass : List AgentEvent). AllByRecursion (λ stamp. (ends_by W valid rounds m came passes nodes heard closing node k).floor ≤ stamp) (log_stamps (steps_of pass)))
                      (sym (added_is W node passes (heard_by W valid rounds m came passes nodes heard closing) (post W valid rounds m came passes nodes heard closing node) post_stands_at post_steps k low)) step.high;
                  floor = step.floor;
                };
            meets = λ k client low own. all_met W valid rounds m came passes nodes heard closing node few k client low own;
            started = λ k client low own. ap (λ (e : PoolEnds). length (e.answers client)) (ends_low W valid rounds m came passes nodes heard closing node k low) ∙ started_at W valid rounds m came node few sends k client low own;
            drawn = λ client own.
                ap (map draw_answer) (draws_last client own ∙ (sent_at W valid rounds m came node few sends rounds client (omega arith) own).draws)
                ∙ draws_answers (caller_at W valid rounds m came node rounds client).client.drawer.answers (last_at client own).answered
                ∙ ap (λ (e : PoolEnds). reverse (e.answers client)) (sym (ends_low W valid rounds m came passes nodes heard closing node rounds (omega arith)));
            turns = λ k low. turns_by W node passes (heard_by W valid rounds m came passes nodes heard closing) (post W valid rounds m came passes nodes heard closing node) post_stands_at post_steps k low;
            sheets = lents_are W node passes (heard_by W valid rounds m came passes nodes heard closing) (post W valid rounds m came passes nodes heard closing node) post_stands_at post_steps adds;
            leases = leases;
            together = together;
          }

      -- ---- queues

      abbrev work_at : ℕ → NodeWork
      work_at k = (post W valid rounds m came passes nodes heard closing node k).work

      -- the chunks of a client are as many as the buffers in which they came
      chunk_count : (client k : ℕ) → k ≤ passes → length (chunks_in client (work_at k).events) ≡ length (came_of client (work_at k))
      chunk_count client k low =
          let p = post_stands_at k low in
          ap length (chunks_came W node client (work_at k).events (work_at k).came p.sheets p.within) ∙ length-map (came_of client (work_at k)) sheet_in

      low_work : (k : ℕ) → k ≤ rounds → work_at k ≡ (came.at k).works node
      low_work k low = ap (λ (p : NodeBetweenPasses). p.work) (post_low W valid rounds m came passes nodes heard closing node k low)

      -- behind the rounds
      left_in : (client : ℕ) → client < W.settings.clients → (k : ℕ) → rounds ≤ k → k < passes → TakesAllOfClient client (caller_at W valid rounds m came node rounds client) (work_at k) (work_at (suc k))
      left_in client own k high low =
          subst (λ (p : NodeBetweenPasses). TakesAllOfClient client (caller_at W valid rounds m came node rounds client) p.work (work_at (suc k))) (sym (post_high W valid rounds m came passes nodes heard closing node k few high))
          (subst (λ (p : NodeBetweenPasses). TakesAllOfClient client (caller_at W valid rounds m came node rounds client) (closing.posts node k).work p.work) (sym (post_high W valid rounds m came passes nodes heard closing node (suc k) few (omega (arith, high))))
          ((closing.each k node (site_of W valid rounds m came m node) high low (last_site W valid rounds m came passes nodes heard closing node few)).takes client (caller_at W valid rounds m came node rounds client) (last_caller client own)))

      told_last : {T : Type 0} (client : ℕ) (own : client < W.settings.clients) (kind : Kind T W node client) → LinkBegan W valid rounds m came node few client own kind → (sent_upto : ℕ → ℕ)
          → ((k : ℕ) → k < rounds → length (sent (kind.sender (acted_at W valid rounds m came node k client).client)) ≡ sent_upto (suc k)) → (total : ℕ) → ((k : ℕ) → sent_upto k ≤ total)
          → told_at W valid rounds m came node few client own kind rounds ≤ total
      told_last client own kind began sent_upto same total most = either rounds refl
        where
          either : (k : ℕ) → rounds ≡ k → told_at W valid rounds m came node few client own kind k ≤ total
          either zero is = let none = began.told in omega (arith, none)
          either (suc k) is =
              let low : k < rounds = omega (arith, is) in
              let few_told = told_few W valid rounds m came node few client own kind began k low in
              let sent_is = same k low in
              let bound = most (suc k) in
              omega (arith, few_told, sent_is, bound)

      queue_of : {T : Type 0} (client : ℕ) (own : client < W.settings.clients) (kind : Kind T W node client) → LinkBegan W valid rounds m came node few client own kind → (taken : ℕ → ℕ) (sent_upto : ℕ → ℕ) (total : ℕ)
          → ((k : ℕ) → k ≤ rounds → taken k ≡ length (kind.got ((came.at k).works node)))
          → ((k : ℕ) → k < rounds → length (sent (kind.sender (acted_at W valid rounds m came node k client).client)) ≡ sent_upto (suc k)) → ((k : ℕ) → sent_upto k ≤ total)
          → ((k : ℕ) → rounds ≤ k → k < passes → min total (taken k + MAX_TAKEN) ≤ taken (suc k)) → IsQueueStory rounds passes taken sent_upto total
      queue_of client own kind began taken sent_upto total counts same most closes =
          record {
            told = told_at W valid rounds m came node few client own kind;
            takes = λ k low.
                let t = takes_told W valid rounds m came node few client own kind k low in
                let a = counts k (omega (arith, low)) in
                let b = counts (suc k) (omega (arith, low)) in
                omega (arith, t, a, b);
            hears = λ k low.
                let h = hears_sent W valid rounds m came node few client own kind began k low in
                let a = counts k (omega (arith, low)) in
                let s = same k low in
                omega (arith, h, a, s);
            few = told_last client own kind began sent_upto same total most;
            closes = closes;
          }

      sent_most : {A : Type 0} (client k : ℕ) (items : List (Sent A)) → sent_by W node client items k ≤ length items
      sent_most {A} client k items = filter_few (λ (item : Sent A). nat_lt item.number (done_by W node client k)) items

      -- what is taken of all that a client sends
      record TakesAll (client : ℕ) (s : ClientSends) : Type 0 where
        chunks_all : chunks_in client (work_at passes).events ≡ items_of s.chunks
        crumbs_all : crumbs_in client (work_at passes).events ≡ items_of s.crumbs
        triggers_all : triggers_in client (work_at passes).events ≡ items_of s.triggers
        chunks : IsQueueStory rounds passes (λ k. length (chunks_in client (work_at k).events)) (sent_by W node client s.chunks) (length s.chunks)
        crumbs : IsQueueStory rounds passes (λ k. length (crumbs_in client (work_at k).events)) (sent_by W node client s.crumbs) (length s.crumbs)
        triggers : IsQueueStory rounds passes (λ k. length (triggers_in client (work_at k).events)) (sent_by W node client s.triggers) (length s.triggers)

      takes_so : (client : ℕ) (s : ClientSends) → sends_at W story node client ≡ s → TakesAll client s → TakesFrom W story node client
      takes_so client s is t = here (subst (TakesAll client) (sym is) t)
        where
          here : TakesAll client (sends_at W story node client) → TakesFrom W story node client
          here t = record { chunks_all = t.chunks_all; crumbs_all = t.crumbs_all; triggers_all = t.triggers_all; chunks = t.chunks; crumbs = t.crumbs; triggers = t.triggers }

      takes_from : (client : ℕ) → client < W.settings.clients → TakesFrom W story node client
      takes_from client own =
          let b = began node few client own in
          let all = sent_all client own in
          let bare_all = bare in
          let caller = caller_at W valid rounds m came node rounds client in
          let s = sends_last W valid rounds m came sends node few client own in
          let p = post_stands_at passes (omega arith) in
          let sheets_all = sheets_are (sent caller.client.chunks) (items_of s.chunks) all.chunks in
          let chunk_total = sym (length-map (sent caller.client.chunks) sheet_in) ∙ ap length sheets_all ∙ length-map s.chunks (λ (item : Sent Sheet). item.item) in
          let crumb_total = ap length all.crumbs ∙ length-map s.crumbs (λ item. item.item) in
          let trigger_total = ap length all.triggers ∙ length-map s.triggers (λ item. item.item) in
          takes_so client s (sends_are client own)
          (record {
            chunks_all = chunks_came W node client (work_at passes).events (work_at passes).came p.sheets p.within ∙ ap (map sheet_in) (bare_all.chunks client caller (last_caller client own)) ∙ sheets_all;
            crumbs_all = bare_all.crumbs client caller (last_caller client own) ∙ all.crumbs;
            triggers_all = bare_all.triggers client caller (last_caller client own) ∙ all.triggers;
            chunks = queue_of client own (chunk_links W node client) b.chunks (λ k. length (chunks_in client (work_at k).events)) (sent_by W node client s.chunks) (length s.chunks)
                (λ k low. let enough = closing.enough in chunk_count client k (omega (arith, low, enough)) ∙ ap (λ (w : NodeWork). length (came_of client w)) (low_work k low)) (chunks_sent W valid rounds m came sends node few client own) (λ k. sent_most client k s.chunks)
                (λ k high low.
                let t = (left_in client own k high low).chunks in
                let x = chunk_count client k (omega (arith, low)) in
                let y = chunk_count client (suc k) (omega (arith, low)) in
                let z = chunk_total in
                omega (arith, t, x, y, z));
            crumbs = queue_of client own (crumb_links W node client) b.crumbs (λ k. length (crumbs_in client (work_at k).events)) (sent_by W node client s.crumbs) (length s.crumbs)
                (λ k low. ap (λ (w : NodeWork). length (crumbs_in client w.events)) (low_work k low)) (crumbs_sent W valid rounds m came sends node few client own) (λ k. sent_most client k s.crumbs)
                (λ k high low. let t = (left_in client own k high low).crumbs in let z = crumb_total in omega (arith, t, z));
            triggers = queue_of client own (trigger_links W node client) b.triggers (λ k. length (triggers_in client (work_at k).events)) (sent_by W node client s.triggers) (length s.triggers)
                (λ k low. ap (λ (w : NodeWork). length (triggers_in client w.events)) (low_work k low)) (triggers_sent W valid rounds m came sends node few client own) (λ k. sent_most client k s.triggers)
                (λ k high low. let t = (left_in client own k high low).triggers in let z = trigger_total in omega (arith, t, z));
          })

      -- ---- asks and messages

      talks_with : TalksWith W story node
      talks_with =
          let p = post_stands_at passes (omega arith) in
          let b = bare in
          let told = heard_last W valid rounds m came passes nodes heard closing in
          let hb = heard_by W valid rounds m came passes nodes heard closing in
          let ps = post W valid rounds m came passes nodes heard closing node in
          record {
            asked_before = asked_before W node passes hb ps post_stands_at post_steps;
            asks = asks_taken W node passes hb ps post_stands_at post_steps;
            asks_all = b.asks ∙ sym p.asked;
            said_before = said_before W node passes hb ps post_stands_at post_steps;
            hears = hears_said W node passes hb ps post_stands_at post_steps;
            said_all = ap (filter (is_from (record { 0 = node }))) told ∙ heard_messages node heard ∙ ap (map (message (record { 0 = node }))) (b.said ∙ p.moved);
          }

      is_node_story : IsNodeStory W story node
      is_node_story =
          let p = post_stands_at passes (omega arith) in
          let hb = heard_by W valid rounds m came passes nodes heard closing in
          let ps = post W valid rounds m came passes nodes heard closing node in
          record {
            begins = ap (λ (w : NodeWork). w.events) (low_work 0 (omega arith)) ∙ ap (λ (w : NodeWork). w.events) (came.begun.works node);
            grows = grows W node passes hb ps post_stands_at post_steps;
            ends = ends_pass W node passes hb ps post_stands_at post_steps;
            own = own_events W node (work_at passes).events p.within;
            hands = p.hands;
            unpinned = bare.pinned;
            done = done;
            takes = takes_from;
            talks = talks_with;
            pools = pools_with;
          }

    -- ---- all nodes

    pub is_story : IsStory W story
    is_story =
        record {
          enough = closing.enough;
          begins = heard_low W valid rounds m came passes nodes heard closing 0 (omega arith) ∙ came.begun.heard;
          grows = heard_grows W valid rounds m came passes nodes heard closing;
          from = subst (AllByRecursion (λ (m : Message). m.node.0 < W.settings.nodes)) (sym (heard_last W valid rounds m came passes nodes heard closing)) over.from;
          each = is_node_story;
        }

    -- ---- what it tells

    pub callers_drew : (node client : ℕ) (site : PlainNodeActors) (caller : PlainClientActor) → node < W.settings.nodes → client < W.settings.clients → slice_get m.standing.nodes node ≡ Some site → slice_get site.callers client ≡ Some caller
        → draws_of W story node client ≡ caller.client.core.draws
    callers_drew node client site caller few own there mine =
        let same : Some site ≡ Some (site_of W valid rounds m came m node) = sym there ∙ last_site W valid rounds m came passes nodes heard closing node few in
        let is : site_of W valid rounds m came m node ≡ site = cc in
        let caller_same : Some (caller_at W valid rounds m came node rounds client) ≡ Some caller = sym (last_caller node few client own) ∙ ap (λ (s : PlainNodeActors). slice_get s.callers client) is ∙ mine in
        let caller_is : caller_at W valid rounds m came node rounds client ≡ caller = cc in
        draws_last node few client own ∙ ap (λ (c : PlainClientActor). c.client.core.draws) caller_is

    pub callers_few : (node client : ℕ) (site : PlainNodeActors) (caller : PlainClientActor) → node < W.settings.nodes → slice_get m.standing.nodes node ≡ Some site → slice_get site.callers client ≡ Some caller → client < W.settings.clients
    callers_few node client site caller few there mine =
        let same : Some site ≡ Some (site_of W valid rounds m came m node) = sym there ∙ last_site W valid rounds m came passes nodes heard closing node few in
        let is : site_of W valid rounds m came m node ≡ site = cc in
        let within = slice_get_within site.callers client caller mine in
        let count = subst (λ moment. length (site_of W valid rounds m came moment node).callers ≡ W.settings.clients) came.last (site_stands W valid rounds m came rounds node (omega arith) few).count in
        let long = ap (λ (s : PlainNodeActors). length s.callers) is in
        omega (arith, within, count, long)

    pub agents_last : (start count : ℕ) → start + count ≤ W.settings.nodes
        → map (λ (node : ℕ). book_of node (state_by W story node passes)) (range_with_len start count) ≡ map (λ node. book_of node (after W.settings node (nodes node).work.events)) (range_with_len start count)
    agents_last start zero low = refl
    agents_last start (suc count) low =
        ap (λ (p : NodeBetweenPasses). book_of start (after W.settings start p.work.events) ∷ map (λ (node : ℕ). book_of node (state_by W story node passes)) (range_with_len (start + 1) count))
        (post_last W valid rounds m came passes nodes heard closing start (omega (arith, low)))
        ∙ ap (λ rest. book_of start (after W.settings start (nodes start).work.events) ∷ rest) (agents_last (start + 1) count (omega (arith, low)))
