-- The doings of the schedule are playable so far at each stage, whether anything waits or not.
use Rattle.std.proofs.Common.{◌≡◌, ℕ, zero, suc, ◌+◌, ◌<◌, ◌≤◌, List, ◌∷◌, length, refl, sym, ap, subst, ◌∙◌, arith, map, filter, count_by, Some, [], inl, slice_get, Option}
use Rattle.hs_law_run.proofs.Prelude.{AllByRecursion, range_with_len, option_map_or, Message, Messages, message, Step, PlainJournal, AgentState, AgentEvent, PlainWorkload, client_sends, Queue, Asks, taken, asks_to, is_from, NodeRun, Run, followed, supply, agents_take, agents_give, same_Some, all_at, Known, Sent, all_by_place, node_sends, rounds_of, ClientSends}
use Rattle.hs_base.proofs.Ranges.{map_range_at}
use Rattle.hs_law_agent.specs.State.{start}
use Rattle.hs_law_journal.proofs.Fronts.{HasFronts, all_fronts}
use Rattle.hs_law_journal.specs.Fronts.{IsFront, sent_by}
use Rattle.hs_law_journal.proofs.Heard.{IsHeardAt, IsHeard}
use Rattle.hs_law_journal.specs.Doings.{NodeDoings, all_events, events_in, heard_in, state_after, last_state, chunks_in, crumbs_in, triggers_in, asks_in}
use Rattle.hs_law_journal.specs.LoopPasses.{IsOwn, HandsReady, IsPass, EndsPass}
use Rattle.hs_law_run.proofs.Followed.{fits}
use Rattle.hs_law_run.proofs.Passes.{pass_at, given_heard, offers, is_pass, all_stamped}
use Rattle.hs_law_run.proofs.Told.{heard_are, all_heard_are, events_are, all_events_are, added_are, long, StandsAt, stands_at, state_there, last_there, journal_is}
use Rattle.hs_law_run.specs.Told.{stage, gone, events_at, heard_at, node_doings, doings_of}
use Rattle.hs_law_journal.proofs.ItemsTaken.{taken_asks, own_log}
use Rattle.hs_law_journal.proofs.Joined.{mapped_long, unmapped_at, all_mapped_range}
use Rattle.hs_law_run.specs.Facts.{TookFrontOf, IsPlayable, ArePlayable, HavePasses, HaveRounds, EndsPasses, HaveOffers}
use Rattle.hs_law_run.specs.Stories.{added}
use Rattle.hs_client.specs.OneMore.{items_of}
use Rattle.hs_law_journal.proofs.Heard as hearing

module _ (known : Known) (W : PlainWorkload) (count : ℕ) where
  abbrev J : PlainJournal
  J = (stage W count).journal

  abbrev end : Run
  end = followed W (stage W count).journal

  fronts : AllByRecursion (HasFronts W J end.heard) end.nodes
  fronts = all_fronts W J known.adds end (known.plays W J).leads

  heards : IsHeard W end
  heards = hearing.all_heard known.says W J end (known.plays W J).leads

  module _ (i : ℕ) (low : i < W.settings.nodes) where
    abbrev stands : StandsAt known W count i low count
    stands = stands_at known W count i low count

    abbrev node : NodeRun
    node = (stands_at known W count i low count).run

    front : HasFronts W J end.heard node
    front = all_at (HasFronts W J end.heard) end.nodes i node fronts stands.there

    heard : IsHeardAt end.heard i node
    heard = heards.each i node stands.there

    events_all : all_events (node_doings W count i) ≡ node.events
    events_all = all_events_are known W count i low ∙ stands.events

    -- what a client of the node sends
    sent_there : {A : Type 0} (part : ClientSends → List (Sent A)) (client : ℕ) → client < W.settings.clients → sent_by part node client ≡ items_of (part (client_sends W J i client))
    sent_there part client few =
        ap (λ (o : Option ClientSends). option_map_or (λ (s : ClientSends). items_of (part s)) o [])
        (ap (λ (all : List ClientSends). slice_get all client) (front.sends ∙ ap (node_sends W J) stands.number) ∙ map_range_at (client_sends W J i) W.settings.clients client few)

    took_of : {A : Type 0} (part : ClientSends → List (Sent A)) (taken_by : List AgentEvent → List A) (client : ℕ) → client < W.settings.clients → IsFront (taken_by node.events) (sent_by part node client)
        → IsFront (taken_by (all_events (node_doings W count i))) (items_of (part (client_sends W J i client)))
    took_of part taken_by client few f = subst (λ events. IsFront (taken_by events) (items_of (part (client_sends W J i client)))) (sym events_all) (subst (IsFront (taken_by node.events)) (sent_there part client few) f)

    took : (client : ℕ) → client < W.settings.clients → TookFrontOf W J (node_doings W count i) client
    took client few =
        record {
          chunks = took_of (λ s. s.chunks) (chunks_in client) client few (front.chunks client);
          crumbs = took_of (λ s. s.crumbs) (crumbs_in client) client few (front.crumbs client);
          triggers = took_of (λ s. s.triggers) (triggers_in client) client few (front.triggers client);
        }

    asked : IsFront (asks_in (all_events (node_doings W count i))) (asks_to i end.heard)
    asked = subst (λ events. IsFront (asks_in events) (asks_to i end.heard)) (sym events_all) (subst (λ n. IsFront (asks_in node.events) (asks_to n end.heard)) stands.number front.asks)

    -- an agent takes in a pass what it was asked in earlier ones
    asked_within : (p : ℕ) → length (asks_in (events_at W i (suc p))) ≤ length (asks_to i (heard_at W p))
    asked_within p =
        let a = pass_at known W p i low in
        let s = stands_at known W count i low (suc p) in
        let M = agents_give W (agents_take W (gone W p)) in
        let same : s.run ≡ a.later = same_Some s.run a.later (sym s.there ∙ a.later_there) in
        let most = all_at (λ (n : NodeRun). (queue : Queue) → taken queue n.state.log ≤ supply n (followed W M.journal).heard queue) (followed W M.journal).nodes i a.later (fits known W M.journal).items a.from.given_there Asks in
        let heard = ap (λ (heard : Messages). length (asks_to a.later.node heard)) (given_heard known W p) in
        let number = ap (λ (n : NodeRun). length (asks_to n.node (heard_at W p))) (sym same) in
        let own = ap (λ n. length (asks_to n (heard_at W p))) s.number in
        let count = taken_asks (events_at W i (suc p)) in
        let log = ap (λ (log : List Step). taken Asks log) (own_log known.adds W.settings i (events_at W i (suc p))) in
        let state = ap (λ (state : AgentState). taken Asks state.log) (s.state ∙ ap (λ (n : NodeRun). n.state) same) in
        omega (arith, most, heard, number, own, count, log, state)

    asked_before : (k : ℕ) → k < count → length (asks_in (events_in (node_doings W count i) (suc k))) ≤ length (asks_to i (heard_in (doings_of W count) k))
    asked_before k few =
        let h = ap (λ heard. length (asks_to i heard)) (heard_are known W count k (omega (arith, few))) in
        let t = ap (λ (events : List AgentEvent). length (asks_in events)) (events_are known W count i low (suc k) (omega (arith, few))) in
        let some = asked_within k in
        omega (arith, h, t, some)

    said_within : (p : ℕ) → count_by (is_from (record { 0 = i })) (heard_at W p) ≤ length (stands_at known W count i low p).run.state.said
    said_within p =
        let s = stands_at known W count i low p in
        let most = (fits known W (stage W p).journal).messages (record { 0 = i }) in
        let said = ap (λ o. option_map_or (λ (run : NodeRun). length run.state.said) o 0) s.there in
        omega (arith, most, said)

    said_before : (k : ℕ) → k ≤ count → count_by (is_from (record { 0 = i })) (heard_in (doings_of W count) k) ≤ length (state_after W.settings (node_doings W count i) k).said
    said_before k few =
        let h = ap (count_by (is_from (record { 0 = i }))) (heard_are known W count k few) in
        let t = ap (λ (state : AgentState). length state.said) (state_there known W count i low k few) in
        let some = said_within k in
        omega (arith, h, t, some)

    is_playable : IsPlayable W (doings_of W count) (node_doings W count i)
    is_playable =
        record {
          own = subst (AllByRecursion (IsOwn W)) (sym events_all) front.own;
          took = λ client few. subst (λ (J : PlainJournal). TookFrontOf W J (node_doings W count i) client) (sym (journal_is known W count)) (took client few);
          asked = subst (λ heard. IsFront (asks_in (all_events (node_doings W count i))) (asks_to i heard)) (sym (all_heard_are known W count)) asked;
          heard =
              subst (λ all. IsFront (filter (is_from (record { 0 = i })) all) (map (message (record { 0 = i })) (last_state W.settings (node_doings W count i)).said)) (sym (all_heard_are known W count))
              (subst (λ (state : AgentState). IsFront (filter (is_from (record { 0 = i })) end.heard) (map (message (record { 0 = i })) state.said)) (sym (last_there known W count i low)) heard.front);
          hands = subst (HandsReady W.settings i (start W.settings)) (sym events_all) (subst (λ n. HandsReady W.settings n (start W.settings) node.events) stands.number front.hands);
          asked_before = λ k few. asked_before k (let all = long known W count i low in omega (arith, few, all));
          said_before = λ k few. said_before k (let all = long known W count i low in omega (arith, few, all));
        }

    -- ---- passes

    -- a pass of the node is one of the schedule
    pass_is : (P : ℕ → List AgentEvent → Type 0) → ((k : ℕ) → k < count → P k (pass_at known W k i low).from.new) → (k : ℕ) (pass : List AgentEvent) → slice_get (node_doings W count i).passes k ≡ Some pass → P k pass
    pass_is P each k pass h = let at = unmapped_at (added (events_at W i)) count k pass h in subst (P k) (sym (added_are known W count i low k) ∙ at.is) (each k at.low)

    each_pass : AllByRecursion (IsPass W) (node_doings W count i).passes
    each_pass = all_by_place (IsPass W) (node_doings W count i).passes (pass_is (λ k pass. IsPass W pass) (λ k few. let a = pass_at known W k i low in is_pass known W (gone W k) i a.later a.from))

    ends_pass : (k : ℕ) → k < count → EndsPass W (state_after W.settings (node_doings W count i) (suc k)) (pass_at known W k i low).from.new
    ends_pass k few =
        let a = pass_at known W k i low in
        let s = stands_at known W count i low (suc k) in
        record {
          is_pass = is_pass known W (gone W k) i a.later a.from;
          before = offers known W (gone W k) i a.later a.from;
          stamped = all_stamped known W (gone W k) i a.later a.from;
          ends =
              inl (
                refl,
                ap (λ (state : AgentState). state.hand) (state_there known W count i low (suc k) (omega (arith, few))) ∙ ap (λ (n : NodeRun). n.state.hand) (same_Some s.run a.later (sym s.there ∙ a.later_there)) ∙ a.from.emptied,
              );
        }

    all_offers : EndsPasses W (node_doings W count i)
    all_offers = pass_is (λ k pass. EndsPass W (state_after W.settings (node_doings W count i) (suc k)) pass) ends_pass

  -- ---- all nodes

  pub every : (P : NodeDoings → Type 0) → ((i : ℕ) → i < W.settings.nodes → P (node_doings W count i)) → AllByRecursion P (doings_of W count).nodes
  every P each = all_mapped_range P (node_doings W count) W.settings.nodes each

  numbered : (first many : ℕ) → map (λ (n : NodeDoings). n.node) (map (node_doings W count) (range_with_len first many)) ≡ range_with_len first many
  numbered first zero = refl
  numbered first (suc many) = ap (λ rest. first ∷ rest) (numbered (first + 1) many)

  pub are_playable : ArePlayable W (doings_of W count)
  are_playable =
      record {
        numbers = numbered 0 W.settings.nodes;
        passes = every (λ (n : NodeDoings). length n.passes ≡ length (doings_of W count).heard) (λ i low. long known W count i low ∙ sym (mapped_long (added (heard_at W)) count));
        each = every (IsPlayable W (doings_of W count)) is_playable;
        from = subst (AllByRecursion (λ (m : Message). m.node.0 < W.settings.nodes)) (sym (all_heard_are known W count)) heards.from;
      }

  pub have_passes : HavePasses W (doings_of W count)
  have_passes = every (λ (n : NodeDoings). AllByRecursion (IsPass W) n.passes) each_pass

  pub have_offers : HaveOffers W (doings_of W count)
  have_offers = every (EndsPasses W) all_offers

  pub have_rounds : rounds_of W ≤ count → HaveRounds W (doings_of W count)
  have_rounds enough = let long = mapped_long (added (heard_at W)) count in omega (arith, enough, long)
