-- The schedule's agents keep pace with what is sent and asked, and the coordinator with what is said.
use Rattle.std.proofs.Common.{◌≡◌, ℕ, zero, suc, ◌+◌, ◌-◌, ◌*◌, ◌/◌, ◌<◌, ◌≤◌, min, Bool, true, false, cond, List, [], ◌∷◌, ◌++◌, length, fold, refl, sym, ap, subst, ◌∙◌, Some, arith, slice_get, count_by, nat_lt, take, drop, set, unwrap_or, append-nil, append_assoc, take-append-drop, length-take}
use Rattle.hs_law_run.proofs.Prelude.{ends_at, place_low, flat_map, range_with_len, map-append, ClientId, MAX_TAKEN, Messages, Draw, PlainJournal, noted_as, AgentState, AgentEvent, pages_of, Operation, PlainWorkload, drawn_pages, Sent, ClientSends, client_sends, sent_within, sent_chunks, operations_at, draws_at, place_of, IsValid, rounds_of, Queue, Chunks, Crumbs, Triggers, Asks, takes, taken, asks_to, is_from, followed, IsRunnable, Machine, done_at, draws_in, client_goes, clients_go, count_append, Known, pass_steps}
use Rattle.hs_law_journal.proofs.ItemsTaken.{taken_chunks, taken_crumbs, taken_triggers, taken_asks, own_log}
use Rattle.hs_law_journal.specs.Doings.{events_in, steps_of, asks_in, chunk_in, crumb_in, trigger_in, ask_in, journal_of}
use Rattle.hs_law_run.proofs.Hears.{more, heard_now, heard_more}
use Rattle.hs_law_run.proofs.Items.{chunks_taken, crumbs_taken, triggers_taken, asks_taken}
use Rattle.hs_law_run.proofs.Passes.{pass_at, events_grow, gone_heard}
use Rattle.hs_law_run.proofs.Stages.{gone_reached}
use Rattle.hs_law_run.proofs.Standing.{kept}
use Rattle.hs_law_run.proofs.Told.{heard_are, events_are, long, stands_at, state_there, said_rises, journal_is}
use Rattle.hs_law_run.specs.Parts.{next_pages}
use Rattle.hs_law_run.specs.Told.{stage, gone, events_at, heard_at, node_doings, doings_of}
use Rattle.hs_law_run.proofs.Queues.{within_all}
use Rattle.hs_law_run.specs.Facts.{IsToldInRounds, TakesInPace, AsksInPace}
use Rattle.hs_client.specs.Draws.{count_started}
use Rattle.hs_client.specs.SoFar.{FirstOperationsSend, FirstChunksAreSent}
use Rattle.hs_records.specs.Records.{AreBracketed}
use Rattle.hs_law_run.proofs.Gone as gone_is
use Rattle.hs_law_run.proofs.Standing.{whole, held_at}
use Rattle.hs_law_run.proofs.Valid.{valid_workloads_run}
use Rattle.hs_law_run.proofs.PassFrom.{PassFrom}
use Rattle.hs_law_run.proofs.Takes.{gives}
use Rattle.hs_base.proofs.Ranges.{map_range_at}
use Rattle.hs_client.proofs.Within.{all_chunks, all_crumbs, all_triggers}

-- ---- draws only come behind others

pub record DrawsMore (J K : PlainJournal) (q : ℕ) : Type 0 where
  pub more : List Draw
  pub is : draws_at K q ≡ draws_at J q ++ more

set_more : {X : Type 0} (lists : List (List X)) (p q : ℕ) (new : List X)
    → (more : List X) × (unwrap_or (slice_get (set lists p (unwrap_or (slice_get lists p) [] ++ new)) q) [] ≡ unwrap_or (slice_get lists q) [] ++ more)
set_more [] p q new = ([], refl)
set_more (xs ∷ lists) zero zero new = (new, refl)
set_more (xs ∷ lists) zero (suc q) new = ([], sym (append-nil (unwrap_or (slice_get lists q) [])))
set_more (xs ∷ lists) (suc p) zero new = ([], sym (append-nil xs))
set_more (xs ∷ lists) (suc p) (suc q) new = set_more lists p q new

module _ (W : PlainWorkload) (q : ℕ) where
  more_more : (J K L : PlainJournal) → DrawsMore J K q → DrawsMore K L q → DrawsMore J L q
  more_more J K L a b = record { more = a.more ++ b.more; is = b.is ∙ ap (λ (front : List Draw). front ++ b.more) a.is ∙ append_assoc (draws_at J q) a.more b.more }

  none_more : (J : PlainJournal) → DrawsMore J J q
  none_more J = record { more = []; is = sym (append-nil (draws_at J q)) }

  client_more : (m : Machine) (place : ℕ) → DrawsMore m.journal (client_goes W m place).journal q
  client_more m place = let s = set_more m.journal.draws place q (draws_in W m (place / W.settings.clients) (next_pages W m place)) in record { more = s.0; is = s.1 }

  clients_more : (places : List ℕ) (m : Machine) → DrawsMore m.journal (fold (client_goes W) m places).journal q
  clients_more [] m = none_more m.journal
  clients_more (place ∷ places) m = more_more m.journal (client_goes W m place).journal (fold (client_goes W) (client_goes W m place) places).journal (client_more m place) (clients_more places (client_goes W m place))

  gone_more : (m : Machine) (b : Bool) → DrawsMore m.journal (cond b (clients_go W m) m).journal q
  gone_more m true = clients_more (range_with_len 0 (length W.clients)) m
  gone_more m false = none_more m.journal

  stages_more : (n k : ℕ) → DrawsMore (stage W k).journal (stage W (k + n)).journal q
  stages_more zero k = let same : k ≡ k + 0 = omega arith in subst (λ j. DrawsMore (stage W k).journal (stage W j).journal q) same (none_more (stage W k).journal)
  stages_more (suc n) k =
      let same : suc (k + n) ≡ k + suc n = omega arith in
      let g = gone_more (stage W (k + n)) (nat_lt (k + n) (rounds_of W)) in
      subst (λ j. DrawsMore (stage W k).journal (stage W j).journal q) same
      (more_more (stage W k).journal (stage W (k + n)).journal (stage W (suc (k + n))).journal (stages_more n k) (record { more = g.more; is = g.is }))

  -- from where the clients have gone
  pub later_more : (k count : ℕ) → k < count → DrawsMore (gone W k).journal (stage W count).journal q
  later_more k count low =
      let same : suc k + (count - suc k) ≡ count = omega (arith, low) in
      let s = stages_more (count - suc k) (suc k) in
      subst (λ j. DrawsMore (gone W k).journal (stage W j).journal q) same (record { more = s.more; is = s.is })

-- ---- a queue

module _ (known : Known) (first_sent : FirstOperationsSend) (front_sent : FirstChunksAreSent) (W : PlainWorkload) (valid : IsValid W) (count : ℕ) (i : ℕ) (low : i < W.settings.nodes) where
  abbrev J : PlainJournal
  J = (stage W count).journal

  runs : IsRunnable W
  runs = valid_workloads_run W valid

  abbrev from_at : (k : ℕ) → PassFrom known W (gone W k) i (pass_at known W k i low).later
  from_at k = (pass_at known W k i low).from

  before_log : (k : ℕ) → (from_at k).node.state.log ≡ steps_of (events_at W i k)
  before_log k =
      let a = pass_at known W k i low in
      ap (λ (state : AgentState). state.log) (held_at known W (gone W k) (gone_reached W k) i a.from.node a.from.stands).comes ∙ own_log known.adds W.settings a.from.node.node a.from.node.events ∙ ap steps_of (sym a.was)

  -- how much more of a queue is taken in a pass
  module _ {A : Type 0} (queue : Queue) (f : AgentEvent → List A) (counts : (events : List AgentEvent) → taken queue (steps_of events) ≡ length (flat_map f events)) where
    taken_then : (k : ℕ) → length (flat_map f (events_at W i (suc k)))
        ≡ length (flat_map f (events_at W i k)) + taken queue (pass_steps W (gone W k) (followed W (gone W k).journal) (from_at k).node ++ gives (range_with_len (from_at k).from (from_at k).count))
    taken_then k =
        let a = from_at k in
        let grows = ap (taken queue) (ap steps_of (events_grow known W k i low)) in
        let parts = ap (taken queue) (map-append noted_as (events_at W i k) a.new) in
        let both = count_append (takes queue) (steps_of (events_at W i k)) (steps_of a.new) in
        let now = counts (events_at W i (suc k)) in
        let was = counts (events_at W i k) in
        let noted = ap (taken queue) a.noted in
        omega (arith, grows, parts, both, now, was, noted)

    taken_there : (k : ℕ) → k ≤ count → length (flat_map f (events_in (node_doings W count i) k)) ≡ length (flat_map f (events_at W i k))
    taken_there k few = ap (λ (events : List AgentEvent). length (flat_map f events)) (events_are known W count i low k few)

  module _ (client : ℕ) (few : client < W.settings.clients) where
    abbrev place : ℕ
    place = place_of W.settings.clients i client

    there : (k : ℕ) → slice_get (from_at k).node.sends client ≡ Some (client_sends W (gone W k).journal i client)
    there k = ap (λ (all : List ClientSends). slice_get all client) (from_at k).sends ∙ map_range_at (client_sends W (gone W k).journal i) W.settings.clients client few

    -- the client is as far as the round lets it be
    done_is : (k : ℕ) → done_at (gone W k) (place_of W.settings.clients (from_at k).node.node client) ≡ min (suc k * W.settings.stride) (length (operations_at W place))
    done_is k = ap (λ n. done_at (gone W k) (place_of W.settings.clients n client)) (from_at k).number ∙ gone_is.done_is known W runs.laid place (place_low W valid i client low few) (suc k)

    in_rounds : {A B : Type 0} (queue : Queue) (f : AgentEvent → List B) (part : ClientSends → List (Sent A)) → ((events : List AgentEvent) → taken queue (steps_of events) ≡ length (flat_map f events))
        → ((k : ℕ) → min (length (sent_within (done_at (gone W k) (place_of W.settings.clients (from_at k).node.node client)) (part (client_sends W (gone W k).journal i client))) - taken queue (from_at k).node.state.log) MAX_TAKEN
        ≤ taken queue (pass_steps W (gone W k) (followed W (gone W k).journal) (from_at k).node ++ gives (range_with_len (from_at k).from (from_at k).count)))
        → ((k : ℕ) → k < count
        → length (sent_within (min (suc k * W.settings.stride) (length (operations_at W place))) (part (client_sends W (gone W k).journal i client)))
        ≡ length (sent_within (min (suc k * W.settings.stride) (length (operations_at W place))) (part (client_sends W J i client))))
        → sent_within (length (operations_at W place)) (part (client_sends W J i client)) ≡ part (client_sends W J i client)
        → IsToldInRounds W.settings (length (node_doings W count i).passes) (λ k. length (flat_map f (events_in (node_doings W count i) k))) (λ k. length (sent_within (k * W.settings.stride) (part (client_sends W J i client))))
    in_rounds queue f part counts least same whole =
        record {
          told = λ k. length (flat_map f (events_in (node_doings W count i) k));
          hears = λ k below.
              let all = long known W count i low in
              let a = taken_there queue f counts k (omega (arith, below, all)) in
              let b = taken_there queue f counts (suc k) (omega (arith, below, all)) in
              let grows = taken_then queue f counts k in
              let some = least k in
              let done = ap (λ n. length (sent_within n (part (client_sends W (gone W k).journal i client)))) (done_is k) in
              let items = same k (omega (arith, below, all)) in
              let round = ap length (within_all (suc k * W.settings.stride) (length (operations_at W place)) (part (client_sends W J i client)) whole) in
              let log = ap (taken queue) (before_log k) in
              let was = counts (events_at W i k) in
              omega (arith, a, b, grows, some, done, items, round, log, was);
          takes = λ k below.
              let all = long known W count i low in
              let a = taken_there queue f counts k (omega (arith, below, all)) in
              let b = taken_there queue f counts (suc k) (omega (arith, below, all)) in
              let grows = taken_then queue f counts k in
              omega (arith, a, b, grows);
        }

    -- what a client sends of chunks by some round is known when that round's clients have gone
    abbrev ops : List Operation
    ops = operations_at W (place_of W.settings.clients i client)

    abbrev owner : ClientId
    owner = record { node = i; number = client }

    chunks_same : (k : ℕ) → k < count → length (sent_within (min (suc k * W.settings.stride) (length ops)) (client_sends W (gone W k).journal i client).chunks) ≡ length (sent_within (min (suc k * W.settings.stride) (length ops)) (client_sends W J i client).chunks)
    chunks_same k below =
        let m = gone W k in
        let D = draws_at m.journal place in
        let most = min (suc k * W.settings.stride) (length ops) in
        let front = take most ops in
        let rest = drop most ops in
        let parts : front ++ rest ≡ ops = take-append-drop most ops in
        let taken_long = length-take most ops in
        let long : length front ≡ most = omega (arith, taken_long) in
        let more = later_more W place k count below in
        let bracketed : AreBracketed false (front ++ rest) = subst (AreBracketed false) (sym parts) (ends_at W.clients place runs.laid.ends) in
        let w = whole known W runs.laid m (gone_reached W k) in
        let in_all = place_low W valid i client low few in
        let at = (from_at k).number in
        let done = ap (λ n. done_at m (place_of W.settings.clients n client)) (sym at) ∙ done_is k in
        let drawn : length D ≡ length (pages_of W.settings.size front) =
        w.drawn place in_all ∙ ap (λ n. count_started W.settings.size ops n) (done ∙ sym long) ∙ ap (λ all. count_started W.settings.size all (length front)) (sym parts)
        ∙ (first_sent W.settings.size front rest runs.size bracketed).started
        in
        let a = front_sent W.settings.size owner front rest D more.more runs.size bracketed drawn in
        let b = front_sent W.settings.size owner front rest D [] runs.size bracketed drawn in
        ap length
        (ap (λ n. sent_within n (sent_chunks (drawn_pages W.settings.size owner ops D))) (sym long)
        ∙ ap (λ all. sent_within (length front) (sent_chunks (drawn_pages W.settings.size owner all D))) (sym parts)
        ∙ ap (λ draws. sent_within (length front) (sent_chunks (drawn_pages W.settings.size owner (front ++ rest) draws))) (sym (append-nil D))
        ∙ b ∙ sym a
        ∙ ap (λ draws. sent_within (length front) (sent_chunks (drawn_pages W.settings.size owner (front ++ rest) draws))) (sym more.is)
        ∙ ap (λ all. sent_within (length front) (sent_chunks (drawn_pages W.settings.size owner all (draws_at J place)))) parts
        ∙ ap (λ n. sent_within n (sent_chunks (drawn_pages W.settings.size owner ops (draws_at J place)))) long)

    takes_all : TakesInPace W J (node_doings W count i) client
    takes_all =
        let bracketed = ends_at W.clients place runs.laid.ends in
        record {
          chunks =
              in_rounds (Chunks client) (chunk_in client) (λ (s : ClientSends). s.chunks) (taken_chunks client)
              (λ k. chunks_taken W (gone W k) (from_at k).node client (client_sends W (gone W k).journal i client) (there k) (range_with_len (from_at k).from (from_at k).count)) chunks_same
              (all_chunks known.timely W.settings.size owner ops (draws_at J place) runs.size bracketed);
          crumbs =
              in_rounds (Crumbs client) (crumb_in client) (λ (s : ClientSends). s.crumbs) (taken_crumbs client)
              (λ k. crumbs_taken W (gone W k) (from_at k).node client (client_sends W (gone W k).journal i client) (there k) (range_with_len (from_at k).from (from_at k).count)) (λ k below. refl) (all_crumbs ops);
          triggers =
              in_rounds (Triggers client) (trigger_in client) (λ (s : ClientSends). s.triggers) (taken_triggers client)
              (λ k. triggers_taken W (gone W k) (from_at k).node client (client_sends W (gone W k).journal i client) (there k) (range_with_len (from_at k).from (from_at k).count)) (λ k below. refl) (all_triggers W.settings.autos ops);
        }

  pub takes_in_pace : (client : ℕ) → client < W.settings.clients → TakesInPace W (journal_of W (doings_of W count)) (node_doings W count i) client
  takes_in_pace client few = subst (λ (J : PlainJournal). TakesInPace W J (node_doings W count i) client) (sym (journal_is known W count)) (takes_all client few)

  -- ---- asks and messages

  asks_then : (k : ℕ) → min (length (asks_to i (heard_at W k))) (length (asks_in (events_at W i k)) + MAX_TAKEN) ≤ length (asks_in (events_at W i (suc k)))
  asks_then k =
      let a = from_at k in
      let least = asks_taken W (gone W k) a.node (range_with_len a.from a.count) in
      let grows = taken_then Asks ask_in taken_asks k in
      let log = ap (taken Asks) (before_log k) in
      let was = taken_asks (events_at W i k) in
      let heard = ap (λ (heard : Messages). length (asks_to a.node.node heard)) (gone_heard known W k) in
      let number = ap (λ n. length (asks_to n (heard_at W k))) a.number in
      omega (arith, least, grows, log, was, heard, number)

  heard_then : (k : ℕ) → min (count_by (is_from (record { 0 = i })) (heard_at W k) + MAX_TAKEN) (length (stands_at known W count i low k).run.state.said) ≤ count_by (is_from (record { 0 = i })) (heard_at W (suc k))
  heard_then k =
      let g = kept known W (gone W k) (gone_reached W k) in
      let was = stands_at known W count i low k in
      let now = stands_at known W count i low (suc k) in
      let new = heard_more known W (gone W k) g i now.run now.there in
      let whole = ap (count_by (is_from (record { 0 = i }))) (heard_now known W (gone W k) g) in
      let both = count_append (is_from (record { 0 = i })) (followed W (gone W k).journal).heard (more known W (gone W k) g) in
      let heard = ap (count_by (is_from (record { 0 = i }))) (gone_heard known W k) in
      let rises = said_rises known W count i low k in
      omega (arith, new, whole, both, heard, rises)

  pub asks_in_pace : AsksInPace W (doings_of W count) (node_doings W count i)
  asks_in_pace =
      record {
        asks = λ k few.
            let n = long known W count i low in
            let h = ap (λ heard. length (asks_to i heard)) (heard_are known W count k (omega (arith, few, n))) in
            let a = taken_there Asks ask_in taken_asks k (omega (arith, few, n)) in
            let b = taken_there Asks ask_in taken_asks (suc k) (omega (arith, few, n)) in
            let is = asks_then k in
            omega (arith, h, a, b, is);
        heard = λ k few.
            let n = long known W count i low in
            let h = ap (count_by (is_from (record { 0 = i }))) (heard_are known W count k (omega (arith, few, n))) in
            let g = ap (count_by (is_from (record { 0 = i }))) (heard_are known W count (suc k) (omega (arith, few, n))) in
            let t = ap (λ (state : AgentState). length state.said) (state_there known W count i low k (omega (arith, few, n))) in
            let is = heard_then k in
            omega (arith, h, g, t, is);
      }
