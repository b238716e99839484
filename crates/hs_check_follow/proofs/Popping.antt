-- Taking an item out of a client's queues: the step that takes it is ready, and all else stays.
use Rattle.std.proofs.Common.{◌≡◌, inl, inr, ℕ, suc, ◌+◌, ◌<◌, ◌≤◌, true, false, List, [], ◌∷◌, ◌++◌, length, drop, set, Option, Some, None, refl, sym, ap, subst, ◌∙◌, arith, option_map, eq-eqb, nat_eq, length-set}
use Rattle.hs_check_follow.proofs.Prelude.{length-map, nil_from_length, slice_get, MatchOption, option_and_then, get_set_cases, ClientId, IsFoundClient, IsFilled, Fills, MayFill, Filling, FollowedClient, PlainJournal, Step, Queue, Chunks, Crumbs, Triggers, takes, taken, NodeRun, taken_still, AgentEvent, Unleased, Operation, PlainWorkload, items_of, Sent, ClientSends, client_sends, draws_at, operations_at, place_of, ClientStands, ClientsStand, FillsAt, PopsChunk, own_operations}
use Rattle.hs_base.proofs.Ranges.{map_range_from}
use Rattle.hs_records.specs.Books.{client_book_of}
use Rattle.hs_records.specs.declared.journal.Step.TheVariants as steps
use Rattle.hs_law_journal.specs.Following.{next_of}
use Rattle.hs_client.specs.Sending.{node_sends}
use Rattle.hs_check_follow.specs.Clients.{IsLeft, MayFillNext, MayFillAny, SameBeside}
use Rattle.hs_check_follow.proofs.QueuesLeft.{taken_once, drop_next, drop_none, range_past}

-- ---- one queue

-- the next of some items, and what is left behind it
pub record IsNext {A : Type 0} (items : List (Sent A)) (k : ℕ) (x : A) (queue : List A) : Type 0 where
  pub item : Sent A
  pub at : slice_get items k ≡ Some item
  pub is : item.item ≡ x
  pub rest : queue ≡ items_of (drop (suc k) items)

pub next_item : {A : Type 0} (items : List (Sent A)) (k : ℕ) (x : A) (queue : List A) → x ∷ queue ≡ items_of (drop k items) → IsNext items k x queue
next_item {A = A} items k x queue e = go (drop k items) refl e
  where
    go : (left : List (Sent A)) → drop k items ≡ left → x ∷ queue ≡ items_of left → IsNext items k x queue
    go [] d e = absurd cc
    go (item ∷ left) d e =
        let next = drop_next items k item left d in
        let first : item.item ≡ x = cc in
        let others : queue ≡ items_of left = cc in
        record { item = item; at = next.0; is = first; rest = others ∙ ap items_of (sym next.1) }

pub none_left : {A : Type 0} (items : List (Sent A)) (k : ℕ) → [] ≡ items_of (drop k items) → slice_get items k ≡ None
none_left items k e =
    let long = length-map (drop k items) (λ item. item.item) in
    let none = ap length e in
    drop_none items k (nil_from_length (drop k items) (omega (arith, long, none)))

-- ---- chunks

-- the operations of a client whose chunks these are
own_is : (W : PlainWorkload) (J : PlainJournal) (node client k : ℕ) (f : Filling) → FillsAt W J node client k f → own_operations W f ≡ operations_at W (place_of W.settings.clients node client)
own_is W J node client k f fills = ap (λ (c : ClientId). operations_at W (place_of W.settings.clients c.node c.number)) fills.client_is

may_fill : (W : PlainWorkload) (J : PlainJournal) (node : ℕ) (log : List Step) (client : ℕ) (s : FollowedClient) → ClientStands W J node log client s → MayFillNext W s
may_fill W J node log client s stands =
    let place = place_of W.settings.clients node client in
    let c : ClientId = record { node = node; number = client } in
    record {
      low = subst (λ (c : ClientId). place_of W.settings.clients c.node c.number < length W.clients) (sym stands.chunks.client_is) stands.low;
      may =
          subst (λ (ops : List Operation). MayFill W.settings.autos ops s.chunks) (sym (own_is W J node client (taken (Chunks client) log) s.chunks stands.chunks))
          (W.settings, c, draws_at J place, taken (Chunks client) log, refl, stands.chunks);
    }

pub may_fill_any : (W : PlainWorkload) (J : PlainJournal) (node : ℕ) (log : List Step) (clients : List FollowedClient) → ClientsStand W J node log clients → MayFillAny W clients
may_fill_any W J node log clients stand = λ client s at. may_fill W J node log client s (stand.each client s at)

-- the next chunk of a client, or that there is none
abbrev pub FillsThere : PlainWorkload → PlainJournal → (node client k : ℕ) → Option Unleased → Filling → Type 0
FillsThere W J node client k answer f =
    MatchOption answer ((slice_get (client_sends W J node client).chunks k ≡ None) × FillsAt W J node client k f)
    (λ buffer. IsFilled W.settings (record { node = node; number = client }) (operations_at W (place_of W.settings.clients node client)) (draws_at J (place_of W.settings.clients node client)) k buffer.chunk
    × FillsAt W J node client (k + 1) f)

pub fills_there : (W : PlainWorkload) (J : PlainJournal) (node : ℕ) (log : List Step) (client : ℕ) (s : FollowedClient) (answer : Option Unleased) (s' : FollowedClient) → ClientStands W J node log client s → PopsChunk W s answer s'
    → FillsThere W J node client (taken (Chunks client) log) answer s'.chunks
fills_there W J node log client s answer s' stands pops =
    let k = taken (Chunks client) log in
    let c : ClientId = record { node = node; number = client } in
    subst (λ (ops : List Operation). Fills W.settings.autos ops s.chunks answer s'.chunks) (own_is W J node client k s.chunks stands.chunks) pops.fills W.settings c (draws_at J (place_of W.settings.clients node client)) k refl stands.chunks

-- ---- clients

module _ (W : PlainWorkload) (J : PlainJournal) (node : ℕ) (log : List Step) where
  -- a client where a step takes as much from each of its queues
  pub client_as : (step : Step) (client : ℕ) (s : FollowedClient) → takes (Chunks client) step ≡ false → takes (Crumbs client) step ≡ false → takes (Triggers client) step ≡ false → ClientStands W J node log client s
      → ClientStands W J node (log ++ step ∷ []) client s
  client_as step client s a b c stands =
      let sends = client_sends W J node client in
      record {
        low = stands.low;
        chunks = subst (λ k. FillsAt W J node client k s.chunks) (sym (taken_still (Chunks client) log step a)) stands.chunks;
        left =
            subst (λ l. IsLeft sends l (taken (Triggers client) (log ++ step ∷ [])) s) (sym (taken_still (Crumbs client) log step b))
            (subst (λ m. IsLeft sends (taken (Crumbs client) log) m s) (sym (taken_still (Triggers client) log step c)) stands.left);
        book = stands.book;
      }

  -- all clients where a step takes from none
  pub clients_as : (step : Step) (clients : List FollowedClient) → ((client : ℕ) → (takes (Chunks client) step ≡ false) × (takes (Crumbs client) step ≡ false) × (takes (Triggers client) step ≡ false)) → ClientsStand W J node log clients
      → ClientsStand W J node (log ++ step ∷ []) clients
  clients_as step clients none stand =
      record {
        count = stand.count;
        each = λ client s at. client_as step client s (none client).0 (none client).1 (none client).2 (stand.each client s at);
      }

  -- one client moved, and a step takes from no other
  pub one_moves : (step : Step) (client : ℕ) (clients : List FollowedClient) (before now : FollowedClient) → slice_get clients client ≡ Some before
      → ((other : ℕ) → (client ≡ other → ⊥) → (takes (Chunks other) step ≡ false) × (takes (Crumbs other) step ≡ false) × (takes (Triggers other) step ≡ false)) → ClientStands W J node (log ++ step ∷ []) client now
      → ClientsStand W J node log clients → ClientsStand W J node (log ++ step ∷ []) (set clients client now)
  one_moves step client clients before now stood others moved stand =
      record {
        count = length-set clients client now ∙ stand.count;
        each =
            λ other s at.
            elim (get_set_cases clients client other before now s stood at) [
              | inl h ↦ subst (λ (s : FollowedClient). ClientStands W J node (log ++ step ∷ []) other s) h.1 (subst (λ c. ClientStands W J node (log ++ step ∷ []) c now) h.0 moved)
              | inr h ↦ let same = others other h.0 in client_as step other s same.0 same.1 same.2 (stand.each other s h.1)
            ];
      }

  -- one client became another that has the same
  pub one_same : (client : ℕ) (clients : List FollowedClient) (before now : FollowedClient) → slice_get clients client ≡ Some before → ClientStands W J node log client now → ClientsStand W J node log clients
      → ClientsStand W J node log (set clients client now)
  one_same client clients before now stood same stand =
      record {
        count = length-set clients client now ∙ stand.count;
        each =
            λ other s at.
            elim (get_set_cases clients client other before now s stood at) [
              | inl h ↦ subst (λ (s : FollowedClient). ClientStands W J node log other s) h.1 (subst (λ c. ClientStands W J node log c now) h.0 same)
              | inr h ↦ stand.each other s h.1
            ];
      }

  pub client_same : (client : ℕ) (s s' : FollowedClient) → FillsAt W J node client (taken (Chunks client) log) s'.chunks → s'.crumbs.items ≡ s.crumbs.items → s'.triggers.items ≡ s.triggers.items → SameBeside s s' → ClientStands W J node log client s
      → ClientStands W J node log client s'
  client_same client s s' chunks crumbs triggers beside stands =
      let sends = client_sends W J node client in
      record {
        low = stands.low;
        chunks = chunks;
        left =
            record {
              crumbs = crumbs ∙ stands.left.crumbs;
              triggers = triggers ∙ stands.left.triggers;
              found = subst (λ f. IsFoundClient sends f) (sym beside.found) stands.left.found;
            };
        book = ap client_book_of beside.book ∙ stands.book;
      }

  module _ (client : ℕ) (s s' : FollowedClient) (stands : ClientStands W J node log client s) where
    own : nat_eq client client ≡ true
    own = eq-eqb client client refl

    abbrev sends : ClientSends
    sends = client_sends W J node client

    pub chunk_gone : FillsAt W J node client (taken (Chunks client) log + 1) s'.chunks → s'.crumbs ≡ s.crumbs → s'.triggers ≡ s.triggers → SameBeside s s'
        → ClientStands W J node (log ++ steps.Chunk client ∷ []) client s'
    chunk_gone rest crumbs triggers beside =
        let step = steps.Chunk client in
        let k = taken_once (Chunks client) log step own in
        let l = taken_still (Crumbs client) log step refl in
        let m = taken_still (Triggers client) log step refl in
        record {
          low = stands.low;
          chunks = let more : taken (Chunks client) log + 1 ≡ taken (Chunks client) (log ++ step ∷ []) = omega (arith, k) in subst (λ k. FillsAt W J node client k s'.chunks) more rest;
          left =
              record {
                crumbs = ap (λ q. q.items) crumbs ∙ stands.left.crumbs ∙ ap (λ l. items_of (drop l sends.crumbs)) (sym l);
                triggers = ap (λ q. q.items) triggers ∙ stands.left.triggers ∙ ap (λ m. items_of (drop m sends.triggers)) (sym m);
                found = subst (λ f. IsFoundClient sends f) (sym beside.found) stands.left.found;
              };
          book = ap client_book_of beside.book ∙ stands.book;
        }

    pub crumb_gone : s'.crumbs.items ≡ items_of (drop (suc (taken (Crumbs client) log)) sends.crumbs) → s'.chunks ≡ s.chunks → s'.triggers ≡ s.triggers → SameBeside s s' → ClientStands W J node (log ++ steps.Crumb client ∷ []) client s'
    crumb_gone rest chunks triggers beside =
        let step = steps.Crumb client in
        let k = taken_still (Chunks client) log step refl in
        let l = taken_once (Crumbs client) log step own in
        let m = taken_still (Triggers client) log step refl in
        record {
          low = stands.low;
          chunks = subst (λ k. FillsAt W J node client k s'.chunks) (sym k) (subst (λ (f : Filling). FillsAt W J node client (taken (Chunks client) log) f) (sym chunks) stands.chunks);
          left =
              record {
                crumbs = rest ∙ ap (λ l. items_of (drop l sends.crumbs)) (sym l);
                triggers = ap (λ q. q.items) triggers ∙ stands.left.triggers ∙ ap (λ m. items_of (drop m sends.triggers)) (sym m);
                found = subst (λ f. IsFoundClient sends f) (sym beside.found) stands.left.found;
              };
          book = ap client_book_of beside.book ∙ stands.book;
        }

    pub trigger_gone : s'.triggers.items ≡ items_of (drop (suc (taken (Triggers client) log)) sends.triggers) → s'.chunks ≡ s.chunks → s'.crumbs ≡ s.crumbs → SameBeside s s'
        → ClientStands W J node (log ++ steps.Trigger client ∷ []) client s'
    trigger_gone rest chunks crumbs beside =
        let step = steps.Trigger client in
        let k = taken_still (Chunks client) log step refl in
        let l = taken_still (Crumbs client) log step refl in
        let m = taken_once (Triggers client) log step own in
        record {
          low = stands.low;
          chunks = subst (λ k. FillsAt W J node client k s'.chunks) (sym k) (subst (λ (f : Filling). FillsAt W J node client (taken (Chunks client) log) f) (sym chunks) stands.chunks);
          left =
              record {
                crumbs = ap (λ q. q.items) crumbs ∙ stands.left.crumbs ∙ ap (λ l. items_of (drop l sends.crumbs)) (sym l);
                triggers = rest ∙ ap (λ m. items_of (drop m sends.triggers)) (sym m);
                found = subst (λ f. IsFoundClient sends f) (sym beside.found) stands.left.found;
              };
          book = ap client_book_of beside.book ∙ stands.book;
        }

-- ---- events

module _ (W : PlainWorkload) (J : PlainJournal) (run : NodeRun) (sends_are : run.sends ≡ node_sends W J run.node) where
  pub sends_there : (client : ℕ) → client < W.settings.clients → slice_get run.sends client ≡ Some (client_sends W J run.node client)
  sends_there client low =
      let zero_on : 0 + client ≡ client = omega arith in
      ap (λ (s : List ClientSends). slice_get s client) sends_are ∙ map_range_from (client_sends W J run.node) 0 W.settings.clients client low ∙ ap (λ c. Some (client_sends W J run.node c)) zero_on

  pub no_sends : (client : ℕ) → W.settings.clients ≤ client → slice_get run.sends client ≡ None
  no_sends client high = ap (λ (s : List ClientSends). slice_get s client) sends_are ∙ range_past (client_sends W J run.node) 0 W.settings.clients client high

  module _ {A : Type 0} (f : A → AgentEvent) (queue : Queue) (pick : ClientSends → List (Sent A)) (client : ℕ) where
    pub event_there : (item : Sent A) → client < W.settings.clients → slice_get (pick (client_sends W J run.node client)) (taken queue run.state.log) ≡ Some item
        → option_and_then (λ (s : ClientSends). option_map f (next_of queue run.state (pick s))) (slice_get run.sends client) ≡ Some (f item.item)
    event_there item low found =
        ap (option_and_then (λ (s : ClientSends). option_map f (next_of queue run.state (pick s)))) (sends_there client low) ∙ ap (λ (o : Option (Sent A)). option_map f (option_map (λ (i : Sent A). i.item) o)) found

    pub event_none : client < W.settings.clients → slice_get (pick (client_sends W J run.node client)) (taken queue run.state.log) ≡ None
        → option_and_then (λ (s : ClientSends). option_map f (next_of queue run.state (pick s))) (slice_get run.sends client) ≡ None
    event_none low found =
        ap (option_and_then (λ (s : ClientSends). option_map f (next_of queue run.state (pick s)))) (sends_there client low) ∙ ap (λ (o : Option (Sent A)). option_map f (option_map (λ (i : Sent A). i.item) o)) found

    pub event_past : W.settings.clients ≤ client → option_and_then (λ (s : ClientSends). option_map f (next_of queue run.state (pick s))) (slice_get run.sends client) ≡ None
    event_past high = ap (option_and_then (λ (s : ClientSends). option_map f (next_of queue run.state (pick s)))) (no_sends client high)
