-- Where the parts of the nodes stand before anything was performed.
use Rattle.std.proofs.Common.{◌≡◌, ◌⊎◌, inl, inr, ℕ, zero, suc, ◌+◌, ◌*◌, ◌/◌, ◌<◌, Bool, true, ◌&&◌, nat_eq, List, [], ◌∷◌, ◌++◌, length, map, drop, Some, None, refl, sym, ap, subst, ◌∙◌, arith, slice_get, eqb-true, length-append, mul-le-mul_right}
use Rattle.hs_check_follow.proofs.Prelude.{and_parts, same_Some, range_with_len, ClientId, AreAsked, note_of, PlainClientBook, PlainJournal, Draw, NodeRun, node_start, run_start, log_at, Stays, pages_of, Operation, PlainWorkload, draws_at, operations_at, place_of, FollowedClient, AreFirst, ClientStands, ends_within, FollowedNodeStands, behind_at, hand_of, said_of, NodeAt, AllAt, FollowedAgent, FollowedCoordinator, FollowedNode}
use Rattle.std.proofs.lemmas.List.FromFn.{length-map-range_with_len}
use Rattle.std.proofs.lemmas.Nat.{div-mul-add, mod-mul-add}
use Rattle.hs_agent.specs.Runs as agents
use Rattle.hs_check_follow.specs.Asking.{MayBegin}
use Rattle.hs_law_journal.specs.Shape.{same_counts}
use Rattle.hs_law_outcome.specs.Outcomes.{client_at}
use Rattle.hs_law_outcome.proofs.Entries.{same_length, same_many}
use Rattle.hs_check_follow.specs.Sendings.{IsFollowedClient}
use Rattle.hs_check_follow.specs.Beginning.{IsNewFollowedCoordinator}

-- ---- lists

module _ {A : Type 0} (Is : ℕ → A → Type 0) where
  pub first_none : AreFirst Is 0 []
  first_none = record { many = refl; each = λ n item at. let never : None ≡ Some item = at in absurd cc }

  last_one : (items : List A) (x : A) (n : ℕ) (item : A) → slice_get (items ++ x ∷ []) n ≡ Some item → (slice_get items n ≡ Some item) ⊎ ((n ≡ length items) × (x ≡ item))
  last_one [] x zero item at = inr (refl, same_Some x item at)
  last_one [] x (suc n) item at = let never : None ≡ Some item = at in absurd cc
  last_one (y ∷ items) x zero item at = inl at
  last_one (y ∷ items) x (suc n) item at = elim (last_one items x n item at) [ inl h ↦ inl h | inr h ↦ inr (ap suc h.0, h.1) ]

  pub first_more : (count : ℕ) (items : List A) (x : A) → AreFirst Is count items → Is count x → AreFirst Is (count + 1) (items ++ x ∷ [])
  first_more count items x first is =
      record {
        many = let many = first.many in length-append items (x ∷ []) ∙ (omega (arith, many));
        each =
            λ n item at.
            elim (last_one items x n item at) as (λ _. Is n item) [
              | inl h ↦ first.each n item h
              | inr h ↦ subst (Is n) h.1 (subst (λ k. Is k x) (sym (h.0 ∙ first.many)) is)
            ];
      }

  -- as many as a list has, where the list is that
  pub first_all : (count : ℕ) (items items' : List A) → items' ≡ items → AreFirst Is count items → AreFirst Is count items'
  first_all count items items' same first = subst (AreFirst Is count) (sym same) first

module _ {A : Type 0} (f : ℕ → A) where
  pub get_map : (start count n : ℕ) (x : A) → slice_get (map f (range_with_len start count)) n ≡ Some x → f (start + n) ≡ x
  get_map start zero n x at = let never : None ≡ Some x = at in absurd cc
  get_map start (suc count) zero x at = let here : start + 0 ≡ start = omega arith in ap f here ∙ same_Some (f start) x at
  get_map start (suc count) (suc n) x at = let on : start + suc n ≡ (start + 1) + n = omega arith in ap f on ∙ get_map (start + 1) count n x at

-- ---- the shape

module _ (W : PlainWorkload) (J : PlainJournal) (may : MayBegin W J) where
  abbrev counts : Bool
  counts = same_counts (map length J.draws) (map (λ ops. length (pages_of W.settings.size ops)) W.clients)

  pub logs_are : length J.logs ≡ W.settings.nodes
  logs_are =
      let first = and_parts (nat_eq J.nodes W.settings.nodes && nat_eq J.clients W.settings.clients && nat_eq (length J.logs) W.settings.nodes) counts may.shape in
      eqb-true (length J.logs) W.settings.nodes (and_parts (nat_eq J.nodes W.settings.nodes && nat_eq J.clients W.settings.clients) (nat_eq (length J.logs) W.settings.nodes) first.0).1

  counted : counts ≡ true
  counted = (and_parts (nat_eq J.nodes W.settings.nodes && nat_eq J.clients W.settings.clients && nat_eq (length J.logs) W.settings.nodes) counts may.shape).1

  pub draws_many : length J.draws ≡ length W.clients
  draws_many = same_many J.draws W.clients W.settings.size counted

  pub draws_each : (place : ℕ) → length (draws_at J place) ≡ length (pages_of W.settings.size (operations_at W place))
  draws_each place = same_length J.draws W.clients W.settings.size place counted

  pub place_below : (n number : ℕ) → n < W.settings.nodes → number < W.settings.clients → place_of W.settings.clients n number < length W.clients
  place_below n number low below =
      let rows = mul-le-mul_right W.settings.clients low in
      let row : suc n * W.settings.clients ≡ n * W.settings.clients + W.settings.clients = omega arith in
      let count = may.valid.count in
      omega (arith, count, rows, row, below)

  -- ---- a client

  client_is : (each node number : ℕ) → number < each → (λ (c : ClientId). c) (record { node = node; number = number }) ≡ client_at each (node * each + number)
  client_is each node number low =
      ap (λ n. let c : ClientId = record { node = n; number = number } in c) (sym (div-mul-add node each number low))
      ∙ ap (λ k. let c : ClientId = record { node = (node * each + number) / each; number = k } in c) (sym (mod-mul-add node each number low))

  pub client_begins : (node number : ℕ) (client : ClientId) → client.node ≡ node → client.number ≡ number → node < W.settings.nodes → number < W.settings.clients → (ops : List Operation) → ops ≡ operations_at W (place_of W.settings.clients node number) → (draws : List Draw)
      → draws ≡ draws_at J (place_of W.settings.clients node number) → (s : FollowedClient) → IsFollowedClient W.settings client ops draws s → ClientStands W J node [] number s
  client_begins node number client node_is number_is there low ops ops_are draws draws_are s is =
      let each = W.settings.clients in
      let same : (λ (c : ClientId). c) client ≡ record { node = node; number = number } = λ i. record { node = node_is i; number = number_is i } in
      let is' = subst (λ (c : ClientId). IsFollowedClient W.settings c (operations_at W (place_of each node number)) (draws_at J (place_of each node number)) s) same
      (subst (λ (o : List Operation). IsFollowedClient W.settings client o (draws_at J (place_of each node number)) s) ops_are (subst (λ (d : List Draw). IsFollowedClient W.settings client ops d s) draws_are is)) in
      record {
        low = place_below node number there low;
        chunks = is'.chunks;
        left = record { crumbs = is'.crumbs; triggers = is'.triggers; found = is'.found };
        book = is'.book ∙ ap (λ (c : ClientId). let b : PlainClientBook = record { client = c; draws = draws_at J (place_of each node number); pages = map note_of (pages_of W.settings.size (operations_at W (place_of each node number))) } in b) (client_is each node number low);
      }

  -- ---- a node

  pub node_begins : (node : ℕ) (f : FollowedAgent) → AreFirst (λ number s. ClientStands W J node [] number s) W.settings.clients f.clients.items → agents.Follows f.agent (agents.new_run W.settings node) → f.said.items ≡ [] → f.asked ≡ 0 → f.gives.items ≡ []
      → (t : FollowedNode) → t.follower ≡ f → t.next ≡ 0 → t.hands.items ≡ [] → t.told.items ≡ [] → NodeAt W J (node_start W J node) t
  node_begins node f clients agent said asked gives t is next hands told =
      record {
        stands =
            subst (FollowedNodeStands W J (node_start W J node) []) (sym is)
            (record {
              sends = refl;
              clients = record { count = clients.many; each = clients.each };
              agent = record { buffers = []; follows = agent; comes = refl; sheets = refl; paged = tt };
              asked = asked;
              said = said;
              gives = ap (map (λ page. Some page)) (sym gives);
            });
        left = ap (λ k. drop k (log_at J node)) (sym next);
        notes =
            record {
              count = sym next;
              hands = hands ∙ ap (λ k. map (behind_at W.settings (node_start W J node) hand_of) (ends_within 0 k (log_at J node))) (sym next);
              told = told ∙ ap (λ k. map (behind_at W.settings (node_start W J node) said_of) (ends_within 0 k (log_at J node))) (sym next);
            };
      }

  -- ---- all

  start_at : (n : ℕ) (node : NodeRun) → slice_get (run_start W J).nodes n ≡ Some node → node ≡ node_start W J n
  start_at n node at =
      let here : 0 + n ≡ n = omega arith in
      sym (get_map (node_start W J) 0 W.settings.nodes n node at) ∙ ap (node_start W J) here

  pub all_begin : (nodes : List FollowedNode) (h : FollowedCoordinator) → AreFirst (λ n t. NodeAt W J (node_start W J n) t) W.settings.nodes nodes → IsNewFollowedCoordinator W.settings.nodes h → AllAt W J (run_start W J) nodes h
  all_begin nodes h first new =
      record {
        valid = may.valid;
        logs = logs_are;
        leads = Stays (run_start W J);
        nodes_are =
            record {
              count = first.many ∙ sym (length-map-range_with_len (node_start W J) 0 W.settings.nodes);
              many = first.many;
              each = λ n node t node_at t_at. subst (λ (r : NodeRun). NodeAt W J r t) (sym (start_at n node node_at)) (first.each n t t_at);
            };
        hearing =
            record {
              taken = new.taken;
              nodes = new.nodes_are;
              lists = new.asks.many;
              asks = λ n list at. new.asks.each n list at;
              many = new.counts.many;
              counts = λ n count at. new.counts.each n count at;
              left_is = ap (λ k. drop k J.told) (sym new.next);
              asked = subst (AreAsked W.settings.nodes [] []) (sym new.asked) tt;
            };
      }
