-- The workload that is made of a seed and a number of requests. Each request is drawn from the words behind the requests
-- before it: its trace, the client that serves it on every node, how deep it goes, and then what it does at each node. The
-- operations of a client are those that the requests leave it, in the order of the requests.
use Rattle.std.specs.Prelude.{◌≡◌, ℕ, ◌+◌, ◌*◌, ◌/◌, ◌%◌, ◌==◌, nat_lt, List, [], ◌∷◌, ◌++◌, slice_index, slice_index_or, if◌then◌else◌, refl}
use Rattle.std.specs.List.{flat_map}
use Rattle.hs_base.specs.declared.ids.TraceId.{TraceId}
use Rattle.hs_base.specs.declared.settings.AutoRule.TheVariants.{Exception, Percentile}
use Rattle.hs_records.specs.Plain.{Operation, Begin, Point, Crumb, End, Sample, PlainSettings, PlainWorkload}
use Rattle.hs_make.specs.Words.{Words, seeded_words, from, behind_parts, each_below}

-- ---- the points of a request at a node

-- a payload: how many bytes, and then a word for each
abbrev pub payload_length : Words → ℕ
payload_length words = words 0 % 41

abbrev pub bytes_at : ℕ → Words → List ℕ
bytes_at n words = each_below n (λ i. words (1 + i) % 256)

abbrev pub payload_at : Words → List ℕ
payload_at words = bytes_at (payload_length words) words

abbrev pub behind_payload : Words → Words
behind_payload words = from (1 + payload_length words) words

-- how many points, and then the payload of each; their moments rise by one
abbrev pub point_count : Words → ℕ
point_count words = 1 + words 0 % 4

abbrev pub behind_points : ℕ → Words → Words
behind_points n words = behind_parts (λ _. behind_payload) n (from 1 words)

abbrev pub first_points : (n moment : ℕ) → Words → List Operation
first_points n moment words = each_below n (λ i. Point (moment + i) (payload_at (behind_points i words)))

abbrev pub points_at : (moment : ℕ) → Words → List Operation
points_at moment words = first_points (point_count words) moment words

-- ---- the samples of a request, which it gives at its first node

-- how long it took, and whether it failed, as one in fifty does
abbrev pub samples_at : ℕ → Words → List Operation
samples_at request words =
    Sample (1000 * request + 500) 1 (1000 + words 0 % 1000) ∷ (if words 1 % 50 == 0 then Sample (1000 * request + 501) 0 1 ∷ [] else [])

-- ---- a request at a node

-- what stands behind the points of a request that goes on to so many nodes: a crumb where it goes on, and the samples at
-- the first node
abbrev pub after_points : (request depth node : ℕ) → Words → List Operation
after_points request depth node words =
    (if nat_lt (node + 1) depth then Crumb (record { 0 = node + 1 }) ∷ [] else []) ++ (if node == 0 then samples_at request words else []) ++ End ∷ []

abbrev pub visit_at : (request : ℕ) → TraceId → (depth node : ℕ) → Words → List Operation
visit_at request trace depth node words =
    Begin trace ∷ points_at (1000 * request + 10 * node) words ++ after_points request depth node (behind_points (point_count words) words)

abbrev pub behind_visit : ℕ → Words → Words
behind_visit node words = from (if node == 0 then 2 else 0) (behind_points (point_count words) words)

-- ---- a request

-- the number of the client that serves it on each node, and what it does at the nodes that it visits, from node 0 on
pub record Request : Type 0 where
  pub client : ℕ
  pub visits : List (List Operation)

abbrev pub depth_at : Words → ℕ
depth_at words = 1 + words 2 % 3

-- the words behind its visits of the first nodes
abbrev pub behind_visits : ℕ → Words → Words
behind_visits n words = behind_parts behind_visit n (from 3 words)

-- the request of this number, at its first n nodes and at all of them
abbrev pub request_until : (n number : ℕ) → Words → Request
request_until n number words =
    record {
      client = words 1 % 4;
      visits = each_below n (λ node. visit_at number (record { 0 = words 0 }) (depth_at words) node (behind_visits node words));
    }

abbrev pub request_at : (number : ℕ) → Words → Request
request_at number words = request_until (depth_at words) number words

abbrev pub behind_request : Words → Words
behind_request words = behind_visits (depth_at words) words

-- ---- the workload

-- the words behind the first requests
abbrev pub behind_requests : ℕ → Words → Words
behind_requests n words = behind_parts (λ _. behind_request) n words

abbrev pub requests_at : (size : ℕ) → Words → List Request
requests_at size words = each_below size (λ number. request_at number (behind_requests number words))

-- what a request leaves the client of this place, in the order of node and number: four clients on each node
abbrev pub left_to : (place : ℕ) → Request → List Operation
left_to place request = if request.client == place % 4 then slice_index_or request.visits (place / 4) [] else []

abbrev pub client_at : (size : ℕ) → Words → (place : ℕ) → List Operation
client_at size words place = flat_map (left_to place) (requests_at size words)

abbrev pub clients_at : (size : ℕ) → Words → List (List Operation)
clients_at size words = each_below 12 (client_at size words)

-- Twelve clients with what a request leaves each of them behind the operations that it has.
unfoldable pub Adds : Request → List (List Operation) → List (List Operation) → Type 0
Adds request old new = (client : ℕ → List Operation) → old ≡ each_below 12 client → new ≡ each_below 12 (λ place. client place ++ left_to place request)

abbrev pub made_settings : PlainSettings
made_settings =
    record {
      nodes = 3;
      clients = 4;
      buffers = 64;
      size = 256;
      threshold = 48;
      traces = 1000;
      pins = 32;
      stride = 8;
      triggers = record { id = record { 0 = 1 }; weight = 2; burst = 4; rate = 10 } ∷ record { id = record { 0 = 2 }; weight = 1; burst = 8; rate = 100 } ∷ [];
      autos = Exception (record { 0 = 1 }) ∷ Percentile (record { 0 = 2 }) 64 9800 ∷ [];
    }

unfoldable pub made_workload : (seed size : ℕ) → PlainWorkload
made_workload seed size = record { version = 1; settings = made_settings; clients = clients_at size (seeded_words seed) }

-- worked examples, on words that are given: a payload of two bytes
two_bytes : payload_at (slice_index (43 ∷ 255 ∷ 256 ∷ 9 ∷ [])) ≡ 255 ∷ 0 ∷ []
unfolding each_below
two_bytes = refl

-- two points, the second without bytes, where the words behind them begin with 7
two_points : (points_at 1020 (slice_index (1 ∷ 1 ∷ 170 ∷ 41 ∷ 7 ∷ [])) ≡ Point 1020 (170 ∷ []) ∷ Point 1021 [] ∷ [])
    × (behind_points 2 (slice_index (1 ∷ 1 ∷ 170 ∷ 41 ∷ 7 ∷ [])) 0 ≡ 7)
unfolding each_below behind_parts
two_points = (refl, refl)

-- request 5 of trace 9 goes to two nodes; its client is 2, it took 1,250 microseconds, and it failed
abbrev two_nodes_drawn : Words
two_nodes_drawn = slice_index (9 ∷ 6 ∷ 1 ∷ 4 ∷ 1 ∷ 170 ∷ 250 ∷ 100 ∷ 0 ∷ 0 ∷ 77 ∷ [])

two_nodes_visited : request_at 5 two_nodes_drawn
    ≡ record {
      client = 2;
      visits = (Begin (record { 0 = 9 }) ∷ Point 5000 (170 ∷ []) ∷ Crumb (record { 0 = 1 }) ∷ Sample 5500 1 1250 ∷ Sample 5501 0 1 ∷ End ∷ [])
          ∷ (Begin (record { 0 = 9 }) ∷ Point 5010 [] ∷ End ∷ []) ∷ [];
    }
unfolding each_below behind_parts
two_nodes_visited = refl

-- the next request begins with the word behind it
behind_two_nodes : behind_request two_nodes_drawn 0 ≡ 77
unfolding each_below behind_parts
behind_two_nodes = refl

-- client 2 of node 1 stands at the place 6
left_to_clients : (left_to 6 (request_at 5 two_nodes_drawn) ≡ Begin (record { 0 = 9 }) ∷ Point 5010 [] ∷ End ∷ [])
    × (left_to 7 (request_at 5 two_nodes_drawn) ≡ []) × (left_to 10 (request_at 5 two_nodes_drawn) ≡ [])
unfolding each_below behind_parts
left_to_clients = (refl, refl, refl)
