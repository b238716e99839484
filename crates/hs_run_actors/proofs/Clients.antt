-- The clients of a node in a valid workload, and their drawers.
use Rattle.std.proofs.Common.{◌≡◌, ℕ, zero, suc, ◌+◌, ◌*◌, ◌<◌, ◌≤◌, List, [], ◌∷◌, length, map, take, drop, get_or, Some, None, sym, ap, ◌∙◌, arith, length-take, length-drop}
use Rattle.hs_run_actors.proofs.Prelude.{length-map, same_Some, slice_get, AllByRecursion, MAX_CLIENTS, Operation, PlainSettings, PlainWorkload, settings_of, Drawing, Giving, new_drawers, new_drawers_length, ops_of, PoolName, client_pieces, operations_of, workload_of, Op, lefts_of, drawer_for, IsDrawerFor}
use Rattle.std.proofs.lemmas.List.Sums.{sum_by-cons}
use Rattle.std.proofs.lemmas.Option.{slice_get-get_or}
use Rattle.std.specs.Prelude.{sum}
use Rattle.hs_base.proofs.Places.{unwrap_map, item_there}
use Rattle.hs_base.specs.Listing.{Listing}
use Rattle.hs_base.specs.declared.limits.TheConstants.{MAX_OPERATIONS, MAX_NODES, MIN_SIZE, MAX_SIZE, MAX_BUFFERS}
use Rattle.hs_records.specs.Validity.{IsValid, workload_pieces}
use Rattle.hs_records.specs.declared.operation.Workload.{Workload}
use Rattle.hs_records.specs.declared.setting.Setting.TheVariants as words
use Rattle.hs_records.proofs.Sizes.{last_low}
use Rattle.hs_run_actors.specs.Nodes.{AreClientsOf}

-- ---- how many there are

pub record AreFew (W : PlainWorkload) : Type 0 where
  pub nodes : W.settings.nodes ≤ MAX_NODES
  pub some : 1 ≤ W.settings.clients
  pub clients : W.settings.clients ≤ MAX_CLIENTS

pub are_few : (W : PlainWorkload) → IsValid W → AreFew W
are_few W valid = record { nodes = (valid.head words.Nodes).1; some = (valid.head words.Clients).0; clients = (valid.head words.Clients).1 }

pub count_of : (w : Workload) (node : ℕ) (clients : List (Listing Op)) → AreClientsOf w node clients → length clients ≡ w.settings.clients
count_of w node clients is =
    let W = workload_of w in
    let first = node * w.settings.clients in
    let items = w.clients.items in
    omega (arith, ap length is.are, length-take w.settings.clients (drop first items), length-drop first items, last_low W is.valid node is.low, length-map items operations_of)

-- ---- the operations of one

sliced : {X : Type 0} (xs : List X) (from count i : ℕ) (x : X) → slice_get (take count (drop from xs)) i ≡ Some x → slice_get xs (from + i) ≡ Some x
sliced [] zero zero i x h = let never : None ≡ Some x = h in absurd cc
sliced [] zero (suc count) i x h = let never : None ≡ Some x = h in absurd cc
sliced [] (suc from) zero i x h = let never : None ≡ Some x = h in absurd cc
sliced [] (suc from) (suc count) i x h = let never : None ≡ Some x = h in absurd cc
sliced (y ∷ xs) zero zero i x h = let never : None ≡ Some x = h in absurd cc
sliced (y ∷ xs) zero (suc count) zero x h = h
sliced (y ∷ xs) zero (suc count) (suc i) x h =
    let same : 0 + i ≡ i = omega arith in
    let there : 0 + suc i ≡ suc i = omega arith in
    ap (slice_get (y ∷ xs)) there ∙ ap (slice_get xs) (sym same) ∙ sliced xs zero count i x h
sliced (y ∷ xs) (suc from) count i x h = let there : suc from + i ≡ suc (from + i) = omega arith in ap (slice_get (y ∷ xs)) there ∙ sliced xs from count i x h

pub ops_at : (w : Workload) (node number : ℕ) (clients : List (Listing Op)) (ops : Listing Op) → AreClientsOf w node clients → slice_get clients number ≡ Some ops → operations_of ops ≡ ops_of (workload_of w) node number
ops_at w node number clients ops is found =
    let first = node * w.settings.clients in
    let there = sliced w.clients.items first w.settings.clients number ops (ap (λ (l : List (Listing Op)). slice_get l number) (sym is.are) ∙ found) in
    sym (unwrap_map operations_of w.clients.items (first + number) ops [] there)

-- ---- all pieces of a node's clients

few_taken : (size count : ℕ) (xs : List (Listing Op)) → sum (lefts_of size (take count xs)) ≤ workload_pieces size (map operations_of xs)
few_taken size zero xs = omega arith
few_taken size (suc count) [] = omega arith
few_taken size (suc count) (x ∷ xs) =
    let rest = few_taken size count xs in
    let split = sum_by-cons (λ n. n) (client_pieces size (operations_of x)) (lefts_of size (take count xs)) in
    omega (arith, rest, split)

few_sliced : (size from count : ℕ) (xs : List (Listing Op)) → sum (lefts_of size (take count (drop from xs))) ≤ workload_pieces size (map operations_of xs)
few_sliced size zero count xs = few_taken size count xs
few_sliced size (suc from) count [] = few_taken size count []
few_sliced size (suc from) count (x ∷ xs) = let rest = few_sliced size from count xs in omega (arith, rest)

pub sum_few : (w : Workload) (node : ℕ) (clients : List (Listing Op)) → AreClientsOf w node clients → sum (lefts_of w.settings.size clients) ≤ MAX_OPERATIONS
sum_few w node clients is =
    let some = few_sliced w.settings.size (node * w.settings.clients) w.settings.clients w.clients.items in
    omega (arith, some, is.valid.few, ap (λ (l : List (Listing Op)). sum (lefts_of w.settings.size l)) is.are)

pub each_few : (size : ℕ) (clients : List (Listing Op)) → sum (lefts_of size clients) ≤ MAX_OPERATIONS → AllByRecursion (λ ops. client_pieces size (operations_of ops) ≤ MAX_OPERATIONS) clients
each_few size [] few = tt
each_few size (ops ∷ clients) few =
    let split = sum_by-cons (λ n. n) (client_pieces size (operations_of ops)) (lefts_of size clients) in
    (omega (arith, few, split), each_few size clients (omega (arith, few, split)))

-- ---- the drawers

abbrev drawing : PoolName → (buffers size number left : ℕ) → Drawing
drawing pool buffers size number left = record { pool = pool; buffers = buffers; size = size; number = number; most = left; left = left; floor = 0; answers = [] }

pub drawer_at : (pool : PoolName) (buffers size number pages : ℕ) (clients : List (Listing Op)) (place : ℕ) (ops : Listing Op) (drawer : Drawing) → slice_get clients place ≡ Some ops
    → slice_get (new_drawers pool buffers size number (lefts_of pages clients)) place ≡ Some drawer → drawer ≡ drawing pool buffers size (number + place) (client_pieces pages (operations_of ops))
drawer_at pool buffers size number pages [] place ops drawer found there = let never : None ≡ Some ops = found in absurd cc
drawer_at pool buffers size number pages (first ∷ clients) zero ops drawer found there =
    let same = same_Some first ops found in
    let here : number ≡ number + 0 = omega arith in
    sym (same_Some _ drawer there) ∙ ap (λ (l : Listing Op). drawing pool buffers size number (client_pieces pages (operations_of l))) same
    ∙ ap (λ n. drawing pool buffers size n (client_pieces pages (operations_of ops))) here
drawer_at pool buffers size number pages (first ∷ clients) (suc place) ops drawer found there =
    let here : suc number + place ≡ number + suc place = omega arith in
    drawer_at pool buffers size (suc number) pages clients place ops drawer found there ∙ ap (λ n. drawing pool buffers size n (client_pieces pages (operations_of ops))) here

-- The next drawer is that of the next client.
pub record IsNext (w : Workload) (node : ℕ) (clients : List (Listing Op)) (giver : Giving) (number : ℕ) (drawer : Drawing) : Type 0 where
  pub within : number < length clients
  pub low : number < w.settings.clients
  pub drawer_is : drawer ≡ drawer_for (settings_of w.settings) giver number (ops_of (workload_of w) node number)
  pub ops_are : (ops : Listing Op) → ops ≡ get_or clients number ops → operations_of ops ≡ ops_of (workload_of w) node number

pub next_is : (w : Workload) (node : ℕ) (clients : List (Listing Op)) (giver : Giving) (drawers : List Drawing) (number place : ℕ) (drawer : Drawing) → AreClientsOf w node clients
    → drawers ≡ new_drawers giver.pool w.settings.buffers w.settings.size 0 (lefts_of w.settings.size clients) → number ≡ place → (place < length drawers) × (drawer ≡ get_or drawers place drawer)
    → IsNext w node clients giver number drawer
next_is w node clients giver drawers number place drawer is made same turn =
    let size = w.settings.size in
    let lefts = lefts_of size clients in
    let within : number < length clients =
    omega (arith, same, turn.0, ap length made, new_drawers_length giver.pool w.settings.buffers size 0 lefts, length-map clients (λ ops. client_pieces size (operations_of ops))) in
    let there : slice_get (new_drawers giver.pool w.settings.buffers size 0 lefts) number ≡ Some drawer =
    ap (λ (l : List Drawing). slice_get l number) (sym made) ∙ ap (slice_get drawers) same ∙ item_there drawers place drawer turn in
    let ops_are : (ops : Listing Op) → ops ≡ get_or clients number ops → operations_of ops ≡ ops_of (workload_of w) node number = λ ops e. ops_at w node number clients ops is (item_there clients number ops (within, e)) in
    let any : Listing Op = record { items = []; room = 0 } in
    let ops = get_or clients number any in
    let found : slice_get clients number ≡ Some ops = slice_get-get_or clients number any within in
    let known : operations_of ops ≡ ops_of (workload_of w) node number = ops_at w node number clients ops is found in
    let zero_on : 0 + number ≡ number = omega arith in
    record {
      within = within;
      low = omega (arith, within, count_of w node clients is);
      drawer_is =
          drawer_at giver.pool w.settings.buffers size 0 size clients number ops drawer found there
          ∙ ap (λ n. drawing giver.pool w.settings.buffers size n (client_pieces size (operations_of ops))) zero_on
          ∙ ap (λ (l : List Operation). drawing giver.pool w.settings.buffers size number (client_pieces size l)) known;
      ops_are = ops_are;
    }

pub can_draw : (settings : PlainSettings) (giver : Giving) (number : ℕ) (ops : List Operation) (drawer : Drawing) → drawer ≡ drawer_for settings giver number ops → giver.size ≡ settings.size → IsDrawerFor settings ops giver drawer
can_draw settings giver number ops drawer is size =
    let left : drawer.left ≡ client_pieces settings.size ops = ap (λ (d : Drawing). d.left) is in
    record {
      pool = ap (λ (d : Drawing). d.pool) is;
      size = ap (λ (d : Drawing). d.size) is;
      giver_size = size;
      fresh = ap (λ (d : Drawing). d.answers) is;
      left = omega (arith, left);
    }

-- ---- the clients as they are sliced

pub clients_sliced : (w : Workload) → IsValid (workload_of w) → (node : ℕ) → node < w.settings.nodes → (given : List (Listing Op)) → given ≡ w.clients.items → (count : ℕ) → count ≡ w.settings.clients
    → AreClientsOf w node (take count (drop (node * w.settings.clients) given))
clients_sliced w valid node low given same count is =
    record { valid = valid; low = low; are = ap (λ n. take n (drop (node * w.settings.clients) given)) is ∙ ap (λ (l : List (Listing Op)). take w.settings.clients (drop (node * w.settings.clients) l)) same }

pub record IsSized (W : PlainWorkload) : Type 0 where
  pub least : MIN_SIZE ≤ W.settings.size
  pub most : W.settings.size ≤ MAX_SIZE
  pub some : 1 ≤ W.settings.buffers
  pub few : W.settings.buffers ≤ MAX_BUFFERS

pub is_sized : (W : PlainWorkload) → IsValid W → IsSized W
is_sized W valid = record { least = (valid.head words.Size).0; most = (valid.head words.Size).1; some = (valid.head words.Buffers).0; few = (valid.head words.Buffers).1 }
