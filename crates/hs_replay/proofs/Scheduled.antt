-- Rounds and closing: what is left, what is bare, and how far the schedule is.
use Rattle.std.proofs.Common.{◌≡◌, ◌⊎◌, inl, inr, ℕ, zero, suc, ◌+◌, ◌*◌, ◌/◌, ◌%◌, ◌<◌, ◌≤◌, true, false, List, length, take, drop, fold, refl, sym, ap, subst, ◌∙◌, Some, arith, slice_get}
use Rattle.hs_replay.proofs.Prelude.{range_with_len, cases_lt, slice_get_within, list_all_fails, list_all_by_place, Listing, PlainCoordinator, is_left_bare, rounds_of, NodeRun, followed, AllDone, behind_rounds, passed, HasClosing, Machine, machine_start, client_goes, clients_go, rounds, done_at, node_at, heard_in, ClientsGoSo, IsReached, MachinesAreWhole, PlainWorkload, operations_at, place_of, IsValid, workload_of, Op, Workload, NodesAt, AllAt, TellsLeft, AllClosed, HasClients, IsNodeDone, TellsNodeLeft, PlainReplayNode, StandsStill}
use Rattle.std.proofs.Math.Nat.{div-add-mod, div-lt_iff_lt-mul, mod-lt, mul_comm}
use Rattle.hs_law_journal.specs.Ends.{is_bare}
use Rattle.hs_law_journal.specs.Played.{played}
use Rattle.hs_law_run.specs.Ending.{HasRounds}
use Rattle.hs_law_run.specs.Lockstep.{passes, round}
use Rattle.hs_law_run.specs.Reaching as reaching
use Rattle.hs_law_journal.proofs.Workloads.{place_low}
use Rattle.hs_replay.proofs.Others.{gone, clients_are, all_still}

-- each place is that of a client of a node
place_parts : (W : PlainWorkload) → IsValid W → (place : ℕ) → place < length W.clients → (n : ℕ) × (number : ℕ) × (n < W.settings.nodes) × (number < W.settings.clients) × (place_of W.settings.clients n number ≡ place)
place_parts W valid place low = either W.settings.clients refl
  where
    either : (clients : ℕ) → W.settings.clients ≡ clients → (n : ℕ) × (number : ℕ) × (n < W.settings.nodes) × (number < W.settings.clients) × (place_of W.settings.clients n number ≡ place)
    either zero none =
        let count = valid.count in
        let product : W.settings.nodes * W.settings.clients ≡ W.settings.nodes * 0 = ap (λ (k : ℕ). W.settings.nodes * k) none in
        let zeroed : W.settings.nodes * 0 ≡ 0 = omega arith in
        absurd (omega (arith, low, count, product, zeroed))
    either (suc k) some =
        let positive : 0 < W.settings.clients = omega (arith, some) in
        let count = valid.count in
        let node : place / W.settings.clients < W.settings.nodes = (div-lt_iff_lt-mul {k = W.settings.clients} {x = place} {y = W.settings.nodes} positive).1 (omega (arith, low, count)) in
        let number : place % W.settings.clients < W.settings.clients = mod-lt place positive in
        let parts = div-add-mod place W.settings.clients in
        let turned = mul_comm W.settings.clients (place / W.settings.clients) in
        (place / W.settings.clients, place % W.settings.clients, node, number, omega (arith, parts, turned))

-- ---- what is left

pub has_clients : (w : Workload) → IsValid (workload_of w) → (n : ℕ) → n < w.settings.nodes → (given : List (Listing Op)) → given ≡ w.clients.items → (count : ℕ) → count ≡ w.settings.clients
    → HasClients (workload_of w) n (take count (drop (n * w.settings.clients) given))
has_clients w valid n low given same count is = let are = clients_are w valid n low given same count is in record { count = are.count; each = are.each }

module _ (W : PlainWorkload) (valid : IsValid W) (m : Machine) where
  -- a client that has something left has it of all
  pub some_left : (n : ℕ) → n < W.settings.nodes → TellsNodeLeft W m n true → AllDone W m → ⊥
  some_left n low left all =
      let done = all (place_of W.settings.clients n left.0) (place_low W valid n left.0 low left.1) in
      let less = left.2 in
      omega (arith, done, less)

  pub node_done : AllDone W m → (n : ℕ) → n < W.settings.nodes → IsNodeDone W m n
  node_done all n low client below = all (place_of W.settings.clients n client) (place_low W valid n client low below)

  -- where all nodes are through, all clients are
  pub all_done : ((n : ℕ) → n < W.settings.nodes → IsNodeDone W m n) → AllDone W m
  all_done each place low = go (place_parts W valid place low)
    where
      go : (n : ℕ) × (number : ℕ) × (n < W.settings.nodes) × (number < W.settings.clients) × (place_of W.settings.clients n number ≡ place) → done_at m place ≡ length (operations_at W place)
      go (n, number, node, client, is) = subst (λ (p : ℕ). done_at m p ≡ length (operations_at W p)) is (each n node number client)

-- ---- what is bare

pub bare_not : (W : PlainWorkload) (m : Machine) (n : ℕ) (run : NodeRun) → node_at W m.journal n ≡ Some run → is_left_bare (followed W m.journal) run ≡ false → is_bare (played W m.journal) ≡ false
bare_not W m n run at off = list_all_fails (is_left_bare (followed W m.journal)) (followed W m.journal).nodes n run at off

pub bare_all : (W : PlainWorkload) (m : Machine) → ((n : ℕ) (run : NodeRun) → node_at W m.journal n ≡ Some run → is_left_bare (followed W m.journal) run ≡ true) → is_bare (played W m.journal) ≡ true
bare_all W m each = list_all_by_place (is_left_bare (followed W m.journal)) (followed W m.journal).nodes each

-- a node that stands still
pub still_at : (W : PlainWorkload) (m : Machine) (nodes : List PlainReplayNode) → NodesAt W m nodes → (n : ℕ) (node : PlainReplayNode) → slice_get nodes n ≡ Some node → StandsStill W m n node
still_at W m nodes at n node there = record { valid = at.valid; reached = at.reached; at = at.nodes_are.each n node there }

pub node_low : MachinesAreWhole → (W : PlainWorkload) → IsValid W → (m : Machine) → IsReached W m → (n : ℕ) (run : NodeRun) → node_at W m.journal n ≡ Some run → n < W.settings.nodes
node_low whole W valid m r n run found = let count = (whole W valid m r).count in let low = slice_get_within (followed W m.journal).nodes n run found in omega (arith, count, low)

pub same_or_less : {P : Type 0} (n k : ℕ) → n < k + 1 → (n < k → P) → (n ≡ k → P) → P
same_or_less n zero low less same = same (omega (arith, low))
same_or_less zero (suc k) low less same = less (omega arith)
same_or_less (suc n) (suc k) low less same = same_or_less n k (omega (arith, low)) (λ l. less (omega (arith, l))) (λ e. same (ap suc e))

-- ---- a round

-- clients leave what was heard
heard_by_clients : (whole : MachinesAreWhole) (goes : ClientsGoSo) (W : PlainWorkload) (valid : IsValid W) (start places : ℕ) (m : Machine) → IsReached W m → start + places ≤ length W.clients
    → heard_in W (fold (client_goes W) m (range_with_len start places)).journal ≡ heard_in W m.journal
heard_by_clients whole goes W valid start zero m r few = refl
heard_by_clients whole goes W valid start (suc places) m r few =
    let low : start < length W.clients = omega (arith, few) in
    heard_by_clients whole goes W valid (start + 1) places (client_goes W m start) (reaching.Goes m start low r) (omega (arith, few)) ∙ one (place_parts W valid start low)
  where
    one : (n : ℕ) × (number : ℕ) × (n < W.settings.nodes) × (number < W.settings.clients) × (place_of W.settings.clients n number ≡ start) → heard_in W (client_goes W m start).journal ≡ heard_in W m.journal
    one (n, number, node, client, is) = ap (λ (p : ℕ). heard_in W (client_goes W m p).journal) (sym is) ∙ (gone whole goes W valid m r n number node client).heard

pub round_gone : (whole : MachinesAreWhole) (goes : ClientsGoSo) (W : PlainWorkload) (m : Machine) (nodes later : List PlainReplayNode) (coordinator : PlainCoordinator) → AllAt W m nodes coordinator → NodesAt W (clients_go W m) later → AllAt W (clients_go W m) later coordinator
round_gone whole goes W m nodes later coordinator all at = all_still W m (clients_go W m) nodes later coordinator all (heard_by_clients whole goes W all.valid 0 (length W.clients) m all.reached (omega arith)) at

-- ---- the closing

-- passes do no operation
pub done_still : (W : PlainWorkload) (n : ℕ) (m : Machine) → AllDone W m → AllDone W (passed n W m)
done_still W zero m all place low = all place low
done_still W (suc n) m all place low = done_still W n m all place low

-- ---- how far

pub round_left : (W : PlainWorkload) (n : ℕ) → HasRounds W n → TellsLeft W (rounds n W (machine_start W)) true → n < rounds_of W
round_left W n h left = either (cases_lt n (rounds_of W))
  where
    either : (n < rounds_of W) ⊎ (rounds_of W ≤ n) → n < rounds_of W
    either (inl less) = less
    either (inr all) = absurd (left (h.behind all))

pub rounds_through : (W : PlainWorkload) (n : ℕ) → HasRounds W n → n ≤ rounds_of W → TellsLeft W (rounds n W (machine_start W)) false → rounds n W (machine_start W) ≡ behind_rounds W
rounds_through W n h few all =
    let enough = h.before all in
    let same : n ≡ rounds_of W = omega (arith, few, enough) in
    ap (λ (k : ℕ). rounds k W (machine_start W)) same

pub round_more : (W : PlainWorkload) (n : ℕ) (nodes : List PlainReplayNode) (coordinator : PlainCoordinator) → HasRounds W n → AllAt W (round W (rounds n W (machine_start W))) nodes coordinator → AllAt W (rounds (n + 1) W (machine_start W)) nodes coordinator
round_more W n nodes coordinator h at = subst (λ (m : Machine). AllAt W m nodes coordinator) (sym h.more) at

pub closing_done : (W : PlainWorkload) (n : ℕ) → HasRounds W (rounds_of W) → AllDone W (passed n W (behind_rounds W))
closing_done W n h = done_still W n (behind_rounds W) (h.behind (omega arith))

pub pass_left : (W : PlainWorkload) (n : ℕ) (closing : HasClosing W) → n ≤ closing.count → is_bare (played W (passed n W (behind_rounds W)).journal) ≡ false → n < closing.count
pass_left W n closing few off = either (cases_lt n closing.count)
  where
    either : (n < closing.count) ⊎ (closing.count ≤ n) → n < closing.count
    either (inl less) = less
    either (inr all) =
        let same : closing.count ≡ n = omega (arith, few, all) in
        let bare = subst (λ (k : ℕ). is_bare (played W (passed k W (behind_rounds W)).journal) ≡ true) same closing.ends in
        let never : true ≡ false = sym bare ∙ off in absurd cc

pub pass_more : (W : PlainWorkload) (n : ℕ) (nodes : List PlainReplayNode) (coordinator : PlainCoordinator) → AllAt W (passes W (passed n W (behind_rounds W))) nodes coordinator → AllAt W (passed (n + 1) W (behind_rounds W)) nodes coordinator
pass_more W n nodes coordinator at = let e : suc n ≡ n + 1 = omega arith in subst (λ (k : ℕ). AllAt W (passed k W (behind_rounds W)) nodes coordinator) e at

pub closed_at : (W : PlainWorkload) (n : ℕ) (closing : HasClosing W) (nodes : List PlainReplayNode) (coordinator : PlainCoordinator) → HasRounds W (rounds_of W) → n ≤ closing.count → is_bare (played W (passed n W (behind_rounds W)).journal) ≡ true
    → AllAt W (passed n W (behind_rounds W)) nodes coordinator → AllClosed W nodes coordinator
closed_at W n closing nodes coordinator h few bare at = either (cases_lt n closing.count)
  where
    either : (n < closing.count) ⊎ (closing.count ≤ n) → AllClosed W nodes coordinator
    either (inl less) = let never : true ≡ false = sym bare ∙ closing.waits n less in absurd cc
    either (inr all) =
        let same : closing.count ≡ n = omega (arith, few, all) in
        record {
          last = passed n W (behind_rounds W);
          journal = sym (closing.is ∙ ap (λ (k : ℕ). (passed k W (behind_rounds W)).journal) same);
          done = closing_done W n h;
          bare = bare;
          at = at;
        }
