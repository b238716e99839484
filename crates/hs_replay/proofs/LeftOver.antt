-- What a node has left, as the machine has it.
use Rattle.std.proofs.Common.{◌≡◌, ℕ, zero, suc, ◌+◌, ◌<◌, Bool, true, false, ◌&&◌, List, [], ◌∷◌, length, zip, Some, None, inl, inr, refl, sym, ap, subst, ◌∙◌, arith, slice_get, eqb, eq-eqb, ◌==◌, count_by, length-append}
use Rattle.hs_replay.proofs.Prelude.{length-map-range_with_len, eqb-true, cases_lt, same_Some, slice_get_within, ◌↔◌, AllByRecursion, range_with_len, list_all_fails, list_all_by_place, Chunks, Crumbs, Triggers, Asks, taken, asks_to, is_from, NodeRun, followed, Machine, ReplayClientIsAt, PlainReplayClient, Operation, PlainWorkload, ClientSends, client_sends, draws_at, operations_at, place_of, IsValid, done_of, all_of, are_clients_bare, PlainReplayNode, Remain, NodeIsAt, ReplayClientsStand}
use Rattle.hs_replay.proofs.Readying.{sends_there}
use Rattle.std.proofs.lemmas.Bool.{and_from, and_parts}
use Rattle.std.specs.Prelude.{IsTrue, unwrap_or}
use Rattle.hs_base.proofs.Bools.{bool_same}
use Rattle.hs_base.proofs.Places.{zipped_at}
use Rattle.hs_law_journal.specs.Ends.{took_all}
use Rattle.hs_replay_client.specs.Places.{TellsLeft, TellsBare}
use Rattle.hs_client.specs.Sending.{sent_within}
use Rattle.hs_client.specs.SoFar.{AllChunksAreSent, AllCrumbsAreSent, AllTriggersAreSent}
use Rattle.hs_records.specs.Records.{AreBracketed}
use Rattle.hs_records.specs.Validity.{IsClient}
use Rattle.hs_records.specs.declared.setting.Setting.TheVariants as settings

-- the agent took all that a client of its run sent
abbrev pub AllTaken : NodeRun → ℕ → Type 0
AllTaken run client = (sends : ClientSends) → slice_get run.sends client ≡ Some sends → took_all run.state.log client sends ≡ true

-- ---- workloads

all_at : {A : Type 0} (P : A → Type 0) (xs : List A) (place : ℕ) (default : A) → AllByRecursion P xs → place < length xs → P (unwrap_or (slice_get xs place) default)
all_at P [] place default all low = absurd (omega (arith, low))
all_at P (x ∷ xs) zero default all low = all.0
all_at P (x ∷ xs) (suc place) default all low = all_at P xs place default all.1 (omega (arith, low))

-- the operations at a place are those of a client of the workload
pub client_there : (W : PlainWorkload) → IsValid W → (place : ℕ) → place < length W.clients → IsClient W.version W.settings (operations_at W place)
client_there W valid place low = all_at (IsClient W.version W.settings) W.clients place [] valid.each low

-- ---- clients

-- a client of the node, by the node's number
pub player_at : (W : PlainWorkload) (m : Machine) (n client : ℕ) (node : PlainReplayNode) (player : PlainReplayClient) (at : NodeIsAt W m n node) → slice_get node.players client ≡ Some player
    → ReplayClientIsAt W.settings (record { node = n; number = client }) (operations_at W (place_of W.settings.clients n client)) (draws_at m.journal (place_of W.settings.clients n client)) (done_of W m n client)
    (taken (Chunks client) at.run.state.log) (taken (Crumbs client) at.run.state.log) (taken (Triggers client) at.run.state.log) player
player_at W m n client node player at stood = (subst (λ i. ReplayClientsStand W m i at.run.state.log node.players) at.number at.stands.players).each client player stood

-- what its flag says of a client
pub left_is : (W : PlainWorkload) (m : Machine) (n client : ℕ) (node : PlainReplayNode) (player : PlainReplayClient) (ops : List Operation) (flag : Bool) → NodeIsAt W m n node → slice_get node.players client ≡ Some player
    → ops ≡ operations_at W (place_of W.settings.clients n client) → TellsLeft ops player flag → IsTrue flag ↔ (done_of W m n client < all_of W n client)
left_is W m n client node player ops flag at stood e tells =
    let place = place_of W.settings.clients n client in
    let all = subst (λ (o : List Operation). TellsLeft o player flag) e tells in
    all W.settings (record { node = n; number = client }) (draws_at m.journal place) (done_of W m n client) (taken (Chunks client) at.run.state.log) (taken (Crumbs client) at.run.state.log) (taken (Triggers client) at.run.state.log)
    (player_at W m n client node player at stood)

pub none_left : (W : PlainWorkload) (m : Machine) (n client : ℕ) (node : PlainReplayNode) (player : PlainReplayClient) (ops : List Operation) (flag : Bool) → NodeIsAt W m n node → slice_get node.players client ≡ Some player
    → ops ≡ operations_at W (place_of W.settings.clients n client) → TellsLeft ops player flag → flag ≡ false → done_of W m n client ≡ all_of W n client
none_left W m n client node player ops flag at stood e tells off =
    let within = (player_at W m n client node player at stood).within in
    let left = left_is W m n client node player ops flag at stood e tells in
    elim (cases_lt (done_of W m n client) (all_of W n client)) [
      | inl low ↦ let on : flag ≡ true = left.1 low in let never : true ≡ false = sym on ∙ off in absurd cc
      | inr high ↦ omega (arith, within, high)
    ]

-- ---- what was taken

module _ (W : PlainWorkload) (m : Machine) (n : ℕ) (node : PlainReplayNode) (at : NodeIsAt W m n node) (client : ℕ) (player : PlainReplayClient) (stood : slice_get node.players client ≡ Some player)
    (chunks : AllChunksAreSent) (crumbs : AllCrumbsAreSent) (triggers : AllTriggersAreSent) (valid : IsValid W) (low : client < W.settings.clients) (whole : place_of W.settings.clients n client < length W.clients)
    (done : done_of W m n client ≡ all_of W n client) (flag : Bool) (tells : TellsBare player flag) where
  abbrev place : ℕ
  place = place_of W.settings.clients n client

  abbrev ops : List Operation
  ops = operations_at W place

  abbrev sends : ClientSends
  sends = client_sends W m.journal n client

  told : IsTrue flag
      ↔ ((taken (Chunks client) at.run.state.log ≡ length (sent_within (done_of W m n client) sends.chunks)) × (taken (Crumbs client) at.run.state.log ≡ length (sent_within (done_of W m n client) sends.crumbs))
      × (taken (Triggers client) at.run.state.log ≡ length (sent_within (done_of W m n client) sends.triggers)))
  told =
      tells W.settings (record { node = n; number = client }) ops (draws_at m.journal place) (done_of W m n client) (taken (Chunks client) at.run.state.log) (taken (Crumbs client) at.run.state.log) (taken (Triggers client) at.run.state.log)
      (player_at W m n client node player at stood)

  bracketed : AreBracketed false ops
  bracketed = (client_there W valid place whole).bracketed

  all_chunks : length (sent_within (done_of W m n client) sends.chunks) ≡ length sends.chunks
  all_chunks = ap (λ k. length (sent_within k sends.chunks)) done ∙ ap length (chunks W.settings.size (record { node = n; number = client }) ops (draws_at m.journal place) (valid.head settings.Size).0 bracketed)

  all_crumbs : length (sent_within (done_of W m n client) sends.crumbs) ≡ length sends.crumbs
  all_crumbs = ap (λ k. length (sent_within k sends.crumbs)) done ∙ ap length (crumbs ops)

  all_triggers : length (sent_within (done_of W m n client) sends.triggers) ≡ length sends.triggers
  all_triggers = ap (λ k. length (sent_within k sends.triggers)) done ∙ ap length (triggers W.settings.autos ops)

  -- the flag says whether all was taken
  pub bare_is : flag ≡ took_all at.run.state.log client sends
  bare_is =
      let c = eqb (taken (Chunks client) at.run.state.log) (length sends.chunks) in
      let d = eqb (taken (Crumbs client) at.run.state.log) (length sends.crumbs) in
      let e = eqb (taken (Triggers client) at.run.state.log) (length sends.triggers) in
      bool_same flag (took_all at.run.state.log client sends)
      (λ on. let all = told.0 on in and_from (c && d) e (and_from c d (eq-eqb _ _ (all.0 ∙ all_chunks)) (eq-eqb _ _ (all.1 ∙ all_crumbs))) (eq-eqb _ _ (all.2 ∙ all_triggers)))
      (λ on. let front = and_parts (c && d) e on in let first = and_parts c d front.0 in told.1 (eqb-true _ _ first.0 ∙ sym all_chunks, eqb-true _ _ first.1 ∙ sym all_crumbs, eqb-true _ _ front.1 ∙ sym all_triggers))

  there : slice_get at.run.sends client ≡ Some sends
  there = sends_there W m at.run client at.stands.sends low ∙ ap (λ i. Some (client_sends W m.journal i client)) at.number

  pub was_bare : flag ≡ true → AllTaken at.run client
  was_bare on others at_others =
      let same : others ≡ sends = same_Some others sends (sym at_others ∙ there) in
      ap (took_all at.run.state.log client) same ∙ sym bare_is ∙ on

-- ---- all that is left

zipped_from : {A : Type 0} (start : ℕ) (xs : List A) (place : ℕ) (c : ℕ × A) → slice_get (zip (range_with_len start (length xs)) xs) place ≡ Some c → (c.0 ≡ start + place) × (slice_get xs place ≡ Some c.1)
zipped_from start [] place c at = let none : None ≡ Some c = at in absurd cc
zipped_from start (y ∷ xs) zero c at = let same : (start, y) ≡ c = same_Some (start, y) c at in let here : start ≡ c.0 = ap (λ p. p.0) same in (omega (arith, here), ap (λ p. Some p.1) same)
zipped_from start (y ∷ xs) (suc place) c at = let rest = zipped_from (start + 1) xs place c at in let here = rest.0 in (omega (arith, here), rest.1)

-- all clients are bare, or one is not
pub clients_bare : (run : NodeRun) → ((client : ℕ) → client < length run.sends → AllTaken run client) → are_clients_bare run ≡ true
clients_bare run each =
    list_all_by_place (λ (c : ℕ × ClientSends). took_all run.state.log c.0 c.1) (zip (range_with_len 0 (length run.sends)) run.sends)
    (λ place c at.
    let from = zipped_from 0 run.sends place c at in
    let same : place ≡ c.0 = let here = from.0 in omega (arith, here) in
    let within = slice_get_within run.sends place c.1 from.1 in
    subst (λ i. took_all run.state.log i c.1 ≡ true) same (each place within c.1 from.1))

pub client_not_bare : (run : NodeRun) (client : ℕ) (sends : ClientSends) → slice_get run.sends client ≡ Some sends → took_all run.state.log client sends ≡ false → are_clients_bare run ≡ false
client_not_bare run client sends at not_taken =
    let zero_on : 0 + client ≡ client = omega arith in
    list_all_fails (λ (c : ℕ × ClientSends). took_all run.state.log c.0 c.1) (zip (range_with_len 0 (length run.sends)) run.sends) client (client, sends) (zipped_at 0 run.sends client sends at ∙ ap (λ i. Some (i, sends)) zero_on) not_taken

-- the whole node
pub bare_is_so : (a b c d : Bool) (a' b' c' d' : Bool) → a ≡ a' → b ≡ b' → c ≡ c' → d ≡ d' → (a && b && c && d) ≡ (a' && b' && c' && d')
bare_is_so a b c d a' b' c' d' e f g h = ap (λ x. x && b && c && d) e ∙ ap (λ x. a' && x && c && d) f ∙ ap (λ x. a' && b' && x && d) g ∙ ap (λ x. a' && b' && c' && x) h

-- a client that is not bare keeps its node from being so
pub not_bare : (W : PlainWorkload) (m : Machine) (n : ℕ) (node : PlainReplayNode) (at : NodeIsAt W m n node) (client : ℕ) (flag : Bool) → client < W.settings.clients → flag ≡ took_all at.run.state.log client (client_sends W m.journal n client)
    → flag ≡ false → are_clients_bare at.run ≡ false
not_bare W m n node at client flag low is off =
    client_not_bare at.run client (client_sends W m.journal n client)
    (sends_there W m at.run client at.stands.sends low ∙ ap (λ i. Some (client_sends W m.journal i client)) at.number) (sym is ∙ off)

pub count_sends : (W : PlainWorkload) (m : Machine) (n : ℕ) (node : PlainReplayNode) (at : NodeIsAt W m n node) → length at.run.sends ≡ W.settings.clients
count_sends W m n node at = ap length at.stands.sends ∙ length-map-range_with_len (client_sends W m.journal at.run.node) 0 W.settings.clients

-- ---- flags

pub first_off : (a b c d : Bool) → a ≡ false → (a && b && c && d) ≡ false
first_off a b c d e = ap (λ x. x && b && c && d) e

pub second_off : (a b c d : Bool) → b ≡ false → (a && b && c && d) ≡ false
second_off true b c d e = ap (λ x. x && c && d) e
second_off false b c d e = refl

pub third_off : (a b c d : Bool) → c ≡ false → (a && b && c && d) ≡ false
third_off true true c d e = ap (λ x. x && d) e
third_off true false c d e = refl
third_off false b c d e = refl

pub fourth : (a b c d : Bool) → a ≡ true → b ≡ true → c ≡ true → (a && b && c && d) ≡ d
fourth a b c d e f g = ap (λ x. x && b && c && d) e ∙ ap (λ x. x && c && d) f ∙ ap (λ x. x && d) g

-- whether nothing waits in a queue
pub remain_flag : {A : Type 0} (gone : ℕ) (all rest : List A) (count : ℕ) (flag : Bool) → Remain gone all rest → count ≡ length rest → flag ≡ eqb count 0 → flag ≡ eqb gone (length all)
remain_flag gone all rest count flag r same e =
    let whole = ap length r.all_is in
    let parts = length-append r.front rest in
    let front = r.count in
    bool_same flag (eqb gone (length all)) (λ on. let none = eqb-true count 0 (sym e ∙ on) in eq-eqb gone (length all) (omega (arith, whole, parts, front, same, none)))
    (λ on. let full = eqb-true gone (length all) on in e ∙ eq-eqb count 0 (omega (arith, whole, parts, front, same, full)))

-- whether nothing waits among the asks of a node, or among its messages, and whether nothing is pinned
abbrev pub asks_flag : PlainWorkload → Machine → NodeRun → Bool
asks_flag W m run = taken Asks run.state.log == length (asks_to run.node (followed W m.journal).heard)

abbrev pub said_flag : PlainWorkload → Machine → NodeRun → Bool
said_flag W m run = count_by (is_from (record { 0 = run.node })) (followed W m.journal).heard == length run.state.said

abbrev pub pins_flag : NodeRun → Bool
pins_flag run = length run.state.pinned == 0
