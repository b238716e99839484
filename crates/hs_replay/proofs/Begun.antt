-- A new node is where the machine begins.
use Rattle.std.proofs.Common.{◌≡◌, ℕ, zero, suc, ◌+◌, ◌<◌, List, [], ◌∷◌, ◌++◌, length, map, Some, inl, inr, refl, sym, ap, subst, ◌∙◌, arith, slice_get, unwrap_or, count_by, length-append}
use Rattle.hs_replay.proofs.Prelude.{length-map-range_with_len, AllByRecursion, range_with_len, get_push_cases, map_range_from, Follows, new_run, Messages, Draw, PlainJournal, asks_to, is_from, Run, machine_start, done_at, node_at, heard_in, MachinesStartSo, ReplayClientIsAt, PlainReplayClient, Pool, IsAfter, PlainSettings, PlainWorkload, Operation, operations_at, place_of, clear_chunks, PoolEvent, AreNew, PlainReplayNode, PoolStands, NodeIsAt}
use Rattle.hs_law_journal.specs.Following.{node_start}
use Rattle.hs_words.specs.Chunks.{Contents, clear_chunk}

-- ---- lists of nothing

none_of : {A B : Type 0} (xs : List A) (place : ℕ) → unwrap_or (slice_get (map {B = List B} (λ _. []) xs) place) [] ≡ []
none_of [] place = refl
none_of (x ∷ xs) zero = refl
none_of (x ∷ xs) (suc place) = none_of xs place

abbrev nothing : ℕ
nothing = 0

zero_of : {A : Type 0} (xs : List A) (place : ℕ) → unwrap_or (slice_get (map (λ _. nothing) xs) place) nothing ≡ nothing
zero_of [] place = refl
zero_of (x ∷ xs) zero = refl
zero_of (x ∷ xs) (suc place) = zero_of xs place

-- clear chunks have their size
pub sized : (size start count : ℕ) → AllByRecursion (λ (chunk : Contents). chunk.size ≡ size) (map (clear_chunk size) (range_with_len start count))
sized size start zero = tt
sized size start (suc count) = (refl, sized size (start + 1) count)

-- ---- the node

module _ (starts : MachinesStartSo) (W : PlainWorkload) (n : ℕ) (low : n < W.settings.nodes) where
  abbrev J : PlainJournal
  J = (machine_start W).journal

  there : node_at W J n ≡ Some (node_start W J n)
  there =
      let zero_on : 0 + n ≡ n = omega arith in
      ap (λ (r : Run). slice_get r.nodes n) (starts W).run ∙ map_range_from (node_start W J) 0 W.settings.nodes n low ∙ ap (λ i. Some (node_start W J i)) zero_on

  none_heard : heard_in W J ≡ []
  none_heard = ap (λ (r : Run). r.heard) (starts W).run

  pub new_node : (node : PlainReplayNode) → AreNew W n W.settings.clients node.players → Follows node.agent (new_run W.settings n) → PoolStands W.settings [] node.pool → node.asks ≡ [] → node.said ≡ []
      → NodeIsAt W (machine_start W) n node
  new_node node players agent pool asks said =
      record {
        run = node_start W J n;
        at = there;
        number = refl;
        stands =
            record {
              sends = refl;
              players =
                  record {
                    count = players.many;
                    each =
                        λ client player at.
                        let place = place_of W.settings.clients n client in
                        subst (λ (d : List Draw). ReplayClientIsAt W.settings (record { node = n; number = client }) (operations_at W place) d (done_at (machine_start W) place) 0 0 0 player) (sym (none_of W.clients place))
                        (subst (λ k. ReplayClientIsAt W.settings (record { node = n; number = client }) (operations_at W place) [] k 0 0 0 player) (sym (zero_of W.clients place)) (players.each client player at));
                  };
              agent =
                  record {
                    buffers = [];
                    follows = agent;
                    comes = refl;
                    lent = tt;
                    sheets = refl;
                  };
              pool = subst (λ (h : List PoolEvent). PoolStands W.settings h node.pool) (sym ((starts W).pools n (node_start W J n) there)) pool;
              asks = record { front = []; all_is = ap (asks_to n) none_heard ∙ sym asks; count = refl };
              said = record { front = []; all_is = sym said; count = sym (ap (λ (h : Messages). count_by (is_from (record { 0 = n })) h) none_heard) };
            };
      }

-- ---- its clients

pub one_more_new : (W : PlainWorkload) (n client : ℕ) (players : List PlainReplayClient) (player : PlainReplayClient) → AreNew W n client players
    → ReplayClientIsAt W.settings (record { node = n; number = client }) (operations_at W (place_of W.settings.clients n client)) [] 0 0 0 0 player → AreNew W n (client + 1) (players ++ player ∷ [])
one_more_new W n client players player new at =
    record {
      many = let all = length-append players (player ∷ []) in let many = new.many in omega (arith, all, many);
      each =
          λ other p stood.
          elim (get_push_cases players player p other stood) [
            | inl h ↦ new.each other p h
            | inr h ↦
                let same : client ≡ other = sym new.many ∙ h.0 in
                subst (λ (q : PlainReplayClient). ReplayClientIsAt W.settings (record { node = n; number = other }) (operations_at W (place_of W.settings.clients n other)) [] 0 0 0 0 q) h.1
                (subst (λ i. ReplayClientIsAt W.settings (record { node = n; number = i }) (operations_at W (place_of W.settings.clients n i)) [] 0 0 0 0 player) same at)
          ];
    }

-- what a client is made with
pub player_made : (W : PlainWorkload) (n client : ℕ) (settings : PlainSettings) (ops : List Operation) (player : PlainReplayClient) → settings ≡ W.settings → ops ≡ operations_at W (place_of W.settings.clients n client)
    → ReplayClientIsAt settings (record { node = n; number = client }) ops [] 0 0 0 0 player → ReplayClientIsAt W.settings (record { node = n; number = client }) (operations_at W (place_of W.settings.clients n client)) [] 0 0 0 0 player
player_made W n client settings ops player e f at =
    subst (λ (s : PlainSettings). ReplayClientIsAt s (record { node = n; number = client }) (operations_at W (place_of W.settings.clients n client)) [] 0 0 0 0 player) e
    (subst (λ (o : List Operation). ReplayClientIsAt settings (record { node = n; number = client }) o [] 0 0 0 0 player) f at)

-- a pool of clear buffers
pub new_pool : (settings : PlainSettings) (pool : Pool) (chunks : List Contents) → chunks ≡ clear_chunks settings.buffers settings.size → pool.queue ≡ chunks → IsAfter [] pool → pool.buffers ≡ length chunks
    → PoolStands settings [] pool
new_pool settings pool chunks e queue after buffers =
    record {
      after = after;
      buffers = buffers ∙ ap length e ∙ length-map-range_with_len (clear_chunk settings.size) 0 settings.buffers;
      size = subst (AllByRecursion (λ (chunk : Contents). chunk.size ≡ settings.size)) (sym (queue ∙ e)) (sized settings.size 0 settings.buffers);
    }
