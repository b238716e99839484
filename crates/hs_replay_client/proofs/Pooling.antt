-- A client that draws from a pool: its draws are those behind the pool's history.
use Rattle.std.proofs.Common.{◌≡◌, ℕ, ◌+◌, ◌-◌, List, [], ◌∷◌, ◌++◌, length, map, reverse, refl, sym, ap, ◌∙◌, subst, arith, append_assoc, length-append}
use Rattle.hs_replay_client.proofs.Prelude.{append-nil, ClientId, Draw, Pool, IsAfter, Operation, PlainSettings, draws_behind, count_started, event_drawn, length_next, PoolEvent, queue_after, PlainReplayClient, DrawsAll, OnlyDraws, ReplayClientIsAt, WentOn}
use Rattle.hs_pool.specs.Pool.{HasSize}
use Rattle.hs_replay_client.specs.Pooled.{pool_way}
use Rattle.hs_replay_client.specs.Places.{Went, draws_going}
use Rattle.hs_replay_client.proofs.Drawing.{draws_none, draws_more}

-- the same draws behind other ones
behind_others : (before drawn : List Draw) (pool pool' : Pool) → OnlyDraws [] pool drawn pool' → OnlyDraws before pool (before ++ drawn) pool'
behind_others before drawn pool pool' only = λ history is.
    let d = only history is in
    (d.0, record { draws = ap (λ (l : List Draw). before ++ l) d.1.draws; after = d.1.after })

-- what draws of a pool come to
pub record Drew (drawn : List Draw) (pool pool' : Pool) : Type 0 where
  pub only : (before : List Draw) → OnlyDraws before pool (before ++ drawn) pool'
  pub buffers : pool'.buffers ≡ pool.buffers
  pub sized : (size : ℕ) → HasSize size pool → HasSize size pool'

pub drew : (drawn : List Draw) (pool pool' : Pool) → DrawsAll pool_way drawn pool pool' → Drew drawn pool pool'
drew [] pool pool' h =
    subst (Drew [] pool) h
    (record {
      only = λ before. subst (λ (l : List Draw). OnlyDraws before pool l pool) (sym (append-nil before)) (draws_none before pool);
      buffers = refl;
      sized = λ size s. s;
    })
drew (draw ∷ drawn) pool pool' h =
    let middle = h.0 in
    let one = h.1 in
    let rest = drew drawn middle pool' h.2 in
    record {
      only =
          λ before.
          subst (λ (l : List Draw). OnlyDraws before pool l pool') (append_assoc before (draw ∷ []) drawn)
          (draws_more before (before ++ draw ∷ []) ((before ++ draw ∷ []) ++ drawn) pool middle pool' one.buffers (behind_others before (draw ∷ []) pool middle one.only) (rest.only (before ++ draw ∷ [])));
      buffers = rest.buffers ∙ one.buffers;
      sized = λ size s. rest.sized size (one.sized size s);
    }

pub went_pooled : (settings : PlainSettings) (client : ClientId) (ops : List Operation) (drawn : List Draw) (done end k l m : ℕ) (history : List PoolEvent) (old new : PlainReplayClient) (pool pool' : Pool)
    → ReplayClientIsAt settings client ops drawn done k l m old → IsAfter history pool → WentOn pool_way settings client ops drawn end k l m pool new pool'
    → Went settings client ops drawn done end k l m history pool new pool'
went_pooled settings client ops drawn done end k l m history old new pool pool' a after went =
    let size = settings.size in
    let d = (drew went.more pool pool' went.draws).only drawn history after in
    let count = d.0 in
    let made = draws_behind pool.buffers history count in
    let long : length (drawn ++ went.more) ≡ length drawn + count =
    ap length d.1.draws ∙ length-append drawn made ∙ ap (λ n. length drawn + n) (length_next count (length history) (queue_after pool.buffers (reverse history))) in
    let number : count ≡ count_started size ops end - count_started size ops done = omega (arith, long, went.at.each, a.each) in
    let all : drawn ++ went.more ≡ drawn ++ draws_going settings ops done end pool.buffers history = d.1.draws ∙ ap (λ n. drawn ++ draws_behind pool.buffers history n) number in
    record {
      at = subst (λ (l' : List Draw). ReplayClientIsAt settings client ops l' end k l m new) all went.at;
      after = subst (λ n. IsAfter (history ++ map event_drawn (draws_behind pool.buffers history n)) pool') number d.1.after;
    }
