-- What a client has done, drawn and sent is no more than its operations have pieces.
use Rattle.std.proofs.Common.{◌≡◌, ℕ, ◌+◌, ◌≤◌, List, [], ◌∷◌, ◌++◌, length, map, take, drop, filter, ap, ◌∙◌, arith, Some, refl, count_by, length-append, length-take, nat_lt}
use Rattle.hs_run.proofs.Prelude.{length-map, ClientId, MAX_OPERATIONS, PlainClientActor, ClientActorIsAt, HasSentSoFar, is_null, ClientCount, client_count, Draw, sent, is_point, Operation, PlainSettings, Leased, has_buffer, TimedPage, timed_pages, Buffer, Sheet, client_pieces, no_operations}
use Rattle.std.proofs.lemmas.List.Sums.{count_by-le-length}
use Rattle.hs_base.proofs.Filters.{filter_few}
use Rattle.hs_run_actors.specs.Standing.{sheets_in}
use Rattle.hs_client.specs.Calls.{after}
use Rattle.hs_client.specs.Core.{Core, CoreStep, Began, Wrote, Needed, Supplied, Ended_, Refused, draw_of, new_core}
use Rattle.hs_client.specs.Drawn.{DrawnPage, drawn_from, drawn_pages}
use Rattle.hs_client.specs.Sending.{Sent, sends_of, sent_within, sheet_of}

-- what clients have sent
abbrev pub SendSo : Type 0
SendSo = (settings : PlainSettings) (client : ClientId) (ops : List Operation) (caller : PlainClientActor) → ClientActorIsAt settings client ops caller → HasSentSoFar settings client ops caller

abbrev counts : ℕ → ℕ → ℕ → ClientCount
counts done points nulls = record { done = done; points = points; nulls = nulls }

-- ---- draws

module _ (client : ClientId) (size calls : ℕ) where
  core_after : List (CoreStep Leased) → Core Leased
  core_after steps = after (new_core client size calls) steps

  same_calls : (steps : List (CoreStep Leased)) → (core_after steps).calls ≡ calls
  unfolding core_after
  same_calls [] = refl
  same_calls (Began trace ∷ earlier) = same_calls earlier
  same_calls (Wrote moment payload more ∷ earlier) = same_calls earlier
  same_calls (Needed len ∷ earlier) = same_calls earlier
  same_calls (Supplied buffer stamp moment payload more ∷ earlier) = same_calls earlier
  same_calls (Ended_ ∷ earlier) = same_calls earlier
  same_calls (Refused ∷ earlier) = same_calls earlier

  -- each draw counts as a call
  counted_draws : (steps : List (CoreStep Leased)) → length (core_after steps).draws ≤ (core_after steps).counted
  unfolding core_after
  counted_draws [] = omega arith
  counted_draws (Began trace ∷ earlier) = let rest = counted_draws earlier in omega (arith, rest)
  counted_draws (Wrote moment payload more ∷ earlier) = let rest = counted_draws earlier in omega (arith, rest)
  counted_draws (Needed len ∷ earlier) = counted_draws earlier
  counted_draws (Supplied buffer stamp moment payload more ∷ earlier) =
      let rest = counted_draws earlier in
      let long = length-append (core_after earlier).draws (draw_of buffer stamp ∷ []) in
      omega (arith, rest, long)
  counted_draws (Ended_ ∷ earlier) = let rest = counted_draws earlier in omega (arith, rest)
  counted_draws (Refused ∷ earlier) = counted_draws earlier

module _ (settings : PlainSettings) (client : ClientId) (ops : List Operation) (caller : PlainClientActor) (a : ClientActorIsAt settings client ops caller) where
  -- the client has a call for each draw, beside those for the operations that are left
  fewer_draws : length caller.client.core.draws + client_pieces settings.size (drop caller.done ops) ≤ client_pieces settings.size ops
  unfolding core_after
  fewer_draws =
      let by = a.inside.writes [] in
      let calls = client_pieces settings.size ops in
      let draws = ap (λ (core : Core Leased). length core.draws) by.comes.core in
      let counted = ap (λ (core : Core Leased). core.counted) by.comes.core in
      let most = ap (λ (core : Core Leased). core.calls) by.comes.core in
      let few = counted_draws client settings.size calls by.steps in
      let same = same_calls client settings.size calls by.steps in
      let enough = a.enough.calls in
      omega (arith, draws, counted, most, few, same, enough)

  pub few_draws : length caller.client.core.draws ≤ MAX_OPERATIONS
  few_draws =
      let fewer = fewer_draws in
      let few = a.playable.few in
      omega (arith, fewer, few)

  pub no_draws : caller.done ≡ 0 → caller.client.core.draws ≡ []
  no_draws none =
      let fewer = fewer_draws in
      let all = ap (λ (done : ℕ). client_pieces settings.size (drop done ops)) none in
      empty caller.client.core.draws (omega (arith, fewer, all))
    where
      empty : (draws : List Draw) → length draws ≡ 0 → draws ≡ []
      empty [] long = refl
      empty (draw ∷ draws) long = absurd (omega (arith, long))

  -- where nothing is done, nothing is counted
  pub nothing_counted : caller.done ≡ 0 → client_count ops caller ≡ no_operations
  nothing_counted none =
      ap (λ (done : ℕ). counts done (count_by is_point (take done ops)) (count_by is_null caller.client.core.draws)) none
      ∙ ap (λ (draws : List Draw). counts 0 (count_by is_point (take 0 ops)) (count_by is_null draws)) (no_draws none)

  pub few_points : count_by is_point (take caller.done ops) ≤ length ops
  few_points =
      let points = count_by-le-length is_point (take caller.done ops) in
      let front = length-take caller.done ops in
      omega (arith, points, front)

  pub few_nulls : count_by is_null caller.client.core.draws ≤ MAX_OPERATIONS
  few_nulls =
      let nulls = count_by-le-length is_null caller.client.core.draws in
      let few = few_draws in
      omega (arith, nulls, few)

-- ---- chunks

fewer_drawn : (client : ClientId) (number : ℕ) (pages : List TimedPage) (draws : List Draw) → length (drawn_from client number pages draws) ≤ length draws
fewer_drawn client number [] draws = omega arith
fewer_drawn client number (page ∷ pages) [] = omega arith
fewer_drawn client number (page ∷ pages) (draw ∷ draws) = let rest = fewer_drawn client (number + 1) pages draws in omega (arith, rest)

as_many_sheets : (items : List (Sent Sheet)) → length (sheets_in items) ≡ length items
as_many_sheets items = length-map (map (λ (item : Sent Sheet). item.item) items) (λ (sheet : Sheet). Some sheet) ∙ length-map items (λ (item : Sent Sheet). item.item)

-- a client sends no more chunks than it drew
pub few_chunks : SendSo → (settings : PlainSettings) (client : ClientId) (ops : List Operation) (caller : PlainClientActor) → ClientActorIsAt settings client ops caller → length (sent caller.client.chunks) ≤ MAX_OPERATIONS
few_chunks so settings client ops caller a =
    let draws = caller.client.core.draws ++ [] in
    let drawn = drawn_pages settings.size client ops draws in
    let chunks = (sends_of settings client ops draws).chunks in
    let is = ap length ((so settings client ops caller a).chunks []) in
    let pages = length-map (sent caller.client.chunks) (λ (chunk : Buffer Leased). chunk.chunk.page) in
    let sheets = as_many_sheets (sent_within caller.done chunks) in
    let within = filter_few (λ (item : Sent Sheet). nat_lt item.number caller.done) chunks in
    let mapped = length-map {B = Sent Sheet} (filter (λ (d : DrawnPage). has_buffer d.draw) drawn) (λ (d : DrawnPage). record { number = d.sent; item = sheet_of d }) in
    let buffers = filter_few (λ (d : DrawnPage). has_buffer d.draw) drawn in
    let fewer = fewer_drawn client 0 (timed_pages settings.size ops) draws in
    let none : List Draw = [] in
    let long = length-append caller.client.core.draws none in
    let few = few_draws settings client ops caller a in
    omega (arith, is, pages, sheets, within, mapped, buffers, fewer, long, few)
