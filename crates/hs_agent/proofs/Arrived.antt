-- What is kept after a chunk came is what the model says then, before anything has to give way.
use Rattle.std.proofs.Common.{◌≡◌, ℕ, ◌+◌, ◌≤◌, ◌<◌, ◌^◌, false, List, [], ◌∷◌, ◌++◌, length, map, Some, None, slice_get, refl, sym, ap, subst, ◌∙◌, arith}
use Rattle.hs_agent.proofs.Prelude.{AreLeft, ChunkNote, unoffered, filter_map, AllByRecursion, option_map, option_map_or, option_and_then, option_to_list, append_assoc, map-append, length-map, length-append, all_weaker, all_append, all_front, all_back, TraceId, Group, Header, Sheet, used_of, header_of, Buffer, Pin, claim_of, with_pin, pin_for, Pinning, Remembers, Indexed, PlainIndexedTrace, noted_of, others, touch, count_chunks, with_chunk, chunks_left, AgentState, Taken, ChunkStanding, is_indexed, Pinned, Abandoned, pinning_group, pinned_for, mark_of, bytes_at, with_indexed, with_pinned, with_abandoned, Tagged, Placed, place_of, placed_at, Kept, Holds, HasPage, IsKept, IsIndexed, Point, pinned_place, waiting_chunks, let_go, with_left, abandoned_for, noted}
use Rattle.hs_base.proofs.Places.{get_last}
use Rattle.hs_index.specs.Index.{with_touched, trace_of}
use Rattle.hs_index.specs.Index as index
use Rattle.hs_law_agent.specs.Standings.{Indexed as IsIn}
use Rattle.hs_agent.proofs.Claimed.{all-others, all-noted, all-pins}
use Rattle.hs_agent.proofs.Growing.{is_kept-front, has_page-front, pages-front, pinned_for-front, with_left-last}
use Rattle.hs_agent.proofs.Parted.{hand-left, left-more, unoffered-more, unoffered-weaker}
use Rattle.hs_agent.proofs.Indexing.{indexed-more, indexed-arrived, count-touched}

-- ---- the chunks of an index where a trace was touched

module _ {L : Type 0} (P : Placed L → Type 0) (trace : TraceId) (noted : PlainIndexedTrace (Tagged L)) where
  all-pushed : (ts : List (Indexed (Tagged L))) → AllByRecursion P (chunks_left ts) → AllByRecursion P noted.chunks → AllByRecursion P (chunks_left (ts ++ record { trace = trace; noted = noted } ∷ []))
  all-pushed [] h k = all_append P noted.chunks [] k tt
  all-pushed (t ∷ ts) h k = all_append P t.noted.chunks (chunks_left (ts ++ record { trace = trace; noted = noted } ∷ [])) (all_front P t.noted.chunks (chunks_left ts) h) (all-pushed ts (all_back P t.noted.chunks (chunks_left ts) h) k)

  pub all-touched : (ts : List (Indexed (Tagged L))) → AllByRecursion P (chunks_left ts) → AllByRecursion P noted.chunks → AllByRecursion P (chunks_left (touch trace noted ts))
  all-touched ts h k = all-pushed (others trace ts) (all-others P trace ts h) k

-- There is a place for a chunk more, and it can be counted among those that wait.
abbrev pub TakesOne : {L : Type 0} (old : Kept L) (point : Point L) → Holds old point → Type 0
TakesOne old point h = (length point.state.taken + 1 < 2 ^ 64) × (count_chunks old.index.touched + length h.memory.pinned + 1 < 2 ^ 32)

module _ {L : Type 0} (old : Kept L) (point : Point L) (h : Holds old point) (buffer : Buffer L) (sheet : Sheet)
    (page : buffer.chunk.page ≡ Some sheet) (size : used_of sheet ≤ point.settings.size) (room : TakesOne old point h) where
  abbrev taken : List Taken
  taken = point.state.taken

  abbrev trace : TraceId
  trace = sheet.header.trace

  abbrev placed : Placed L
  placed = placed_at (length taken) buffer

  -- with the chunk's standing
  abbrev came : Kept L
  came = noted sheet.header old

  abbrev at : AgentState → Point L
  at state = record point { state = state; buffers = point.buffers ++ buffer ∷ [] }

  module _ (standing : ChunkStanding) where
    abbrev new : Taken
    new = record { sheet = sheet; standing = standing }

    abbrev all : List Taken
    all = taken ++ new ∷ []

    more : length all ≡ length taken + 1
    more = length-append taken (new ∷ [])

    kept_before : (placed' : Placed L) → IsKept point.buffers placed' → IsKept (point.buffers ++ buffer ∷ []) placed'
    kept_before placed' k = is_kept-front point.buffers (buffer ∷ []) placed' k

    kept_new : IsKept (point.buffers ++ buffer ∷ []) placed
    kept_new = ap (slice_get (point.buffers ++ buffer ∷ [])) (sym h.buffers) ∙ get_last point.buffers buffer

    paged_before : (placed' : Placed L) → HasPage point.settings taken placed' → HasPage point.settings all placed'
    paged_before placed' k = has_page-front point.settings taken (new ∷ []) placed' k

    paged_new : HasPage point.settings all placed
    paged_new = record { chunk = new; at = get_last taken new; page = page; size = size }

    untouched_more : AllByRecursion (HasPage point.settings all) (unoffered old.offered old.again old.hand)
    untouched_more = unoffered-weaker (HasPage point.settings taken) (HasPage point.settings all) paged_before old.offered old.again old.hand h.untouched

    standings_live : old.standings ++ record { client = sheet.header.client; page = sheet.header.page; left = None } ∷ [] ≡ map mark_of taken ++ record { client = sheet.header.client; page = sheet.header.page; left = None } ∷ []
    standings_live = ap (λ l. l ++ record { client = sheet.header.client; page = sheet.header.page; left = None } ∷ []) h.standings

    standings_new : map mark_of all ≡ map mark_of taken ++ mark_of new ∷ []
    standings_new = map-append mark_of taken (new ∷ [])

    pages_same : old.pages ≡ filter_map (bytes_at all) point.state.reported
    pages_same = h.pages ∙ sym (pages-front taken (new ∷ []) point.state.reported h.reported)

    reported_within : AllByRecursion (λ (place : ℕ). place < length all) point.state.reported
    reported_within = all_weaker (λ (place : ℕ). place < length taken) (λ (place : ℕ). place < length all) (λ place within. omega (arith, more, within)) point.state.reported h.reported

    buffers_same : length (point.buffers ++ buffer ∷ []) ≡ length all
    buffers_same =
        let a = length-append point.buffers (buffer ∷ []) in
        let b = h.buffers in
        omega (arith, a, b, more)

    groups_same : AllByRecursion (λ (pin : Pin (Tagged L)). pinned_for all (pinned_place pin) ≡ Some pin.group) h.memory.pinned
    groups_same =
        all_weaker (λ (pin : Pin (Tagged L)). pinned_for taken (pinned_place pin) ≡ Some pin.group) (λ (pin : Pin (Tagged L)). pinned_for all (pinned_place pin) ≡ Some pin.group)
        (λ pin e. pinned_for-front taken (new ∷ []) (pinned_place pin) pin.group e) h.memory.pinned h.pins.groups

  abbrev new_mark : ChunkNote
  new_mark = record { client = sheet.header.client; page = sheet.header.page; left = None }

  lefts_more : AreLeft (old.standings ++ new_mark ∷ []) (option_to_list old.offered ++ map place_of old.hand) old.lefts
  lefts_more = left-more old.standings new_mark (option_to_list old.offered ++ map place_of old.hand) old.lefts h.lefts

  lefts_dropped : (group : Group) → AreLeft (with_left (length taken) (Some (abandoned_for group)) (old.standings ++ new_mark ∷ [])) (option_to_list old.offered ++ map place_of (old.hand ++ placed ∷ [])) (old.lefts ++ abandoned_for group ∷ [])
  lefts_dropped group =
      let n = length-append old.standings (new_mark ∷ []) in
      let long = ap length h.standings ∙ length-map taken mark_of in
      hand-left (old.standings ++ new_mark ∷ []) old.offered old.hand old.lefts (record { buffer = placed; left = abandoned_for group } ∷ []) (omega (arith, n, long), tt) lefts_more

  abbrev pins_chunks : List (Placed L)
  pins_chunks = map (λ (pin : Pin (Tagged L)). pin.chunk) h.memory.pinned

  -- ---- a chunk of a trace that nobody claimed

  module _ (free : claim_of h.memory.claims trace ≡ None) where
    abbrev noted_now : PlainIndexedTrace (Tagged L)
    noted_now = with_chunk (noted_of trace old.index.touched) placed

    abbrev left_indexed : TraceId → Kept L
    left_indexed t = record came { index = index.touched_with old.index t (with_chunk (noted_of t old.index.touched) placed) }

    waits_indexed : (P : Placed L → Type 0) → AllByRecursion P (waiting_chunks old h.memory.pinned) → P placed → AllByRecursion P (waiting_chunks (left_indexed trace) h.memory.pinned)
    waits_indexed P waits new =
        let indexed = all_front P (chunks_left old.index.touched) pins_chunks waits in
        all_append P (chunks_left (touch trace noted_now old.index.touched)) pins_chunks
        (all-touched P trace noted_now old.index.touched indexed (all_append P (noted_of trace old.index.touched).chunks (placed ∷ []) (all-noted P trace old.index.touched indexed) (new, tt)))
        (all_back P (chunks_left old.index.touched) pins_chunks waits)

    holds_touched : Holds (left_indexed trace) (at (with_indexed sheet point.state))
    holds_touched = record {
      node_is = h.node_is;
      memory = h.memory;
      remembers = h.remembers;
      pins = record {
        node_is = h.pins.node_is;
        rules = h.pins.rules;
        most = h.pins.most;
        claims = h.pins.claims;
        pinned = h.pins.pinned;
        groups = groups_same IsIn;
        abandoned = h.pins.abandoned;
        tried = h.pins.tried;
        admitted = h.pins.admitted;
      };
      index = record { threshold = h.index.threshold; most = h.index.most; touched = indexed-arrived h.memory.claims sheet placed old.index.touched point.state free refl h.index.touched };
      sent = h.sent;
      offered = h.offered;
      hand = h.hand;
      again = h.again;
      keeps = h.keeps;
      lefts = lefts_more;
      untouched = untouched_more IsIn;
      standings = standings_live IsIn ∙ sym (standings_new IsIn);
      claims = h.claims;
      pages = pages_same IsIn;
      reported = reported_within IsIn;
      buffers = buffers_same IsIn;
      each =
          let Q = IsKept point.buffers in
          let P = IsKept (point.buffers ++ buffer ∷ []) in
          let weaker = all_weaker Q P (kept_before IsIn) in
          all_append P (waiting_chunks (left_indexed trace) h.memory.pinned) old.hand
          (waits_indexed P (weaker (waiting_chunks old h.memory.pinned) (all_front Q (waiting_chunks old h.memory.pinned) old.hand h.each)) (kept_new IsIn))
          (weaker old.hand (all_back Q (waiting_chunks old h.memory.pinned) old.hand h.each));
      paged =
          let P = HasPage point.settings (all IsIn) in
          waits_indexed P (all_weaker (HasPage point.settings taken) P (paged_before IsIn) (waiting_chunks old h.memory.pinned) h.paged) (paged_new IsIn);
      few =
          let few = room.1 in
          let count = count-touched trace noted_now old.index.touched h.index.touched.apart in
          let one = length-append (noted_of trace old.index.touched).chunks (placed ∷ []) in
          omega (arith, few, count, one);
      fits = let long = more IsIn in let fits = room.0 in omega (arith, long, fits);
    }

    -- what is kept is what the model says, where a chunk was indexed
    pub holds-arrived : Holds (record came { index = index.arrived old.index placed }) (at (with_indexed sheet point.state))
    holds-arrived =
        let is : trace_of placed ≡ trace = ap (λ p. option_map_or (λ (header : Header). header.trace) (option_map header_of p) (record { 0 = 0 })) page in
        subst (λ t. Holds (left_indexed t) (at (with_indexed sheet point.state))) (sym is) holds_touched

  -- ---- a chunk of a claimed trace

  module _ (group : Group) (pins : Pinning (Tagged L)) where
    still_indexed : (standing : ChunkStanding) (after : AgentState) → is_indexed standing ≡ false → after.taken ≡ all standing → after.touched ≡ point.state.touched → after.crumbs ≡ point.state.crumbs
        → IsIndexed h.memory.claims after old.index.touched
    still_indexed standing after out t u cs = indexed-more h.memory.claims point.state old.index.touched (new standing) after out t u cs h.index.touched

    abbrev left_pinned : Kept L
    left_pinned = record came { pins = pins }

    waits_pinned : (P : Placed L → Type 0) → AllByRecursion P (waiting_chunks old h.memory.pinned) → P placed → AllByRecursion P (waiting_chunks left_pinned (with_pin h.memory group placed).pinned)
    waits_pinned P waits new =
        all_append P (chunks_left old.index.touched) (map (λ (pin : Pin (Tagged L)). pin.chunk) (with_pin h.memory group placed).pinned)
        (all_front P (chunks_left old.index.touched) pins_chunks waits)
        (all-pins P trace group h.memory.pinned (placed ∷ []) (all_back P (chunks_left old.index.touched) pins_chunks waits) (new, tt))

    pinned_now : Remembers pins (with_pin h.memory group placed) → Holds left_pinned (at (with_pinned sheet group point.state))
    pinned_now remembers = record {
      node_is = h.node_is;
      memory = with_pin h.memory group placed;
      remembers = remembers;
      pins = record {
        node_is = h.pins.node_is;
        rules = h.pins.rules;
        most = h.pins.most;
        claims = h.pins.claims;
        pinned = map-append pinned_place h.memory.pinned (pin_for group placed ∷ []) ∙ ap (λ l. l ++ length taken ∷ []) h.pins.pinned;
        groups =
            all_append (λ (pin : Pin (Tagged L)). pinned_for (all (Pinned group)) (pinned_place pin) ≡ Some pin.group) h.memory.pinned (pin_for group placed ∷ []) (groups_same (Pinned group))
            (ap (option_and_then (λ (t : Taken). pinning_group t.standing)) (get_last taken (new (Pinned group))), tt);
        abandoned = h.pins.abandoned;
        tried = h.pins.tried;
        admitted = h.pins.admitted;
      };
      index = record { threshold = h.index.threshold; most = h.index.most; touched = still_indexed (Pinned group) (with_pinned sheet group point.state) refl refl refl refl };
      sent = h.sent;
      offered = h.offered;
      hand = h.hand;
      again = h.again;
      keeps = h.keeps;
      lefts = lefts_more;
      untouched = untouched_more (Pinned group);
      standings = standings_live (Pinned group) ∙ sym (standings_new (Pinned group));
      claims = h.claims;
      pages = pages_same (Pinned group);
      reported = reported_within (Pinned group);
      buffers = buffers_same (Pinned group);
      each =
          let Q = IsKept point.buffers in
          let P = IsKept (point.buffers ++ buffer ∷ []) in
          let weaker = all_weaker Q P (kept_before (Pinned group)) in
          all_append P (waiting_chunks left_pinned (with_pin h.memory group placed).pinned) old.hand
          (waits_pinned P (weaker (waiting_chunks old h.memory.pinned) (all_front Q (waiting_chunks old h.memory.pinned) old.hand h.each)) (kept_new (Pinned group)))
          (weaker old.hand (all_back Q (waiting_chunks old h.memory.pinned) old.hand h.each));
      paged =
          let P = HasPage point.settings (all (Pinned group)) in
          waits_pinned P (all_weaker (HasPage point.settings taken) P (paged_before (Pinned group)) (waiting_chunks old h.memory.pinned) h.paged) (paged_new (Pinned group));
      few =
          let few = room.1 in
          let one = length-append h.memory.pinned (pin_for group placed ∷ []) in
          omega (arith, few, one);
      fits = let long = more (Pinned group) in let fits = room.0 in omega (arith, long, fits);
    }

    -- what is kept is what the model says, where a chunk was pinned, with one pin more
    pub holds-pinned : Remembers pins (with_pin h.memory group placed) → (now : Holds left_pinned (at (with_pinned sheet group point.state))) × (now.memory ≡ with_pin h.memory group placed)
    unfolding pinned_now
    holds-pinned remembers = (pinned_now remembers, refl)

    -- what is kept is what the model says, where the chunk's group was abandoned
    pub holds-dropped : Remembers pins h.memory → Holds (let_go left_pinned (record { buffer = placed; left = abandoned_for group })) (at (with_abandoned sheet group point.state))
    holds-dropped remembers = record {
      node_is = h.node_is;
      memory = h.memory;
      remembers = remembers;
      pins = record {
        node_is = h.pins.node_is;
        rules = h.pins.rules;
        most = h.pins.most;
        claims = h.pins.claims;
        pinned = h.pins.pinned;
        groups = groups_same (Abandoned group);
        abandoned = h.pins.abandoned;
        tried = h.pins.tried;
        admitted = h.pins.admitted;
      };
      index = record { threshold = h.index.threshold; most = h.index.most; touched = still_indexed (Abandoned group) (with_abandoned sheet group point.state) refl refl refl refl };
      sent = h.sent;
      offered = h.offered;
      hand =
          ap (λ l. option_to_list point.offered ++ l) (map-append place_of old.hand (placed ∷ []))
          ∙ sym (append_assoc (option_to_list point.offered) (map place_of old.hand) (length taken ∷ []))
          ∙ ap (λ l. l ++ length taken ∷ []) h.hand;
      again = h.again;
      keeps = h.keeps;
      lefts = lefts_dropped group;
      untouched = unoffered-more (HasPage point.settings (all (Abandoned group))) old.offered old.again old.hand (placed ∷ []) (untouched_more (Abandoned group)) (paged_new (Abandoned group), tt);
      standings =
          ap (with_left (length taken) (Some (abandoned_for group))) (standings_live (Abandoned group))
          ∙ ap (λ n. with_left n (Some (abandoned_for group)) (map mark_of taken ++ record { client = sheet.header.client; page = sheet.header.page; left = None } ∷ [])) (sym (length-map taken mark_of))
          ∙ with_left-last (Some (abandoned_for group)) (map mark_of taken) (record { client = sheet.header.client; page = sheet.header.page; left = None })
          ∙ sym (standings_new (Abandoned group));
      claims = h.claims;
      pages = pages_same (Abandoned group);
      reported = reported_within (Abandoned group);
      buffers = buffers_same (Abandoned group);
      each =
          let Q = IsKept point.buffers in
          let P = IsKept (point.buffers ++ buffer ∷ []) in
          let weaker = all_weaker Q P (kept_before (Abandoned group)) in
          all_append P (waiting_chunks old h.memory.pinned) (old.hand ++ placed ∷ [])
          (weaker (waiting_chunks old h.memory.pinned) (all_front Q (waiting_chunks old h.memory.pinned) old.hand h.each))
          (all_append P old.hand (placed ∷ []) (weaker old.hand (all_back Q (waiting_chunks old h.memory.pinned) old.hand h.each)) (kept_new (Abandoned group), tt));
      paged = all_weaker (HasPage point.settings taken) (HasPage point.settings (all (Abandoned group))) (paged_before (Abandoned group)) (waiting_chunks old h.memory.pinned) h.paged;
      few = h.few;
      fits = let long = more (Abandoned group) in let fits = room.0 in omega (arith, long, fits);
    }
