-- What is kept while a turn sends: the model has reported what was sent so far.
use Rattle.std.proofs.Common.{◌≡◌, ℕ, ◌≤◌, zero, suc, false, not, List, [], ◌∷◌, ◌++◌, length, map, filter, fold, take, Option, Some, None, slice_get, refl, sym, ap, subst, ◌∙◌, arith, append-nil}
use Rattle.hs_agent.proofs.Prelude.{reported_for, flat_map, ◌≢◌, AllByRecursion, option_map_or, option_and_then, append_assoc, map-append, length-append, fold-append, all_weaker, all_append, all_front, all_back, all_map, all_unmap, all_and, TraceId, ChunkNote, used_in, used_of, chunks_left, Pin, Remembered, Remembers, waiting, used_bytes, Share, SendsEach, Taken, ChunkStanding, Pinned, Reported, Evicted, Abandoned, indexed_places, indexed_count, pinned_for, pinning_group, is_among, moved, AgentState, mark_of, reported_standing, visit, report, Tagged, Placed, place_of, Kept, Point, Holds, IsKept, HasPage, pinned_place, waiting_chunks, with_left, SendsNext, costs_of, id_of}
use Rattle.std.specs.Prelude.{replicate}
use Rattle.hs_pins.specs.Waiting.{taken}
use Rattle.hs_pins.specs.Waiting as pins
use Rattle.hs_sched.specs.Visits.{count_sent}
use Rattle.hs_law_agent.specs.Standings.{Indexed}
use Rattle.hs_law_agent.specs.Turning.{order_of, used_at}
use Rattle.hs_law_agent.specs.Turning as model
use Rattle.hs_agent.proofs.GivingWay.{ArePinned, unmoved}
use Rattle.hs_agent.proofs.Moved.{sheets, sheets-moved, has_page-same, indexed-moved, count-moved}
use Rattle.hs_agent.proofs.NextPins.{AreDistinct, FirstFor, first-waiting, without-next, all-waiting, differ-from, distinct-without, filter-others}
use Rattle.hs_agent.proofs.NotedFates.{moved_one}
use Rattle.hs_agent.proofs.Orders.{same_order_of}
use Rattle.hs_agent.proofs.Reported.{report_one, report_each, report-each, reports_unindexed, moved_one-alike}

abbrev pub chunk_of : {L : Type 0} → Pin (Tagged L) → Placed L
chunk_of pin = pin.chunk

-- the fate of a chunk that was sent is noted
abbrev pub note_reported : {L : Type 0} → List ChunkNote → Pin (Tagged L) → List ChunkNote
note_reported standings pin = with_left (pinned_place pin) (Some (reported_for pin.group)) standings

-- sends, and then others
pub sends-split : {Q : Type 0} (sends : Q → ℕ → Q → Type 0) (xs ys : List ℕ) (old new : Q) → SendsEach sends old (xs ++ ys) new → (mid : Q) × SendsEach sends old xs mid × SendsEach sends mid ys new
sends-split sends [] ys old new h = (old, refl, h)
sends-split sends (x ∷ xs) ys old new h = let rest = sends-split sends xs ys h.0 new h.2 in (rest.0, (h.0, h.1, rest.1), rest.2)

module _ {L : Type 0} (first : Kept L) (point : Point L) (h : Holds first point) where
  -- a chunk with its lease and its page
  abbrev pub Good : Placed L → Type 0
  Good placed = IsKept point.buffers placed × HasPage point.settings point.state.taken placed

  -- between the sends
  pub record Midway (kept : Kept L) (state : AgentState) : Type 0 where
    pub memory : Remembered (Tagged L)
    pub remembers : Remembers kept.pins memory
    pub memory_is : memory ≡ record h.memory { pinned = memory.pinned }
    pub kept_is : kept ≡ record first { pins = kept.pins; sent = kept.sent }
    pub pinned : state.pinned ≡ map pinned_place memory.pinned
    pub groups : ArePinned pinned_place state.taken memory.pinned
    pub apart : AreDistinct (map pinned_place memory.pinned)
    pub hand : state.hand ≡ point.state.hand ++ map pinned_place kept.sent
    pub reported : state.reported ≡ point.state.reported ++ map pinned_place kept.sent
    pub pages : sheets state.taken ≡ sheets point.state.taken
    pub noted : fold note_reported (map mark_of point.state.taken) kept.sent ≡ map mark_of state.taken
    pub places : (trace : TraceId) → indexed_places state.taken trace ≡ indexed_places point.state.taken trace
    pub count : indexed_count state.taken ≡ indexed_count point.state.taken
    pub others : state ≡ record point.state { taken = state.taken; pinned = state.pinned; hand = state.hand; reported = state.reported }
    pub waits : AllByRecursion Good (map chunk_of memory.pinned)
    pub went : AllByRecursion Good (map chunk_of kept.sent)
    pub few : length memory.pinned ≤ length h.memory.pinned

  pub begins : AreDistinct (map pinned_place h.memory.pinned) → Midway first point.state
  begins apart =
      let P = IsKept point.buffers in
      let Q = HasPage point.settings point.state.taken in
      let chunks = map chunk_of h.memory.pinned in
      record {
        memory = h.memory;
        remembers = h.remembers;
        memory_is = refl;
        kept_is = refl;
        pinned = sym h.pins.pinned;
        groups = h.pins.groups;
        apart = apart;
        hand = sym (ap (λ l. point.state.hand ++ map pinned_place l) h.sent ∙ append-nil point.state.hand);
        reported = sym (ap (λ l. point.state.reported ++ map pinned_place l) h.sent ∙ append-nil point.state.reported);
        pages = refl;
        noted = ap (fold note_reported (map mark_of point.state.taken)) h.sent;
        places = λ trace. refl;
        count = refl;
        others = refl;
        waits =
            all_and P Q chunks
            (all_back P (chunks_left first.index.touched) chunks (all_front P (waiting_chunks first h.memory.pinned) first.hand h.each))
            (all_back Q (chunks_left first.index.touched) chunks h.paged);
        went = subst (λ l. AllByRecursion Good (map chunk_of l)) (sym h.sent) tt;
        few = omega arith;
      }

  -- what waits, as the model has it
  pub order-waiting : (kept : Kept L) (state : AgentState) (id : ℕ) → Midway kept state → order_of state id ≡ map pinned_place (waiting kept.pins (id_of id))
  order-waiting kept state id m =
      same_order_of pinned_place state m.memory.pinned (id_of id) m.pinned m.groups ∙ ap (map pinned_place) (sym (m.remembers.waits (id_of id)))

  -- a chunk costs what its page takes
  cost-at : (state : AgentState) (placed : Placed L) → sheets state.taken ≡ sheets point.state.taken → HasPage point.settings point.state.taken placed → used_at state.taken (place_of placed) ≡ used_in placed.chunk
  cost-at state placed same page =
      let now = has_page-same point.state.taken state.taken same point.settings placed page in
      ap (λ o. option_map_or (λ (chunk : Taken). used_of chunk.sheet) o 0) now.at ∙ sym (ap (λ p. option_map_or used_of p 0) now.page)

  costs-at : (state : AgentState) (waits : List (Pin (Tagged L))) → sheets state.taken ≡ sheets point.state.taken → AllByRecursion (λ (pin : Pin (Tagged L)). Good pin.chunk) waits
      → map (used_at state.taken) (map pinned_place waits) ≡ map (λ (pin : Pin (Tagged L)). used_bytes pin.chunk) waits
  costs-at state [] same good = refl
  costs-at state (pin ∷ waits) same good = (λ i. cost-at state pin.chunk same good.0.1 i ∷ costs-at state waits same good.1 i)

  pub costs-same : (kept : Kept L) (state : AgentState) (id : ℕ) → Midway kept state → model.costs_of state id ≡ costs_of kept id
  costs-same kept state id m =
      ap (map (used_at state.taken)) (order-waiting kept state id m)
      ∙ costs-at state (waiting kept.pins (id_of id)) m.pages
      (subst (AllByRecursion (λ (pin : Pin (Tagged L)). Good pin.chunk)) (sym (m.remembers.waits (id_of id)))
      (all-waiting (λ (pin : Pin (Tagged L)). Good pin.chunk) (id_of id) m.memory.pinned (all_unmap Good chunk_of m.memory.pinned m.waits)))

  -- ---- one send

  module _ (kept next : Kept L) (state : AgentState) (id : ℕ) (s : SendsNext kept id next) (m : Midway kept state) where
    abbrev item : Pin (Tagged L)
    item = s.moves.item

    abbrev place : ℕ
    place = pinned_place item

    abbrev after : AgentState
    after = report_one state place

    waited : pins.order_of m.memory.pinned (id_of id) ≡ item ∷ waiting next.pins (id_of id)
    waited = sym (m.remembers.waits (id_of id)) ∙ s.moves.taken

    front : FirstFor (id_of id) m.memory.pinned item
    front = first-waiting (id_of id) m.memory.pinned item (waiting next.pins (id_of id)) waited

    abbrev left : List (Pin (Tagged L))
    left = front.before ++ front.after

    left_is : (taken m.memory (id_of id)).pinned ≡ left
    left_is = without-next (id_of id) m.memory.pinned item (waiting next.pins (id_of id)) waited front

    places_are : map pinned_place m.memory.pinned ≡ map pinned_place front.before ++ place ∷ map pinned_place front.after
    places_are = ap (map pinned_place) front.is ∙ map-append pinned_place front.before (item ∷ front.after)

    apart_now : AreDistinct (map pinned_place front.before ++ place ∷ map pinned_place front.after)
    apart_now = subst AreDistinct places_are m.apart

    differ : AllByRecursion (λ (q : ℕ). is_among (place ∷ []) q ≡ false) (map pinned_place front.before ++ map pinned_place front.after)
    differ = differ-from place (map pinned_place front.before) (map pinned_place front.after) apart_now

    -- what is said of all that was pinned holds of what is left
    all-left_over : (P : Pin (Tagged L) → Type 0) → AllByRecursion P m.memory.pinned → AllByRecursion P left
    all-left_over P all =
        let now = subst (AllByRecursion P) front.is all in
        all_append P front.before front.after (all_front P front.before (item ∷ front.after) now) (all_back P front.before (item ∷ front.after) now).1

    own : (P : Pin (Tagged L) → Type 0) → AllByRecursion P m.memory.pinned → P item
    own P all = (all_back P front.before (item ∷ front.after) (subst (AllByRecursion P) front.is all)).0

    its_group : pinned_for state.taken place ≡ Some item.group
    its_group = own (λ (pin : Pin (Tagged L)). pinned_for state.taken (pinned_place pin) ≡ Some pin.group) m.groups

    its_fate : with_left place (Some (reported_for item.group)) (map mark_of state.taken) ≡ map mark_of after.taken
    its_fate = by (slice_get state.taken place) refl its_group
      where
        stands : (standing : ChunkStanding) → pinning_group standing ≡ Some item.group → reported_standing standing ≡ Reported item.group
        stands Indexed e = cc
        stands (Pinned g) e = let same : g ≡ item.group = cc in ap Reported same
        stands (Reported g) e = cc
        stands (Evicted chunks traces) e = cc
        stands (Abandoned g) e = cc

        by : (o : Option Taken) → slice_get state.taken place ≡ o → option_and_then (λ (t : Taken). pinning_group t.standing) o ≡ Some item.group
            → with_left place (Some (reported_for item.group)) (map mark_of state.taken) ≡ map mark_of (moved (place ∷ []) reported_standing state.taken)
        by None at e = cc
        by (Some t) at e =
            sym (moved_one (Reported item.group) place state.taken)
            ∙ ap (map mark_of) (sym (moved_one-alike reported_standing (Reported item.group) place state.taken t at (stands t.standing e)))

    groups_now : ArePinned pinned_place after.taken left
    groups_now =
        let both = all_and (λ (pin : Pin (Tagged L)). pinned_for state.taken (pinned_place pin) ≡ Some pin.group) (λ (pin : Pin (Tagged L)). is_among (place ∷ []) (pinned_place pin) ≡ false) left
        (all-left_over (λ (pin : Pin (Tagged L)). pinned_for state.taken (pinned_place pin) ≡ Some pin.group) m.groups)
        (all_unmap (λ (q : ℕ). is_among (place ∷ []) q ≡ false) pinned_place left (subst (AllByRecursion (λ (q : ℕ). is_among (place ∷ []) q ≡ false)) (sym (map-append pinned_place front.before front.after)) differ)) in
        all_weaker (λ (pin : Pin (Tagged L)). (pinned_for state.taken (pinned_place pin) ≡ Some pin.group) × (is_among (place ∷ []) (pinned_place pin) ≡ false)) (λ (pin : Pin (Tagged L)). pinned_for after.taken (pinned_place pin) ≡ Some pin.group)
        (λ pin e. unmoved (place ∷ []) reported_standing state.taken (pinned_place pin) e.1 ∙ e.0) left both

    pub sends-one : Midway next after
    sends-one =
        let memory : Remembered (Tagged L) = record m.memory { pinned = left } in
        record {
          memory = memory;
          remembers = subst (λ l. Remembers next.pins (record m.memory { pinned = l })) left_is (s.remembers m.memory m.remembers);
          memory_is = ap (λ (x : Remembered (Tagged L)). record x { pinned = left }) m.memory_is;
          kept_is = s.others ∙ ap (λ (k : Kept L). record k { pins = next.pins; sent = next.sent }) m.kept_is;
          pinned =
              ap (filter (λ q. not (is_among (place ∷ []) q))) (m.pinned ∙ places_are)
              ∙ filter-others place (map pinned_place front.before) (map pinned_place front.after) differ
              ∙ sym (map-append pinned_place front.before front.after);
          groups = groups_now;
          apart = subst AreDistinct (sym (map-append pinned_place front.before front.after)) (distinct-without place (map pinned_place front.before) (map pinned_place front.after) apart_now);
          hand =
              ap (λ l. l ++ place ∷ []) m.hand
              ∙ append_assoc point.state.hand (map pinned_place kept.sent) (place ∷ [])
              ∙ ap (λ l. point.state.hand ++ l) (sym (ap (map pinned_place) s.moves.put ∙ map-append pinned_place kept.sent (item ∷ [])));
          reported =
              ap (λ l. l ++ place ∷ []) m.reported
              ∙ append_assoc point.state.reported (map pinned_place kept.sent) (place ∷ [])
              ∙ ap (λ l. point.state.reported ++ l) (sym (ap (map pinned_place) s.moves.put ∙ map-append pinned_place kept.sent (item ∷ [])));
          pages = sheets-moved (place ∷ []) reported_standing state.taken ∙ m.pages;
          noted =
              ap (fold note_reported (map mark_of point.state.taken)) s.moves.put
              ∙ fold-append note_reported (map mark_of point.state.taken) kept.sent (item ∷ [])
              ∙ ap (with_left place (Some (reported_for item.group))) m.noted
              ∙ its_fate;
          places = λ trace. indexed-moved (place ∷ []) reported_standing state.taken (reports_unindexed (place ∷ []) state.taken) trace ∙ m.places trace;
          count = count-moved (place ∷ []) reported_standing state.taken (reports_unindexed (place ∷ []) state.taken) ∙ m.count;
          others = ap (report_one_of after) m.others;
          waits = all_map Good chunk_of left (all-left_over (λ (pin : Pin (Tagged L)). Good pin.chunk) (all_unmap Good chunk_of m.memory.pinned m.waits));
          went =
              subst (λ l. AllByRecursion Good (map chunk_of l)) (sym s.moves.put)
              (subst (AllByRecursion Good) (sym (map-append chunk_of kept.sent (item ∷ [])))
              (all_append Good (map chunk_of kept.sent) (item.chunk ∷ []) m.went (own (λ (pin : Pin (Tagged L)). Good pin.chunk) (all_unmap Good chunk_of m.memory.pinned m.waits), tt)));
          few =
              let few = m.few in
              let all = ap length front.is ∙ length-append front.before (item ∷ front.after) in
              let rest = length-append front.before front.after in
              omega (arith, few, all, rest);
        }
      where
        report_one_of : AgentState → AgentState → AgentState
        report_one_of now s = record s { taken = now.taken; pinned = now.pinned; hand = now.hand; reported = now.reported }

    pub next-front : order_of state id ≡ place ∷ order_of after id
    next-front = order-waiting kept state id m ∙ ap (map pinned_place) s.moves.taken ∙ ap (λ l. place ∷ l) (sym (order-waiting next after id sends-one))

  -- ---- the sends of a visit

  pub sends-some : (n id : ℕ) (kept new : Kept L) (state : AgentState) → SendsEach SendsNext kept (replicate n id) new → Midway kept state → Midway new (report_each state (take n (order_of state id)))
  sends-some zero id kept new state sends m = subst (λ k. Midway k (report_each state (take 0 (order_of state id)))) (sym sends) m
  sends-some (suc n) id kept new state sends m =
      let next = sends.0 in
      let place = pinned_place sends.1.moves.item in
      subst (λ l. Midway new (report_each state (take (suc n) l))) (sym (next-front kept next state id sends.1 m))
      (sends-some n id next new (report_one state place) sends.2 (sends-one kept next state id sends.1 m))

  -- what waits for other ids stays
  pub others-wait : (n id other : ℕ) (kept new : Kept L) → SendsEach SendsNext kept (replicate n id) new → other ≢ id → waiting new.pins (id_of other) ≡ waiting kept.pins (id_of other)
  others-wait zero id other kept new sends apart = ap (λ (k : Kept L). waiting k.pins (id_of other)) sends
  others-wait (suc n) id other kept new sends apart = others-wait n id other sends.0 new sends.2 apart ∙ sends.1.moves.others other apart

  -- ---- the visits

  -- no id is visited twice
  abbrev pub AreVisitedOnce : List Share → Type 0
  AreVisitedOnce [] = Unit {0}
  AreVisitedOnce (share ∷ shares) = AllByRecursion (λ (other : Share). other.trigger.0 ≢ share.trigger.0) shares × AreVisitedOnce shares

  abbrev pub sends_of : (ℕ → List ℕ) → List Share → List ℕ
  sends_of costs shares = flat_map (λ (share : Share). replicate (count_sent point.settings.size share (costs share.trigger.0)) share.trigger.0) shares

  pub sends-all : (costs : ℕ → List ℕ) (shares : List Share) (kept new : Kept L) (state : AgentState) → AreVisitedOnce shares → AllByRecursion (λ (share : Share). costs_of kept share.trigger.0 ≡ costs share.trigger.0) shares
      → SendsEach SendsNext kept (sends_of costs shares) new → Midway kept state → Midway new (fold (visit point.settings) state shares)
  sends-all costs [] kept new state once same sends m = subst (λ k. Midway k state) (sym sends) m
  sends-all costs (share ∷ shares) kept new state once same sends m =
      let id = share.trigger.0 in
      let n = count_sent point.settings.size share (costs id) in
      let parts = sends-split SendsNext (replicate n id) (sends_of costs shares) kept new sends in
      let mid = parts.0 in
      let visited : visit point.settings state share ≡ report_each state (take n (order_of state id)) =
      ap (λ l. report (take (count_sent point.settings.size share l) (order_of state id)) state) (costs-same kept state id m ∙ same.0) ∙ report-each (take n (order_of state id)) state in
      let there : Midway mid (visit point.settings state share) = subst (Midway mid) (sym visited) (sends-some n id kept mid state parts.1 m) in
      let still = all_weaker (λ (other : Share). (other.trigger.0 ≢ id) × (costs_of kept other.trigger.0 ≡ costs other.trigger.0)) (λ (other : Share). costs_of mid other.trigger.0 ≡ costs other.trigger.0)
      (λ other e. ap (map (λ (pin : Pin (Tagged L)). used_bytes pin.chunk)) (others-wait n id other.trigger.0 kept mid parts.1 e.0) ∙ e.1) shares
      (all_and (λ (other : Share). other.trigger.0 ≢ id) (λ (other : Share). costs_of kept other.trigger.0 ≡ costs other.trigger.0) shares once.0 same.1) in
      sends-all costs shares mid new (visit point.settings state share) once.1 still parts.2 there
