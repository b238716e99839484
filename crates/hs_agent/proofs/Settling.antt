-- What is kept after an eviction is what the model says then.
use Rattle.std.proofs.Common.{◌≡◌, ℕ, ◌<◌, List, ◌++◌, length, map, fold, sym, ap, subst, ◌∙◌, arith, [], ◌∷◌}
use Rattle.hs_agent.proofs.Prelude.{AreLeft, unoffered, length-map, slice_get_within, mark_of, going_buffer, going_left, filter_map, AllByRecursion, option_to_list, append_assoc, map-append, map-map, all_weaker, all_append, all_front, all_back, Pin, Indexed, Leaving, chunks_left, kept, evicted, settled, going, AgentState, claim_note, bytes_at, evict, Tagged, Placed, place_of, Kept, Holds, HasPage, IsKept, RemembersAs, Point, with_state, pinned_place, waiting_chunks, all_held, let_go_all, evicted_going}
use Rattle.hs_index.specs.Index.{with_touched}
use Rattle.hs_agent.specs.Trying.{lefts_noted}
use Rattle.hs_agent.proofs.Evictions.{HasEvicted, same_evicted, note_leaving, all-kept, all-evicted, count-kept}
use Rattle.hs_agent.proofs.Moved.{length-same, pages-same, has_page-same}
use Rattle.hs_agent.proofs.Parted.{GoWithin, hand-left, unoffered-more, unoffered-weaker}
use Rattle.hs_agent.proofs.Relieving.{let_go_all-is, fold-goings}

module _ {L : Type 0} (old : Kept L) (point : Point L) (h : Holds old point) where
  abbrev touched : List (Indexed (Tagged L))
  touched = old.index.touched

  abbrev after : AgentState
  after = evict point.settings point.state

  gone : HasEvicted point.settings h.memory.claims point.state after touched
  gone = same_evicted point.settings h.memory.claims point.state touched h.index.touched

  abbrev buffer_in : Leaving (Tagged L) → Placed L
  buffer_in l = l.buffer

  module _ (threshold most : ℕ) where
    abbrev stay : List (Indexed (Tagged L))
    stay = kept threshold most touched

    abbrev leave : List (Leaving (Tagged L))
    leave = evicted threshold most touched

    -- what is kept then
    abbrev left : Kept L
    left = record old {
      index = with_touched old.index stay;
      standings = fold note_leaving old.standings leave;
      hand = old.hand ++ map buffer_in leave;
      lefts = old.lefts ++ map going_left (map evicted_going leave);
    }

    is_left : let_go_all (record old { index = with_touched old.index stay }) (map evicted_going leave) ≡ left
    is_left =
        let_go_all-is (record old { index = with_touched old.index stay }) (map evicted_going leave)
        ∙ (λ i. record old { index = with_touched old.index stay; standings = fold-goings evicted_going old.standings leave i; hand = old.hand ++ map-map going_buffer evicted_going leave i; lefts = old.lefts ++ map going_left (map evicted_going leave) })

    each_kept : AllByRecursion (IsKept point.buffers) (all_held left h.memory.pinned)
    each_kept =
        let P = IsKept point.buffers in
        let pins = map (λ (pin : Pin (Tagged L)). pin.chunk) h.memory.pinned in
        let front = all_front P (waiting_chunks old h.memory.pinned) old.hand h.each in
        let hand = all_back P (waiting_chunks old h.memory.pinned) old.hand h.each in
        let indexed = all_front P (chunks_left touched) pins front in
        let pinned = all_back P (chunks_left touched) pins front in
        all_append P (chunks_left stay ++ pins) (old.hand ++ map buffer_in leave)
        (all_append P (chunks_left stay) pins (all-kept P threshold most touched indexed) pinned)
        (all_append P old.hand (map buffer_in leave) hand (all-evicted P threshold most touched indexed))

    each_paged : AllByRecursion (HasPage point.settings after.taken) (waiting_chunks left h.memory.pinned)
    each_paged =
        let P = HasPage point.settings point.state.taken in
        let pins = map (λ (pin : Pin (Tagged L)). pin.chunk) h.memory.pinned in
        all_weaker P (HasPage point.settings after.taken) (λ placed page. has_page-same point.state.taken after.taken gone.pages point.settings placed page) (chunks_left stay ++ pins)
        (all_append P (chunks_left stay) pins (all-kept P threshold most touched (all_front P (chunks_left touched) pins h.paged)) (all_back P (chunks_left touched) pins h.paged))

    leave_paged : AllByRecursion (HasPage point.settings point.state.taken) (map buffer_in leave)
    leave_paged =
        let P = HasPage point.settings point.state.taken in
        let pins = map (λ (pin : Pin (Tagged L)). pin.chunk) h.memory.pinned in
        all-evicted P threshold most touched (all_front P (chunks_left touched) pins h.paged)

    lefts_now : AreLeft left.standings (option_to_list old.offered ++ map place_of left.hand) left.lefts
    lefts_now =
        let count : length old.standings ≡ length point.state.taken = ap length h.standings ∙ length-map point.state.taken mark_of in
        subst (λ standings. AreLeft standings (option_to_list old.offered ++ map place_of left.hand) left.lefts) (fold-goings evicted_going old.standings leave)
        (subst (λ hand. AreLeft (lefts_noted old.standings (map evicted_going leave)) (option_to_list old.offered ++ map place_of (old.hand ++ hand)) left.lefts) (map-map going_buffer evicted_going leave)
        (hand-left old.standings old.offered old.hand old.lefts (map evicted_going leave) (within leave leave_paged count) h.lefts))
      where
        within : (ls : List (Leaving (Tagged L))) → AllByRecursion (HasPage point.settings point.state.taken) (map buffer_in ls) → length old.standings ≡ length point.state.taken
            → GoWithin (length old.standings) (map evicted_going ls)
        within [] pages count = tt
        within (l ∷ ls) pages count = (let below = slice_get_within point.state.taken (place_of l.buffer) pages.0.chunk pages.0.at in omega (arith, below, count), within ls pages.1 count)

    untouched_now : AllByRecursion (HasPage point.settings after.taken) (unoffered old.offered old.again left.hand)
    untouched_now =
        unoffered-weaker (HasPage point.settings point.state.taken) (HasPage point.settings after.taken) (λ placed page. has_page-same point.state.taken after.taken gone.pages point.settings placed page) old.offered old.again left.hand
        (unoffered-more (HasPage point.settings point.state.taken) old.offered old.again old.hand (map buffer_in leave) h.untouched leave_paged)

  abbrev threshold : ℕ
  threshold = point.settings.threshold

  abbrev most : ℕ
  most = point.settings.traces

  stands_for : RemembersAs point.settings point.node after h.memory
  stands_for = record {
    node_is = h.pins.node_is;
    rules = h.pins.rules;
    most = h.pins.most;
    claims = h.pins.claims ∙ sym (ap (λ (s : AgentState). s.claims) gone.others);
    pinned = h.pins.pinned ∙ sym (ap (λ (s : AgentState). s.pinned) gone.others);
    groups = all_weaker _ _ (λ (pin : Pin (Tagged L)) e. gone.pinned (pinned_place pin) pin.group e) h.memory.pinned h.pins.groups;
    abandoned = h.pins.abandoned ∙ sym (ap (λ (s : AgentState). s.abandoned) gone.others);
    tried = h.pins.tried ∙ sym (ap (λ (s : AgentState). s.tried) gone.others);
    admitted = h.pins.admitted ∙ sym (ap (λ (s : AgentState). s.admitted) gone.others);
  }

  hand_grew : option_to_list point.offered ++ map place_of (old.hand ++ map buffer_in (leave threshold most)) ≡ after.hand
  hand_grew =
      ap (λ l. option_to_list point.offered ++ l) (map-append place_of old.hand (map buffer_in (leave threshold most)) ∙ ap (λ l. map place_of old.hand ++ l) (map-map place_of buffer_in (leave threshold most)))
      ∙ sym (append_assoc (option_to_list point.offered) (map place_of old.hand) (map (λ (l : Leaving (Tagged L)). place_of l.buffer) (leave threshold most)))
      ∙ ap (λ l. l ++ map (λ (l : Leaving (Tagged L)). place_of l.buffer) (leave threshold most)) h.hand
      ∙ sym gone.hand

  holds_left : Holds (left threshold most) (with_state after point)
  holds_left =
      let long = length-same point.state.taken after.taken gone.pages in
      record {
        node_is = h.node_is;
        memory = h.memory;
        remembers = h.remembers;
        pins = stands_for;
        index = record { threshold = h.index.threshold; most = h.index.most; touched = gone.indexed };
        sent = h.sent;
        offered = h.offered;
        hand = hand_grew;
        again = h.again;
        keeps = h.keeps;
        lefts = lefts_now threshold most;
        untouched = untouched_now threshold most;
        standings = ap (λ ss. fold note_leaving ss (leave threshold most)) h.standings ∙ gone.noted;
        claims = h.claims ∙ sym (ap (λ (s : AgentState). map claim_note s.claims) gone.others);
        pages =
            h.pages
            ∙ sym (pages-same point.state.taken after.taken gone.pages point.state.reported)
            ∙ sym (ap (λ (s : AgentState). filter_map (bytes_at after.taken) s.reported) gone.others);
        reported =
            subst (AllByRecursion (λ (place : ℕ). place < length after.taken)) (sym (ap (λ (s : AgentState). s.reported) gone.others))
            (all_weaker (λ (place : ℕ). place < length point.state.taken) (λ (place : ℕ). place < length after.taken) (λ place within. subst (λ n. place < n) (sym long) within) point.state.reported h.reported);
        buffers = h.buffers ∙ sym long;
        each = each_kept threshold most;
        paged = each_paged threshold most;
        few =
            let fewer = count-kept threshold most touched in
            let few = h.few in
            omega (arith, fewer, few, long);
        fits = let fits = h.fits in omega (arith, fits, long);
      }

  -- what is kept is what the model says, where traces went
  pub holds-settled : Holds (let_go_all (record old { index = settled old.index }) (map evicted_going (going old.index))) (with_state (evict point.settings point.state) point)
  holds-settled =
      subst (λ (limits : ℕ × ℕ). Holds (let_go_all (record old { index = with_touched old.index (kept limits.0 limits.1 touched) }) (map evicted_going (evicted limits.0 limits.1 touched))) (with_state after point))
      (λ i. (sym h.index.threshold i, sym h.index.most i))
      (subst (λ k. Holds k (with_state after point)) (sym (is_left threshold most)) holds_left)
