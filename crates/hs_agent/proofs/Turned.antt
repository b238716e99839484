-- What is kept after a turn, and the shares then, are what the model says.
use Rattle.std.proofs.Common.{◌≡◌, ℕ, ◌<◌, ◌≤◌, Bool, true, false, cond, List, [], ◌∷◌, ◌++◌, length, map, fold, refl, sym, ap, subst, ◌∙◌, arith, All}
use Rattle.hs_agent.proofs.Prelude.{AreLeft, unoffered, length-map, mark_of, going_buffer, going_left, Placed, filter_map, ◌≢◌, AllByRecursion, cons_option, option_map, option_map_or, option_to_list, is_some, IsSome, append_assoc, map-append, All-from_recursion, recursion_from_All, slice_get_within, map-map, all_weaker, all_append, all_front, all_back, all_map, all_unmap, all_and, used_in, used_of, page_bytes, chunks_left, Pin, Remembered, waiting, used_bytes, Share, SendsEach, visited, Taken, AgentState, has_crumb, claim_note, bytes_at, visit, turn, PlacesMatch, count_of, Tagged, place_of, Kept, Point, Holds, IsKept, HasPage, IsIndexed, RemembersAs, with_state, pinned_place, plain_claim, waiting_chunks, all_held, let_go_all, reported, reported_going, page_in, SendsNext, costs_of, id_of}
use Rattle.std.specs.List.{AllPairs}
use Rattle.std.proofs.lemmas.List.Elements.{filter_map-append}
use Rattle.hs_base.proofs.Alls.{pairs_head, pairs_tail}
use Rattle.hs_law_agent.specs.Turning.{shares_after}
use Rattle.hs_law_agent.specs.Turning as model
use Rattle.hs_agent.specs.Trying.{lefts_noted}
use Rattle.hs_agent.proofs.Moved.{length-same, pages-same, has_page-same}
use Rattle.hs_agent.proofs.NextPins.{AreDistinct, distinct-counted, all-waiting}
use Rattle.hs_agent.proofs.Parted.{hand-left, pins-within, unoffered-more, unoffered-weaker}
use Rattle.hs_agent.proofs.Relieving.{let_go_all-is, fold-goings}
use Rattle.hs_agent.proofs.Sends.{Midway, Good, begins, chunk_of, note_reported, costs-same, sends-all, sends_of, AreVisitedOnce}

-- ---- shares

module _ {L : Type 0} (first : Kept L) (point : Point L) (h : Holds first point) where
  pub visited-once : (shares : List Share) → AllPairs (λ (a b : Share). a.trigger.0 < b.trigger.0) shares → AreVisitedOnce first point h shares
  visited-once [] rising = tt
  visited-once (share ∷ shares) rising = (
    all_weaker (λ (other : Share). share.trigger.0 < other.trigger.0) (λ (other : Share). other.trigger.0 ≢ share.trigger.0) (λ other below same. absurd (omega (arith, below, same))) shares
        (recursion_from_All (λ (other : Share). share.trigger.0 < other.trigger.0) shares (pairs_head (λ (a b : Share). a.trigger.0 < b.trigger.0) share shares rising)),
    visited-once shares (pairs_tail (λ (a b : Share). a.trigger.0 < b.trigger.0) share shares rising),
  )

  same_costs : (shares : List Share) → AllByRecursion (λ (share : Share). costs_of first share.trigger.0 ≡ costs_of first share.trigger.0) shares
  same_costs [] = tt
  same_costs (share ∷ shares) = (refl, same_costs shares)

  -- no page costs more than the size
  pub costs-within : AreDistinct (map pinned_place h.memory.pinned) → (id : ℕ) → All (λ cost. cost ≤ point.settings.size) (costs_of first id)
  costs-within apart id =
      let m = begins first point h apart in
      All-from_recursion (λ cost. cost ≤ point.settings.size) (costs_of first id)
      (all_map (λ cost. cost ≤ point.settings.size) (λ (pin : Pin (Tagged L)). used_bytes pin.chunk) (waiting first.pins (id_of id))
      (all_weaker (λ (pin : Pin (Tagged L)). Good first point h pin.chunk) (λ (pin : Pin (Tagged L)). used_bytes pin.chunk ≤ point.settings.size)
      (λ pin good. let is : used_in pin.chunk.chunk ≡ used_of good.1.chunk.sheet = ap (λ p. option_map_or used_of p 0) good.1.page in let most = good.1.size in omega (arith, is, most))
      (waiting first.pins (id_of id))
      (subst (AllByRecursion (λ (pin : Pin (Tagged L)). Good first point h pin.chunk)) (sym (h.remembers.waits (id_of id)))
      (all-waiting (λ (pin : Pin (Tagged L)). Good first point h pin.chunk) (id_of id) h.memory.pinned (all_unmap (Good first point h) chunk_of h.memory.pinned (good_waits apart))))))
    where
      good_waits : AreDistinct (map pinned_place h.memory.pinned) → AllByRecursion (Good first point h) (map chunk_of h.memory.pinned)
      good_waits apart =
          let P = IsKept point.buffers in
          let Q = HasPage point.settings point.state.taken in
          all_and P Q (map chunk_of h.memory.pinned)
          (all_back P (chunks_left first.index.touched) (map chunk_of h.memory.pinned) (all_front P (waiting_chunks first h.memory.pinned) first.hand h.each))
          (all_back Q (chunks_left first.index.touched) (map chunk_of h.memory.pinned) h.paged)

  pub pins-distinct : PlacesMatch point.state → AreDistinct (map pinned_place h.memory.pinned)
  pins-distinct match =
      distinct-counted (map pinned_place h.memory.pinned)
      (λ p. let is : count_of (map pinned_place h.memory.pinned) p ≡ count_of point.state.pinned p = ap (λ l. count_of l p) h.pins.pinned in once p _ (is ∙ match.pinned_each p))
    where
      once : (p : ℕ) (b : Bool) → count_of (map pinned_place h.memory.pinned) p ≡ cond b 1 0 → count_of (map pinned_place h.memory.pinned) p ≤ 1
      once p true e = omega (arith, e)
      once p false e = omega (arith, e)

  pub shares-turned : AreDistinct (map pinned_place h.memory.pinned) → map (λ (share : Share). visited point.settings.size share (costs_of first share.trigger.0)) point.state.shares ≡ shares_after point.settings point.state
  shares-turned apart = by point.state.shares
    where
      by : (shares : List Share) → map (λ (share : Share). visited point.settings.size share (costs_of first share.trigger.0)) shares ≡ map (λ (share : Share). visited point.settings.size share (model.costs_of point.state share.trigger.0)) shares
      by [] = refl
      by (share ∷ shares) = (λ i. visited point.settings.size share (sym (costs-same first point h first point.state share.trigger.0 (begins first point h apart)) i) ∷ by shares i)

  -- ---- what is kept then

  module _ (apart : AreDistinct (map pinned_place h.memory.pinned)) (once : AreVisitedOnce first point h point.state.shares) (last : Kept L)
      (sends : SendsEach SendsNext first (sends_of first point h (costs_of first) point.state.shares) last) where
    abbrev state : AgentState
    state = fold (visit point.settings) point.state point.state.shares

    m : Midway first point h last state
    m = sends-all first point h (costs_of first) point.state.shares first last point.state once (same_costs point.state.shares) sends (begins first point h apart)

    abbrev after : AgentState
    after = turn point.settings point.state

    abbrev sent : List (Pin (Tagged L))
    sent = last.sent

    -- each chunk that was sent has its page
    pub sent-paged : All (λ (pin : Pin (Tagged L)). IsSome pin.chunk.chunk.page) last.sent
    sent-paged =
        All-from_recursion (λ (pin : Pin (Tagged L)). IsSome pin.chunk.chunk.page) last.sent
        (all_weaker (λ (pin : Pin (Tagged L)). Good first point h pin.chunk) (λ (pin : Pin (Tagged L)). IsSome pin.chunk.chunk.page) (λ pin good. ap is_some good.1.page) last.sent (all_unmap (Good first point h) chunk_of last.sent m.went))

    abbrev left : Kept L
    left = record first {
      pins = last.pins;
      sent = [];
      pages = first.pages ++ map page_in sent;
      standings = fold note_reported first.standings sent;
      hand = first.hand ++ map chunk_of sent;
      lefts = first.lefts ++ map going_left (map reported_going sent);
    }

    is_left : reported last ≡ left
    is_left =
        ap (λ (k : Kept L). let_go_all (record k { sent = []; pages = k.pages ++ map page_in sent }) (map reported_going sent)) m.kept_is
        ∙ let_go_all-is (record first { pins = last.pins; sent = []; pages = first.pages ++ map page_in sent }) (map reported_going sent)
        ∙ (λ i. record first {
          pins = last.pins;
          sent = [];
          pages = first.pages ++ map page_in sent;
          standings = fold-goings reported_going first.standings sent i;
          hand = first.hand ++ map-map going_buffer reported_going sent i;
          lefts = first.lefts ++ map going_left (map reported_going sent);
        })

    stands_for : RemembersAs point.settings point.node after m.memory
    stands_for = record {
      node_is = ap (λ (x : Remembered (Tagged L)). x.node) m.memory_is ∙ h.pins.node_is;
      rules = ap (λ (x : Remembered (Tagged L)). x.rules) m.memory_is ∙ h.pins.rules;
      most = ap (λ (x : Remembered (Tagged L)). x.most) m.memory_is ∙ h.pins.most;
      claims = ap (λ (x : Remembered (Tagged L)). map plain_claim x.claims) m.memory_is ∙ h.pins.claims ∙ sym (ap (λ (s : AgentState). s.claims) m.others);
      pinned = sym m.pinned;
      groups = m.groups;
      abandoned = ap (λ (x : Remembered (Tagged L)). x.abandoned) m.memory_is ∙ h.pins.abandoned ∙ sym (ap (λ (s : AgentState). s.abandoned) m.others);
      tried = ap (λ (x : Remembered (Tagged L)). x.tried) m.memory_is ∙ h.pins.tried ∙ sym (ap (λ (s : AgentState). s.tried) m.others);
      admitted = ap (λ (x : Remembered (Tagged L)). x.admitted) m.memory_is ∙ h.pins.admitted ∙ sym (ap (λ (s : AgentState). s.admitted) m.others);
    }

    still_indexed : IsIndexed m.memory.claims after first.index.touched
    still_indexed =
        let was = h.index.touched in
        subst (λ claims. IsIndexed claims after first.index.touched) (sym (ap (λ (x : Remembered (Tagged L)). x.claims) m.memory_is))
        (record {
          traces = ap (λ (s : AgentState). s.touched) m.others ∙ was.traces;
          apart = was.apart;
          free = was.free;
          places = λ trace. was.places trace ∙ sym (m.places trace);
          count = m.count ∙ was.count;
          crumbs = λ trace n. ap (λ (s : AgentState). has_crumb s.crumbs (record { trace = trace; node = record { 0 = n } })) m.others ∙ was.crumbs trace n;
        })

    hand_grew : option_to_list point.offered ++ map place_of (first.hand ++ map chunk_of sent) ≡ after.hand
    hand_grew =
        ap (λ l. option_to_list point.offered ++ l) (map-append place_of first.hand (map chunk_of sent) ∙ ap (λ l. map place_of first.hand ++ l) (map-map place_of chunk_of sent))
        ∙ sym (append_assoc (option_to_list point.offered) (map place_of first.hand) (map pinned_place sent))
        ∙ ap (λ l. l ++ map pinned_place sent) h.hand
        ∙ sym m.hand

    its_bytes : (pins : List (Pin (Tagged L))) → AllByRecursion (Good first point h) (map chunk_of pins) → filter_map (bytes_at after.taken) (map pinned_place pins) ≡ map page_in pins
    its_bytes [] good = refl
    its_bytes (pin ∷ pins) good =
        let page = has_page-same point.state.taken after.taken m.pages point.settings pin.chunk good.0.1 in
        ap (λ o. cons_option (option_map (λ (chunk : Taken). page_bytes chunk.sheet) o) (filter_map (bytes_at after.taken) (map pinned_place pins))) page.at
        ∙ (λ i. sym (ap (λ p. option_map_or page_bytes p []) page.page) i ∷ its_bytes pins good.1 i)

    within_all : (pins : List (Pin (Tagged L))) → AllByRecursion (Good first point h) (map chunk_of pins) → AllByRecursion (λ (place : ℕ). place < length after.taken) (map pinned_place pins)
    within_all [] good = tt
    within_all (pin ∷ pins) good =
        let page = has_page-same point.state.taken after.taken m.pages point.settings pin.chunk good.0.1 in
        (slice_get_within after.taken (pinned_place pin) page.chunk page.at, within_all pins good.1)

    long : length after.taken ≡ length point.state.taken
    long = length-same point.state.taken after.taken m.pages

    each_kept : AllByRecursion (IsKept point.buffers) (all_held left m.memory.pinned)
    each_kept =
        let P = IsKept point.buffers in
        let front = all_front P (waiting_chunks first h.memory.pinned) first.hand h.each in
        let hand = all_back P (waiting_chunks first h.memory.pinned) first.hand h.each in
        all_append P (waiting_chunks left m.memory.pinned) (first.hand ++ map chunk_of sent)
        (all_append P (chunks_left first.index.touched) (map chunk_of m.memory.pinned) (all_front P (chunks_left first.index.touched) (map chunk_of h.memory.pinned) front)
        (all_weaker (Good first point h) P (λ placed good. good.0) (map chunk_of m.memory.pinned) m.waits))
        (all_append P first.hand (map chunk_of sent) hand (all_weaker (Good first point h) P (λ placed good. good.0) (map chunk_of sent) m.went))

    each_paged : AllByRecursion (HasPage point.settings after.taken) (waiting_chunks left m.memory.pinned)
    each_paged =
        let Q = HasPage point.settings point.state.taken in
        all_weaker Q (HasPage point.settings after.taken) (λ placed page. has_page-same point.state.taken after.taken m.pages point.settings placed page) (waiting_chunks left m.memory.pinned)
        (all_append Q (chunks_left first.index.touched) (map chunk_of m.memory.pinned) (all_front Q (chunks_left first.index.touched) (map chunk_of h.memory.pinned) h.paged)
        (all_weaker (Good first point h) Q (λ placed good. good.1) (map chunk_of m.memory.pinned) m.waits))

    sent_pages : AllByRecursion (HasPage point.settings point.state.taken) (map chunk_of sent)
    sent_pages = all_weaker (Good first point h) (HasPage point.settings point.state.taken) (λ placed good. good.1) (map chunk_of sent) m.went

    lefts_now : AreLeft left.standings (option_to_list first.offered ++ map place_of left.hand) left.lefts
    lefts_now =
        let count : length first.standings ≡ length point.state.taken = ap length h.standings ∙ length-map point.state.taken mark_of in
        let within = pins-within (length first.standings) reported_going (λ pin. refl) sent
        (all_weaker (HasPage point.settings point.state.taken) (λ (placed : Placed L). place_of placed < length first.standings)
        (λ placed page. let below = slice_get_within point.state.taken (place_of placed) page.chunk page.at in omega (arith, below, count)) (map chunk_of sent) sent_pages) in
        subst (λ standings. AreLeft standings (option_to_list first.offered ++ map place_of left.hand) left.lefts) (fold-goings reported_going first.standings sent)
        (subst (λ hand. AreLeft (lefts_noted first.standings (map reported_going sent)) (option_to_list first.offered ++ map place_of (first.hand ++ hand)) left.lefts) (map-map going_buffer reported_going sent)
        (hand-left first.standings first.offered first.hand first.lefts (map reported_going sent) within h.lefts))

    untouched_now : AllByRecursion (HasPage point.settings after.taken) (unoffered first.offered first.again left.hand)
    untouched_now =
        unoffered-weaker (HasPage point.settings point.state.taken) (HasPage point.settings after.taken) (λ placed page. has_page-same point.state.taken after.taken m.pages point.settings placed page) first.offered first.again left.hand
        (unoffered-more (HasPage point.settings point.state.taken) first.offered first.again first.hand (map chunk_of sent) h.untouched sent_pages)

    holds_left : Holds left (with_state after point)
    holds_left = record {
      node_is = h.node_is;
      memory = m.memory;
      remembers = m.remembers;
      pins = stands_for;
      index = record { threshold = h.index.threshold; most = h.index.most; touched = still_indexed };
      sent = refl;
      offered = h.offered;
      hand = hand_grew;
      again = h.again;
      keeps = h.keeps;
      lefts = lefts_now;
      untouched = untouched_now;
      standings = ap (λ ss. fold note_reported ss sent) h.standings ∙ m.noted;
      claims = h.claims ∙ sym (ap (λ (s : AgentState). map claim_note s.claims) m.others);
      pages =
          ap (λ l. l ++ map page_in sent) (h.pages ∙ sym (pages-same point.state.taken after.taken m.pages point.state.reported))
          ∙ ap (λ l. filter_map (bytes_at after.taken) point.state.reported ++ l) (sym (its_bytes sent m.went))
          ∙ sym (filter_map-append (bytes_at after.taken) point.state.reported (map pinned_place sent))
          ∙ ap (filter_map (bytes_at after.taken)) (sym m.reported);
      reported =
          subst (AllByRecursion (λ (place : ℕ). place < length after.taken)) (sym m.reported)
          (all_append (λ (place : ℕ). place < length after.taken) point.state.reported (map pinned_place sent)
          (all_weaker (λ (place : ℕ). place < length point.state.taken) (λ (place : ℕ). place < length after.taken) (λ place within. subst (λ n. place < n) (sym long) within) point.state.reported h.reported)
          (within_all sent m.went));
      buffers = h.buffers ∙ sym long;
      each = each_kept;
      paged = each_paged;
      few = let few = h.few in let less = m.few in omega (arith, few, less, long);
      fits = let fits = h.fits in omega (arith, fits, long);
    }

    -- what is kept is what the model says, where what was sent is reported
    pub holds-turned : Holds (reported last) (with_state (turn point.settings point.state) point)
    holds-turned = subst (λ k. Holds k (with_state after point)) (sym is_left) holds_left
