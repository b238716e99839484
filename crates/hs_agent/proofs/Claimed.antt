-- What is kept after a trace was claimed is what the model says then.
use Rattle.std.proofs.Common.{◌≡◌, ℕ, ◌<◌, Bool, true, false, cond, not, ◌||◌, List, [], ◌∷◌, ◌++◌, length, map, Some, None, refl, sym, ap, subst, ◌∙◌, arith}
use Rattle.hs_agent.proofs.Prelude.{find, AllByRecursion, option_map_or, map-append, length-map, length-append, map-map, all_weaker, all_append, all_front, all_back, all_map, all_unmap, TraceId, Ask, Group, Claim, Pin, Remembered, claim_of, is_claim_of, claimed, pin_for, Pinning, Remembers, Indexed, PlainIndexedTrace, is_of, nothing, noted_of, others, chunks_left, AgentState, is_claimed, Pinned, indexed_places, pinned_for, claim_note, claim_trace, claim_unclaimed, Tagged, Placed, place_of, Kept, Holds, HasPage, IsKept, RemembersAs, Point, with_state, pinned_place, plain_claim, waiting_chunks}
use Rattle.hs_index.specs.Index as index
use Rattle.hs_agent.proofs.Indexing.{indexed-claimed, count-others}
use Rattle.hs_agent.proofs.Moved.{sheets, sheets-moved, length-same, pages-same, has_page-same}
use Rattle.hs_agent.proofs.Parted.{unoffered-weaker}
use Rattle.hs_agent.proofs.Moving.{pinned_for-leaving, pinned_for-taken, standings-taken}

-- ---- whether a trace is claimed

pub claimed-plain : (claims : List Claim) (trace : TraceId) → is_claimed (map plain_claim claims) trace ≡ option_map_or (λ (claim : Claim). true) (claim_of claims trace) false
claimed-plain [] trace = refl
claimed-plain (claim ∷ claims) trace = by (is_claim_of trace claim) (claimed-plain claims trace)
  where
    by : (b : Bool) → is_claimed (map plain_claim claims) trace ≡ option_map_or (λ (claim : Claim). true) (claim_of claims trace) false
        → (b || is_claimed (map plain_claim claims) trace) ≡ option_map_or (λ (claim : Claim). true) (cond b (Some claim) (claim_of claims trace)) false
    by true rest = refl
    by false rest = rest

module _ {L : Type 0} (old : Kept L) (point : Point L) (h : Holds old point) (ask : Ask) (trace : TraceId) where
  is_claimed-known : is_claimed point.state.claims trace ≡ option_map_or (λ (claim : Claim). true) (claim_of h.memory.claims trace) false
  is_claimed-known = ap (λ claims. is_claimed claims trace) (sym h.pins.claims) ∙ claimed-plain h.memory.claims trace

  -- a claim holds for good
  pub stays-claimed : (claim : Claim) → claim_of h.memory.claims trace ≡ Some claim → claim_unclaimed ask point.state trace ≡ point.state
  stays-claimed claim e =
      ap (λ b. cond b point.state (claim_trace ask trace point.state)) (is_claimed-known ∙ ap (λ o. option_map_or (λ (claim : Claim). true) o false) e)

  pub is_unclaimed : claim_of h.memory.claims trace ≡ None → claim_unclaimed ask point.state trace ≡ claim_trace ask trace point.state
  is_unclaimed e =
      ap (λ b. cond b point.state (claim_trace ask trace point.state)) (is_claimed-known ∙ ap (λ o. option_map_or (λ (claim : Claim). true) o false) e)

-- ---- the chunks of an index without a trace

module _ {L : Type 0} (P : Placed L → Type 0) (trace : TraceId) where
  pub all-others : (ts : List (Indexed (Tagged L))) → AllByRecursion P (chunks_left ts) → AllByRecursion P (chunks_left (others trace ts))
  all-others [] h = tt
  all-others (t ∷ ts) h = by (is_of trace t) (all-others ts (all_back P t.noted.chunks (chunks_left ts) h))
    where
      by : (b : Bool) → AllByRecursion P (chunks_left (others trace ts)) → AllByRecursion P (chunks_left (cond (not b) (t ∷ others trace ts) (others trace ts)))
      by true rest = rest
      by false rest = all_append P t.noted.chunks (chunks_left (others trace ts)) (all_front P t.noted.chunks (chunks_left ts) h) rest

  pub all-noted : (ts : List (Indexed (Tagged L))) → AllByRecursion P (chunks_left ts) → AllByRecursion P (noted_of trace ts).chunks
  all-noted [] h = tt
  all-noted (t ∷ ts) h = by (is_of trace t) (all-noted ts (all_back P t.noted.chunks (chunks_left ts) h))
    where
      by : (b : Bool) → AllByRecursion P (noted_of trace ts).chunks → AllByRecursion P (option_map_or (λ (u : Indexed (Tagged L)). u.noted) (cond b (Some t) (find (is_of trace) ts)) nothing).chunks
      by true rest = all_front P t.noted.chunks (chunks_left ts) h
      by false rest = rest

  -- with chunks that are pinned
  pub all-pins : (group : Group) (pinned : List (Pin (Tagged L))) (chunks : List (Placed L)) → AllByRecursion P (map (λ (pin : Pin (Tagged L)). pin.chunk) pinned) → AllByRecursion P chunks
      → AllByRecursion P (map (λ (pin : Pin (Tagged L)). pin.chunk) (pinned ++ map (pin_for group) chunks))
  all-pins group [] [] h k = tt
  all-pins group [] (c ∷ chunks) h k = (k.0, all-pins group [] chunks tt k.1)
  all-pins group (pin ∷ pinned) chunks h k = (h.0, all-pins group pinned chunks h.1 k)

module _ {L : Type 0} (old : Kept L) (point : Point L) (h : Holds old point) (ask : Ask) (trace : TraceId) (free : claim_of h.memory.claims trace ≡ None) where
  abbrev touched : List (Indexed (Tagged L))
  touched = old.index.touched

  abbrev noted : PlainIndexedTrace (Tagged L)
  noted = noted_of trace touched

  -- what the node remembers then
  abbrev pub with_claim : Remembered (Tagged L)
  with_claim = claimed h.memory ask.group ask.laterals trace noted.chunks noted.crumbs

  abbrev after : AgentState
  after = claim_trace ask trace point.state

  abbrev places : List ℕ
  places = indexed_places point.state.taken trace

  same_sheets : sheets after.taken ≡ sheets point.state.taken
  same_sheets = sheets-moved places (λ _. Pinned ask.group) point.state.taken

  stands_for : RemembersAs point.settings point.node after with_claim
  stands_for = record {
    node_is = h.pins.node_is;
    rules = h.pins.rules;
    most = h.pins.most;
    claims =
        map-append plain_claim h.memory.claims (record { trace = trace; group = ask.group; laterals = ask.laterals; crumbs = noted.crumbs } ∷ [])
        ∙ ap (λ l. l ++ record { trace = trace; group = ask.group; laterals = ask.laterals } ∷ []) h.pins.claims;
    pinned =
        map-append pinned_place h.memory.pinned (map (pin_for ask.group) noted.chunks)
        ∙ ap (λ l. l ++ map pinned_place (map (pin_for ask.group) noted.chunks)) h.pins.pinned
        ∙ ap (λ l. point.state.pinned ++ l) (map-map pinned_place (pin_for ask.group) noted.chunks ∙ h.index.touched.places trace);
    groups =
        all_append (λ (pin : Pin (Tagged L)). pinned_for after.taken (pinned_place pin) ≡ Some pin.group) h.memory.pinned (map (pin_for ask.group) noted.chunks)
        (all_weaker (λ (pin : Pin (Tagged L)). pinned_for point.state.taken (pinned_place pin) ≡ Some pin.group) (λ (pin : Pin (Tagged L)). pinned_for after.taken (pinned_place pin) ≡ Some pin.group)
        (λ pin e. pinned_for-leaving trace (λ _. Pinned ask.group) point.state.taken (pinned_place pin) pin.group e) h.memory.pinned h.pins.groups)
        (all_map (λ (pin : Pin (Tagged L)). pinned_for after.taken (pinned_place pin) ≡ Some pin.group) (pin_for ask.group) noted.chunks
        (all_unmap (λ (place : ℕ). pinned_for after.taken place ≡ Some ask.group) place_of noted.chunks
        (subst (AllByRecursion (λ (place : ℕ). pinned_for after.taken place ≡ Some ask.group)) (sym (h.index.touched.places trace)) (pinned_for-taken trace ask.group point.state.taken))));
    abandoned = h.pins.abandoned;
    tried = h.pins.tried;
    admitted = h.pins.admitted;
  }

  module _ (pins : Pinning (Tagged L)) where
    abbrev pub left : Kept L
    left = record old { index = index.claimed old.index trace; pins = pins; claims = old.claims ++ record { trace = trace; group = ask.group } ∷ [] }

    waits : (P : Placed L → Type 0) → AllByRecursion P (waiting_chunks old h.memory.pinned) → AllByRecursion P (waiting_chunks left with_claim.pinned)
    waits P all =
        let chunks = map (λ (pin : Pin (Tagged L)). pin.chunk) h.memory.pinned in
        let indexed = all_front P (chunks_left touched) chunks all in
        let pinned = all_back P (chunks_left touched) chunks all in
        all_append P (chunks_left (others trace touched)) (map (λ (pin : Pin (Tagged L)). pin.chunk) with_claim.pinned)
        (all-others P trace touched indexed)
        (all-pins P trace ask.group h.memory.pinned noted.chunks pinned (all-noted P trace touched indexed))

    -- what is kept is what the model says, where a trace is claimed
    pub holds-claimed : Remembers pins with_claim → Holds left (with_state (claim_trace ask trace point.state) point)
    holds-claimed remembers =
        let long = length-same point.state.taken after.taken same_sheets in
        record {
          node_is = h.node_is;
          memory = with_claim;
          remembers = remembers;
          pins = stands_for;
          index = record { threshold = h.index.threshold; most = h.index.most; touched = indexed-claimed h.memory.claims ask trace touched point.state free h.index.touched };
          sent = h.sent;
          offered = h.offered;
          hand = h.hand;
          again = h.again;
          keeps = h.keeps;
          lefts = h.lefts;
          untouched =
              unoffered-weaker (HasPage point.settings point.state.taken) (HasPage point.settings after.taken) (λ placed page. has_page-same point.state.taken after.taken same_sheets point.settings placed page) old.offered old.again
              old.hand h.untouched;
          standings = h.standings ∙ sym (standings-taken trace ask.group point.state.taken);
          claims =
              ap (λ l. l ++ record { trace = trace; group = ask.group } ∷ []) h.claims
              ∙ sym (map-append claim_note point.state.claims (record { trace = trace; group = ask.group; laterals = ask.laterals } ∷ []));
          pages = h.pages ∙ sym (pages-same point.state.taken after.taken same_sheets point.state.reported);
          reported = all_weaker (λ (place : ℕ). place < length point.state.taken) (λ (place : ℕ). place < length after.taken) (λ place within. subst (λ n. place < n) (sym long) within) point.state.reported h.reported;
          buffers = h.buffers ∙ sym long;
          each =
              let P = IsKept point.buffers in
              all_append P (waiting_chunks left with_claim.pinned) old.hand (waits P (all_front P (waiting_chunks old h.memory.pinned) old.hand h.each)) (all_back P (waiting_chunks old h.memory.pinned) old.hand h.each);
          paged =
              let P = HasPage point.settings point.state.taken in
              all_weaker P (HasPage point.settings after.taken) (λ placed page. has_page-same point.state.taken after.taken same_sheets point.settings placed page) (waiting_chunks left with_claim.pinned) (waits P h.paged);
          few =
              let few = h.few in
              let split = count-others trace touched h.index.touched.apart in
              let more = length-append h.memory.pinned (map (pin_for ask.group) noted.chunks) in
              let own = length-map noted.chunks (pin_for ask.group) in
              omega (arith, few, split, more, own, long);
          fits = let fits = h.fits in omega (arith, fits, long);
        }
