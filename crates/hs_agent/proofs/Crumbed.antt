-- What is kept after a crumb came is what the model says then, before anything has to give way.
use Rattle.std.proofs.Common.{◌≡◌, Bool, true, false, cond, ◌||◌, ◌&&◌, List, [], ◌∷◌, ◌++◌, map, Some, None, nat_eq, refl, sym, ap, subst, ◌∙◌, arith}
use Rattle.hs_agent.proofs.Prelude.{AllByRecursion, option_map, option_map_or, option_and_then, is_some, or-false, by_answer, all_weaker, all_append, all_front, all_back, TraceId, NodeId, Crumb, has_node, with_node, has-with_node, same_trace, Claim, Pin, claim_of, is_claim_of, crumbed, Pinning, Remembers, Indexed, noted_of, touch, chunks_left, AgentState, ClaimedTrace, indexed_places, indexed_count, has_crumb, with_crumb, late_of, with_touched, late_crumb, tell_late, evict, same_trace-true, same_trace-refl, Tagged, Placed, Kept, Holds, IsKept, HasPage, IsIndexed, Point, with_state, plain_claim, waiting_chunks, crumbs_known, crumb_taken}
use Rattle.hs_pins.specs.Remembered as pins
use Rattle.hs_index.specs.Index as index
use Rattle.hs_law_agent.specs.State as model
use Rattle.hs_agent.proofs.Arrived.{all-touched}
use Rattle.hs_agent.proofs.Claimed.{all-noted}
use Rattle.hs_agent.proofs.CrumbSets.{known-claimed}
use Rattle.hs_agent.proofs.Indexing.{indexed-crumbed, count-touched, crumbs-remembered, same_swap}

-- ---- the claims, as the model has them

pub claim-plain : (claims : List Claim) (trace : TraceId) → model.claim_of (map plain_claim claims) trace ≡ option_map plain_claim (claim_of claims trace)
claim-plain [] trace = refl
claim-plain (claim ∷ claims) trace = by (is_claim_of trace claim) (claim-plain claims trace)
  where
    by : (b : Bool) → model.claim_of (map plain_claim claims) trace ≡ option_map plain_claim (claim_of claims trace)
        → cond b (Some (plain_claim claim)) (model.claim_of (map plain_claim claims) trace) ≡ option_map plain_claim (cond b (Some claim) (claim_of claims trace))
    by true rest = refl
    by false rest = rest

module _ {L : Type 0} (old : Kept L) (point : Point L) (h : Holds old point) (trace : TraceId) where
  pub claim_known : model.claim_of point.state.claims trace ≡ option_map plain_claim (claim_of h.memory.claims trace)
  claim_known = ap (λ cs. model.claim_of cs trace) (sym h.pins.claims) ∙ claim-plain h.memory.claims trace

-- ---- a crumb of a trace that nobody claimed

module _ {L : Type 0} (old : Kept L) (point : Point L) (h : Holds old point) (crumb : Crumb) (free : claim_of h.memory.claims crumb.trace ≡ None) where
  abbrev pins_chunks : List (Placed L)
  pins_chunks = map (λ (pin : Pin (Tagged L)). pin.chunk) h.memory.pinned

  abbrev pub left_touched : Kept L
  left_touched = record old { index = index.crumbed old.index crumb.trace crumb.node }

  waits_touched : (P : Placed L → Type 0) → AllByRecursion P (waiting_chunks old h.memory.pinned) → AllByRecursion P (waiting_chunks left_touched h.memory.pinned)
  waits_touched P waits =
      let indexed = all_front P (chunks_left old.index.touched) pins_chunks waits in
      let noted = index.with_crumb (noted_of crumb.trace old.index.touched) crumb.node in
      all_append P (chunks_left (touch crumb.trace noted old.index.touched)) pins_chunks
      (all-touched P crumb.trace noted old.index.touched indexed (all-noted P crumb.trace old.index.touched indexed))
      (all_back P (chunks_left old.index.touched) pins_chunks waits)

  -- what is kept is what the model says, where a trace was touched
  pub holds-touched : Holds left_touched (with_state (with_touched crumb point.state) point)
  holds-touched = record {
    node_is = h.node_is;
    memory = h.memory;
    remembers = h.remembers;
    pins = record {
      node_is = h.pins.node_is;
      rules = h.pins.rules;
      most = h.pins.most;
      claims = h.pins.claims;
      pinned = h.pins.pinned;
      groups = h.pins.groups;
      abandoned = h.pins.abandoned;
      tried = h.pins.tried;
      admitted = h.pins.admitted;
    };
    index = record { threshold = h.index.threshold; most = h.index.most; touched = indexed-crumbed h.memory.claims crumb old.index.touched point.state free h.index.touched };
    sent = h.sent;
    offered = h.offered;
    hand = h.hand;
    again = h.again;
    keeps = h.keeps;
    lefts = h.lefts;
    untouched = h.untouched;
    standings = h.standings;
    claims = h.claims;
    pages = h.pages;
    reported = h.reported;
    buffers = h.buffers;
    each =
        let P = IsKept point.buffers in
        all_append P (waiting_chunks left_touched h.memory.pinned) old.hand (waits_touched P (all_front P (waiting_chunks old h.memory.pinned) old.hand h.each)) (all_back P (waiting_chunks old h.memory.pinned) old.hand h.each);
    paged = waits_touched (HasPage point.settings point.state.taken) h.paged;
    few =
        let few = h.few in
        let count = count-touched crumb.trace (index.with_crumb (noted_of crumb.trace old.index.touched) crumb.node) old.index.touched h.index.touched.apart in
        omega (arith, few, count);
    fits = h.fits;
  }

  -- the model takes such a crumb by a touch and an eviction, and tells nothing
  pub takes-touched : crumb_taken crumb point ≡ with_state (evict point.settings (with_touched crumb point.state)) point
  takes-touched =
      ap (λ o. with_state (option_map_or (λ claim. late_crumb crumb claim point.state) o (evict point.settings (with_touched crumb point.state))) point)
      (claim_known old point h crumb.trace ∙ ap (option_map plain_claim) free)

  pub tells-nothing : option_and_then (λ (claim : ClaimedTrace). cond (has_crumb point.state.crumbs crumb) None (Some (late_of claim crumb))) (model.claim_of point.state.claims crumb.trace) ≡ None
  tells-nothing = ap (option_and_then (λ (claim : ClaimedTrace). cond (has_crumb point.state.crumbs crumb) None (Some (late_of claim crumb)))) (claim_known old point h crumb.trace ∙ ap (option_map plain_claim) free)

-- ---- the claims with a crumb more

module _ (trace : TraceId) (node : NodeId) where
  abbrev pub with_one : Claim → Claim
  with_one claim = record claim { crumbs = with_node claim.crumbs node }

  pub claim-crumbed : (claims : List Claim) → claim_of (pins.with_crumb claims trace node) trace ≡ option_map with_one (claim_of claims trace)
  claim-crumbed [] = refl
  claim-crumbed (claim ∷ claims) =
      by_answer (is_claim_of trace claim)
      (λ y. ap (λ b. claim_of (cond b (with_one claim ∷ claims) (claim ∷ pins.with_crumb claims trace node)) trace) y
      ∙ ap (λ b. cond b (Some (with_one claim)) (claim_of claims trace)) y
      ∙ sym (ap (λ b. option_map with_one (cond b (Some claim) (claim_of claims trace))) y))
      (λ n. ap (λ b. claim_of (cond b (with_one claim ∷ claims) (claim ∷ pins.with_crumb claims trace node)) trace) n
      ∙ ap (λ b. cond b (Some claim) (claim_of (pins.with_crumb claims trace node) trace)) n
      ∙ claim-crumbed claims
      ∙ sym (ap (λ b. option_map with_one (cond b (Some claim) (claim_of claims trace))) n))

  pub claim-other : (u : TraceId) → same_trace trace u ≡ false → (claims : List Claim) → claim_of (pins.with_crumb claims trace node) u ≡ claim_of claims u
  claim-other u apart [] = refl
  claim-other u apart (claim ∷ claims) =
      by_answer (is_claim_of trace claim)
      (λ y.
      let out : is_claim_of u claim ≡ false = ap (same_trace u) (sym (same_trace-true trace claim.trace y)) ∙ same_swap u trace ∙ apart in
      ap (λ b. claim_of (cond b (with_one claim ∷ claims) (claim ∷ pins.with_crumb claims trace node)) u) y
      ∙ ap (λ b. cond b (Some (with_one claim)) (claim_of claims u)) out
      ∙ sym (ap (λ b. cond b (Some claim) (claim_of claims u)) out))
      (λ n. ap (λ b. claim_of (cond b (with_one claim ∷ claims) (claim ∷ pins.with_crumb claims trace node)) u) n
      ∙ ap (λ o. cond (is_claim_of u claim) (Some claim) o) (claim-other u apart claims))

  pub plain-crumbed : (claims : List Claim) → map plain_claim (pins.with_crumb claims trace node) ≡ map plain_claim claims
  plain-crumbed [] = refl
  plain-crumbed (claim ∷ claims) = by (is_claim_of trace claim) (plain-crumbed claims)
    where
      by : (b : Bool) → map plain_claim (pins.with_crumb claims trace node) ≡ map plain_claim claims
          → map plain_claim (cond b (with_one claim ∷ claims) (claim ∷ pins.with_crumb claims trace node)) ≡ map plain_claim (claim ∷ claims)
      by true rest = refl
      by false rest = ap (λ l. plain_claim claim ∷ l) rest

-- ---- a crumb of a claimed trace

indexed-late : {L : Type 0} → (claims : List Claim) (claim : Claim) (crumb : Crumb) (touched : List (Indexed (Tagged L))) (state after : AgentState) → claim_of claims crumb.trace ≡ Some claim
    → after.taken ≡ state.taken → after.touched ≡ state.touched → after.crumbs ≡ with_crumb state.crumbs crumb
    → IsIndexed claims state touched → IsIndexed (pins.with_crumb claims crumb.trace crumb.node) after touched
indexed-late {L} claims claim crumb touched state after found same_taken same_touched crumbs i =
    let trace = crumb.trace in
    let more = pins.with_crumb claims trace crumb.node in
    record {
      traces = same_touched ∙ i.traces;
      apart = i.apart;
      free =
          all_weaker (λ (t : Indexed (Tagged L)). claim_of claims t.trace ≡ None) (λ (t : Indexed (Tagged L)). claim_of more t.trace ≡ None)
          (λ t f. by_answer (same_trace trace t.trace)
          (λ y.
          let e = same_trace-true trace t.trace y in
          let no : Some claim ≡ None = sym found ∙ ap (claim_of claims) e ∙ f in cc)
          (λ n. claim-other trace crumb.node t.trace n claims ∙ f)) touched i.free;
      places = λ u. i.places u ∙ sym (ap (λ l. indexed_places l u) same_taken);
      count = ap indexed_count same_taken ∙ i.count;
      crumbs = λ u n.
          let other : Crumb = record { trace = u; node = record { 0 = n } } in
          ap (λ cs. has_crumb cs other) crumbs
          ∙ crumbs-remembered state.crumbs crumb other
          ∙ ap (λ b. b || (same_trace u trace && nat_eq n crumb.node.0)) (i.crumbs u n)
          ∙ by_answer (same_trace trace u)
          (λ y.
          let e = same_trace-true trace u y in
          ap (λ w. has_node (crumbs_known claims touched w) n || (same_trace w trace && nat_eq n crumb.node.0)) (sym e)
          ∙ ap (λ b. has_node (crumbs_known claims touched trace) n || (b && nat_eq n crumb.node.0)) (same_trace-refl trace)
          ∙ ap (λ o. has_node (option_map_or (λ (c : Claim). c.crumbs) o (noted_of trace touched).crumbs) n || nat_eq n crumb.node.0) found
          ∙ sym (has-with_node claim.crumbs crumb.node n)
          ∙ sym (ap (λ o. has_node (option_map_or (λ (c : Claim). c.crumbs) o (noted_of trace touched).crumbs) n) (claim-crumbed trace crumb.node claims ∙ ap (option_map (with_one trace crumb.node)) found))
          ∙ ap (λ w. has_node (crumbs_known more touched w) n) e)
          (λ no.
          ap (λ b. has_node (crumbs_known claims touched u) n || (b && nat_eq n crumb.node.0)) (same_swap u trace ∙ no)
          ∙ or-false (has_node (crumbs_known claims touched u) n)
          ∙ sym (ap (λ o. has_node (option_map_or (λ (c : Claim). c.crumbs) o (noted_of u touched).crumbs) n) (claim-other trace crumb.node u no claims)));
    }

module _ {L : Type 0} (old : Kept L) (point : Point L) (h : Holds old point) (crumb : Crumb) (claim : Claim) (found : claim_of h.memory.claims crumb.trace ≡ Some claim) where
  -- the model knows the crumb where the claim has its node
  pub crumb_known : has_crumb point.state.crumbs crumb ≡ pins.has_crumb h.memory.claims crumb.trace crumb.node.0
  crumb_known = h.index.touched.crumbs crumb.trace crumb.node.0 ∙ known-claimed h.memory.claims old.index.touched crumb.trace crumb.node.0 (ap is_some found)

  abbrev late : AgentState
  late = late_crumb crumb (plain_claim claim) point.state

  same_but : late ≡ record point.state { crumbs = late.crumbs; said = late.said }
  same_but = by (has_crumb point.state.crumbs crumb)
    where
      by : (b : Bool) → cond b point.state (tell_late crumb (plain_claim claim) point.state)
          ≡ record point.state { crumbs = (cond b point.state (tell_late crumb (plain_claim claim) point.state)).crumbs; said = (cond b point.state (tell_late crumb (plain_claim claim) point.state)).said }
      by true = refl
      by false = refl

  crumbs_now : late.crumbs ≡ with_crumb point.state.crumbs crumb
  crumbs_now =
      by_answer (has_crumb point.state.crumbs crumb)
      (λ y. ap (λ b. (cond b point.state (tell_late crumb (plain_claim claim) point.state)).crumbs) y ∙ sym (ap (λ b. cond b point.state.crumbs (point.state.crumbs ++ crumb ∷ [])) y))
      (λ n. ap (λ b. (cond b point.state (tell_late crumb (plain_claim claim) point.state)).crumbs) n)

  module _ (pins : Pinning (Tagged L)) (remembers : Remembers pins (crumbed h.memory crumb.trace crumb.node)) where
    holds_late : Holds (record old { pins = pins }) (with_state (record point.state { crumbs = late.crumbs; said = late.said }) point)
    holds_late = record {
      node_is = h.node_is;
      memory = crumbed h.memory crumb.trace crumb.node;
      remembers = remembers;
      pins = record {
        node_is = h.pins.node_is;
        rules = h.pins.rules;
        most = h.pins.most;
        claims = plain-crumbed crumb.trace crumb.node h.memory.claims ∙ h.pins.claims;
        pinned = h.pins.pinned;
        groups = h.pins.groups;
        abandoned = h.pins.abandoned;
        tried = h.pins.tried;
        admitted = h.pins.admitted;
      };
      index = record { threshold = h.index.threshold; most = h.index.most; touched = indexed-late h.memory.claims claim crumb old.index.touched point.state _ found refl refl crumbs_now h.index.touched };
      sent = h.sent;
      offered = h.offered;
      hand = h.hand;
      again = h.again;
      keeps = h.keeps;
      lefts = h.lefts;
      untouched = h.untouched;
      standings = h.standings;
      claims = h.claims;
      pages = h.pages;
      reported = h.reported;
      buffers = h.buffers;
      each = h.each;
      paged = h.paged;
      few = h.few;
      fits = h.fits;
    }

    -- what is kept is what the model says, where a late crumb came
    pub holds-late : Holds (record old { pins = pins }) (crumb_taken crumb point)
    holds-late =
        subst (Holds (record old { pins = pins }))
        (sym (ap (λ o. with_state (option_map_or (λ c. late_crumb crumb c point.state) o (evict point.settings (with_touched crumb point.state))) point) (claim_known old point h crumb.trace ∙ ap (option_map plain_claim) found)
        ∙ ap (λ s. with_state s point) same_but)) holds_late

  -- what the model tells of it
  pub tells-late : option_and_then (λ (c : ClaimedTrace). cond (has_crumb point.state.crumbs crumb) None (Some (late_of c crumb))) (model.claim_of point.state.claims crumb.trace)
      ≡ cond (pins.has_crumb h.memory.claims crumb.trace crumb.node.0) None (Some (late_of (plain_claim claim) crumb))
  tells-late =
      ap (option_and_then (λ (c : ClaimedTrace). cond (has_crumb point.state.crumbs crumb) None (Some (late_of c crumb)))) (claim_known old point h crumb.trace ∙ ap (option_map plain_claim) found)
      ∙ ap (λ b. cond b None (Some (late_of (plain_claim claim) crumb))) crumb_known
