-- What is kept once a group was forgotten.
use Rattle.std.proofs.Common.{◌≡◌, ℕ, Bool, true, false, cond, not, ◌||◌, ◌&&◌, List, [], ◌∷◌, map, filter, Option, Some, None, refl, sym, ap, subst, ◌∙◌, true≢false}
use Rattle.hs_agent.proofs.Prelude.{list_any, find, filter_map, AllByRecursion, option_map_or, option_and_then, all_weaker, or-false, TraceId, Group, Crumb, has_node, has-no_nodes, same_trace, same_trace-true, Claim, claim_of, Pin, Remembers, Indexed, is_of, PlainIndexedTrace, noted_of, nothing, Tagged, ClaimedTrace, claim_note, same_crumb, has_crumb, forget_group, is_settled, pinned_for, Kept, Point, Holds, plain_claim, pinned_place, crumbs_known, with_state}
use Rattle.hs_records.specs.declared.books.Claim as noted
use Rattle.hs_base.proofs.Filters.{filter_mapped}
use Rattle.hs_base.proofs.Tests.{list_any_map}
use Rattle.hs_pins.specs.Priorities.{same_group}
use Rattle.hs_pins.specs.Remembered as pins
use Rattle.hs_pins.specs.Abandoning.{groups_of}
use Rattle.hs_law_agent.specs.Lives.{has_claimed, claims_without}
use Rattle.hs_law_agent.specs.Abandoning.{pinned_groups}
use Rattle.hs_agent.proofs.GivingWay.{groups-pinned}

abbrev left : Group → List Claim → List Claim
left group claims = filter (λ (claim : Claim). not (pins.is_of_group group claim)) claims

-- ---- claims

none_of : (c : Claim) (claims : List Claim) (t : TraceId) → AllByRecursion (λ (other : Claim). same_trace c.trace other.trace ≡ false) claims → same_trace t c.trace ≡ true → claim_of claims t ≡ None
none_of c [] t all e = refl
none_of c (d ∷ claims) t all e =
    let same : t ≡ c.trace = same_trace-true t c.trace e in
    let differs : same_trace t d.trace ≡ false = subst (λ (u : TraceId). same_trace u d.trace ≡ false) (sym same) all.0 in
    rw differs (none_of c claims t all.1 e)

-- of claims that are apart, the group has claimed a trace where the claim of the trace is its own
claimed_by : (group : Group) (claims : List Claim) → pins.AreApart claims → (t : TraceId)
    → has_claimed group (map plain_claim claims) t ≡ option_map_or (λ (claim : Claim). same_group group claim.group) (claim_of claims t) false
claimed_by group [] apart t = refl
claimed_by group (c ∷ claims) apart t = go (same_trace t c.trace) refl (claimed_by group claims apart.1 t)
  where
    go : (b : Bool) → same_trace t c.trace ≡ b → has_claimed group (map plain_claim claims) t ≡ option_map_or (λ (claim : Claim). same_group group claim.group) (claim_of claims t) false
        → ((b && same_group group c.group) || has_claimed group (map plain_claim claims) t) ≡ option_map_or (λ (claim : Claim). same_group group claim.group) (cond b (Some c) (claim_of claims t)) false
    go true e rest =
        let none : has_claimed group (map plain_claim claims) t ≡ false = rest ∙ ap (λ o. option_map_or (λ (claim : Claim). same_group group claim.group) o false) (none_of c claims t apart.0 e) in
        ap (λ b. same_group group c.group || b) none ∙ or-false (same_group group c.group)
    go false e rest = rest

claim_left : (group : Group) (claims : List Claim) → pins.AreApart claims → (t : TraceId)
    → claim_of (left group claims) t ≡ option_and_then (λ (claim : Claim). cond (same_group group claim.group) None (Some claim)) (claim_of claims t)
claim_left group [] apart t = refl
claim_left group (c ∷ claims) apart t = go (same_trace t c.trace) (same_group group c.group) refl refl (claim_left group claims apart.1 t)
  where
    go : (b d : Bool) → same_trace t c.trace ≡ b → same_group group c.group ≡ d
        → claim_of (left group claims) t ≡ option_and_then (λ (claim : Claim). cond (same_group group claim.group) None (Some claim)) (claim_of claims t)
        → claim_of (cond (not d) (c ∷ left group claims) (left group claims)) t ≡ option_and_then (λ (claim : Claim). cond (same_group group claim.group) None (Some claim)) (cond b (Some c) (claim_of claims t))
    go true true e f rest = rest ∙ ap (option_and_then (λ (claim : Claim). cond (same_group group claim.group) None (Some claim))) (none_of c claims t apart.0 e) ∙ (rw f refl)
    go false true e f rest = rest
    go true false e f rest = rw (e, f) refl
    go false false e f rest = rw e rest

-- ---- crumbs

any_left : (r : TraceId → Bool) (crumbs : List Crumb) (c : Crumb) → list_any (same_crumb c) (filter (λ (crumb : Crumb). r crumb.trace) crumbs) ≡ (r c.trace && list_any (same_crumb c) crumbs)
any_left r [] c = go (r c.trace)
  where
    go : (b : Bool) → false ≡ (b && false)
    go true = refl
    go false = refl
any_left r (x ∷ crumbs) c = go (r x.trace) (same_trace c.trace x.trace) (r c.trace) refl refl refl (any_left r crumbs c)
  where
    go : (a b d : Bool) → r x.trace ≡ a → same_trace c.trace x.trace ≡ b → r c.trace ≡ d
        → list_any (same_crumb c) (filter (λ (crumb : Crumb). r crumb.trace) crumbs) ≡ (d && list_any (same_crumb c) crumbs)
        → list_any (same_crumb c) (cond a (x ∷ filter (λ (crumb : Crumb). r crumb.trace) crumbs) (filter (λ (crumb : Crumb). r crumb.trace) crumbs)) ≡ (d && (same_crumb c x || list_any (same_crumb c) crumbs))
    go true b true e f g rest = ap (λ o. same_crumb c x || o) rest
    go true true false e f g rest = let same : c.trace ≡ x.trace = same_trace-true c.trace x.trace f in absurd (true≢false (sym e ∙ subst (λ (t : TraceId). r t ≡ false) same g))
    go true false false e f g rest = rw f rest
    go false true true e f g rest = let same : c.trace ≡ x.trace = same_trace-true c.trace x.trace f in absurd (true≢false (sym g ∙ subst (λ (t : TraceId). r t ≡ false) (sym same) e))
    go false false true e f g rest = rw f rest
    go false b false e f g rest = rest

-- a claimed trace is not indexed
not_noted : {L : Type 0} → (claims : List Claim) (touched : List (Indexed (Tagged L))) (t : TraceId) (claim : Claim) → AllByRecursion (λ (u : Indexed (Tagged L)). claim_of claims u.trace ≡ None) touched → claim_of claims t ≡ Some claim → noted_of t touched ≡ nothing
not_noted claims [] t claim free e = refl
not_noted {L} claims (u ∷ touched) t claim free e = go (same_trace t u.trace) refl (not_noted claims touched t claim free.1 e)
  where
    go : (b : Bool) → same_trace t u.trace ≡ b → noted_of t touched ≡ nothing → option_map_or (λ (v : Indexed (Tagged L)). v.noted) (cond b (Some u) (find (is_of t) touched)) nothing ≡ nothing
    go true f rest = let same : t ≡ u.trace = same_trace-true t u.trace f in absurd (clash (sym e ∙ subst (λ (v : TraceId). claim_of claims v ≡ None) (sym same) free.0))
      where
        clash : Some claim ≡ None → ⊥
        clash h = cc
    go false f rest = rest

crumbs_left : {L : Type 0} → (group : Group) (claims : List Claim) (touched : List (Indexed (Tagged L))) (crumbs : List Crumb) → pins.AreApart claims
    → AllByRecursion (λ (u : Indexed (Tagged L)). claim_of claims u.trace ≡ None) touched
    → ((t : TraceId) (n : ℕ) → has_crumb crumbs (record { trace = t; node = record { 0 = n } }) ≡ has_node (crumbs_known claims touched t) n)
    → (t : TraceId) (n : ℕ) → has_crumb (filter (λ (crumb : Crumb). not (has_claimed group (map plain_claim claims) crumb.trace)) crumbs) (record { trace = t; node = record { 0 = n } })
    ≡ has_node (crumbs_known (left group claims) touched t) n
crumbs_left {L} group claims touched crumbs apart free known t n =
    let crumb : Crumb = record { trace = t; node = record { 0 = n } } in
    any_left (λ u. not (has_claimed group (map plain_claim claims) u)) crumbs crumb
    ∙ (λ i. not (claimed_by group claims apart t i) && known t n i)
    ∙ go (claim_of claims t) refl
    ∙ sym (ap (λ o. has_node (option_map_or (λ (claim : Claim). claim.crumbs) o (noted_of t touched).crumbs) n) (claim_left group claims apart t))
  where
    go : (o : Option Claim) → claim_of claims t ≡ o
        → (not (option_map_or (λ (claim : Claim). same_group group claim.group) o false) && has_node (option_map_or (λ (claim : Claim). claim.crumbs) o (noted_of t touched).crumbs) n)
        ≡ has_node (option_map_or (λ (claim : Claim). claim.crumbs) (option_and_then (λ (claim : Claim). cond (same_group group claim.group) None (Some claim)) o) (noted_of t touched).crumbs) n
    go None e = refl
    go (Some claim) e = by (same_group group claim.group)
      where
        by : (b : Bool) → (not b && has_node claim.crumbs n) ≡ has_node (option_map_or (λ (claim : Claim). claim.crumbs) (cond b None (Some claim)) (noted_of t touched).crumbs) n
        by true = sym (ap (λ (noted : PlainIndexedTrace (Tagged L)). has_node noted.crumbs n) (not_noted claims touched t claim free e) ∙ has-no_nodes n)
        by false = refl

-- ---- what is pinned

module _ {L : Type 0} (kept : Kept L) (point : Point L) (h : Holds kept point) (group : Group) where
  pub settled_too : is_settled group point.state ≡ pins.is_settled group h.memory
  settled_too =
      let groups : pinned_groups point.state ≡ groups_of h.memory.pinned =
      ap (filter_map (pinned_for point.state.taken)) (sym h.pins.pinned) ∙ groups-pinned pinned_place point.state.taken h.memory.pinned h.pins.groups in
      ap (λ (gs : List Group). not (list_any (same_group group) gs)) groups
      ∙ ap not (list_any_map (same_group group) (λ (pin : Pin (Tagged L)). pin.group) h.memory.pinned)

  pub holds_forgot : (next : Kept L) → Remembers next.pins (pins.forgot group h.memory) → next.claims ≡ filter (λ (claim : noted.Claim). not (same_group group claim.group)) kept.claims
      → next ≡ record kept { pins = next.pins; claims = next.claims } → Holds next (with_state (forget_group group point.state) point)
  holds_forgot next remembers claims only =
      let state = point.state in
      let q : Claim → Bool = λ (claim : Claim). not (pins.is_of_group group claim) in
      let plain : map plain_claim (filter q h.memory.claims) ≡ claims_without group state.claims =
      sym (filter_mapped plain_claim (λ (claim : ClaimedTrace). not (same_group group claim.group)) h.memory.claims) ∙ ap (claims_without group) h.pins.claims in
      subst (λ (k : Kept L). Holds k (with_state (forget_group group point.state) point)) (sym only)
      (record {
        node_is = h.node_is;
        memory = pins.forgot group h.memory;
        remembers = remembers;
        pins = record {
          node_is = h.pins.node_is;
          rules = h.pins.rules;
          most = h.pins.most;
          claims = plain;
          pinned = h.pins.pinned;
          groups = h.pins.groups;
          abandoned = ap (filter (λ (other : Group). not (same_group group other))) h.pins.abandoned;
          tried = h.pins.tried;
          admitted = h.pins.admitted;
        };
        index = record {
          threshold = h.index.threshold;
          most = h.index.most;
          touched = record {
            traces = h.index.touched.traces;
            apart = h.index.touched.apart;
            free =
                all_weaker (λ (u : Indexed (Tagged L)). claim_of h.memory.claims u.trace ≡ None) (λ (u : Indexed (Tagged L)). claim_of (left group h.memory.claims) u.trace ≡ None)
                (λ u none. claim_left group h.memory.claims h.remembers.sound.apart u.trace ∙ ap (option_and_then (λ (claim : Claim). cond (same_group group claim.group) None (Some claim))) none)
                kept.index.touched h.index.touched.free;
            places = h.index.touched.places;
            count = h.index.touched.count;
            crumbs = λ t n.
                subst (λ (cs : List ClaimedTrace). has_crumb (filter (λ (crumb : Crumb). not (has_claimed group cs crumb.trace)) state.crumbs) (record { trace = t; node = record { 0 = n } }) ≡ has_node (crumbs_known (left group h.memory.claims) kept.index.touched t) n) h.pins.claims
                (crumbs_left group h.memory.claims kept.index.touched state.crumbs h.remembers.sound.apart h.index.touched.free h.index.touched.crumbs t n);
          };
        };
        sent = h.sent;
        offered = h.offered;
        hand = h.hand;
        again = h.again;
        keeps = h.keeps;
        lefts = h.lefts;
        untouched = h.untouched;
        standings = h.standings;
        claims =
            claims
            ∙ ap (filter (λ (claim : noted.Claim). not (same_group group claim.group))) h.claims
            ∙ filter_mapped claim_note (λ (claim : noted.Claim). not (same_group group claim.group)) state.claims;
        pages = h.pages;
        reported = h.reported;
        buffers = h.buffers;
        each = h.each;
        paged = h.paged;
        few = h.few;
        fits = h.fits;
      })
