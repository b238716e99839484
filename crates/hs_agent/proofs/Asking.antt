-- A group that claims: what is kept, put back, is what the model says from one trace to the next.
use Rattle.std.proofs.Common.{◌≡◌, ℕ, ◌+◌, ◌≤◌, ◌<◌, ◌^◌, true, false, List, [], ◌∷◌, ◌++◌, length, map, Option, Some, None, sym, ap, subst, ◌∙◌, arith, true≢false}
use Rattle.hs_agent.proofs.Prelude.{is_some, length-append, length-map, TraceId, Ask, NodeSet, Remembered, claim_of, claimed, pin_for, Pinning, Remembers, Index, noted_of, others, count_chunks, claim_unclaimed, traces_of, Tagged, Placed, Kept, Holds, Point, with_state}
use Rattle.hs_base.specs.Rules.{is_declared}
use Rattle.hs_index.specs.Index as index
use Rattle.hs_pins.specs.Queues.{total_of}
use Rattle.hs_pins.specs.Opens.{Opening, restored}
use Rattle.hs_pins.specs.PinsLayout.{KnowsThat}
use Rattle.hs_records.specs.declared.books.Claim as noted
use Rattle.hs_agent.specs.Asking.{needed, IsClaiming}
use Rattle.hs_agent.proofs.Needed.{needed-known, needed-claimed}
use Rattle.hs_agent.proofs.Claimed.{left as claimed_by, holds-claimed, stays-claimed, is_unclaimed}

-- an id that is declared is so whatever else the node remembers
pub declared-too : {L : Type 0} → (pins : Pinning (Tagged L)) (memory other : Remembered (Tagged L)) → Remembers pins memory → Remembers pins other → (ask : Ask)
    → is_declared memory.rules ask.group.trigger ≡ true → is_declared other.rules ask.group.trigger ≡ true
declared-too pins memory other h k ask e = sym (k.pinned.chunks.declared ask.group.trigger) ∙ h.pinned.chunks.declared ask.group.trigger ∙ e

there : {A : Type 0} (o : Option A) → is_some o ≡ true → (a : A) × (o ≡ Some a)
there None e = absurd (true≢false (sym e))
there (Some a) e = (a, λ i. Some a)

nothing : {A : Type 0} (o : Option A) → is_some o ≡ false → o ≡ None
nothing None e = λ i. None
nothing (Some a) e = absurd (true≢false e)

-- the group was opened
pub asked-begun : {L : Type 0} (ask : Ask) (kept : Kept L) (pins : Pinning (Tagged L)) (opening : Opening (Tagged L)) (point : Point L) (chunks : ℕ) (h : Holds kept point)
    → restored pins opening ≡ kept.pins → opening.group ≡ ask.group → opening.laterals ≡ ask.laterals → is_declared point.settings.triggers ask.group.trigger ≡ true
    → opening.most ≡ kept.pins.most → opening.ready ≡ length h.memory.pinned + chunks → opening.chunks ≡ chunks → chunks ≡ needed kept.index.touched (traces_of ask)
    → IsClaiming ask (traces_of ask) kept pins kept.index kept.claims opening point
asked-begun {L} ask kept pins opening point chunks h back group laterals declared most ready room all =
    let total = ap (λ (p : Pinning (Tagged L)). total_of p.queues) back in
    let own = h.remembers.pinned.chunks.total in
    record {
      holds = subst (λ (p : Pinning (Tagged L)). Holds (record kept { pins = p }) point) (sym back) h;
      group = group;
      laterals = laterals;
      declared = declared;
      most = most ∙ sym (ap (λ (p : Pinning (Tagged L)). p.most) back);
      ready = omega (arith, total, own, ready, room);
      chunks = omega (arith, room, all);
    }

module _ {L : Type 0} (ask : Ask) (left : List TraceId) (kept : Kept L) (pins : Pinning (Tagged L)) (touched : Index (Tagged L)) (claims : List noted.Claim) (opening : Opening (Tagged L))
    (point : Point L) (k : IsClaiming ask left kept pins touched claims opening point) where
  pub declared_of : is_declared k.holds.memory.rules opening.group.trigger ≡ true
  declared_of = (λ i. is_declared (k.holds.pins.rules i) (k.group i).trigger) ∙ k.declared

  -- the group can be closed
  pub asked-ends : KnowsThat (restored pins opening) (λ memory. (length memory.pinned ≤ opening.ready) × (opening.most ≡ pins.most) × (is_declared memory.rules opening.group.trigger ≡ true))
  asked-ends =
      let total = k.holds.remembers.pinned.chunks.total in
      let ready = k.ready in
      (k.holds.memory, k.holds.remembers, (omega (arith, total, ready), k.most, declared_of))

  pub pinned_few : length k.holds.memory.pinned ≤ opening.ready
  pinned_few = let total = k.holds.remembers.pinned.chunks.total in let ready = k.ready in omega (arith, total, ready)

-- the next of the traces that are left
module _ {L : Type 0} (ask : Ask) (trace : TraceId) (rest : List TraceId) (kept : Kept L) (pins : Pinning (Tagged L)) (touched : Index (Tagged L)) (claims : List noted.Claim)
    (opening : Opening (Tagged L)) (point : Point L) (k : IsClaiming ask (trace ∷ rest) kept pins touched claims opening point) where
  abbrev old : Kept L
  old = record kept { index = touched; claims = claims; pins = restored pins opening }

  own_claim : claim_of k.holds.memory.claims trace ≡ claim_of opening.claims trace
  own_claim = ap (λ cs. claim_of cs trace) (sym k.holds.remembers.claims)

  -- it is claimed already
  pub asked-known : is_some (claim_of opening.claims trace) ≡ true → IsClaiming ask rest kept pins touched claims opening (with_state (claim_unclaimed ask point.state trace) point)
  asked-known e =
      let found = there (claim_of opening.claims trace) e in
      let fits : needed touched.touched rest ≤ opening.chunks = needed-known touched.touched trace rest opening.chunks k.chunks in
      let there_is : IsClaiming ask rest kept pins touched claims opening point =
      record {
        holds = k.holds;
        group = k.group;
        laterals = k.laterals;
        declared = k.declared;
        most = k.most;
        ready = k.ready;
        chunks = fits;
      } in
      subst (λ s. IsClaiming ask rest kept pins touched claims opening (with_state s point)) (sym (stays-claimed old point k.holds ask trace found.0 (own_claim ∙ found.1))) there_is

  pub asked-free : is_some (claim_of opening.claims trace) ≡ false → claim_of opening.claims trace ≡ None
  asked-free e = nothing (claim_of opening.claims trace) e

  -- it is claimed now
  pub asked-claimed : (touched_now : Index (Tagged L)) (claims_now : List noted.Claim) (now : Opening (Tagged L)) (held : List (Placed L)) (crumbs : NodeSet) (count : ℕ) → claim_of opening.claims trace ≡ None
      → touched_now ≡ index.claimed touched trace → claims_now ≡ claims ++ record { trace = trace; group = ask.group } ∷ []
      → held ≡ (noted_of trace touched.touched).chunks → crumbs ≡ (noted_of trace touched.touched).crumbs → length held ≡ count
      → ((memory : Remembered (Tagged L)) → Remembers (restored pins opening) memory → is_declared memory.rules opening.group.trigger ≡ true → length memory.pinned + count < 2 ^ 32
      → Remembers (restored pins now) (claimed memory opening.group opening.laterals trace held crumbs))
      → now.group ≡ opening.group → now.laterals ≡ opening.laterals → now.most ≡ opening.most → now.ready ≡ opening.ready → now.chunks + count ≡ opening.chunks
      → count_chunks touched_now.touched + count ≡ count_chunks touched.touched
      → IsClaiming ask rest kept pins touched_now claims_now now (with_state (claim_unclaimed ask point.state trace) point)
  asked-claimed touched_now claims_now now held crumbs count unclaimed touched_is claims_is held_is crumbs_is long after group laterals most ready room all =
      let h = k.holds in
      let free : claim_of h.memory.claims trace ≡ None = own_claim ∙ unclaimed in
      let few = h.few in
      let remembers : Remembers (restored pins now) (claimed h.memory ask.group ask.laterals trace (noted_of trace touched.touched).chunks (noted_of trace touched.touched).crumbs) =
      subst (Remembers (restored pins now)) (λ i. claimed h.memory (k.group i) (k.laterals i) trace (held_is i) (crumbs_is i)) (after h.memory h.remembers (declared_of ask (trace ∷ rest) kept pins touched claims opening point k) (omega (arith, few, all))) in
      let claimed_now : Holds (claimed_by old point h ask trace free (restored pins now)) (with_state (claim_unclaimed ask point.state trace) point) =
      subst (λ s. Holds (claimed_by old point h ask trace free (restored pins now)) (with_state s point)) (sym (is_unclaimed old point h ask trace free)) (holds-claimed old point h ask trace free (restored pins now) remembers) in
      let before = h.remembers.pinned.chunks.total in
      let after_it = remembers.pinned.chunks.total in
      let more = length-append h.memory.pinned (map (pin_for ask.group) (noted_of trace touched.touched).chunks) in
      let own = length-map (noted_of trace touched.touched).chunks (pin_for ask.group) in
      let same = ap length held_is in
      let was_ready = k.ready in
      let trace_room : now.chunks + length (noted_of trace touched.touched).chunks ≡ opening.chunks = omega (arith, room, long, same) in
      let indexed_then = ap (λ (i : Index (Tagged L)). count_chunks i.touched) touched_is in
      let trace_count : count_chunks (others trace touched.touched) + length (noted_of trace touched.touched).chunks ≡ count_chunks touched.touched = omega (arith, all, long, same, indexed_then) in
      record {
        holds = subst (λ (kk : Kept L). Holds kk (with_state (claim_unclaimed ask point.state trace) point)) (λ i. record kept { index = sym touched_is i; claims = sym claims_is i; pins = restored pins now }) claimed_now;
        group = group ∙ k.group;
        laterals = laterals ∙ k.laterals;
        declared = k.declared;
        most = most ∙ k.most;
        ready = omega (arith, before, after_it, more, own, same, long, was_ready, ready, room);
        chunks = subst (λ (i : Index (Tagged L)). needed i.touched rest ≤ now.chunks) (sym touched_is) (needed-claimed touched.touched trace rest opening.chunks now.chunks k.chunks trace_room trace_count);
      }
