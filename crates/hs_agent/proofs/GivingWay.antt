-- That the groups which give way are the model's.
use Rattle.std.proofs.Common.{◌≡◌, ℕ, Bool, true, false, cond, not, List, [], ◌∷◌, ◌++◌, length, map, filter, Option, Some, None, slice_get, refl, sym, ap, ◌∙◌, true≢false, ◌||◌, fold, ◌+◌, suc, zero, nat_eq, subst, nat_lt, append-nil, arith}
use Rattle.hs_agent.proofs.Prelude.{filter_map, AllByRecursion, cons_option, option_and_then, option_map_or, Group, Pin, pins_for, without_group, is_for, same_group-true, eqb-true, append_assoc, map-append, length-map, PlainSettings, AgentState, moved_from, moved, is_among, Taken, ChunkStanding, Pinned, Reported, Evicted, Abandoned, pinning_group, pinned_for, indexed_places, indexed_count, is_indexed, mark_of, left_of, ChunkNote, TraceId, fold-append, with_left, abandoned_for}
use Rattle.hs_pins.specs.Abandoning.{groups_of}
use Rattle.hs_pins.specs.Abandoning as pins
use Rattle.hs_law_agent.specs.Standings.{Indexed, is_pinned_for, is_pinned_to, same_group}
use Rattle.hs_law_agent.specs.Abandoning as model
use Rattle.hs_law_agent.proofs.Limits.{pinned_to}
use Rattle.hs_agent.proofs.NotedFates.{fates-moved}
use Rattle.hs_agent.proofs.Moved.{sheets, sheets-moved, MovesUnindexed, indexed-moved, count-moved}

-- the same choice
same_choice : (groups : List Group) → model.next_to_go groups ≡ pins.next_to_go groups
same_choice groups = refl

pub pinned_for_other : (taken : List Taken) (group other : Group) (place : ℕ) → pinned_for taken place ≡ Some other → is_pinned_for taken group place ≡ same_group group other
pinned_for_other taken group other place e = by (slice_get taken place) e
  where
    by : (chunk : Option Taken) → option_and_then (λ (t : Taken). pinning_group t.standing) chunk ≡ Some other
        → option_map_or (λ (t : Taken). is_pinned_to group t.standing) chunk false ≡ same_group group other
    by None h = cc
    by (Some t) h = pinned_to group other t.standing h

module _ {L : Type 0} (place_of : Pin L → ℕ) (taken : List Taken) where
  -- each chunk is pinned in the model for its group
  abbrev pub ArePinned : List (Pin L) → Type 0
  ArePinned = AllByRecursion (λ (pin : Pin L). pinned_for taken (place_of pin) ≡ Some pin.group)

  pub groups-pinned : (pinned : List (Pin L)) → ArePinned pinned → filter_map (pinned_for taken) (map place_of pinned) ≡ groups_of pinned
  groups-pinned [] h = refl
  groups-pinned (pin ∷ pinned) h = ap (λ o. cons_option o (filter_map (pinned_for taken) (map place_of pinned))) h.0 ∙ ap (λ l. pin.group ∷ l) (groups-pinned pinned h.1)

  -- those of the group, and the others
  pub places-for : (group : Group) (pinned : List (Pin L)) → ArePinned pinned → filter (is_pinned_for taken group) (map place_of pinned) ≡ map place_of (pins_for group pinned)
  places-for group [] h = refl
  places-for group (pin ∷ pinned) h =
      ap (λ b. cond b (place_of pin ∷ filter (is_pinned_for taken group) (map place_of pinned)) (filter (is_pinned_for taken group) (map place_of pinned))) (pinned_for_other taken group pin.group (place_of pin) h.0)
      ∙ by (is_for group pin) (places-for group pinned h.1)
    where
      by : (b : Bool) → filter (is_pinned_for taken group) (map place_of pinned) ≡ map place_of (pins_for group pinned)
          → cond b (place_of pin ∷ filter (is_pinned_for taken group) (map place_of pinned)) (filter (is_pinned_for taken group) (map place_of pinned)) ≡ map place_of (cond b (pin ∷ pins_for group pinned) (pins_for group pinned))
      by true rest = ap (λ l. place_of pin ∷ l) rest
      by false rest = rest

  pub places-without : (group : Group) (pinned : List (Pin L)) → ArePinned pinned
      → filter (λ place. not (is_pinned_for taken group place)) (map place_of pinned) ≡ map place_of (without_group group pinned)
  places-without group [] h = refl
  places-without group (pin ∷ pinned) h =
      ap (λ b. cond (not b) (place_of pin ∷ filter (λ place. not (is_pinned_for taken group place)) (map place_of pinned)) (filter (λ place. not (is_pinned_for taken group place)) (map place_of pinned))) (pinned_for_other taken group pin.group (place_of pin) h.0)
      ∙ by (is_for group pin) (places-without group pinned h.1)
    where
      by : (b : Bool) → filter (λ place. not (is_pinned_for taken group place)) (map place_of pinned) ≡ map place_of (without_group group pinned)
          → cond (not b) (place_of pin ∷ filter (λ place. not (is_pinned_for taken group place)) (map place_of pinned)) (filter (λ place. not (is_pinned_for taken group place)) (map place_of pinned)) ≡ map place_of (cond (not b) (pin ∷ without_group group pinned) (without_group group pinned))
      by true rest = rest
      by false rest = ap (λ l. place_of pin ∷ l) rest

-- ---- chunks that stand anew

-- a place is not among those that pass a test, where it does not pass
among_passing : (p : ℕ → Bool) (xs : List ℕ) (place : ℕ) → p place ≡ false → is_among (filter p xs) place ≡ false
among_passing p [] place out = refl
among_passing p (x ∷ xs) place out = by (p x) refl (nat_eq x place) refl (among_passing p xs place out)
  where
    by : (b : Bool) → p x ≡ b → (same : Bool) → nat_eq x place ≡ same → is_among (filter p xs) place ≡ false → is_among (cond b (x ∷ filter p xs) (filter p xs)) place ≡ false
    by false e same f rest = rest
    by true e false f rest = ap (λ b. b || is_among (filter p xs) place) f ∙ rest
    by true e true f rest = absurd (true≢false (sym e ∙ ap p (eqb-true x place f) ∙ out))

-- the chunk at a place that does not move
unmoved_from : (k : ℕ) (places : List ℕ) (change : ChunkStanding → ChunkStanding) (taken : List Taken) (i : ℕ) → is_among places (k + i) ≡ false
    → slice_get (moved_from k places change taken) i ≡ slice_get taken i
unmoved_from k places change [] i out = refl
unmoved_from k places change (t ∷ ts) zero out =
    ap (λ b. Some (cond b (record t { standing = change t.standing }) t)) (ap (is_among places) (let e : k ≡ k + 0 = omega arith in e) ∙ out)
unmoved_from k places change (t ∷ ts) (suc i) out = unmoved_from (suc k) places change ts i (ap (is_among places) (let e : suc k + i ≡ k + suc i = omega arith in e) ∙ out)

pub unmoved : (places : List ℕ) (change : ChunkStanding → ChunkStanding) (taken : List Taken) (place : ℕ) → is_among places place ≡ false → pinned_for (moved places change taken) place ≡ pinned_for taken place
unmoved places change taken place out =
    ap (option_and_then (λ (t : Taken). pinning_group t.standing)) (unmoved_from 0 places change taken place (ap (is_among places) (let e : 0 + place ≡ place = omega arith in e) ∙ out))

module _ {L : Type 0} (place_of : Pin L → ℕ) (group : Group) (change : ChunkStanding → ChunkStanding) (taken : List Taken) (all : List ℕ) where
  abbrev after : List Taken
  after = moved (filter (is_pinned_for taken group) all) change taken

  -- where a group goes, the chunks of the others stay pinned
  pub still : (pinned : List (Pin L)) → ArePinned place_of taken pinned → ArePinned place_of after (without_group group pinned)
  still [] h = tt
  still (pin ∷ pinned) h = by (is_for group pin) refl (still pinned h.1)
    where
      by : (b : Bool) → is_for group pin ≡ b → ArePinned place_of after (without_group group pinned) → ArePinned place_of after (cond (not b) (pin ∷ without_group group pinned) (without_group group pinned))
      by true e rest = rest
      by false e rest = (
        unmoved (filter (is_pinned_for taken group) all) change taken (place_of pin)
            (among_passing (is_pinned_for taken group) all (place_of pin) (pinned_for_other taken group pin.group (place_of pin) h.0 ∙ e))
            ∙ h.0,
        rest,
      )

-- ---- what the chunks of one group are when it goes

-- a chunk that is pinned for a group is not indexed
unindexed : (group : Group) (standing : ChunkStanding) → is_pinned_to group standing ≡ true → false ≡ is_indexed standing
unindexed group Indexed e = absurd (true≢false (sym e))
unindexed group (Pinned g) e = refl
unindexed group (Reported g) e = refl
unindexed group (Evicted chunks traces) e = refl
unindexed group (Abandoned g) e = refl

module _ (group : Group) (taken : List Taken) (pinned : List ℕ) where
  passed : (place : ℕ) → is_among (filter (is_pinned_for taken group) pinned) place ≡ true → is_pinned_for taken group place ≡ true
  passed place e = by (is_pinned_for taken group place) refl
    where
      by : (b : Bool) → is_pinned_for taken group place ≡ b → b ≡ true
      by true f = refl
      by false f = absurd (true≢false (sym e ∙ among_passing (is_pinned_for taken group) pinned place f))

  goes_unindexed : MovesUnindexed (filter (is_pinned_for taken group) pinned) (λ _. Abandoned group) taken
  goes_unindexed = record { alike = λ i t at among. unindexed group t.standing (sym (ap (λ o. option_map_or (λ (c : Taken). is_pinned_to group c.standing) o false) at) ∙ passed i among) }

module _ {L : Type 0} (place_of : Pin L → ℕ) where
  -- the fates of pinned chunks are noted, one after another
  abbrev pub note_abandoned : List ChunkNote → Pin L → List ChunkNote
  note_abandoned standings pin = with_left (place_of pin) (Some (abandoned_for pin.group)) standings

  noted_for : (group : Group) (standings : List ChunkNote) (pinned : List (Pin L))
      → fold note_abandoned standings (pins_for group pinned) ≡ fold (λ ss place. with_left place (left_of (Abandoned group)) ss) standings (map place_of (pins_for group pinned))
  noted_for group standings [] = refl
  noted_for group standings (pin ∷ pinned) = by (is_for group pin) refl (λ ss. noted_for group ss pinned)
    where
      by : (b : Bool) → is_for group pin ≡ b
          → ((ss : List ChunkNote) → fold note_abandoned ss (pins_for group pinned) ≡ fold (λ ss place. with_left place (left_of (Abandoned group)) ss) ss (map place_of (pins_for group pinned)))
          → fold note_abandoned standings (cond b (pin ∷ pins_for group pinned) (pins_for group pinned)) ≡ fold (λ ss place. with_left place (left_of (Abandoned group)) ss) standings (map place_of (cond b (pin ∷ pins_for group pinned) (pins_for group pinned)))
      by true e rest =
          ap (λ g. fold note_abandoned (with_left (place_of pin) (Some (abandoned_for g)) standings) (pins_for group pinned)) (sym (same_group-true group pin.group e))
          ∙ rest (with_left (place_of pin) (Some (abandoned_for group)) standings)
      by false e rest = rest standings

-- ---- groups go

module _ {L : Type 0} (place_of : Pin L → ℕ) (settings : PlainSettings) where
  -- what abandonment leaves in the model, where these groups go of these pinned chunks
  pub record HasAbandoned (old new : AgentState) (pinned : List (Pin L)) (groups : List Group) : Type 0 where
    pub pinned_are : new.pinned ≡ map place_of (pins.staying groups pinned)
    pub are : ArePinned place_of new.taken (pins.staying groups pinned)
    pub abandoned : new.abandoned ≡ old.abandoned ++ groups
    pub hand : new.hand ≡ old.hand ++ map place_of (pins.going groups pinned)
    pub others : new ≡ record old { taken = new.taken; pinned = new.pinned; abandoned = new.abandoned; hand = new.hand }
    pub pages : sheets new.taken ≡ sheets old.taken
    pub indexed : (trace : TraceId) → indexed_places new.taken trace ≡ indexed_places old.taken trace
    pub count : indexed_count new.taken ≡ indexed_count old.taken
    pub noted : fold (note_abandoned place_of) (map mark_of old.taken) (pins.going groups pinned) ≡ map mark_of new.taken

  nobody : (state : AgentState) (pinned : List (Pin L)) → state.pinned ≡ map place_of pinned → ArePinned place_of state.taken pinned → HasAbandoned state state pinned []
  nobody state pinned is are = record {
    pinned_are = is;
    are = are;
    abandoned = sym (append-nil state.abandoned);
    hand = sym (append-nil state.hand);
    others = refl;
    pages = refl;
    indexed = λ trace. refl;
    count = refl;
    noted = refl;
  }

  -- one group goes, and then others
  one_more : (group : Group) (groups : List Group) (state new : AgentState) (pinned : List (Pin L)) → state.pinned ≡ map place_of pinned → ArePinned place_of state.taken pinned
      → HasAbandoned (model.abandon_group group state) new (without_group group pinned) groups → HasAbandoned state new pinned (group ∷ groups)
  one_more group groups state new pinned is are more =
      let places : filter (is_pinned_for state.taken group) state.pinned ≡ map place_of (pins_for group pinned) = ap (filter (is_pinned_for state.taken group)) is ∙ places-for place_of state.taken group pinned are in
      let gone : List ℕ = filter (is_pinned_for state.taken group) state.pinned in
      record {
        pinned_are = more.pinned_are;
        are = more.are;
        abandoned = more.abandoned ∙ append_assoc state.abandoned (group ∷ []) groups;
        hand =
            more.hand
            ∙ ap (λ l. (state.hand ++ l) ++ map place_of (pins.going groups (without_group group pinned))) places
            ∙ append_assoc state.hand (map place_of (pins_for group pinned)) (map place_of (pins.going groups (without_group group pinned)))
            ∙ ap (λ l. state.hand ++ l) (sym (map-append place_of (pins_for group pinned) (pins.going groups (without_group group pinned))));
        others = more.others;
        pages = more.pages ∙ sheets-moved gone (λ _. Abandoned group) state.taken;
        indexed = λ trace. more.indexed trace ∙ indexed-moved gone (λ _. Abandoned group) state.taken (goes_unindexed group state.taken state.pinned) trace;
        count = more.count ∙ count-moved gone (λ _. Abandoned group) state.taken (goes_unindexed group state.taken state.pinned);
        noted =
            fold-append (note_abandoned place_of) (map mark_of state.taken) (pins_for group pinned) (pins.going groups (without_group group pinned))
            ∙ ap (λ ss. fold (note_abandoned place_of) ss (pins.going groups (without_group group pinned)))
            (noted_for place_of group (map mark_of state.taken) pinned
            ∙ ap (fold (λ ss place. with_left place (left_of (Abandoned group)) ss) (map mark_of state.taken)) (sym places)
            ∙ fates-moved (Abandoned group) gone state.taken)
            ∙ more.noted;
      }

  goes_within : (rounds : List (Pin L)) (state : AgentState) (pinned : List (Pin L)) → state.pinned ≡ map place_of pinned → ArePinned place_of state.taken pinned
      → HasAbandoned state (model.abandon_within settings (map place_of rounds) state) pinned (pins.leaving_within settings.pins rounds pinned)
  goes_within [] state pinned is are = nobody state pinned is are
  goes_within (round ∷ rounds) state pinned is are =
      let long : length state.pinned ≡ length pinned = ap length is ∙ length-map pinned place_of in
      let groups : model.pinned_groups state ≡ groups_of pinned = ap (filter_map (pinned_for state.taken)) is ∙ groups-pinned place_of state.taken pinned are in
      let go : (group : Group) → HasAbandoned state (model.abandon_within settings (map place_of rounds) (model.abandon_group group state)) pinned (group ∷ pins.leaving_within settings.pins rounds (without_group group pinned)) =
      λ group.
      one_more group (pins.leaving_within settings.pins rounds (without_group group pinned)) state _ pinned is are
      (goes_within rounds (model.abandon_group group state) (without_group group pinned)
      (ap (filter (λ place. not (is_pinned_for state.taken group place))) is ∙ places-without place_of state.taken group pinned are)
      (still place_of group (λ _. Abandoned group) state.taken state.pinned pinned are)) in
      by (nat_lt settings.pins (length pinned)) (pins.next_to_go (groups_of pinned)) go
      (ap (nat_lt settings.pins) long) (ap model.next_to_go groups)
    where
      by : (over : Bool) (next : Option Group)
          → ((group : Group) → HasAbandoned state (model.abandon_within settings (map place_of rounds) (model.abandon_group group state)) pinned (group ∷ pins.leaving_within settings.pins rounds (without_group group pinned)))
          → nat_lt settings.pins (length state.pinned) ≡ over → model.next_to_go (model.pinned_groups state) ≡ next
          → HasAbandoned state (model.abandon_within settings (map place_of (round ∷ rounds)) state) pinned
          (cond over (option_map_or (λ group. group ∷ pins.leaving_within settings.pins rounds (without_group group pinned)) next []) [])
      by over next go o n =
          subst (λ (q : Bool × Option Group). HasAbandoned state (cond q.0 (option_map_or (λ group. model.abandon_within settings (map place_of rounds) (model.abandon_group group state)) q.1 state) state) pinned (cond over (option_map_or (λ group. group ∷ pins.leaving_within settings.pins rounds (without_group group pinned)) next []) []))
          (λ i. (sym o i, sym n i)) (cases over next go)
        where
          cases : (over : Bool) (next : Option Group)
              → ((group : Group) → HasAbandoned state (model.abandon_within settings (map place_of rounds) (model.abandon_group group state)) pinned (group ∷ pins.leaving_within settings.pins rounds (without_group group pinned)))
              → HasAbandoned state (cond over (option_map_or (λ group. model.abandon_within settings (map place_of rounds) (model.abandon_group group state)) next state) state) pinned
              (cond over (option_map_or (λ group. group ∷ pins.leaving_within settings.pins rounds (without_group group pinned)) next []) [])
          cases true (Some group) go = go group
          cases true None go = nobody state pinned is are
          cases false next go = nobody state pinned is are

  -- what gives way is the same in the model and among the pins
  pub same_go : (state : AgentState) (pinned : List (Pin L)) → state.pinned ≡ map place_of pinned → ArePinned place_of state.taken pinned
      → HasAbandoned state (model.abandon settings state) pinned (pins.leaving settings.pins pinned)
  same_go state pinned is are = subst (λ rounds. HasAbandoned state (model.abandon_within settings rounds state) pinned (pins.leaving settings.pins pinned)) (sym is) (goes_within pinned state pinned is are)
