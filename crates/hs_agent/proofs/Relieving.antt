-- What is kept after an abandonment is what the model says then.
use Rattle.std.proofs.Common.{◌≡◌, ℕ, ◌<◌, Bool, true, false, cond, not, List, [], ◌∷◌, ◌++◌, length, map, fold, refl, sym, ap, subst, ◌∙◌, arith, append-nil, Some}
use Rattle.hs_agent.proofs.Prelude.{AreLeft, unoffered, slice_get_within, length-map, going_buffer, going_left, filter_map, AllByRecursion, option_to_list, append_assoc, map-append, map-map, all_weaker, all_append, all_front, all_back, Group, ChunkNote, Pin, pins_for, without_group, is_for, leaving, drops, relieved, Pinning, Remembers, staying_few, chunks_left, AgentState, mark_of, claim_note, bytes_at, has_crumb, Tagged, Placed, place_of, Kept, Holds, HasPage, IsKept, IsIndexed, RemembersAs, Point, with_state, pinned_place, waiting_chunks, all_held, Going, with_left, let_go, let_go_all, abandoned_going}
use Rattle.hs_pins.specs.Abandoning.{staying, going}
use Rattle.hs_law_agent.specs.Abandoning as model
use Rattle.hs_agent.proofs.GivingWay.{HasAbandoned, same_go, note_abandoned}
use Rattle.hs_agent.proofs.Parted.{hand-left, pins-within, unoffered-more, unoffered-weaker}
use Rattle.hs_agent.proofs.Moved.{length-same, pages-same, has_page-same}

-- ---- what is let go, all at once

abbrev note_going : {L : Type 0} → List ChunkNote → Going L → List ChunkNote
note_going standings g = with_left (place_of g.buffer) (Some g.left) standings

-- the fates are noted, the chunks stand last in the hand, and nothing else changes
pub let_go_all-is : {L : Type 0} (kept : Kept L) (goings : List (Going L)) → let_go_all kept goings ≡ record kept { standings = fold note_going kept.standings goings; hand = kept.hand ++ map going_buffer goings; lefts = kept.lefts ++ map going_left goings }
let_go_all-is kept [] = λ i. record kept { hand = sym (append-nil kept.hand) i; lefts = sym (append-nil kept.lefts) i }
let_go_all-is kept (g ∷ goings) =
    let_go_all-is (let_go kept g) goings
    ∙ (λ i. record kept {
      standings = fold note_going (note_going kept.standings g) goings;
      hand = append_assoc kept.hand (g.buffer ∷ []) (map going_buffer goings) i;
      lefts = append_assoc kept.lefts (g.left ∷ []) (map going_left goings) i;
    })

pub fold-goings : {L : Type 0} → {A : Type 0} (f : A → Going L) (standings : List ChunkNote) (items : List A) → fold note_going standings (map f items) ≡ fold (λ ss item. note_going ss (f item)) standings items
fold-goings f standings [] = refl
fold-goings f standings (item ∷ items) = fold-goings f (note_going standings (f item)) items

-- ---- lists that an abandonment cuts

module _ {A : Type 0} {P Q : A → Type 0} (f : (x : A) → P x → Q x) where
  pub all-same : (xs : List A) → AllByRecursion P xs → AllByRecursion Q xs
  all-same [] h = tt
  all-same (x ∷ xs) h = (f x h.0, all-same xs h.1)

abbrev pub chunk_of : {L : Type 0} → Pin (Tagged L) → Placed L
chunk_of pin = pin.chunk

module _ {L : Type 0} (P : Placed L → Type 0) where
  all-without : (group : Group) (pinned : List (Pin (Tagged L))) → AllByRecursion P (map chunk_of pinned) → AllByRecursion P (map chunk_of (without_group group pinned))
  all-without group [] h = tt
  all-without group (pin ∷ pinned) h = by (is_for group pin) (all-without group pinned h.1)
    where
      by : (b : Bool) → AllByRecursion P (map chunk_of (without_group group pinned)) → AllByRecursion P (map chunk_of (cond (not b) (pin ∷ without_group group pinned) (without_group group pinned)))
      by true rest = rest
      by false rest = (h.0, rest)

  all-for : (group : Group) (pinned : List (Pin (Tagged L))) → AllByRecursion P (map chunk_of pinned) → AllByRecursion P (map chunk_of (pins_for group pinned))
  all-for group [] h = tt
  all-for group (pin ∷ pinned) h = by (is_for group pin) (all-for group pinned h.1)
    where
      by : (b : Bool) → AllByRecursion P (map chunk_of (pins_for group pinned)) → AllByRecursion P (map chunk_of (cond b (pin ∷ pins_for group pinned) (pins_for group pinned)))
      by true rest = (h.0, rest)
      by false rest = rest

  all-staying : (groups : List Group) (pinned : List (Pin (Tagged L))) → AllByRecursion P (map chunk_of pinned) → AllByRecursion P (map chunk_of (staying groups pinned))
  all-staying [] pinned h = h
  all-staying (group ∷ groups) pinned h = all-staying groups (without_group group pinned) (all-without group pinned h)

  all-going : (groups : List Group) (pinned : List (Pin (Tagged L))) → AllByRecursion P (map chunk_of pinned) → AllByRecursion P (map chunk_of (going groups pinned))
  all-going [] pinned h = tt
  all-going (group ∷ groups) pinned h =
      subst (AllByRecursion P) (sym (map-append chunk_of (pins_for group pinned) (going groups (without_group group pinned))))
      (all_append P (map chunk_of (pins_for group pinned)) (map chunk_of (going groups (without_group group pinned))) (all-for group pinned h) (all-going groups (without_group group pinned) (all-without group pinned h)))

-- ---- an abandonment

module _ {L : Type 0} (kept : Kept L) (pins : Pinning (Tagged L)) (point : Point L) (h : Holds kept point) (remembers : Remembers pins (relieved h.memory)) where
  abbrev pinned : List (Pin (Tagged L))
  pinned = h.memory.pinned

  abbrev groups : List Group
  groups = leaving h.memory.most pinned

  abbrev old : AgentState
  old = point.state

  abbrev new : AgentState
  new = model.abandon point.settings point.state

  gone : HasAbandoned pinned_place point.settings old new pinned groups
  gone = subst (λ most. HasAbandoned pinned_place point.settings old new pinned (leaving most pinned)) (sym h.pins.most) (same_go pinned_place point.settings old pinned (sym h.pins.pinned) h.pins.groups)

  -- what is kept then
  abbrev left : Kept L
  left = record kept {
    pins = pins;
    standings = fold note_going kept.standings (map abandoned_going (going groups pinned));
    hand = kept.hand ++ map chunk_of (going groups pinned);
    lefts = kept.lefts ++ map going_left (map abandoned_going (going groups pinned));
  }

  same_chunks : map going_buffer (map abandoned_going (going groups pinned)) ≡ map chunk_of (going groups pinned)
  same_chunks = map-map going_buffer abandoned_going (going groups pinned)

  is_left : let_go_all (record kept { pins = pins }) (map abandoned_going (drops h.memory)) ≡ left
  is_left =
      let_go_all-is (record kept { pins = pins }) (map abandoned_going (going groups pinned))
      ∙ ap (λ hand. record kept {
        pins = pins;
        standings = fold note_going kept.standings (map abandoned_going (going groups pinned));
        hand = kept.hand ++ hand;
        lefts = kept.lefts ++ map going_left (map abandoned_going (going groups pinned));
      }) same_chunks

  stands_for : RemembersAs point.settings point.node new (relieved h.memory)
  stands_for = record {
    node_is = h.pins.node_is;
    rules = h.pins.rules;
    most = h.pins.most;
    claims = h.pins.claims ∙ sym (ap (λ (s : AgentState). s.claims) gone.others);
    pinned = sym gone.pinned_are;
    groups = gone.are;
    abandoned = ap (λ l. l ++ groups) h.pins.abandoned ∙ sym gone.abandoned;
    tried = h.pins.tried ∙ sym (ap (λ (s : AgentState). s.tried) gone.others);
    admitted = h.pins.admitted ∙ sym (ap (λ (s : AgentState). s.admitted) gone.others);
  }

  still_indexed : IsIndexed h.memory.claims new kept.index.touched
  still_indexed =
      let was = h.index.touched in
      record {
        traces = ap (λ (s : AgentState). s.touched) gone.others ∙ was.traces;
        apart = was.apart;
        free = was.free;
        places = λ trace. was.places trace ∙ sym (gone.indexed trace);
        count = gone.count ∙ was.count;
        crumbs = λ trace n. ap (λ (s : AgentState). has_crumb s.crumbs (record { trace = trace; node = record { 0 = n } })) gone.others ∙ was.crumbs trace n;
      }

  fates_noted : fold note_going kept.standings (map abandoned_going (going groups pinned)) ≡ map mark_of new.taken
  fates_noted =
      fold-goings abandoned_going kept.standings (going groups pinned)
      ∙ ap (λ ss. fold (note_abandoned pinned_place) ss (going groups pinned)) h.standings
      ∙ gone.noted

  hand_grew : option_to_list point.offered ++ map place_of (kept.hand ++ map chunk_of (going groups pinned)) ≡ new.hand
  hand_grew =
      ap (λ l. option_to_list point.offered ++ l) (map-append place_of kept.hand (map chunk_of (going groups pinned)) ∙ ap (λ l. map place_of kept.hand ++ l) (map-map place_of chunk_of (going groups pinned)))
      ∙ sym (append_assoc (option_to_list point.offered) (map place_of kept.hand) (map pinned_place (going groups pinned)))
      ∙ ap (λ l. l ++ map pinned_place (going groups pinned)) h.hand
      ∙ sym gone.hand

  abbrev index_chunks : List (Placed L)
  index_chunks = chunks_left kept.index.touched

  -- each lease is kept as before
  each_kept : AllByRecursion (IsKept point.buffers) (all_held left (staying groups pinned))
  each_kept =
      let P = IsKept point.buffers in
      let front = all_front P (waiting_chunks kept pinned) kept.hand h.each in
      let hand = all_back P (waiting_chunks kept pinned) kept.hand h.each in
      let indexed = all_front P index_chunks (map chunk_of pinned) front in
      let pins_kept = all_back P index_chunks (map chunk_of pinned) front in
      all_append P (index_chunks ++ map chunk_of (staying groups pinned)) (kept.hand ++ map chunk_of (going groups pinned))
      (all_append P index_chunks (map chunk_of (staying groups pinned)) indexed (all-staying P groups pinned pins_kept))
      (all_append P kept.hand (map chunk_of (going groups pinned)) hand (all-going P groups pinned pins_kept))

  each_paged : AllByRecursion (HasPage point.settings new.taken) (waiting_chunks left (staying groups pinned))
  each_paged =
      let P = HasPage point.settings old.taken in
      let indexed = all_front P index_chunks (map chunk_of pinned) h.paged in
      let pins_paged = all_back P index_chunks (map chunk_of pinned) h.paged in
      all-same (λ (placed : Placed L) (page : P placed). has_page-same old.taken new.taken gone.pages point.settings placed page)
      (index_chunks ++ map chunk_of (staying groups pinned))
      (all_append P index_chunks (map chunk_of (staying groups pinned)) indexed (all-staying P groups pinned pins_paged))

  -- they have their pages, so they are among what is noted
  going_paged : AllByRecursion (HasPage point.settings old.taken) (map chunk_of (going groups pinned))
  going_paged = all-going (HasPage point.settings old.taken) groups pinned (all_back (HasPage point.settings old.taken) index_chunks (map chunk_of pinned) h.paged)

  lefts_now : AreLeft left.standings (option_to_list kept.offered ++ map place_of left.hand) left.lefts
  lefts_now =
      let long : length kept.standings ≡ length old.taken = ap length h.standings ∙ length-map old.taken mark_of in
      let within = pins-within (length kept.standings) abandoned_going (λ pin. refl) (going groups pinned)
      (all_weaker (HasPage point.settings old.taken) (λ (placed : Placed L). place_of placed < length kept.standings) (λ placed page. let below = slice_get_within old.taken (place_of placed) page.chunk page.at in omega (arith, below, long)) (map chunk_of (going groups pinned)) going_paged) in
      subst (λ hand. AreLeft left.standings (option_to_list kept.offered ++ map place_of (kept.hand ++ hand)) left.lefts) same_chunks
      (hand-left kept.standings kept.offered kept.hand kept.lefts (map abandoned_going (going groups pinned)) within h.lefts)

  untouched_now : AllByRecursion (HasPage point.settings new.taken) (unoffered kept.offered kept.again left.hand)
  untouched_now =
      unoffered-weaker (HasPage point.settings old.taken) (HasPage point.settings new.taken) (λ placed page. has_page-same old.taken new.taken gone.pages point.settings placed page) kept.offered kept.again left.hand
      (unoffered-more (HasPage point.settings old.taken) kept.offered kept.again kept.hand (map chunk_of (going groups pinned)) h.untouched going_paged)

  holds_left : Holds left (with_state new point)
  holds_left =
      let long = length-same old.taken new.taken gone.pages in
      record {
        node_is = h.node_is;
        memory = relieved h.memory;
        remembers = remembers;
        pins = stands_for;
        index = record { threshold = h.index.threshold; most = h.index.most; touched = still_indexed };
        sent = h.sent;
        offered = h.offered;
        hand = hand_grew;
        again = h.again;
        keeps = h.keeps;
        lefts = lefts_now;
        untouched = untouched_now;
        standings = fates_noted;
        claims = h.claims ∙ sym (ap (λ (s : AgentState). map claim_note s.claims) gone.others);
        pages =
            h.pages
            ∙ sym (pages-same old.taken new.taken gone.pages old.reported)
            ∙ sym (ap (λ (s : AgentState). filter_map (bytes_at new.taken) s.reported) gone.others);
        reported =
            subst (AllByRecursion (λ (place : ℕ). place < length new.taken)) (sym (ap (λ (s : AgentState). s.reported) gone.others))
            (all_weaker (λ (place : ℕ). place < length old.taken) (λ (place : ℕ). place < length new.taken) (λ place within. subst (λ n. place < n) (sym long) within) old.reported h.reported);
        buffers = h.buffers ∙ sym long;
        each = each_kept;
        paged = each_paged;
        few =
            let fewer = staying_few groups pinned in
            let few = h.few in
            omega (arith, fewer, few, long);
        fits = let fits = h.fits in omega (arith, fits, long);
      }

  -- what is kept is what the model says, where groups gave way
  pub holds-abandoned : Holds (let_go_all (record kept { pins = pins }) (map abandoned_going (drops h.memory))) (with_state (model.abandon point.settings point.state) point)
  holds-abandoned = subst (λ k. Holds k (with_state new point)) (sym is_left) holds_left
