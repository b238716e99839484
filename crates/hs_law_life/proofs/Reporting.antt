-- Each event of an agent lets more chunks go, behind those that it let go before; and of these it reports the ones that stand so.
use Rattle.std.proofs.Common.{◌≡◌, ℕ, zero, suc, ◌+◌, ◌≤◌, Bool, true, false, cond, List, [], ◌∷◌, ◌++◌, length, take, refl, sym, ap, ◌∙◌, arith, inl, inr, append_assoc, append-nil, Option}
use Rattle.std.specs.Prelude.{filter}
use Rattle.std.specs.Prelude.{slice_get, ◌==◌}
use Rattle.std.specs.Option.{option_map_or}
use Rattle.std.proofs.lemmas.Bool.{cases_Bool, eq-eqb, true≢false}
use Rattle.std.proofs.lemmas.List.{map-append}
use Rattle.hs_base.proofs.Counts.{one_if}
use Rattle.hs_base.specs.declared.ids.TraceId.{TraceId}
use Rattle.hs_base.specs.declared.told.Ask.{Ask}
use Rattle.hs_base.specs.declared.told.Group.{Group}
use Rattle.hs_records.specs.Plain.{PlainSettings}
use Rattle.hs_sched.specs.Visits.{count_sent}
use Rattle.hs_sched.specs.declared.share.Share.{Share}
use Rattle.hs_words.specs.Pages.{Sheet}
use Rattle.hs_law_agent.specs.Abandoning.{abandon_group}
use Rattle.hs_law_agent.specs.Claiming.{claim_trace}
use Rattle.hs_law_agent.specs.Evicting.{evict_trace}
use Rattle.hs_law_agent.specs.Laws.{count_of, given_places, PlacesMatch}
use Rattle.hs_law_agent.specs.Standings.{ChunkStanding, Pinned, Evicted, Abandoned, Taken, is_indexed, is_pinned, is_reported, is_let_go, is_pinned_for, indexed_places, passes, stands, is_among, moved_from, moved}
use Rattle.hs_law_agent.specs.State.{AgentState, GivenPlace}
use Rattle.hs_law_agent.specs.Stepping.{AgentEvent, after_event, with_abandoned, give_place}
use Rattle.hs_law_agent.specs.Turning.{order_of, costs_of, reported_standing, visit}
use Rattle.hs_base.proofs.Places.{get_front_same}
use Rattle.hs_law_agent.proofs.Counts.{count-append, among_counted, not_among_counted, counted_one, passes_too, passes_moved_at, passes_at, count-filter-le}
use Rattle.hs_law_agent.proofs.Placed.{AreSome, indexed_some, indexed_only, pinned_only, match_kept, visit_few}
use Rattle.hs_law_agent.proofs.Unevicted.{passed_within}
use Rattle.hs_law_agent.proofs.Traversal.{IsKept, kept_event}

-- ---- filters

pub filter_append : (f : ℕ → Bool) (xs ys : List ℕ) → filter f (xs ++ ys) ≡ filter f xs ++ filter f ys
filter_append f [] ys = refl
filter_append f (x ∷ xs) ys = go (f x) (filter_append f xs ys)
  where
    go : (b : Bool) → filter f (xs ++ ys) ≡ filter f xs ++ filter f ys → cond b (x ∷ filter f (xs ++ ys)) (filter f (xs ++ ys)) ≡ cond b (x ∷ filter f xs) (filter f xs) ++ filter f ys
    go true rest = ap (λ (l : List ℕ). x ∷ l) rest
    go false rest = rest

counted_first : (x : ℕ) (xs : List ℕ) → 1 ≤ count_of (x ∷ xs) x
counted_first x xs = rw (eq-eqb x x refl) (omega arith)

counted_later : (x : ℕ) (xs : List ℕ) (p : ℕ) → 1 ≤ count_of xs p → 1 ≤ count_of (x ∷ xs) p
counted_later x xs p low = go (x == p)
  where
    go : (b : Bool) → 1 ≤ cond b 1 0 + count_of xs p
    go true = omega arith
    go false = omega (arith, low)

pub filter_same : (f g : ℕ → Bool) (xs : List ℕ) → ((p : ℕ) → 1 ≤ count_of xs p → f p ≡ g p) → filter f xs ≡ filter g xs
filter_same f g [] same = refl
filter_same f g (x ∷ xs) same =
    ap (λ (b : Bool). cond b (x ∷ filter f xs) (filter f xs)) (same x (counted_first x xs))
    ∙ ap (λ (l : List ℕ). cond (g x) (x ∷ l) l) (filter_same f g xs (λ p low. same p (counted_later x xs p low)))

filter_all : (xs : List ℕ) → filter (λ x. true) xs ≡ xs
filter_all [] = refl
filter_all (x ∷ xs) = ap (λ (l : List ℕ). x ∷ l) (filter_all xs)

filter_none : (xs : List ℕ) → filter (λ x. false) xs ≡ []
filter_none [] = refl
filter_none (x ∷ xs) = filter_none xs

-- ---- what stays

abbrev pub out : AgentState → List ℕ
out s = given_places s ++ s.hand

-- the chunks that were let go stay as they are
abbrev Stays : List Taken → List Taken → Type 0
Stays old new = (p : ℕ) → stands is_let_go old p ≡ true → slice_get new p ≡ slice_get old p

get_moved : (places : List ℕ) (change : ChunkStanding → ChunkStanding) (k : ℕ) (taken : List Taken) (p : ℕ) → is_among places (k + p) ≡ false → slice_get (moved_from k places change taken) p ≡ slice_get taken p
get_moved places change k [] p none = refl
get_moved places change k (c ∷ taken) zero none =
    let same : k + 0 ≡ k = omega arith in
    let absent : is_among places k ≡ false = ap (is_among places) (sym same) ∙ none in
    rw absent refl
get_moved places change k (c ∷ taken) (suc p) none =
    let same : suc k + p ≡ k + suc p = omega arith in
    get_moved places change (suc k) taken p (ap (is_among places) same ∙ none)

not_among : (from : ChunkStanding → Bool) → ((s : ChunkStanding) → from s ≡ true → is_let_go s ≡ false) → (taken : List Taken) (places : List ℕ) → AreSome from taken places → (p : ℕ) → stands is_let_go taken p ≡ true
    → is_among places p ≡ false
not_among from none taken places some p gone = elim (cases_Bool (is_among places p)) [
  | inl here ↦
      let least = among_counted places p here in
      let most = some p in
      let is : stands from taken p ≡ true = counted_one (stands from taken p) (omega (arith, least, most)) in
      let not_gone : stands is_let_go taken p ≡ false = passes_too (λ c. from c.standing) (λ c. is_let_go c.standing) false (λ c e. none c.standing e) taken p is in
      absurd (true≢false (sym gone ∙ not_gone))
  | inr absent ↦ absent
]

stays_moved : (from : ChunkStanding → Bool) → ((s : ChunkStanding) → from s ≡ true → is_let_go s ≡ false) → (change : ChunkStanding → ChunkStanding) (taken : List Taken) (places : List ℕ) → AreSome from taken places
    → Stays taken (moved places change taken)
stays_moved from none change taken places some p gone =
    let same : 0 + p ≡ p = omega arith in
    get_moved places change 0 taken p (ap (is_among places) same ∙ not_among from none taken places some p gone)

pinned_some : (s : AgentState) (places : List ℕ) → ((p : ℕ) → count_of places p ≤ count_of s.pinned p) → PlacesMatch s → AreSome is_pinned s.taken places
pinned_some s places few m p = let le = few p in let each : count_of s.pinned p ≡ one_if (stands is_pinned s.taken p) = m.pinned_each p in omega (arith, le, each)

stays_more : (taken : List Taken) (c : Taken) → Stays taken (taken ++ c ∷ [])
stays_more taken c p gone = get_front_same taken (c ∷ []) p (passed_within _ taken p gone)

-- ---- one step

pub record Step (old new : AgentState) : Type 0 where
  pub more : List ℕ
  pub out_is : out new ≡ out old ++ more
  pub reported_is : new.reported ≡ old.reported ++ filter (stands is_reported new.taken) more
  pub stays : (p : ℕ) → stands is_let_go old.taken p ≡ true → slice_get new.taken p ≡ slice_get old.taken p

pub let_go_out : (s : AgentState) → PlacesMatch s → (p : ℕ) → 1 ≤ count_of (out s) p → stands is_let_go s.taken p ≡ true
let_go_out s m p low = let each : count_of (out s) p ≡ one_if (stands is_let_go s.taken p) = m.gone_each p in counted_one (stands is_let_go s.taken p) (omega (arith, low, each))

pub same_by : (test : ChunkStanding → Bool) (old new : List Taken) (p : ℕ) → slice_get new p ≡ slice_get old p → stands test new p ≡ stands test old p
same_by test old new p same = ap (λ (o : Option Taken). option_map_or (λ (c : Taken). test c.standing) o false) same

pub step_more : (a b c : AgentState) → PlacesMatch b → Step a b → Step b c → Step a c
step_more a b c m one two =
    record {
      more = one.more ++ two.more;
      out_is = two.out_is ∙ ap (λ (l : List ℕ). l ++ two.more) one.out_is ∙ append_assoc (out a) one.more two.more;
      reported_is =
          two.reported_is ∙ ap (λ (l : List ℕ). l ++ filter (stands is_reported c.taken) two.more) one.reported_is
          ∙ append_assoc a.reported (filter (stands is_reported b.taken) one.more) (filter (stands is_reported c.taken) two.more)
          ∙ ap (λ (l : List ℕ). a.reported ++ (l ++ filter (stands is_reported c.taken) two.more)) (filter_same (stands is_reported b.taken) (stands is_reported c.taken) one.more mid)
          ∙ ap (λ (l : List ℕ). a.reported ++ l) (sym (filter_append (stands is_reported c.taken) one.more two.more));
      stays = λ p gone. two.stays p (same_by is_let_go a.taken b.taken p (one.stays p gone) ∙ gone) ∙ one.stays p gone;
    }
  where
    mid : (p : ℕ) → 1 ≤ count_of one.more p → stands is_reported b.taken p ≡ stands is_reported c.taken p
    mid p low =
        let parts : count_of (out b) p ≡ count_of (out a) p + count_of one.more p = ap (λ (l : List ℕ). count_of l p) one.out_is ∙ count-append (out a) one.more p in
        sym (same_by is_reported b.taken c.taken p (two.stays p (let_go_out b m p (omega (arith, low, parts)))))

-- nothing is let go
quiet : (old new : AgentState) → out new ≡ out old → new.reported ≡ old.reported → Stays old.taken new.taken → Step old new
quiet old new same reports stays =
    record { more = []; out_is = same ∙ sym (append-nil (out old)); reported_is = reports ∙ sym (append-nil old.reported); stays = stays }

pub unmoved : (s : AgentState) → Step s s
unmoved s = quiet s s refl refl (λ p gone. refl)

-- these chunks are let go, and all of them stand so from then on
moves : (old new : AgentState) (places : List ℕ) (from : ChunkStanding → Bool) (change : ChunkStanding → ChunkStanding) (b : Bool) → ((s : ChunkStanding) → from s ≡ true → is_let_go s ≡ false)
    → ((s : ChunkStanding) → from s ≡ true → is_reported (change s) ≡ b) → AreSome from old.taken places → new.taken ≡ moved places change old.taken → out new ≡ out old ++ places
    → new.reported ≡ old.reported ++ filter (λ x. b) places → Step old new
moves old new places from change b none turns some taken outs reports =
    record {
      more = places;
      out_is = outs;
      reported_is = reports ∙ ap (λ (l : List ℕ). old.reported ++ l) (filter_same (λ x. b) (stands is_reported new.taken) places stood);
      stays = λ p gone. ap (λ (l : List Taken). slice_get l p) taken ∙ stays_moved from none change old.taken places some p gone;
    }
  where
    stood : (p : ℕ) → 1 ≤ count_of places p → b ≡ stands is_reported new.taken p
    stood p low =
        let most = some p in
        let is : stands from old.taken p ≡ true = counted_one (stands from old.taken p) (omega (arith, low, most)) in
        sym (ap (λ (l : List Taken). stands is_reported l p) taken ∙ passes_moved_at (λ c. is_reported c.standing) change places old.taken p ∙ at p low (is_among places p) refl is)
      where
        at : (p : ℕ) → 1 ≤ count_of places p → (here : Bool) → is_among places p ≡ here → stands from old.taken p ≡ true
            → cond here (passes (λ c. is_reported (change c.standing)) old.taken p) (stands is_reported old.taken p) ≡ b
        at p low true here is = passes_too (λ c. from c.standing) (λ c. is_reported (change c.standing)) b (λ c e. turns c.standing e) old.taken p is
        at p low false absent is = let zero_is = not_among_counted places p absent in absurd (omega (arith, low, zero_is))

-- ---- the steps of an agent

indexed_held : (s : ChunkStanding) → is_indexed s ≡ true → is_let_go s ≡ false
indexed_held s e = indexed_only (λ u. is_let_go u ≡ false) refl s e

pinned_held : (s : ChunkStanding) → is_pinned s ≡ true → is_let_go s ≡ false
pinned_held s e = pinned_only (λ u. is_let_go u ≡ false) (λ g. refl) s e

none_more : (reported places : List ℕ) → reported ≡ reported ++ filter (λ x. false) places
none_more reported places = sym (append-nil reported) ∙ ap (λ (l : List ℕ). reported ++ l) (sym (filter_none places))

evicts_step : (trace : TraceId) (later : List TraceId) (s : AgentState) → Step s (evict_trace trace later s)
evicts_step trace later s =
    let places = indexed_places s.taken trace in
    moves s (evict_trace trace later s) places is_indexed (λ _. Evicted _ _) false indexed_held (λ u e. refl) (indexed_some s.taken trace) refl (sym (append_assoc (given_places s) s.hand places)) (none_more s.reported places)

claims_step : (ask : Ask) (trace : TraceId) (s : AgentState) → Step s (claim_trace ask trace s)
claims_step ask trace s = quiet s (claim_trace ask trace s) refl refl (stays_moved is_indexed indexed_held (λ _. Pinned ask.group) s.taken (indexed_places s.taken trace) (indexed_some s.taken trace))

abandons_step : (group : Group) (s : AgentState) → PlacesMatch s → Step s (abandon_group group s)
abandons_step group s m =
    let places = filter (is_pinned_for s.taken group) s.pinned in
    moves s (abandon_group group s) places is_pinned (λ _. Abandoned group) false pinned_held (λ u e. refl) (pinned_some s places (count-filter-le (is_pinned_for s.taken group) s.pinned) m) refl
    (sym (append_assoc (given_places s) s.hand places)) (none_more s.reported places)

visits_step : (settings : PlainSettings) (s : AgentState) (share : Share) → PlacesMatch s → Step s (visit settings s share)
visits_step settings s share m =
    let places = take (count_sent settings.size share (costs_of s share.trigger.0)) (order_of s share.trigger.0) in
    moves s (visit settings s share) places is_pinned reported_standing true pinned_held (λ u e. pinned_only (λ u. is_reported (reported_standing u) ≡ true) (λ g. refl) u e) (pinned_some s places (visit_few settings s share) m) refl
    (sym (append_assoc (given_places s) s.hand places)) (ap (λ (l : List ℕ). s.reported ++ l) (sym (filter_all places)))

drops_step : (sheet : Sheet) (group : Group) (s : AgentState) → Step s (with_abandoned sheet group s)
drops_step sheet group s =
    let c : Taken = record { sheet = sheet; standing = Abandoned group } in
    record {
      more = length s.taken ∷ [];
      out_is = sym (append_assoc (given_places s) s.hand (length s.taken ∷ []));
      reported_is = sym (append-nil s.reported) ∙ ap (λ (b : Bool). s.reported ++ cond b (length s.taken ∷ []) []) (sym (passes_at (λ (x : Taken). is_reported x.standing) s.taken c));
      stays = stays_more s.taken c;
    }

gives_step : (stamp place : ℕ) (hand : List ℕ) (s : AgentState) → s.hand ≡ place ∷ hand → Step s (give_place stamp place hand s)
gives_step stamp place hand s is =
    quiet s (give_place stamp place hand s)
    (ap (λ (l : List ℕ). l ++ hand) (map-append (λ (g : GivenPlace). g.place) s.given (record { place = place; stamp = stamp } ∷ [])) ∙ append_assoc (given_places s) (place ∷ []) hand ∙ ap (λ (l : List ℕ). given_places s ++ l) (sym is))
    refl (λ p gone. refl)

-- what an agent came to from a state
pub record From (old new : AgentState) : Type 0 where
  pub places : PlacesMatch new
  pub step : Step old new

from_kept : (settings : PlainSettings) (node : ℕ) (old : AgentState) → IsKept settings node (From old)
from_kept settings node old =
    let places = match_kept settings node in
    record {
      evicts = λ trace later s e over m. record { places = places.evicts trace later s e over m.places; step = step_more old s _ m.places m.step (evicts_step trace later s) };
      claims = λ ask trace s free m. record { places = places.claims ask trace s free m.places; step = step_more old s _ m.places m.step (claims_step ask trace s) };
      abandons = λ group s chosen m. record { places = places.abandons group s chosen m.places; step = step_more old s _ m.places m.step (abandons_step group s m.places) };
      visits = λ s share m. record { places = places.visits s share m.places; step = step_more old s _ m.places m.step (visits_step settings s share m.places) };
      shares = λ shares s m. record { places = m.places; step = step_more old s _ m.places m.step (quiet s _ refl refl (λ p gone. refl)) };
      indexes = λ sheet s free m. record { places = places.indexes sheet s free m.places; step = step_more old s _ m.places m.step (quiet s _ refl refl (stays_more s.taken _)) };
      drops = λ sheet claim s had gone m. record { places = places.drops sheet claim s had gone m.places; step = step_more old s _ m.places m.step (drops_step sheet claim.group s) };
      pins = λ sheet claim s had m. record { places = places.pins sheet claim s had m.places; step = step_more old s _ m.places m.step (quiet s _ refl refl (stays_more s.taken _)) };
      touches = λ crumb s free m. record { places = m.places; step = step_more old s _ m.places m.step (quiet s _ refl refl (λ p gone. refl)) };
      tells = λ crumb claim s had new m. record { places = m.places; step = step_more old s _ m.places m.step (quiet s _ refl refl (λ p gone. refl)) };
      tries = λ trigger s m. record { places = m.places; step = step_more old s _ m.places m.step (quiet s _ refl refl (λ p gone. refl)) };
      counts = λ s m. record { places = m.places; step = step_more old s _ m.places m.step (quiet s _ refl refl (λ p gone. refl)) };
      says = λ told s m. record { places = m.places; step = step_more old s _ m.places m.step (quiet s _ refl refl (λ p gone. refl)) };
      notes = λ step s m. record { places = m.places; step = step_more old s _ m.places m.step (quiet s _ refl refl (λ p gone. refl)) };
      gives = λ stamp place hand s e m. record { places = places.gives stamp place hand s e m.places; step = step_more old s _ m.places m.step (gives_step stamp place hand s e) };
    }

pub event_from : (settings : PlainSettings) (node : ℕ) (s : AgentState) (event : AgentEvent) → PlacesMatch s → From s (after_event settings node s event)
event_from settings node s event m = kept_event settings node (From s) (from_kept settings node s) s event (record { places = m; step = unmoved s })
