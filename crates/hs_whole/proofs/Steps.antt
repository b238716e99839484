-- What each deed does to what is kept of a trace.
use Rattle.std.proofs.Common.{◌≡◌, inl, inr, ℕ, zero, suc, ◌+◌, ◌-◌, ◌<◌, ◌≤◌, min, max, eqb-true, Bool, true, false, not, cond, ◌||◌, ◌&&◌, List, [], ◌∷◌, length, take, slice_get, unwrap_or, count_by, set, Option, Some, None, is_some, option_map, refl, sym, ap, subst, arith, ◌∙◌}
use Rattle.std.specs.Prelude.{nat_lt, nat_le, ◌==◌, if◌then◌else◌}
use Rattle.std.specs.Option.{option_map_or}
use Rattle.std.proofs.lemmas.Option.{same_Some}
use Rattle.lru.specs.LruCache.{last_entry}
use Rattle.hs_base.proofs.Bools.{by_answer, first_false, second_false, first_true, second_true}
use Rattle.hs_base.proofs.Places.{unwrap_set, unwrap_other}
use Rattle.hs_base.specs.declared.ids.TraceId.{TraceId}
use Rattle.hs_base.specs.declared.node_set.NodeSet.{NodeSet}
use Rattle.hs_base.specs.NodeSets.{has_node, either}
use Rattle.hs_base.specs.NodeSetLaws.{has-either}
use Rattle.hs_base.specs.Ids.{same_trace}
use Rattle.hs_whole.specs.declared.answers.NoteLimits.{NoteLimits}
use Rattle.hs_whole.specs.declared.answers.SegmentReport.{SegmentReport}
use Rattle.hs_whole.specs.declared.answers.Loss.{Loss}
use Rattle.hs_whole.specs.declared.page.PageName.{PageName}
use Rattle.hs_whole.specs.declared.track.Track.{Track}
use Rattle.hs_whole.specs.declared.kept.Kept.{Kept}
use Rattle.hs_whole.specs.Tracks.{no_notes, is_open, begins_next, ends_next, refuses_next, begun, ended, passed, is_heard_of, handed}
use Rattle.hs_whole.specs.Pages.{is_before, later_page}
use Rattle.hs_whole.specs.Kept.{more, counted, is_settled, fresh, misses, begins, ends, loses, goes_out, refuses, leads, reports_loss}
use Rattle.hs_whole.specs.Notes.{PlainNotes, track_of, kept_of, missed_open, checked, moved_horizon, is_over, has_place, looked, searched, finds_place, remembered, remembered_as, with_kept, opened, closed, refused, led, changed, handed_in, after_lost, after_handed_out}
use Rattle.hs_whole.specs.History.{NoteDeed, Opens, Closes, Refuses, Leads, Loses, HandsOut, Misses, Drops, after, IsOfClient, segments, latest_of, hands_out, announces, lets_go, pages_in, track_after, HasPlace, IsOver}
use Rattle.hs_whole.proofs.Looking.{found, same-true, same-refl, found-with_same, found-with_other, length-with, found-promoted, length-promoted, IsLast, dropped, length-take_few, there_below}
use Rattle.hs_whole.proofs.Standings.{most, IsKept, Stands, raised, presented, doubts, freshly, kept_pending, with_deed, aside, over_now}
use Rattle.hs_whole.proofs.Searching.{reordered_searched}
use Rattle.hs_whole.proofs.Ends.{open_handed}
use Rattle.hs_base.proofs.Counts.{one_if, count_cons}
use Rattle.hs_whole.specs.declared.answers.TheConstants.{MOST_LOOKS}
use Rattle.hs_whole.specs.declared.answers.Loss.TheVariants.{EvictedPages, AbandonedPages, EvictedCrumbs, ForgottenCrumbs}

-- ---- what stays where a trace is kept, or a note was missed

pub record IsAlike (s s' : PlainNotes) : Type 0 where
  pub limits : s'.limits ≡ s.limits
  pub heard : s'.heard ≡ s.heard
  pub tracks : s'.tracks ≡ s.tracks
  pub few : length s.traces ≤ s.limits.traces → 0 < s.limits.traces → length s'.traces ≤ s.limits.traces

alike_remembered : (s : PlainNotes) (trace : TraceId) (is_missed : Bool) → IsAlike s (remembered s trace is_missed)
alike_remembered s trace is_missed = at (kept_of s trace)
  where
    at : (o : Option Kept) → IsAlike s (remembered_as s trace is_missed o)
    at None = record {
      limits = refl;
      heard = refl;
      tracks = refl;
      few = λ few some. (let least = length-take_few s.traces (s.limits.traces - 1) in omega (arith, least, some));
    }
    at (Some k) = record {
      limits = refl;
      heard = refl;
      tracks = refl;
      few = λ few some. (let same = length-promoted trace s.traces in omega (arith, same, few));
    }

alike_open : (s : PlainNotes) (current : Option TraceId) → IsAlike s (missed_open current s)
alike_open s None = record { limits = refl; heard = refl; tracks = refl; few = λ few some. few }
alike_open s (Some trace) = record { limits = refl; heard = refl; tracks = refl; few = λ few some. (let same = length-with misses trace s.traces in omega (arith, same, few)) }

alike_checked : (s : PlainNotes) (client : ℕ) (is_next : Bool) → IsAlike s (checked s client is_next)
alike_checked s client true = record { limits = refl; heard = refl; tracks = refl; few = λ few some. few }
alike_checked s client false = alike_open s (track_of s client).current

-- both, one after the other
alike_both : (s : PlainNotes) (trace : TraceId) (is_missed : Bool) (client : ℕ) (is_next : Bool) → IsAlike s (checked (remembered s trace is_missed) client is_next)
alike_both s trace is_missed client is_next =
    let one = alike_remembered s trace is_missed in
    let two = alike_checked (remembered s trace is_missed) client is_next in
    record {
      limits = two.limits ∙ one.limits;
      heard = two.heard ∙ one.heard;
      tracks = two.tracks ∙ one.tracks;
      few = λ few some. (
          let cap : (remembered s trace is_missed).limits.traces ≡ s.limits.traces = ap (λ (l : NoteLimits). l.traces) one.limits in
          let first = one.few few some in
          let last = two.few (omega (arith, cap, first)) (omega (arith, cap, some)) in
          omega (arith, cap, last)
          );
    }

-- ---- a trace is kept

moved_up : (s : PlainNotes) → s.horizon ≤ moved_horizon s
moved_up s = at (nat_lt (length s.traces) s.limits.traces) (last_entry s.traces)
  where
    at : (b : Bool) (o : Option (TraceId × Kept)) → s.horizon ≤ (if b then s.horizon else option_map_or (λ (oldest : TraceId × Kept). max s.horizon oldest.1.latest) o s.horizon)
    at true o = omega arith
    at false None = omega arith
    at false (Some e) = omega arith

remembered_own : (s : PlainNotes) (trace : TraceId) (is_missed pending : Bool) (deeds : List NoteDeed) → Stands false false trace deeds s.horizon (kept_of s trace)
    → Stands true pending trace deeds (remembered s trace is_missed).horizon (kept_of (remembered s trace is_missed) trace)
remembered_own s trace is_missed pending deeds stands = at (kept_of s trace) refl stands
  where
    at : (o : Option Kept) → kept_of s trace ≡ o → Stands false false trace deeds s.horizon o → Stands true pending trace deeds (remembered_as s trace is_missed o).horizon (kept_of (remembered_as s trace is_missed o) trace)
    at None is stands =
        subst (Stands true pending trace deeds (moved_horizon s)) (sym (ap (λ b. cond b (Some (fresh s.heard is_missed)) (found trace (take (s.limits.traces - 1) s.traces))) (same-refl trace)))
        (freshly pending is_missed trace deeds (moved_horizon s) s.heard (let up = moved_up s in let low = stands.1 in omega (arith, up, low)) stands.2)
    at (Some k) is stands = subst (Stands true pending trace deeds s.horizon) (sym (found-promoted trace trace s.traces ∙ is)) (kept_pending pending trace deeds s.horizon k stands)

moved_behind : (s : PlainNotes) (trace : TraceId) → 0 < s.limits.traces → length s.traces ≤ s.limits.traces → (last : IsLast trace s.traces (s.limits.traces - 1)) → moved_horizon s ≡ max s.horizon last.last.1.latest
moved_behind s trace some few last =
    let below = there_below s.traces (s.limits.traces - 1) last.last last.there in
    let full : nat_lt (length s.traces) s.limits.traces ≡ false = grind (arith, below, some, few) in
    let end : length s.traces - 1 ≡ s.limits.traces - 1 = omega (arith, below, some, few) in
    ap (λ b. if b then s.horizon else option_map_or (λ (oldest : TraceId × Kept). max s.horizon oldest.1.latest) (last_entry s.traces) s.horizon) full
    ∙ ap (λ n. option_map_or (λ (oldest : TraceId × Kept). max s.horizon oldest.1.latest) (slice_get s.traces n) s.horizon) end
    ∙ ap (λ o. option_map_or (λ (oldest : TraceId × Kept). max s.horizon oldest.1.latest) o s.horizon) last.there

-- the last of a full list was over
last_over : (s : PlainNotes) (trace : TraceId) → 0 < s.limits.traces → length s.traces ≤ s.limits.traces → (last : IsLast trace s.traces (s.limits.traces - 1)) → has_place s ≡ true → is_over s last.last ≡ true
last_over s trace some few last place =
    let below = there_below s.traces (s.limits.traces - 1) last.last last.there in
    let full : nat_lt (length s.traces) s.limits.traces ≡ false = grind (arith, below, some, few) in
    let end : length s.traces - 1 ≡ s.limits.traces - 1 = omega (arith, below, some, few) in
    sym
    (ap (λ b. if b then true else option_map_or (is_over s) (last_entry s.traces) true) full
    ∙ ap (λ n. option_map_or (is_over s) (slice_get s.traces n) true) end
    ∙ ap (λ o. option_map_or (is_over s) o true) last.there)
    ∙ place

pub none_open_at : (trace : TraceId) (tracks : List Track) (place : ℕ) → count_by (is_open trace) tracks ≡ 0 → is_open trace (unwrap_or (slice_get tracks place) no_notes) ≡ false
none_open_at trace [] zero none = refl
none_open_at trace [] (suc place) none = refl
none_open_at trace (track ∷ tracks) zero none =
    by_answer (is_open trace track)
    (λ y. let counted = count_cons (is_open trace) track tracks in let one : one_if (is_open trace track) ≡ 1 = ap one_if y in absurd (omega (arith, counted, one, none)))
    (λ n. n)
none_open_at trace (track ∷ tracks) (suc place) none =
    none_open_at trace tracks place (let counted = count_cons (is_open trace) track tracks in omega (arith, counted, none))

remembered_other : (s : PlainNotes) (trace other : TraceId) (is_missed : Bool) (deeds : List NoteDeed) → same_trace trace other ≡ false → 0 < s.limits.traces → length s.traces ≤ s.limits.traces
    → ((client : ℕ) → track_of s client ≡ track_after client deeds) → (kept_of s other ≡ None → has_place s ≡ true)
    → Stands false false trace deeds s.horizon (kept_of s trace) → Stands false false trace deeds (remembered s other is_missed).horizon (kept_of (remembered s other is_missed) trace)
remembered_other s trace other is_missed deeds apart some few tracks place stands = at (kept_of s other) refl
  where
    rest : Option Kept
    rest = found trace (take (s.limits.traces - 1) s.traces)

    left : has_place s ≡ true → Stands false false trace deeds (moved_horizon s) rest
    left there = elim (dropped trace s.traces (s.limits.traces - 1) (omega (arith, some, few))) [
      | inl same ↦ subst (Stands false false trace deeds (moved_horizon s)) (sym same) (raised false false trace deeds s.horizon (moved_horizon s) (kept_of s trace) (moved_up s) stands)
      | inr last ↦
          subst (Stands false false trace deeds (moved_horizon s)) (sym last.gone)
          (
          let was : IsKept false trace deeds s.horizon last.last.1 = subst (Stands false false trace deeds s.horizon) last.was stands in
          let low = was.latest in
          let moved = moved_behind s trace some few last in
          let over = last_over s trace some few last there in
          let none : count_by (is_open last.last.0) s.tracks ≡ 0 = eqb-true (count_by (is_open last.last.0) s.tracks) 0 (second_true (is_settled last.last.1) (count_by (is_open last.last.0) s.tracks == 0) over) in
          let own : count_by (is_open trace) s.tracks ≡ 0 = ap (λ (x : TraceId). count_by (is_open x) s.tracks) (same-true trace last.last.0 last.named) ∙ none in (
            refl,
            omega (arith, low, moved),
            over_now trace deeds s.horizon last.last.1 was (first_true (is_settled last.last.1) (count_by (is_open last.last.0) s.tracks == 0) over)
                (λ client. ap (is_open trace) (sym (tracks client)) ∙ none_open_at trace s.tracks client own),
          )
          )
    ]

    at : (o : Option Kept) → kept_of s other ≡ o → Stands false false trace deeds (remembered_as s other is_missed o).horizon (kept_of (remembered_as s other is_missed o) trace)
    at None is = subst (Stands false false trace deeds (moved_horizon s)) (sym (ap (λ b. cond b (Some (fresh s.heard is_missed)) rest) apart)) (left (place is))
    at (Some k) is = subst (Stands false false trace deeds s.horizon) (sym (found-promoted trace other s.traces)) stands

-- ---- a note that may have been missed

found-doubted : (trace other : TraceId) (s : PlainNotes) → same_trace trace other ≡ true → found trace (with_kept misses other s.traces) ≡ option_map misses (kept_of s trace)
found-doubted trace other s same = ap (λ (x : TraceId). found trace (with_kept misses x s.traces)) (sym (same-true trace other same)) ∙ found-with_same misses trace s.traces

checked_stands : (s : PlainNotes) (client : ℕ) (is_next there pending : Bool) (trace : TraceId) (deeds : List NoteDeed) → s.heard ≡ segments deeds → Stands there pending trace deeds s.horizon (kept_of s trace)
    → Stands there pending trace deeds (checked s client is_next).horizon (kept_of (checked s client is_next) trace)
checked_stands s client true there pending trace deeds heard stands = stands
checked_stands s client false there pending trace deeds heard stands = at (track_of s client).current
  where
    now : Stands there pending trace deeds s.heard (kept_of s trace)
    now = subst (λ n. Stands there pending trace deeds n (kept_of s trace)) (sym heard) (presented there pending trace deeds s.horizon (kept_of s trace) stands)

    at : (current : Option TraceId) → Stands there pending trace deeds (missed_open current s).horizon (kept_of (missed_open current s) trace)
    at None = now
    at (Some other) =
        by_answer (same_trace trace other)
        (λ y. subst (Stands there pending trace deeds s.heard) (sym (found-doubted trace other s y)) (doubts there pending trace deeds s.heard (kept_of s trace) now))
        (λ n. subst (Stands there pending trace deeds s.heard) (sym (found-with_other misses trace other n s.traces)) now)

mapped_misses : (o : Option Kept) (k : Kept) → option_map misses o ≡ Some k → k.is_missed ≡ true
mapped_misses None k is = let never : None ≡ Some k = is in absurd cc
mapped_misses (Some was) k is = sym (ap (λ (x : Kept). x.is_missed) (same_Some (misses was) k is))

flipped : (a b : TraceId) → same_trace a b ≡ true → same_trace b a ≡ true
flipped a b same = ap (λ (x : TraceId). same_trace b x) (same-true a b same) ∙ same-refl b

-- of the trace whose segment is open at a client, a note may have been missed where the client's note is not its next one
checked_doubts : (s : PlainNotes) (client : ℕ) (trace : TraceId) → is_open trace (track_of s client) ≡ true → (k : Kept) → kept_of (checked s client false) trace ≡ Some k → k.is_missed ≡ true
checked_doubts s client trace = at (track_of s client).current
  where
    at : (current : Option TraceId) → option_map_or (λ c. same_trace c trace) current false ≡ true → (k : Kept) → kept_of (missed_open current s) trace ≡ Some k → k.is_missed ≡ true
    at None open_there k is = let never : false ≡ true = open_there in absurd cc
    at (Some other) open_there k is = mapped_misses (kept_of s trace) k (sym (found-doubted trace other s (flipped other trace open_there)) ∙ is)

-- so where none may have been missed, the client's note is its next one
is_next_there : (s : PlainNotes) (client : ℕ) (trace : TraceId) (is_next : Bool) → is_open trace (track_of s client) ≡ true → (k : Kept) → kept_of (checked s client is_next) trace ≡ Some k → k.is_missed ≡ false → is_next ≡ true
is_next_there s client trace true open_there k is off = refl
is_next_there s client trace false open_there k is off = let on = checked_doubts s client trace open_there k is in let never : true ≡ false = sym on ∙ off in absurd cc

none_begins : (trace : TraceId) (track : Track) (number : ℕ) → is_open trace track ≡ true → begins_next track number ≡ true → ⊥
none_begins trace track number open_there next = at track.current open_there (second_true (number == track.next) (not (is_some track.current)) next)
  where
    at : (current : Option TraceId) → option_map_or (λ c. same_trace c trace) current false ≡ true → not (is_some current) ≡ true → ⊥
    at None open_there next = let never : false ≡ true = open_there in absurd cc
    at (Some other) open_there next = let never : false ≡ true = next in absurd cc

un_not : (b : Bool) → not b ≡ false → b ≡ true
un_not true off = refl
un_not false off = absurd cc

-- crumbs that led to these nodes, and to those before
either_left : (a b : NodeSet) (node : ℕ) → has_node a node ≡ true → has_node (either a b) node ≡ true
either_left a b node on = has-either a b node ∙ ap (λ x. x || has_node b node) on

either_right : (a b : NodeSet) (node : ℕ) → has_node b node ≡ true → has_node (either a b) node ≡ true
either_right a b node on = has-either a b node ∙ at (has_node a node)
  where
    at : (x : Bool) → (x || has_node b node) ≡ true
    at true = refl
    at false = on

-- ---- what a node is like

pub record IsLike (bounds : NoteLimits) (deeds : List NoteDeed) (s : PlainNotes) : Type 0 where
  pub limits : s.limits ≡ bounds
  pub some : 0 < s.limits.traces
  pub few : length s.traces ≤ s.limits.traces
  pub clients : length s.tracks ≡ s.limits.clients
  pub heard : s.heard ≡ segments deeds
  pub tracks : (client : ℕ) → track_of s client ≡ track_after client deeds

-- a client whose segment of another trace began, or whose segment ended, has none of this trace open; nor does a note of a crumb open one
began : (trace other : TraceId) (client number : ℕ) (first : PageName) → same_trace other trace ≡ false → (at : ℕ) (deeds : List NoteDeed) → is_open other (track_after at deeds) ≡ false
    → is_open other (if client == at then begun (track_after at deeds) number trace first else track_after at deeds) ≡ false
began trace other client number first apart at deeds none = by (client == at)
  where
    turned : (b : Bool) → same_trace other trace ≡ false → same_trace trace other ≡ b → b ≡ false
    turned true off on = let same = flipped trace other on in let never : true ≡ false = sym same ∙ off in absurd cc
    turned false off on = refl

    by : (b : Bool) → is_open other (if b then begun (track_after at deeds) number trace first else track_after at deeds) ≡ false
    by true = turned (same_trace trace other) apart refl
    by false = none

ended_at : (trace other : TraceId) (client number : ℕ) (end : PageName) (at : ℕ) (deeds : List NoteDeed) → is_open other (track_after at deeds) ≡ false
    → is_open other (if client == at then ended (track_after at deeds) number trace end else track_after at deeds) ≡ false
ended_at trace other client number end at deeds none = by (client == at)
  where
    by : (b : Bool) → is_open other (if b then ended (track_after at deeds) number trace end else track_after at deeds) ≡ false
    by true = refl
    by false = none

passed_at : (other : TraceId) (client number at : ℕ) (deeds : List NoteDeed) → is_open other (track_after at deeds) ≡ false → is_open other (if client == at then passed (track_after at deeds) number else track_after at deeds) ≡ false
passed_at other client number at deeds none = by (client == at) (refuses_next (track_after at deeds) number)
  where
    by : (b n : Bool)
        → is_open other (if b then (if n then record (track_after at deeds) { next = number + 1 } else record (track_after at deeds) { next = number + 1; current = None; from = None; reached = None }) else track_after at deeds) ≡ false
    by true true = none
    by true false = refl
    by false n = none

-- a page that is handed out opens and closes none
handed_open : (trace other : TraceId) (client at : ℕ) (page : PageName) (deeds : List NoteDeed) → is_open other (track_after at (HandsOut client page trace ∷ deeds)) ≡ is_open other (track_after at deeds)
handed_open trace other client at page deeds = by (client == at)
  where
    by : (b : Bool) → is_open other (if b then handed trace page (track_after at deeds) else track_after at deeds) ≡ is_open other (track_after at deeds)
    by true = open_handed other trace page (track_after at deeds)
    by false = refl

-- ---- a segment begins

module _ (limits : NoteLimits) (deeds : List NoteDeed) (s : PlainNotes) (like : IsLike limits deeds s) (client number : ℕ) (low : client < s.limits.clients) where
  track_is : track_of s client ≡ track_after client deeds
  track_is = like.tracks client

  module _ (trace : TraceId) (first : PageName) where
    abbrev is_next : Bool
    is_next = begins_next (track_of s client) number

    abbrev kept_one : PlainNotes
    kept_one = remembered s trace false

    still_track : track_of kept_one client ≡ track_of s client
    still_track = ap (λ (ts : List Track). unwrap_or (slice_get ts client) no_notes) (alike_remembered s trace false).tracks

    abbrev ready : PlainNotes
    ready = checked kept_one client is_next

    heard_still : kept_one.heard ≡ segments deeds
    heard_still = (alike_remembered s trace false).heard ∙ like.heard

    -- a segment of this trace is not open, unless a note may have been missed
    opens_in_order : (other : TraceId) (k : Kept) → kept_of ready other ≡ Some k → k.is_missed ≡ false → is_open other (track_after client deeds) ≡ false
    opens_in_order other k is off =
        by_answer (is_open other (track_after client deeds))
        (λ y. let here : is_open other (track_of s client) ≡ true = ap (is_open other) track_is ∙ y in
        absurd (none_begins other (track_of s client) number here (is_next_there kept_one client other is_next (ap (is_open other) still_track ∙ here) k is off)))
        (λ n. n)

    pub opens_own : segments deeds + 1 ≤ most → Stands false false trace deeds s.horizon (kept_of s trace)
        → Stands false false trace (Opens client number trace first ∷ deeds) (opened s client number trace first).horizon (kept_of (opened s client number trace first) trace)
    opens_own bound stands =
        at (kept_of ready trace) refl (checked_stands kept_one client is_next true true trace deeds heard_still (remembered_own s trace false true deeds stands))
      where
        count : ℕ
        count = more ready.heard 1

        count_is : count ≡ segments deeds + 1
        count_is = let same : ready.heard ≡ segments deeds = (alike_checked kept_one client is_next).heard ∙ heard_still in omega (arith, same, bound)

        at : (o : Option Kept) → kept_of ready trace ≡ o → Stands true true trace deeds ready.horizon o → Stands false false trace (Opens client number trace first ∷ deeds) ready.horizon (found trace (with_kept (begins count) trace ready.traces))
        at None is stands = let never : true ≡ false = stands.0 in absurd cc
        at (Some k) is stands =
            subst (Stands false false trace (Opens client number trace first ∷ deeds) ready.horizon) (sym (found-with_same (begins count) trace ready.traces ∙ ap (option_map (begins count)) is))
            (with_deed (Opens client number trace first) true trace deeds ready.horizon k (begins count k) stands
            (let own : latest_of trace (Opens client number trace first ∷ deeds) ≡ segments deeds + 1 = ap (λ b. if b then segments deeds + 1 else latest_of trace deeds) (same-refl trace) in
            let same = count_is in omega (arith, own, same))
            (λ off. off)
            (opens_in_order trace k is)
            (λ off. tt)
            (λ on. inr (same-refl trace))
            (λ on. same-refl trace)
            (λ n is. is ∙ ap (λ m. min m most) (omega arith))
            (λ n is. is ∙ ap (λ m. min m most) (omega arith))
            (omega arith)
            (λ off. (off, refl))
            (λ node on. on)
            (λ node never. let off : false ≡ true = never in absurd cc))

    pub opens_other : (other : TraceId) → same_trace other trace ≡ false → (kept_of s trace ≡ None → has_place s ≡ true) → Stands false false other deeds s.horizon (kept_of s other)
        → Stands false false other (Opens client number trace first ∷ deeds) (opened s client number trace first).horizon (kept_of (opened s client number trace first) other)
    opens_other other apart place stands =
        subst (Stands false false other (Opens client number trace first ∷ deeds) ready.horizon) (sym (found-with_other (begins (more ready.heard 1)) other trace apart ready.traces))
        (aside other (Opens client number trace first) deeds ready.horizon (kept_of ready other) (record {
          opens = apart;
          sends = λ ds. refl;
          hands_out = refl;
          heard_of = λ ds. tt;
          goes = refl;
          loses = refl;
          leads = λ node. refl;
          closed = λ at ds none. began trace other client number first apart at ds none;
        })
        (opens_in_order other)
        (checked_stands kept_one client is_next false false other deeds heard_still (remembered_other s other trace false deeds apart like.some like.few like.tracks place stands)))

  -- ---- a segment ends

  module _ (trace : TraceId) (end : PageName) (report : SegmentReport) where
    abbrev ends_now : Bool
    ends_now = ends_next (track_of s client) number trace end

    abbrev kept_it : PlainNotes
    kept_it = remembered s trace true

    same_track : track_of kept_it client ≡ track_of s client
    same_track = ap (λ (ts : List Track). unwrap_or (slice_get ts client) no_notes) (alike_remembered s trace true).tracks

    abbrev checked_it : PlainNotes
    checked_it = checked kept_it client ends_now

    heard_same : kept_it.heard ≡ segments deeds
    heard_same = (alike_remembered s trace true).heard ∙ like.heard

    next_after : ends_now ≡ true → ends_next (track_after client deeds) number trace end ≡ true
    next_after on = ap (λ (track : Track). ends_next track number trace end) (sym track_is) ∙ on

    -- its pages count where its end is the next note
    announced_own : announces trace (Closes client number trace end report) deeds ≡ counted report (not ends_now)
    announced_own =
        ap (λ b. if b && ends_next (track_after client deeds) number trace end then report.pages else 0) (same-refl trace)
        ∙ ap (λ (track : Track). if ends_next track number trace end then report.pages else 0) (sym track_is)
        ∙ turned_round ends_now
      where
        turned_round : (b : Bool) → (if b then report.pages else 0) ≡ (if not b then 0 else report.pages)
        turned_round true = refl
        turned_round false = refl

    pub closes_own : Stands false false trace deeds s.horizon (kept_of s trace)
        → Stands false false trace (Closes client number trace end report ∷ deeds) (closed s client number trace end report).horizon (kept_of (closed s client number trace end report) trace)
    closes_own stands =
        at (kept_of checked_it trace) refl
        (checked_stands kept_it client ends_now true false trace deeds heard_same (remembered_own s trace true false deeds stands))
      where
        at : (o : Option Kept) → kept_of checked_it trace ≡ o → Stands true false trace deeds checked_it.horizon o
            → Stands false false trace (Closes client number trace end report ∷ deeds) checked_it.horizon (found trace (with_kept (ends report (not ends_now)) trace checked_it.traces))
        at None is stands = let never : true ≡ false = stands.0 in absurd cc
        at (Some k) is stands =
            subst (Stands false false trace (Closes client number trace end report ∷ deeds) checked_it.horizon)
            (sym (found-with_same (ends report (not ends_now)) trace checked_it.traces ∙ ap (option_map (ends report (not ends_now))) is))
            (with_deed (Closes client number trace end report) false trace deeds checked_it.horizon k (ends report (not ends_now) k) stands
            stands.latest
            (λ off. first_false k.is_missed (not ends_now) off)
            (λ off touches. next_after (un_not ends_now (second_false k.is_missed (not ends_now) off)))
            (λ off. tt)
            (λ on. inl on)
            (λ never. let off : false ≡ true = never in absurd cc)
            (λ n is. let own = announced_own in omega (arith, is, own))
            (λ n is. is ∙ ap (λ m. min m most) (omega arith))
            (omega arith)
            (λ off. (first_false k.is_lost (reports_loss report) off, ap (λ b. b && reports_loss report) (same-refl trace) ∙ second_false k.is_lost (reports_loss report) off))
            (either_left k.crumbs report.crumbs)
            (λ node on. either_right k.crumbs report.crumbs node (second_true (same_trace trace trace) (has_node report.crumbs node) on)))

    pub closes_other : (other : TraceId) → same_trace other trace ≡ false → (kept_of s trace ≡ None → has_place s ≡ true) → Stands false false other deeds s.horizon (kept_of s other)
        → Stands false false other (Closes client number trace end report ∷ deeds) (closed s client number trace end report).horizon (kept_of (closed s client number trace end report) other)
    closes_other other apart place stands =
        subst (Stands false false other (Closes client number trace end report ∷ deeds) checked_it.horizon) (sym (found-with_other (ends report (not ends_now)) other trace apart checked_it.traces))
        (aside other (Closes client number trace end report) deeds checked_it.horizon (kept_of checked_it other)
        (record {
          opens = refl;
          sends = λ ds. ap (λ b. if b && ends_next (track_after client ds) number trace end then report.pages else 0) apart;
          hands_out = refl;
          heard_of = λ ds. tt;
          goes = refl;
          loses = ap (λ b. b && reports_loss report) apart;
          leads = λ node. ap (λ b. b && has_node report.crumbs node) apart;
          closed = λ at ds none. ended_at trace other client number end at ds none;
        })
        (λ k is off touches.
        let here : is_open other (track_of s client) ≡ true = ap (is_open other) track_is ∙ or_left (is_open other (track_after client deeds)) (same_trace other trace) apart touches in
        next_after (is_next_there kept_it client other ends_now (ap (is_open other) same_track ∙ here) k is off))
        (checked_stands kept_it client ends_now false false other deeds heard_same (remembered_other s other trace true deeds apart like.some like.few like.tracks place stands)))
      where
        or_left : (a b : Bool) → b ≡ false → (a || b) ≡ true → a ≡ true
        or_left true b off on = refl
        or_left false b off on = let never : true ≡ false = sym on ∙ off in absurd cc

  -- ---- a crumb was refused

  module _ (trace : TraceId) where
    abbrev follows_on : Bool
    follows_on = refuses_next (track_of s client) number

    abbrev kept_crumb : PlainNotes
    kept_crumb = remembered s trace true

    crumb_track : track_of kept_crumb client ≡ track_of s client
    crumb_track = ap (λ (ts : List Track). unwrap_or (slice_get ts client) no_notes) (alike_remembered s trace true).tracks

    abbrev checked_crumb : PlainNotes
    checked_crumb = checked kept_crumb client follows_on

    heard_there : kept_crumb.heard ≡ segments deeds
    heard_there = (alike_remembered s trace true).heard ∙ like.heard

    -- where a segment of this trace is open it is the client's next note, unless one may have been missed
    crumb_in_order : (other : TraceId) (k : Kept) → kept_of checked_crumb other ≡ Some k → k.is_missed ≡ false → is_open other (track_after client deeds) ≡ true → refuses_next (track_after client deeds) number ≡ true
    crumb_in_order other k is off opened_there =
        let here : is_open other (track_of s client) ≡ true = ap (is_open other) track_is ∙ opened_there in
        ap (λ (track : Track). refuses_next track number) (sym track_is) ∙ is_next_there kept_crumb client other follows_on (ap (is_open other) crumb_track ∙ here) k is off

    pub refuses_own : Stands false false trace deeds s.horizon (kept_of s trace)
        → Stands false false trace (Refuses client number trace ∷ deeds) (refused s client number trace).horizon (kept_of (refused s client number trace) trace)
    refuses_own stands =
        at (kept_of checked_crumb trace) refl
        (checked_stands kept_crumb client follows_on true false trace deeds heard_there (remembered_own s trace true false deeds stands))
      where
        at : (o : Option Kept) → kept_of checked_crumb trace ≡ o → Stands true false trace deeds checked_crumb.horizon o
            → Stands false false trace (Refuses client number trace ∷ deeds) checked_crumb.horizon (found trace (with_kept refuses trace checked_crumb.traces))
        at None is stands = let never : true ≡ false = stands.0 in absurd cc
        at (Some k) is stands =
            subst (Stands false false trace (Refuses client number trace ∷ deeds) checked_crumb.horizon)
            (sym (found-with_same refuses trace checked_crumb.traces ∙ ap (option_map refuses) is))
            (with_deed (Refuses client number trace) false trace deeds checked_crumb.horizon k (refuses k) stands
            stands.latest
            (λ off. off)
            (crumb_in_order trace k is)
            (λ off. tt)
            (λ on. inl on)
            (λ never. let off : false ≡ true = never in absurd cc)
            (λ n is. is ∙ ap (λ m. min m most) (omega arith))
            (λ n is. is ∙ ap (λ m. min m most) (omega arith))
            (omega arith)
            (λ off. let never : true ≡ false = off in absurd cc)
            (λ node on. on)
            (λ node never. let off : false ≡ true = never in absurd cc))

    pub refuses_other : (other : TraceId) → same_trace other trace ≡ false → (kept_of s trace ≡ None → has_place s ≡ true) → Stands false false other deeds s.horizon (kept_of s other)
        → Stands false false other (Refuses client number trace ∷ deeds) (refused s client number trace).horizon (kept_of (refused s client number trace) other)
    refuses_other other apart place stands =
        subst (Stands false false other (Refuses client number trace ∷ deeds) checked_crumb.horizon) (sym (found-with_other refuses other trace apart checked_crumb.traces))
        (aside other (Refuses client number trace) deeds checked_crumb.horizon (kept_of checked_crumb other)
        (record {
          opens = refl;
          sends = λ ds. refl;
          hands_out = refl;
          heard_of = λ ds. tt;
          goes = refl;
          loses = apart;
          leads = λ node. refl;
          closed = λ at ds none. passed_at other client number at ds none;
        })
        (crumb_in_order other)
        (checked_stands kept_crumb client follows_on false false other deeds heard_there (remembered_other s other trace true deeds apart like.some like.few like.tracks place stands)))

  -- ---- crumbs outside of a segment led on

  module _ (trace : TraceId) (nodes : NodeSet) where
    abbrev led_next : Bool
    led_next = refuses_next (track_of s client) number

    abbrev kept_led : PlainNotes
    kept_led = remembered s trace false

    led_track : track_of kept_led client ≡ track_of s client
    led_track = ap (λ (ts : List Track). unwrap_or (slice_get ts client) no_notes) (alike_remembered s trace false).tracks

    abbrev checked_led : PlainNotes
    checked_led = checked kept_led client led_next

    heard_led : kept_led.heard ≡ segments deeds
    heard_led = (alike_remembered s trace false).heard ∙ like.heard

    -- where a segment of this trace is open it is the client's next note, unless one may have been missed
    led_in_order : (other : TraceId) (k : Kept) → kept_of checked_led other ≡ Some k → k.is_missed ≡ false → is_open other (track_after client deeds) ≡ true → refuses_next (track_after client deeds) number ≡ true
    led_in_order other k is off opened_there =
        let here : is_open other (track_of s client) ≡ true = ap (is_open other) track_is ∙ opened_there in
        ap (λ (track : Track). refuses_next track number) (sym track_is) ∙ is_next_there kept_led client other led_next (ap (is_open other) led_track ∙ here) k is off

    pub leads_own : Stands false false trace deeds s.horizon (kept_of s trace)
        → Stands false false trace (Leads client number trace nodes ∷ deeds) (led s client number trace nodes).horizon (kept_of (led s client number trace nodes) trace)
    leads_own stands =
        at (kept_of checked_led trace) refl
        (checked_stands kept_led client led_next true false trace deeds heard_led (remembered_own s trace false false deeds stands))
      where
        at : (o : Option Kept) → kept_of checked_led trace ≡ o → Stands true false trace deeds checked_led.horizon o
            → Stands false false trace (Leads client number trace nodes ∷ deeds) checked_led.horizon (found trace (with_kept (leads nodes) trace checked_led.traces))
        at None is stands = let never : true ≡ false = stands.0 in absurd cc
        at (Some k) is stands =
            subst (Stands false false trace (Leads client number trace nodes ∷ deeds) checked_led.horizon)
            (sym (found-with_same (leads nodes) trace checked_led.traces ∙ ap (option_map (leads nodes)) is))
            (with_deed (Leads client number trace nodes) false trace deeds checked_led.horizon k (leads nodes k) stands
            stands.latest
            (λ off. off)
            (led_in_order trace k is)
            (λ off. tt)
            (λ on. inl on)
            (λ never. let off : false ≡ true = never in absurd cc)
            (λ n is. is ∙ ap (λ m. min m most) (omega arith))
            (λ n is. is ∙ ap (λ m. min m most) (omega arith))
            (omega arith)
            (λ off. (off, refl))
            (either_left k.crumbs nodes)
            (λ node on. either_right k.crumbs nodes node (second_true (same_trace trace trace) (has_node nodes node) on)))

    pub leads_other : (other : TraceId) → same_trace other trace ≡ false → (kept_of s trace ≡ None → has_place s ≡ true) → Stands false false other deeds s.horizon (kept_of s other)
        → Stands false false other (Leads client number trace nodes ∷ deeds) (led s client number trace nodes).horizon (kept_of (led s client number trace nodes) other)
    leads_other other apart place stands =
        subst (Stands false false other (Leads client number trace nodes ∷ deeds) checked_led.horizon) (sym (found-with_other (leads nodes) other trace apart checked_led.traces))
        (aside other (Leads client number trace nodes) deeds checked_led.horizon (kept_of checked_led other)
        (record {
          opens = refl;
          sends = λ ds. refl;
          hands_out = refl;
          heard_of = λ ds. tt;
          goes = refl;
          loses = refl;
          leads = λ node. ap (λ b. b && has_node nodes node) apart;
          closed = λ at ds none. passed_at other client number at ds none;
        })
        (led_in_order other)
        (checked_stands kept_led client led_next false false other deeds heard_led (remembered_other s other trace false deeds apart like.some like.few like.tracks place stands)))

-- ---- what becomes of pages and crumbs

-- where a trace is not kept, what leaves of it leaves less to come
less_to_come : (trace : TraceId) (deed : NoteDeed) (deeds : List NoteDeed) → announces trace deed deeds ≡ 0 → ((client : ℕ) → is_open trace (track_after client (deed ∷ deeds)) ≡ is_open trace (track_after client deeds)) → IsOver trace deeds → IsOver trace (deed ∷ deeds)
less_to_come trace deed deeds none tracks over = record {
  settled = (let was = over.settled in omega (arith, none, was));
  closed = λ client. tracks client ∙ over.closed client;
}

less_left : (trace : TraceId) (loss : Loss) (count : ℕ) (k : Kept)
    → (loses loss count k).losses.evicted_pages + (loses loss count k).losses.abandoned_pages ≤ k.losses.evicted_pages + k.losses.abandoned_pages + lets_go trace (Loses trace loss count)
less_left trace loss count k =
    let own : lets_go trace (Loses trace loss count) ≡ pages_in loss count = ap (λ b. if b then pages_in loss count else 0) (same-refl trace) in
    at loss own
  where
    at : (l : Loss) → lets_go trace (Loses trace loss count) ≡ pages_in l count
        → (loses l count k).losses.evicted_pages + (loses l count k).losses.abandoned_pages ≤ k.losses.evicted_pages + k.losses.abandoned_pages + lets_go trace (Loses trace loss count)
    at EvictedPages own = omega (arith, own)
    at AbandonedPages own = omega (arith, own)
    at EvictedCrumbs own = omega (arith, own)
    at ForgottenCrumbs own = omega (arith, own)

pub loses_own : (s : PlainNotes) (deeds : List NoteDeed) (trace : TraceId) (loss : Loss) (count : ℕ) → Stands false false trace deeds s.horizon (kept_of s trace)
    → Stands false false trace (Loses trace loss count ∷ deeds) s.horizon (kept_of (after_lost s trace loss count) trace)
loses_own s deeds trace loss count stands = subst (Stands false false trace (Loses trace loss count ∷ deeds) s.horizon) (sym (found-with_same (loses loss count) trace s.traces)) (at (kept_of s trace) stands)
  where
    at : (o : Option Kept) → Stands false false trace deeds s.horizon o → Stands false false trace (Loses trace loss count ∷ deeds) s.horizon (option_map (loses loss count) o)
    at None stands = (stands.0, stands.1, less_to_come trace (Loses trace loss count) deeds refl (λ client. refl) stands.2)
    at (Some k) stands =
        with_deed (Loses trace loss count) false trace deeds s.horizon k (loses loss count k) stands
        stands.latest
        (λ off. off)
        (λ off. tt)
        (λ off. tt)
        (λ on. inl on)
        (λ never. let off : false ≡ true = never in absurd cc)
        (λ n is. is ∙ ap (λ m. min m most) (omega arith))
        (λ n is. is ∙ ap (λ m. min m most) (omega arith))
        (less_left trace loss count k)
        (λ off. (first_false k.is_lost (not (count == 0)) off, ap (λ b. b && not (count == 0)) (same-refl trace) ∙ second_false k.is_lost (not (count == 0)) off))
        (λ node on. on)
        (λ node never. let off : false ≡ true = never in absurd cc)

-- a client that is not there
no_track : (tracks : List Track) (client : ℕ) → length tracks ≤ client → unwrap_or (slice_get tracks client) no_notes ≡ no_notes
no_track [] zero few = refl
no_track [] (suc client) few = refl
no_track (track ∷ tracks) zero few = absurd (omega (arith, few))
no_track (track ∷ tracks) (suc client) few = no_track tracks client (omega (arith, few))

none_heard_of : (trace : TraceId) (page : PageName) → is_heard_of trace page no_notes ≡ false
none_heard_of trace page = at page.core page.page
  where
    at : (core number : ℕ) → is_heard_of trace (record { core = core; page = number }) no_notes ≡ false
    at core number = grind arith

out_of_range : (n m : ℕ) → nat_le n m ≡ true → n ≤ m
out_of_range n m is = grind (arith, is)

module _ (limits : NoteLimits) (deeds : List NoteDeed) (s : PlainNotes) (like : IsLike limits deeds s) (client : ℕ) (page : PageName) where
  -- whether the page is heard of, as the deeds tell
  heard_as : (trace : TraceId) → is_heard_of trace page (track_of s client) ≡ is_heard_of trace page (track_after client deeds)
  heard_as trace = ap (is_heard_of trace page) (like.tracks client)

  none_there : (trace : TraceId) → nat_le s.limits.clients client ≡ true → is_heard_of trace page (track_of s client) ≡ false
  none_there trace beyond =
      let far = out_of_range s.limits.clients client beyond in
      let clients = like.clients in
      ap (is_heard_of trace page) (no_track s.tracks client (omega (arith, far, clients))) ∙ none_heard_of trace page

  hands_as : (trace : TraceId) (h : Bool) → is_heard_of trace page (track_of s client) ≡ h → Stands false false trace deeds s.horizon (kept_of s trace)
      → Stands false false trace (HandsOut client page trace ∷ deeds) s.horizon (found trace (with_kept (goes_out h) trace s.traces))
  hands_as trace h hears stands = subst (Stands false false trace (HandsOut client page trace ∷ deeds) s.horizon) (sym (found-with_same (goes_out h) trace s.traces)) (at h hears (kept_of s trace) stands)
    where
      at : (b : Bool) → is_heard_of trace page (track_of s client) ≡ b → (o : Option Kept) → Stands false false trace deeds s.horizon o → Stands false false trace (HandsOut client page trace ∷ deeds) s.horizon (option_map (goes_out b) o)
      at b is None stands = (stands.0, stands.1, less_to_come trace (HandsOut client page trace) deeds refl (λ other. handed_open trace trace client other page deeds) stands.2)
      at b is (Some k) stands =
          with_deed (HandsOut client page trace) false trace deeds s.horizon k (goes_out b k) stands
          stands.latest
          (λ off. first_false k.is_missed (not b) off)
          (λ off. tt)
          (λ off same. sym (heard_as trace) ∙ is ∙ un_not b (second_false k.is_missed (not b) off))
          (λ on. inl on)
          (λ never. let off : false ≡ true = never in absurd cc)
          (λ n was. was ∙ ap (λ m. min m most) (omega arith))
          (λ n was. let own : hands_out trace (HandsOut client page trace) ≡ 1 = ap (λ b. if b then 1 else 0) (same-refl trace) in omega (arith, was, own))
          (omega arith)
          (λ off. (off, refl))
          (λ node on. on)
          (λ node never. let off : false ≡ true = never in absurd cc)

  pub hands_own : (trace : TraceId) → Stands false false trace deeds s.horizon (kept_of s trace)
      → Stands false false trace (HandsOut client page trace ∷ deeds) (after_handed_out s trace client page).horizon (kept_of (after_handed_out s trace client page) trace)
  hands_own trace stands = at (nat_le s.limits.clients client) refl
    where
      at : (b : Bool) → nat_le s.limits.clients client ≡ b
          → Stands false false trace (HandsOut client page trace ∷ deeds) (if b then changed (goes_out false) trace s else handed_in s trace client page).horizon (kept_of (if b then changed (goes_out false) trace s else handed_in s trace client page) trace)
      at true beyond = hands_as trace false (none_there trace beyond) stands
      at false within = hands_as trace (is_heard_of trace page (track_of s client)) refl stands

  pub hands_other : (trace other : TraceId) → same_trace trace other ≡ false → Stands false false trace deeds s.horizon (kept_of s trace)
      → Stands false false trace (HandsOut client page other ∷ deeds) (after_handed_out s other client page).horizon (kept_of (after_handed_out s other client page) trace)
  hands_other trace other apart stands = at (nat_le s.limits.clients client)
    where
      still : (f : Kept → Kept) → Stands false false trace (HandsOut client page other ∷ deeds) s.horizon (found trace (with_kept f other s.traces))
      still f = subst (Stands false false trace (HandsOut client page other ∷ deeds) s.horizon) (sym (found-with_other f trace other apart s.traces))
          (aside trace (HandsOut client page other) deeds s.horizon (kept_of s trace)
          (record {
            opens = refl;
            sends = λ ds. refl;
            hands_out = ap (λ b. if b then 1 else 0) apart;
            heard_of = λ ds same. let never : false ≡ true = sym apart ∙ same in absurd cc;
            goes = refl;
            loses = refl;
            leads = λ node. refl;
            closed = λ at ds none. handed_open other trace client at page ds ∙ none;
          })
          (λ k is off. tt) stands)

      at : (b : Bool) → Stands false false trace (HandsOut client page other ∷ deeds) (if b then changed (goes_out false) other s else handed_in s other client page).horizon (kept_of (if b then changed (goes_out false) other s else handed_in s other client page) trace)
      at true = still (goes_out false)
      at false = still (goes_out (is_heard_of other page (track_of s client)))

-- ---- a place is looked for

like_searched : (limits : NoteLimits) (deeds : List NoteDeed) (s : PlainNotes) (trace : TraceId) → IsLike limits deeds s → IsLike limits deeds (searched s trace)
like_searched limits deeds s trace like =
    let order = reordered_searched s trace in
    let cap : (searched s trace).limits.traces ≡ s.limits.traces = ap (λ (l : NoteLimits). l.traces) order.limits in
    let clients : (searched s trace).limits.clients ≡ s.limits.clients = ap (λ (l : NoteLimits). l.clients) order.limits in
    record {
      limits = order.limits ∙ like.limits;
      some = (let some = like.some in omega (arith, cap, some));
      few = (let few = like.few in let long = order.long in omega (arith, cap, few, long));
      clients = ap length order.tracks ∙ like.clients ∙ sym clients;
      heard = order.heard ∙ like.heard;
      tracks = λ client. ap (λ (ts : List Track). unwrap_or (slice_get ts client) no_notes) order.tracks ∙ like.tracks client;
    }

stands_searched : (trace other : TraceId) (deeds : List NoteDeed) (s : PlainNotes) → Stands false false trace deeds s.horizon (kept_of s trace) → Stands false false trace deeds (searched s other).horizon (kept_of (searched s other) trace)
stands_searched trace other deeds s stands =
    let order = reordered_searched s other in
    subst (λ n. Stands false false trace deeds n (kept_of (searched s other) trace)) (sym order.horizon) (subst (Stands false false trace deeds s.horizon) (sym (order.kept trace)) stands)

-- a trace that was not kept found a place
place_there : (s : PlainNotes) (trace : TraceId) → finds_place s trace ≡ true → kept_of (searched s trace) trace ≡ None → has_place (searched s trace) ≡ true
place_there s trace finds none = at (kept_of s trace) refl finds none
  where
    at : (o : Option Kept) → kept_of s trace ≡ o → (is_some o || has_place (looked MOST_LOOKS s)) ≡ true → kept_of (if is_some o then s else looked MOST_LOOKS s) trace ≡ None
        → has_place (if is_some o then s else looked MOST_LOOKS s) ≡ true
    at None is finds none = finds
    at (Some k) is finds none = let never : Some k ≡ None = sym is ∙ none in absurd cc

-- ---- any deed

reopened : (deed : NoteDeed) (trace other : TraceId) (deeds : List NoteDeed) (s : PlainNotes) → same_trace trace other ≡ true → Stands false false other (deed ∷ deeds) (after s deed).horizon (kept_of (after s deed) other)
    → Stands false false trace (deed ∷ deeds) (after s deed).horizon (kept_of (after s deed) trace)
reopened deed trace other deeds s same stands = subst (λ (x : TraceId). Stands false false x (deed ∷ deeds) (after s deed).horizon (kept_of (after s deed) x)) (sym (same-true trace other same)) stands

moved_to : (trace other : TraceId) (deeds : List NoteDeed) (s : PlainNotes) → same_trace trace other ≡ true → Stands false false trace deeds s.horizon (kept_of s trace) → Stands false false other deeds s.horizon (kept_of s other)
moved_to trace other deeds s same stands = subst (λ (x : TraceId). Stands false false x deeds s.horizon (kept_of s x)) (same-true trace other same) stands

pub any_deed : (limits : NoteLimits) (deeds : List NoteDeed) (s : PlainNotes) (like : IsLike limits deeds s) (deed : NoteDeed) (trace : TraceId) → IsOfClient s.limits.clients deed → HasPlace s deed → segments deeds + 1 ≤ most
    → Stands false false trace deeds s.horizon (kept_of s trace) → Stands false false trace (deed ∷ deeds) (after s deed).horizon (kept_of (after s deed) trace)
any_deed limits deeds s like (Opens client number other first) trace low place bound stands =
    let found_like = like_searched limits deeds s other like in
    let there : client < (searched s other).limits.clients = subst (λ (l : NoteLimits). client < l.clients) (sym (reordered_searched s other).limits) low in
    let found_stands = stands_searched trace other deeds s stands in
    by_answer (same_trace trace other)
    (λ y. reopened (Opens client number other first) trace other deeds s y (opens_own limits deeds (searched s other) found_like client number there other first bound (moved_to trace other deeds (searched s other) y found_stands)))
    (λ n. opens_other limits deeds (searched s other) found_like client number there other first trace n (place_there s other place) found_stands)
any_deed limits deeds s like (Closes client number other end report) trace low place bound stands =
    let found_like = like_searched limits deeds s other like in
    let there : client < (searched s other).limits.clients = subst (λ (l : NoteLimits). client < l.clients) (sym (reordered_searched s other).limits) low in
    let found_stands = stands_searched trace other deeds s stands in
    by_answer (same_trace trace other)
    (λ y. reopened (Closes client number other end report) trace other deeds s y (closes_own limits deeds (searched s other) found_like client number there other end report (moved_to trace other deeds (searched s other) y found_stands)))
    (λ n. closes_other limits deeds (searched s other) found_like client number there other end report trace n (place_there s other place) found_stands)
any_deed limits deeds s like (Refuses client number other) trace low place bound stands =
    let found_like = like_searched limits deeds s other like in
    let there : client < (searched s other).limits.clients = subst (λ (l : NoteLimits). client < l.clients) (sym (reordered_searched s other).limits) low in
    let found_stands = stands_searched trace other deeds s stands in
    by_answer (same_trace trace other)
    (λ y. reopened (Refuses client number other) trace other deeds s y (refuses_own limits deeds (searched s other) found_like client number there other (moved_to trace other deeds (searched s other) y found_stands)))
    (λ n. refuses_other limits deeds (searched s other) found_like client number there other trace n (place_there s other place) found_stands)
any_deed limits deeds s like (Leads client number other nodes) trace low place bound stands =
    let found_like = like_searched limits deeds s other like in
    let there : client < (searched s other).limits.clients = subst (λ (l : NoteLimits). client < l.clients) (sym (reordered_searched s other).limits) low in
    let found_stands = stands_searched trace other deeds s stands in
    by_answer (same_trace trace other)
    (λ y. reopened (Leads client number other nodes) trace other deeds s y (leads_own limits deeds (searched s other) found_like client number there other nodes (moved_to trace other deeds (searched s other) y found_stands)))
    (λ n. leads_other limits deeds (searched s other) found_like client number there other nodes trace n (place_there s other place) found_stands)
any_deed limits deeds s like (Loses other loss count) trace low place bound stands =
    by_answer (same_trace trace other)
    (λ y. reopened (Loses other loss count) trace other deeds s y (loses_own s deeds other loss count (moved_to trace other deeds s y stands)))
    (λ n. subst (Stands false false trace (Loses other loss count ∷ deeds) s.horizon) (sym (found-with_other (loses loss count) trace other n s.traces))
    (aside trace (Loses other loss count) deeds s.horizon (kept_of s trace)
    (record {
      opens = refl;
      sends = λ ds. refl;
      hands_out = refl;
      heard_of = λ ds. tt;
      goes = ap (λ b. if b then pages_in loss count else 0) n;
      loses = ap (λ b. b && not (count == 0)) n;
      leads = λ node. refl;
      closed = λ client ds none. none;
    })
    (λ k is off. tt) stands))
any_deed limits deeds s like (HandsOut client page other) trace low place bound stands =
    by_answer (same_trace trace other)
    (λ y. reopened (HandsOut client page other) trace other deeds s y (hands_own limits deeds s like client page other (moved_to trace other deeds s y stands)))
    (λ n. hands_other limits deeds s like client page trace other n stands)
any_deed limits deeds s like Misses trace low place bound stands =
    aside trace Misses deeds s.heard (kept_of s trace) (record { opens = refl; sends = λ ds. refl; hands_out = refl; heard_of = λ ds. tt; goes = refl; loses = refl; leads = λ node. refl; closed = λ client ds none. none }) (λ k is off. tt)
    (subst (λ n. Stands false false trace deeds n (kept_of s trace)) (sym like.heard) (presented false false trace deeds s.horizon (kept_of s trace) stands))
any_deed limits deeds s like (Drops other) trace low place bound stands =
    let there = searched s other in
    let found = like_searched limits deeds s other like in
    aside trace (Drops other) deeds there.heard (kept_of there trace)
    (record { opens = refl; sends = λ ds. refl; hands_out = refl; heard_of = λ ds. tt; goes = refl; loses = refl; leads = λ node. refl; closed = λ client ds none. none }) (λ k is off. tt)
    (subst (λ n. Stands false false trace deeds n (kept_of there trace)) (sym found.heard)
    (presented false false trace deeds there.horizon (kept_of there trace) (stands_searched trace other deeds s stands)))

-- ---- and the node after it

tracks_set : (tracks : List Track) (place client : ℕ) (track : Track) (b : Bool) → (place == client) ≡ b → place < length tracks
    → unwrap_or (slice_get (set tracks place track) client) no_notes ≡ (if b then track else unwrap_or (slice_get tracks client) no_notes)
tracks_set tracks place client track true is low =
    ap (λ n. unwrap_or (slice_get (set tracks place track) n) no_notes) (sym (eqb-true place client is)) ∙ unwrap_set tracks place track no_notes low
tracks_set tracks place client track false is low = unwrap_other tracks place client track no_notes (λ same. let on : (place == client) ≡ true = ap (λ n. place == n) (sym same) ∙ itself place in let never : true ≡ false = sym on ∙ is in absurd cc)
  where
    itself : (n : ℕ) → (n == n) ≡ true
    itself n = grind arith

length-set_any : (tracks : List Track) (place : ℕ) (track : Track) → length (set tracks place track) ≡ length tracks
length-set_any [] place track = refl
length-set_any (x ∷ tracks) zero track = refl
length-set_any (x ∷ tracks) (suc place) track = ap suc (length-set_any tracks place track)

-- a client's track is set to what a note makes of it
module _ (limits : NoteLimits) (deeds : List NoteDeed) (s : PlainNotes) (like : IsLike limits deeds s) (client : ℕ) (low : client < s.limits.clients) (trace : TraceId) (is_missed is_next : Bool) where
  abbrev readied : PlainNotes
  readied = checked (remembered s trace is_missed) client is_next

  like_set : (heard : ℕ) (change : Track → Track) (f : Kept → Kept) (deed : NoteDeed) → heard ≡ segments (deed ∷ deeds)
      → ((other : ℕ) → track_after other (deed ∷ deeds) ≡ (if client == other then change (track_after other deeds) else track_after other deeds))
      → IsLike limits (deed ∷ deeds) (record readied { heard = heard; tracks = set readied.tracks client (change (track_of readied client)); traces = with_kept f trace readied.traces })
  like_set heard change f deed counted tracked =
      let alike = alike_both s trace is_missed client is_next in
      let cap : readied.limits.traces ≡ s.limits.traces = ap (λ (l : NoteLimits). l.traces) alike.limits in
      let clients : readied.limits.clients ≡ s.limits.clients = ap (λ (l : NoteLimits). l.clients) alike.limits in
      let long : length readied.tracks ≡ s.limits.clients = ap length alike.tracks ∙ like.clients in
      record {
        limits = alike.limits ∙ like.limits;
        some = (let some = like.some in omega (arith, cap, some));
        few = (let few = alike.few like.few like.some in let same = length-with f trace readied.traces in omega (arith, cap, few, same));
        clients = length-set_any readied.tracks client (change (track_of readied client)) ∙ long ∙ sym clients;
        heard = counted;
        tracks = λ other.
            tracks_set readied.tracks client other (change (track_of readied client)) (client == other) refl (omega (arith, low, long))
            ∙ same_there other (client == other) refl
            ∙ sym (tracked other);
      }
    where
      there : (other : ℕ) → track_of readied other ≡ track_after other deeds
      there other = ap (λ (ts : List Track). unwrap_or (slice_get ts other) no_notes) (alike_both s trace is_missed client is_next).tracks ∙ like.tracks other

      same_there : (other : ℕ) (b : Bool) → (client == other) ≡ b → (if b then change (track_of readied client) else track_of readied other) ≡ (if b then change (track_after other deeds) else track_after other deeds)
      same_there other true here = ap (λ n. change (track_of readied n)) (eqb-true client other here) ∙ ap change (there other)
      same_there other false here = there other

like_opened : (limits : NoteLimits) (deeds : List NoteDeed) (s : PlainNotes) → IsLike limits deeds s → (client number : ℕ) (trace : TraceId) (first : PageName) → client < s.limits.clients → segments deeds + 1 ≤ most
    → IsLike limits (Opens client number trace first ∷ deeds) (opened s client number trace first)
like_opened limits deeds s like client number trace first low bound =
    let is_next = begins_next (track_of s client) number in
    let ready = checked (remembered s trace false) client is_next in
    like_set limits deeds s like client low trace false is_next (more ready.heard 1) (λ track. begun track number trace first) (begins (more ready.heard 1)) (Opens client number trace first)
    (let same : ready.heard ≡ segments deeds = (alike_both s trace false client is_next).heard ∙ like.heard in omega (arith, same, bound))
    (λ other. refl)

like_closed : (limits : NoteLimits) (deeds : List NoteDeed) (s : PlainNotes) → IsLike limits deeds s → (client number : ℕ) (trace : TraceId) (end : PageName) (report : SegmentReport) → client < s.limits.clients
    → IsLike limits (Closes client number trace end report ∷ deeds) (closed s client number trace end report)
like_closed limits deeds s like client number trace end report low =
    let is_next = ends_next (track_of s client) number trace end in
    let ready = checked (remembered s trace true) client is_next in
    like_set limits deeds s like client low trace true is_next ready.heard (λ track. ended track number trace end) (ends report (not is_next)) (Closes client number trace end report)
    (let same : ready.heard ≡ segments deeds = (alike_both s trace true client is_next).heard ∙ like.heard in omega (arith, same))
    (λ other. refl)

like_refused : (limits : NoteLimits) (deeds : List NoteDeed) (s : PlainNotes) → IsLike limits deeds s → (client number : ℕ) (trace : TraceId) → client < s.limits.clients
    → IsLike limits (Refuses client number trace ∷ deeds) (refused s client number trace)
like_refused limits deeds s like client number trace low =
    let is_next = refuses_next (track_of s client) number in
    let ready = checked (remembered s trace true) client is_next in
    like_set limits deeds s like client low trace true is_next ready.heard (λ track. passed track number) refuses (Refuses client number trace)
    (let same : ready.heard ≡ segments deeds = (alike_both s trace true client is_next).heard ∙ like.heard in omega (arith, same))
    (λ other. refl)

like_led : (limits : NoteLimits) (deeds : List NoteDeed) (s : PlainNotes) → IsLike limits deeds s → (client number : ℕ) (trace : TraceId) (nodes : NodeSet) → client < s.limits.clients
    → IsLike limits (Leads client number trace nodes ∷ deeds) (led s client number trace nodes)
like_led limits deeds s like client number trace nodes low =
    let is_next = refuses_next (track_of s client) number in
    let ready = checked (remembered s trace false) client is_next in
    like_set limits deeds s like client low trace false is_next ready.heard (λ track. passed track number) (leads nodes) (Leads client number trace nodes)
    (let same : ready.heard ≡ segments deeds = (alike_both s trace false client is_next).heard ∙ like.heard in omega (arith, same))
    (λ other. refl)

like_handed : (limits : NoteLimits) (deeds : List NoteDeed) (s : PlainNotes) → IsLike limits deeds s → (client : ℕ) (page : PageName) (trace : TraceId)
    → IsLike limits (HandsOut client page trace ∷ deeds) (after_handed_out s trace client page)
like_handed limits deeds s like client page trace = at (nat_le s.limits.clients client) refl
  where
    same_track : (other : ℕ) → track_of s other ≡ track_after other deeds
    same_track other = like.tracks other

    beyond_still : nat_le s.limits.clients client ≡ true → (other : ℕ) (b : Bool) → (client == other) ≡ b → track_of s other ≡ (if b then handed trace page (track_after other deeds) else track_after other deeds)
    beyond_still beyond other true here =
        let none = ap (λ n. is_heard_of trace page (track_of s n)) (sym (eqb-true client other here)) ∙ none_there limits deeds s like client page trace beyond in
        same_track other
        ∙ sym (ap (λ b. if b && not (is_before page (track_after other deeds).end) then record (track_after other deeds) { reached = Some (later_page (track_after other deeds).reached page) } else track_after other deeds)
        (ap (is_heard_of trace page) (sym (same_track other)) ∙ none))
    beyond_still beyond other false here = same_track other

    within_set : (other : ℕ) (b : Bool) → (client == other) ≡ b → (if b then handed trace page (track_of s client) else track_of s other) ≡ (if b then handed trace page (track_after other deeds) else track_after other deeds)
    within_set other true here = ap (λ n. handed trace page (track_of s n)) (eqb-true client other here) ∙ ap (handed trace page) (same_track other)
    within_set other false here = same_track other

    in_range : (n m : ℕ) → nat_le n m ≡ false → m < n
    in_range n m is = grind (arith, is)

    at : (b : Bool) → nat_le s.limits.clients client ≡ b → IsLike limits (HandsOut client page trace ∷ deeds) (if b then changed (goes_out false) trace s else handed_in s trace client page)
    at true beyond = record {
      limits = like.limits;
      some = like.some;
      few = (let few = like.few in let same = length-with (goes_out false) trace s.traces in omega (arith, few, same));
      clients = like.clients;
      heard = (let same = like.heard in omega (arith, same));
      tracks = λ other. beyond_still beyond other (client == other) refl;
    }
    at false within = record {
      limits = like.limits;
      some = like.some;
      few = (let few = like.few in let same = length-with (goes_out (is_heard_of trace page (track_of s client))) trace s.traces in omega (arith, few, same));
      clients = length-set_any s.tracks client (handed trace page (track_of s client)) ∙ like.clients;
      heard = (let same = like.heard in omega (arith, same));
      tracks = λ other.
          tracks_set s.tracks client other (handed trace page (track_of s client)) (client == other) refl (let low = in_range s.limits.clients client within in let clients = like.clients in omega (arith, low, clients))
          ∙ within_set other (client == other) refl;
    }

pub like_after : (limits : NoteLimits) (deeds : List NoteDeed) (s : PlainNotes) → IsLike limits deeds s → (deed : NoteDeed) → IsOfClient s.limits.clients deed → segments deeds + 1 ≤ most → IsLike limits (deed ∷ deeds) (after s deed)
like_after limits deeds s like (Opens client number trace first) low bound =
    like_opened limits deeds (searched s trace) (like_searched limits deeds s trace like) client number trace first
    (subst (λ (l : NoteLimits). client < l.clients) (sym (reordered_searched s trace).limits) low) bound
like_after limits deeds s like (Closes client number trace end report) low bound =
    like_closed limits deeds (searched s trace) (like_searched limits deeds s trace like) client number trace end report
    (subst (λ (l : NoteLimits). client < l.clients) (sym (reordered_searched s trace).limits) low)
like_after limits deeds s like (Refuses client number trace) low bound =
    like_refused limits deeds (searched s trace) (like_searched limits deeds s trace like) client number trace
    (subst (λ (l : NoteLimits). client < l.clients) (sym (reordered_searched s trace).limits) low)
like_after limits deeds s like (Leads client number trace nodes) low bound =
    like_led limits deeds (searched s trace) (like_searched limits deeds s trace like) client number trace nodes
    (subst (λ (l : NoteLimits). client < l.clients) (sym (reordered_searched s trace).limits) low)
like_after limits deeds s like (Drops trace) low bound =
    let found = like_searched limits deeds s trace like in
    record { limits = found.limits; some = found.some; few = found.few; clients = found.clients; heard = (let same = found.heard in omega (arith, same)); tracks = found.tracks }
like_after limits deeds s like (Loses trace loss count) low bound = record {
  limits = like.limits;
  some = like.some;
  few = (let few = like.few in let same = length-with (loses loss count) trace s.traces in omega (arith, few, same));
  clients = like.clients;
  heard = (let same = like.heard in omega (arith, same));
  tracks = like.tracks;
}
like_after limits deeds s like (HandsOut client page trace) low bound = like_handed limits deeds s like client page trace
like_after limits deeds s like Misses low bound = record {
  limits = like.limits;
  some = like.some;
  few = like.few;
  clients = like.clients;
  heard = (let same = like.heard in omega (arith, same));
  tracks = like.tracks;
}
