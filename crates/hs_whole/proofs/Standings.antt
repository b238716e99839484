-- What a node keeps of one trace, against what it heard: a later part of the deeds is counted in what is kept, and no segment before
-- that part is behind the horizon.
use Rattle.std.proofs.Common.{◌≡◌, ◌⊎◌, inl, inr, ℕ, ◌+◌, ◌-◌, ◌<◌, ◌≤◌, ◌^◌, min, max, Bool, true, false, ◌||◌, ◌&&◌, List, [], ◌∷◌, ◌++◌, Option, Some, None, option_map, refl, sym, ap, subst, arith, ◌∙◌}
use Rattle.std.specs.Prelude.{if◌then◌else◌, nat_lt, nat_le}
use Rattle.hs_base.proofs.Bools.{first_true, second_true}
use Rattle.hs_base.specs.declared.ids.TraceId.{TraceId}
use Rattle.hs_whole.specs.declared.kept.Kept.{Kept}
use Rattle.hs_whole.specs.Kept.{fresh, misses, is_settled}
use Rattle.hs_whole.specs.History.{NoteDeed, Opens, Closes, Refuses, Leads, Loses, HandsOut, Misses, Drops, opens, opens_of, segments, latest_of, has_segment, sends, sent_of, announces, announced_of, hands_out, handed_out_of, lets_go, let_go_of, track_after, leads_to, has_led_to, AreLed, loses_some, is_lost_in, IsInOrder, AreInOrder, IsHeardOf, AreHeardOf, IsOver}
use Rattle.hs_whole.specs.Tracks.{is_open, ends_next}
use Rattle.hs_base.specs.NodeSets.{has_node}
use Rattle.hs_base.specs.Ids.{same_trace}
use Rattle.hs_whole.specs.declared.answers.SegmentReport.{SegmentReport}
use Rattle.hs_whole.specs.declared.page.PageName.{PageName}

abbrev pub most : ℕ
most = 2 ^ 64 - 1

-- the pages that segments announced in a later part
abbrev pub announced_in : TraceId → List NoteDeed → List NoteDeed → ℕ
announced_in trace [] earlier = 0
announced_in trace (deed ∷ later) earlier = announced_in trace later earlier + announces trace deed (later ++ earlier)

-- `pending`: a segment is about to begin
pub record IsKept (pending : Bool) (trace : TraceId) (deeds : List NoteDeed) (horizon : ℕ) (k : Kept) : Type 0 where
  pub later : List NoteDeed
  pub earlier : List NoteDeed
  pub parts : deeds ≡ later ++ earlier
  pub before : latest_of trace earlier ≤ horizon
  pub over : IsOver trace earlier
  pub latest : latest_of trace deeds ≤ max horizon k.latest
  pub heard : k.is_missed ≡ false → k.is_heard ≡ true → (pending || has_segment trace later) ≡ true
  pub in_order : k.is_missed ≡ false → AreInOrder trace later earlier
  pub heard_of : k.is_missed ≡ false → AreHeardOf trace later earlier
  pub sent : k.sent ≡ min (announced_in trace later earlier) most
  pub out : k.handed_out ≡ min (handed_out_of trace later) most
  pub gone : k.losses.evicted_pages + k.losses.abandoned_pages ≤ let_go_of trace later
  pub lost : k.is_lost ≡ false → is_lost_in trace later ≡ false
  pub led : AreLed k.crumbs trace later

-- `there`: the trace is kept
abbrev pub Stands : Bool → Bool → TraceId → List NoteDeed → ℕ → Option Kept → Type 0
Stands there pending trace deeds horizon None = (there ≡ false) × (latest_of trace deeds ≤ horizon) × IsOver trace deeds
Stands there pending trace deeds horizon (Some k) = IsKept pending trace deeds horizon k

-- ---- numbers of segments

pub latest_within : (trace : TraceId) (deeds : List NoteDeed) → latest_of trace deeds ≤ segments deeds
latest_within trace [] = omega arith
latest_within trace (deed ∷ deeds) = at (opens_of trace deed) (latest_within trace deeds)
  where
    at : (b : Bool) → latest_of trace deeds ≤ segments deeds → (if b then segments deeds + opens deed else latest_of trace deeds) ≤ segments deeds + opens deed
    at true rest = omega arith
    at false rest = omega (arith, rest)

pub segments_behind : (later earlier : List NoteDeed) → segments earlier ≤ segments (later ++ earlier)
segments_behind [] earlier = omega arith
segments_behind (deed ∷ later) earlier = let rest = segments_behind later earlier in omega (arith, rest)

-- ---- what changes no deed

module _ (there pending : Bool) (trace : TraceId) (deeds : List NoteDeed) where
  -- the horizon moves on
  pub raised : (horizon horizon' : ℕ) (o : Option Kept) → horizon ≤ horizon' → Stands there pending trace deeds horizon o → Stands there pending trace deeds horizon' o
  raised horizon horizon' None up stands = (stands.0, (let low = stands.1 in omega (arith, low, up)), stands.2)
  raised horizon horizon' (Some k) up stands = record {
    later = stands.later;
    earlier = stands.earlier;
    parts = stands.parts;
    before = (let low = stands.before in omega (arith, low, up));
    over = stands.over;
    latest = (let low = stands.latest in omega (arith, low, up));
    heard = stands.heard;
    in_order = stands.in_order;
    heard_of = stands.heard_of;
    sent = stands.sent;
    out = stands.out;
    gone = stands.gone;
    lost = stands.lost;
    led = stands.led;
  }

  -- it moves to the present count
  pub presented : (horizon : ℕ) (o : Option Kept) → Stands there pending trace deeds horizon o → Stands there pending trace deeds (segments deeds) o
  presented horizon None stands = (stands.0, latest_within trace deeds, stands.2)
  presented horizon (Some k) stands = record {
    later = stands.later;
    earlier = stands.earlier;
    parts = stands.parts;
    before = (
        let one = latest_within trace stands.earlier in
        let two = segments_behind stands.later stands.earlier in
        let same : segments deeds ≡ segments (stands.later ++ stands.earlier) = ap segments stands.parts in
        omega (arith, one, two, same)
        );
    over = stands.over;
    latest = (let one = latest_within trace deeds in omega (arith, one));
    heard = stands.heard;
    in_order = stands.in_order;
    heard_of = stands.heard_of;
    sent = stands.sent;
    out = stands.out;
    gone = stands.gone;
    lost = stands.lost;
    led = stands.led;
  }

  -- a note may have been missed
  pub doubts : (horizon : ℕ) (o : Option Kept) → Stands there pending trace deeds horizon o → Stands there pending trace deeds horizon (option_map misses o)
  doubts horizon None stands = stands
  doubts horizon (Some k) stands = record {
    later = stands.later;
    earlier = stands.earlier;
    parts = stands.parts;
    before = stands.before;
    over = stands.over;
    latest = stands.latest;
    heard = λ off on. let never : true ≡ false = off in absurd cc;
    in_order = λ off. let never : true ≡ false = off in absurd cc;
    heard_of = λ off. let never : true ≡ false = off in absurd cc;
    sent = stands.sent;
    out = stands.out;
    gone = stands.gone;
    lost = stands.lost;
    led = stands.led;
  }

-- a trace that is not kept is kept from now on
pub freshly : (pending is_missed : Bool) (trace : TraceId) (deeds : List NoteDeed) (horizon heard : ℕ) → latest_of trace deeds ≤ horizon → IsOver trace deeds
    → IsKept pending trace deeds horizon (fresh heard is_missed)
freshly pending is_missed trace deeds horizon heard low over = record {
  later = [];
  earlier = deeds;
  parts = refl;
  before = low;
  over = over;
  latest = omega (arith, low);
  heard = λ off on. let never : false ≡ true = on in absurd cc;
  in_order = λ off. tt;
  heard_of = λ off. tt;
  sent = refl;
  out = refl;
  gone = omega arith;
  lost = λ off. refl;
  led = λ node on. let never : false ≡ true = on in absurd cc;
}

-- a trace that is kept has a segment that begins
pub kept_pending : (pending : Bool) (trace : TraceId) (deeds : List NoteDeed) (horizon : ℕ) (k : Kept) → IsKept false trace deeds horizon k → IsKept pending trace deeds horizon k
kept_pending false trace deeds horizon k stands = stands
kept_pending true trace deeds horizon k stands = record {
  later = stands.later;
  earlier = stands.earlier;
  parts = stands.parts;
  before = stands.before;
  over = stands.over;
  latest = stands.latest;
  heard = λ off on. refl;
  in_order = stands.in_order;
  heard_of = stands.heard_of;
  sent = stands.sent;
  out = stands.out;
  gone = stands.gone;
  lost = stands.lost;
  led = stands.led;
}

-- ---- a deed

or_swaps : (a b : Bool) → b ≡ true → (a || b) ≡ true
or_swaps true b is = refl
or_swaps false b is = is

pub with_deed : (deed : NoteDeed) (pending : Bool) (trace : TraceId) (deeds : List NoteDeed) (horizon : ℕ) (k k' : Kept) → IsKept pending trace deeds horizon k
    → latest_of trace (deed ∷ deeds) ≤ max horizon k'.latest
    → (k'.is_missed ≡ false → k.is_missed ≡ false)
    → (k'.is_missed ≡ false → IsInOrder trace deed deeds)
    → (k'.is_missed ≡ false → IsHeardOf trace deed deeds)
    → (k'.is_heard ≡ true → (k.is_heard ≡ true) ⊎ (opens_of trace deed ≡ true))
    → (pending ≡ true → opens_of trace deed ≡ true)
    → ((n : ℕ) → k.sent ≡ min n most → k'.sent ≡ min (n + announces trace deed deeds) most)
    → ((n : ℕ) → k.handed_out ≡ min n most → k'.handed_out ≡ min (n + hands_out trace deed) most)
    → k'.losses.evicted_pages + k'.losses.abandoned_pages ≤ k.losses.evicted_pages + k.losses.abandoned_pages + lets_go trace deed
    → (k'.is_lost ≡ false → (k.is_lost ≡ false) × (loses_some trace deed ≡ false))
    → ((node : ℕ) → has_node k.crumbs node ≡ true → has_node k'.crumbs node ≡ true)
    → ((node : ℕ) → leads_to trace node deed ≡ true → has_node k'.crumbs node ≡ true)
    → IsKept false trace (deed ∷ deeds) horizon k'
with_deed deed pending trace deeds horizon k k' stands latest still order hearing marks begins sent out gone lost crumbs led = record {
  later = deed ∷ stands.later;
  earlier = stands.earlier;
  parts = ap (λ (ds : List NoteDeed). deed ∷ ds) stands.parts;
  before = stands.before;
  over = stands.over;
  latest = latest;
  heard = λ off on. hears pending begins (marks on) (stands.heard (still off));
  in_order = λ off. (subst (IsInOrder trace deed) stands.parts (order off), stands.in_order (still off));
  heard_of = λ off. (subst (IsHeardOf trace deed) stands.parts (hearing off), stands.heard_of (still off));
  sent =
      subst (λ (ds : List NoteDeed). k'.sent ≡ min (announced_in trace stands.later stands.earlier + announces trace deed ds) most) stands.parts
      (sent (announced_in trace stands.later stands.earlier) stands.sent);
  out = out (handed_out_of trace stands.later) stands.out;
  gone = (let was = stands.gone in omega (arith, was, gone));
  lost = λ off. ap (λ b. b || loses_some trace deed) (stands.lost (lost off).0) ∙ (lost off).1;
  led = λ node on. leads (leads_to trace node deed) (has_led_to trace node stands.later) (has_node k'.crumbs node ≡ true) on (led node) (λ later. crumbs node (stands.led node later));
}
  where
    hears : (p : Bool) → (p ≡ true → opens_of trace deed ≡ true) → (k.is_heard ≡ true) ⊎ (opens_of trace deed ≡ true) → (k.is_heard ≡ true → (p || has_segment trace stands.later) ≡ true)
        → (opens_of trace deed || has_segment trace stands.later) ≡ true
    hears true begins marks is = ap (λ b. b || has_segment trace stands.later) (begins refl)
    hears false begins (inl was) is = or_swaps (opens_of trace deed) (has_segment trace stands.later) (is was)
    hears false begins (inr opens) is = ap (λ b. b || has_segment trace stands.later) opens

    leads : (a b : Bool) (P : Type 0) → (a || b) ≡ true → (a ≡ true → P) → (b ≡ true → P) → P
    leads true b P on one two = one refl
    leads false b P on one two = two on

-- a deed that counts nothing for the trace
pub record IsAside (trace : TraceId) (deed : NoteDeed) : Type 0 where
  pub opens : opens_of trace deed ≡ false
  pub sends : (deeds : List NoteDeed) → announces trace deed deeds ≡ 0
  pub hands_out : hands_out trace deed ≡ 0
  pub heard_of : (deeds : List NoteDeed) → IsHeardOf trace deed deeds
  pub goes : lets_go trace deed ≡ 0
  pub loses : loses_some trace deed ≡ false
  pub leads : (node : ℕ) → leads_to trace node deed ≡ false
  pub closed : (client : ℕ) (deeds : List NoteDeed) → is_open trace (track_after client deeds) ≡ false → is_open trace (track_after client (deed ∷ deeds)) ≡ false

latest_aside : (trace : TraceId) (deed : NoteDeed) (deeds : List NoteDeed) → IsAside trace deed → latest_of trace (deed ∷ deeds) ≡ latest_of trace deeds
latest_aside trace deed deeds aside = ap (λ b. if b then segments deeds + opens deed else latest_of trace deeds) aside.opens

pub aside : (trace : TraceId) (deed : NoteDeed) (deeds : List NoteDeed) (horizon : ℕ) (o : Option Kept) → IsAside trace deed → ((k : Kept) → o ≡ Some k → k.is_missed ≡ false → IsInOrder trace deed deeds)
    → Stands false false trace deeds horizon o → Stands false false trace (deed ∷ deeds) horizon o
aside trace deed deeds horizon None beside order stands = (
  stands.0,
  (let same = latest_aside trace deed deeds beside in let low = stands.1 in omega (arith, same, low)),
  record {
    settled = (let was = stands.2.settled in let none = beside.sends deeds in let out = beside.hands_out in let gone = beside.goes in omega (arith, was, none, out, gone));
    closed = λ client. beside.closed client deeds (stands.2.closed client);
  },
)
aside trace deed deeds horizon (Some k) beside order stands =
    with_deed deed false trace deeds horizon k k stands
    (let same = latest_aside trace deed deeds beside in let low = stands.latest in omega (arith, same, low))
    (λ off. off)
    (order k refl)
    (λ off. beside.heard_of deeds)
    (λ on. inl on)
    (λ never. let off : false ≡ true = never in absurd cc)
    (λ n is. is ∙ ap (λ m. min m most) (let zero = beside.sends deeds in omega (arith, zero)))
    (λ n is. is ∙ ap (λ m. min m most) (let zero = beside.hands_out in omega (arith, zero)))
    (let none = beside.goes in omega (arith, none))
    (λ off. (off, beside.loses))
    (λ node on. on)
    (λ node on. let never : true ≡ false = sym on ∙ beside.leads node in absurd cc)

-- ---- a trace of which nothing is to come

announced_both : (trace : TraceId) (later earlier : List NoteDeed) → announced_of trace (later ++ earlier) ≡ announced_in trace later earlier + announced_of trace earlier
announced_both trace [] earlier = omega arith
announced_both trace (deed ∷ later) earlier = let rest = announced_both trace later earlier in omega (arith, rest)

out_both : (trace : TraceId) (later earlier : List NoteDeed) → handed_out_of trace (later ++ earlier) ≡ handed_out_of trace later + handed_out_of trace earlier
out_both trace [] earlier = omega arith
out_both trace (deed ∷ later) earlier = let rest = out_both trace later earlier in omega (arith, rest)

gone_both : (trace : TraceId) (later earlier : List NoteDeed) → let_go_of trace (later ++ earlier) ≡ let_go_of trace later + let_go_of trace earlier
gone_both trace [] earlier = omega arith
gone_both trace (deed ∷ later) earlier = let rest = gone_both trace later earlier in omega (arith, rest)

settled_facts : (k : Kept) → is_settled k ≡ true → (k.sent < most) × (k.sent ≤ k.handed_out + k.losses.evicted_pages + k.losses.abandoned_pages)
settled_facts k is =
    let one = first_true (nat_lt k.sent (2 ^ 64 - 1)) (nat_le k.sent (k.handed_out + k.losses.evicted_pages + k.losses.abandoned_pages)) is in
    let two = second_true (nat_lt k.sent (2 ^ 64 - 1)) (nat_le k.sent (k.handed_out + k.losses.evicted_pages + k.losses.abandoned_pages)) is in
    (grind (arith, one), grind (arith, two))

pub over_now : (trace : TraceId) (deeds : List NoteDeed) (horizon : ℕ) (k : Kept) → IsKept false trace deeds horizon k → is_settled k ≡ true → ((client : ℕ) → is_open trace (track_after client deeds) ≡ false) → IsOver trace deeds
over_now trace deeds horizon k stands settled closed = record {
  settled =
      subst (λ (ds : List NoteDeed). announced_of trace ds ≤ handed_out_of trace ds + let_go_of trace ds) (sym stands.parts)
      (
      let facts = settled_facts k settled in
      let few = facts.0 in
      let left = facts.1 in
      let announced = announced_both trace stands.later stands.earlier in
      let out = out_both trace stands.later stands.earlier in
      let gone = gone_both trace stands.later stands.earlier in
      let sent = stands.sent in
      let handed = stands.out in
      let lost = stands.gone in
      let before = stands.over.settled in
      omega (arith, few, left, announced, out, gone, sent, handed, lost, before)
      );
  closed = closed;
}

-- where each end was its client's next note, all that was sent was announced
pub all_announced : (trace : TraceId) (later earlier : List NoteDeed) → AreInOrder trace later earlier → announced_in trace later earlier ≡ sent_of trace later
all_announced trace [] earlier order = refl
all_announced trace (deed ∷ later) earlier order =
    let rest = all_announced trace later earlier order.1 in
    let one = by_deed deed order.0 in
    omega (arith, rest, one)
  where
    or_right : (a b : Bool) → b ≡ true → (a || b) ≡ true
    or_right true b on = refl
    or_right false b on = on

    ended : (client number : ℕ) (other : TraceId) (end : PageName) (report : SegmentReport) (b : Bool) → same_trace trace other ≡ b
        → ((is_open trace (track_after client (later ++ earlier)) || same_trace trace other) ≡ true → ends_next (track_after client (later ++ earlier)) number other end ≡ true)
        → (if b && ends_next (track_after client (later ++ earlier)) number other end then report.pages else 0) ≡ (if b then report.pages else 0)
    ended client number other end report true same order =
        ap (λ b. if b then report.pages else 0) (order (or_right (is_open trace (track_after client (later ++ earlier))) (same_trace trace other) same))
    ended client number other end report false same order = refl

    by_deed : (d : NoteDeed) → IsInOrder trace d (later ++ earlier) → announces trace d (later ++ earlier) ≡ sends trace d
    by_deed (Opens client number other first) order = refl
    by_deed (Closes client number other end report) order = ended client number other end report (same_trace trace other) refl order
    by_deed (Refuses client number other) order = refl
    by_deed (Leads client number other nodes) order = refl
    by_deed (Loses other loss count) order = refl
    by_deed (HandsOut client page other) order = refl
    by_deed Misses order = refl
    by_deed (Drops other) order = refl
