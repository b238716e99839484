-- Over any deeds, what is said to be whole is so.
use Rattle.std.proofs.Common.{◌≡◌, inl, ℕ, zero, suc, ◌+◌, ◌<◌, ◌≤◌, ◌^◌, eqb-true, Bool, true, false, not, ◌||◌, List, [], ◌∷◌, ◌++◌, length, slice_get, unwrap_or, replicate, Option, Some, None, refl, sym, ap, subst, arith, ◌∙◌}
use Rattle.std.specs.Prelude.{nat_lt, ◌==◌, if◌then◌else◌}
use Rattle.std.specs.Option.{option_map_or}
use Rattle.hs_base.specs.declared.ids.TraceId.{TraceId}
use Rattle.hs_wire.specs.declared.message.Wholeness.TheVariants.{WholeSince, Lost, UnheardSince, Unknown, Open}
use Rattle.hs_whole.specs.declared.answers.NoteLimits.{NoteLimits}
use Rattle.hs_whole.specs.declared.kept.Kept.{Kept}
use Rattle.hs_whole.specs.Tracks.{no_notes, is_open}
use Rattle.hs_whole.specs.Kept.{wholeness}
use Rattle.hs_whole.specs.Notes.{AreOut, no_notes_in, kept_of, open_segments, wholeness_of, crumbs_of}
use Rattle.hs_whole.specs.History.{NoteDeed, Opens, Closes, Refuses, Leads, Loses, HandsOut, Misses, Drops, IsOfClient, AreOfClients, HavePlaces, notes_after, opens, segments, hands_out, handed_out_of, AreLed, IsWholeSince}
use Rattle.hs_base.specs.declared.node_set.NodeSet.{NodeSet}
use Rattle.hs_base.specs.NodeSets.{no_nodes}
use Rattle.hs_whole.proofs.Standings.{most, IsKept, Stands, all_announced}
use Rattle.hs_whole.proofs.Ends.{end_behind}
use Rattle.hs_whole.proofs.Steps.{IsLike, none_open_at, any_deed, like_after}

-- ---- counts of deeds

opens_one : (deed : NoteDeed) → opens deed ≤ 1
opens_one (Opens client number trace first) = omega arith
opens_one (Closes client number trace end report) = omega arith
opens_one (Refuses client number trace) = omega arith
opens_one (Leads client number trace nodes) = omega arith
opens_one (Loses trace loss count) = omega arith
opens_one (HandsOut client page trace) = omega arith
opens_one Misses = omega arith
opens_one (Drops trace) = omega arith

segments_few : (deeds : List NoteDeed) → segments deeds ≤ length deeds
segments_few [] = omega arith
segments_few (deed ∷ deeds) = let one = opens_one deed in let rest = segments_few deeds in omega (arith, one, rest)

if_one : (b : Bool) → (if b then 1 else 0) ≤ 1
if_one true = omega arith
if_one false = omega arith

hands_one : (trace : TraceId) (deed : NoteDeed) → hands_out trace deed ≤ 1
hands_one trace (Opens client number other first) = omega arith
hands_one trace (Closes client number other end report) = omega arith
hands_one trace (Refuses client number other) = omega arith
hands_one trace (Leads client number other nodes) = omega arith
hands_one trace (Loses other loss count) = omega arith
hands_one trace (HandsOut client page other) = if_one _
hands_one trace Misses = omega arith
hands_one trace (Drops other) = omega arith

handed_few : (trace : TraceId) (deeds : List NoteDeed) → handed_out_of trace deeds ≤ length deeds
handed_few trace [] = omega arith
handed_few trace (deed ∷ deeds) = let one = hands_one trace deed in let rest = handed_few trace deeds in omega (arith, one, rest)

part_few : (later earlier : List NoteDeed) → length later ≤ length (later ++ earlier)
part_few [] earlier = omega arith
part_few (deed ∷ later) earlier = let rest = part_few later earlier in omega (arith, rest)

-- ---- at first

replicate_long : (n : ℕ) → length (replicate n no_notes) ≡ n
replicate_long zero = refl
replicate_long (suc n) = ap suc (replicate_long n)

none_at_first : (n place : ℕ) → unwrap_or (slice_get (replicate n no_notes) place) no_notes ≡ no_notes
none_at_first zero zero = refl
none_at_first zero (suc place) = refl
none_at_first (suc n) zero = refl
none_at_first (suc n) (suc place) = none_at_first n place

some_traces : (n : ℕ) → (n ≡ 0 → ⊥) → 0 < n
some_traces zero not_none = absurd (not_none refl)
some_traces (suc n) not_none = omega arith

like_first : (limits : NoteLimits) → (AreOut limits → ⊥) → IsLike limits [] (no_notes_in limits)
like_first limits in_range = record {
  limits = refl;
  some = some_traces limits.traces (λ none. in_range (inl none));
  few = omega arith;
  clients = replicate_long limits.clients;
  heard = refl;
  tracks = λ client. none_at_first limits.clients client;
}

-- ---- and after any deeds

record AllHold (limits : NoteLimits) (trace : TraceId) (deeds : List NoteDeed) : Type 0 where
  like : IsLike limits deeds (notes_after limits deeds)
  stands : Stands false false trace deeds (notes_after limits deeds).horizon (kept_of (notes_after limits deeds) trace)

all_hold : (limits : NoteLimits) (trace : TraceId) → (AreOut limits → ⊥) → (deeds : List NoteDeed) → AreOfClients limits.clients deeds → HavePlaces limits deeds → length deeds < 2 ^ 63 → AllHold limits trace deeds
all_hold limits trace in_range [] of places bound = record { like = like_first limits in_range; stands = (refl, omega arith, record { settled = omega arith; closed = λ client. refl }) }
all_hold limits trace in_range (deed ∷ deeds) of places bound =
    let rest = all_hold limits trace in_range deeds of.1 places.1 (omega (arith, bound)) in
    let few = segments_few deeds in
    let low : segments deeds + 1 ≤ most = omega (arith, few, bound) in
    let there : IsOfClient (notes_after limits deeds).limits.clients deed = subst (λ (l : NoteLimits). IsOfClient l.clients deed) (sym rest.like.limits) of.0 in
    record {
      like = like_after limits deeds (notes_after limits deeds) rest.like deed there low;
      stands = any_deed limits deeds (notes_after limits deeds) rest.like deed trace there places.0 low rest.stands;
    }

-- ---- what is said to be whole

record SaysWhole (count : ℕ) (k : Kept) : Type 0 where
  none_open : nat_lt 0 count ≡ false
  not_lost : k.is_lost ≡ false
  not_missed : k.is_missed ≡ false
  heard : k.is_heard ≡ true
  all_out : (k.sent == k.handed_out) ≡ true

whole_facts : (a b c d e : Bool) → (if a then Open else (if b then Lost else (if (c || not d) then Unknown else (if e then WholeSince else UnheardSince)))) ≡ WholeSince → (a ≡ false) × (b ≡ false) × (c ≡ false) × (d ≡ true) × (e ≡ true)
whole_facts true b c d e is = absurd cc
whole_facts false true c d e is = absurd cc
whole_facts false false true d e is = absurd cc
whole_facts false false false true true is = (refl, refl, refl, refl, refl)
whole_facts false false false true false is = absurd cc
whole_facts false false false false e is = absurd cc

says_whole : (count : ℕ) (k : Kept) → wholeness count k ≡ WholeSince → SaysWhole count k
says_whole count k is =
    let facts = whole_facts (nat_lt 0 count) k.is_lost k.is_missed (k.sent == k.handed_out) k.is_heard is in
    record { none_open = facts.0; not_lost = facts.1; not_missed = facts.2; all_out = facts.3; heard = facts.4 }

none_below : (n : ℕ) → nat_lt 0 n ≡ false → n ≡ 0
none_below n off = grind (arith, off)

heard_all : (limits : NoteLimits) (trace : TraceId) (deeds : List NoteDeed) (k : Kept) → length deeds < 2 ^ 63 → IsLike limits deeds (notes_after limits deeds)
    → IsKept false trace deeds (notes_after limits deeds).horizon k → SaysWhole (open_segments (notes_after limits deeds) trace) k → IsWholeSince (notes_after limits deeds).horizon limits.clients trace deeds
heard_all limits trace deeds k bound like stands says = record {
  later = stands.later;
  earlier = stands.earlier;
  parts = stands.parts;
  horizon_holds = stands.before;
  over = stands.over;
  heard = stands.heard says.not_missed says.heard;
  in_order = stands.in_order says.not_missed;
  closed = λ client low.
      ap (is_open trace) (sym (like.tracks client))
      ∙ none_open_at trace (notes_after limits deeds).tracks client (none_below (open_segments (notes_after limits deeds) trace) says.none_open);
  heard_of = stands.heard_of says.not_missed;
  before_ends = end_behind trace stands.later stands.earlier stands.over.closed (stands.in_order says.not_missed) (stands.heard_of says.not_missed);
  handed_out = (
      let few = handed_few trace stands.later in
      let part = part_few stands.later stands.earlier in
      let same : length deeds ≡ length (stands.later ++ stands.earlier) = ap length stands.parts in
      let equal = eqb-true k.sent k.handed_out says.all_out in
      let sent = stands.sent in
      let all = all_announced trace stands.later stands.earlier (stands.in_order says.not_missed) in
      let out = stands.out in
      omega (arith, few, part, same, equal, sent, all, out, bound)
      );
  nothing_lost = stands.lost says.not_lost;
}

pub said_whole : (limits : NoteLimits) (trace : TraceId) (deeds : List NoteDeed) → (AreOut limits → ⊥) → AreOfClients limits.clients deeds → HavePlaces limits deeds → length deeds < 2 ^ 63
    → wholeness_of (notes_after limits deeds) trace ≡ WholeSince → IsWholeSince (notes_after limits deeds).horizon limits.clients trace deeds
said_whole limits trace deeds in_range of places bound =
    let all = all_hold limits trace in_range deeds of places bound in
    at (kept_of (notes_after limits deeds) trace) all.like all.stands
  where
    at : (o : Option Kept) → IsLike limits deeds (notes_after limits deeds) → Stands false false trace deeds (notes_after limits deeds).horizon o
        → option_map_or (wholeness (open_segments (notes_after limits deeds) trace)) o UnheardSince ≡ WholeSince → IsWholeSince (notes_after limits deeds).horizon limits.clients trace deeds
    at None like stands is = let never : UnheardSince ≡ WholeSince = is in absurd cc
    at (Some k) like stands is = heard_all limits trace deeds k bound like stands (says_whole (open_segments (notes_after limits deeds) trace) k is)

-- and each node to which a crumb led in that part is kept
pub said_led : (limits : NoteLimits) (trace : TraceId) (deeds : List NoteDeed) → (AreOut limits → ⊥) → AreOfClients limits.clients deeds → HavePlaces limits deeds → length deeds < 2 ^ 63
    → wholeness_of (notes_after limits deeds) trace ≡ WholeSince
    → (whole : IsWholeSince (notes_after limits deeds).horizon limits.clients trace deeds) × AreLed (crumbs_of (notes_after limits deeds) trace) trace whole.later
unfolding heard_all
said_led limits trace deeds in_range of places bound =
    let all = all_hold limits trace in_range deeds of places bound in
    at (kept_of (notes_after limits deeds) trace) all.like all.stands
  where
    at : (o : Option Kept) → IsLike limits deeds (notes_after limits deeds) → Stands false false trace deeds (notes_after limits deeds).horizon o
        → option_map_or (wholeness (open_segments (notes_after limits deeds) trace)) o UnheardSince ≡ WholeSince
        → (whole : IsWholeSince (notes_after limits deeds).horizon limits.clients trace deeds) × AreLed (option_map_or (λ (kept : Kept). kept.crumbs) o no_nodes) trace whole.later
    at None like stands is = let never : UnheardSince ≡ WholeSince = is in absurd cc
    at (Some k) like stands is = (heard_all limits trace deeds k bound like stands (says_whole (open_segments (notes_after limits deeds) trace) k is), stands.led)
