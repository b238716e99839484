-- Each page that was heard of lies in a segment of its trace; so where as many were handed out as all segments sent, as many were of
-- each segment as it sent.
use Rattle.std.proofs.Common.{◌≡◌, ◌⊎◌, inl, inr, ℕ, ◌+◌, ◌<◌, ◌≤◌, eqb-true, Bool, true, false, not, ◌||◌, ◌&&◌, List, [], ◌∷◌, ◌++◌, Option, Some, None, is_some, unwrap_or, refl, sym, ap, subst, arith, ◌∙◌}
use Rattle.std.specs.Prelude.{nat_lt, ◌==◌, if◌then◌else◌}
use Rattle.std.specs.Option.{option_map_or}
use Rattle.hs_base.proofs.Bools.{first_true, second_true}
use Rattle.hs_base.specs.declared.ids.TraceId.{TraceId}
use Rattle.hs_base.specs.Ids.{same_trace}
use Rattle.hs_whole.specs.declared.page.PageName.{PageName}
use Rattle.hs_whole.specs.declared.track.Track.{Track}
use Rattle.hs_whole.specs.Pages.{first_page, is_before, later_page}
use Rattle.hs_whole.specs.Tracks.{is_open, can_end, begins_next, ends_next, refuses_next, begun, ended, passed, is_heard_of, handed}
use Rattle.hs_whole.specs.History.{NoteDeed, Opens, Closes, Refuses, Leads, Loses, HandsOut, Misses, Drops, AreOfClients, track_after, sends, sent_of, hands_out, handed_out_of, IsInOrder, AreInOrder, IsHeardOf, AreHeardOf, IsWholeSince}
use Rattle.hs_base.specs.Samples.{t}
use Rattle.hs_whole.specs.Segments.{nine_and_eight, lies_in, first_of, is_out_in, out_in, SegmentIs, SegmentsAre, PageIs, PagesAre, IsNotBetween, segment_at, IsOwn, IsHonest}
use Rattle.hs_whole.proofs.Ends.{open_handed, could_end, lies_before}

-- ---- a page that was heard of before the end of its client's last segment lies in a segment

-- the page is in the stretch that is known
abbrev is_known : PageName → Track → Bool
is_known page track = option_map_or (λ from. not (is_before page from)) track.from false && is_before page track.end

-- no page is in an empty stretch
none_known : (page first : PageName) → (not (is_before page first) && is_before page first) ≡ true → ⊥
none_known page first = at (is_before page first)
  where
    at : (b : Bool) → (not b && b) ≡ true → ⊥
    at true is = absurd cc
    at false is = absurd cc

known_handed : (page at_page : PageName) (trace : TraceId) (track : Track) → is_known page (handed trace at_page track) ≡ is_known page track
known_handed page at_page trace track = at (is_heard_of trace at_page track && not (is_before at_page track.end))
  where
    at : (b : Bool) → is_known page (if b then record track { reached = Some (later_page track.reached at_page) } else track) ≡ is_known page track
    at true = refl
    at false = refl

some_if : (b : Bool) (one : TraceId) (o : Option TraceId) → is_some o ≡ true → is_some (if b then Some one else o) ≡ true
some_if true one o is = refl
some_if false one o is = is

covered : (client : ℕ) (page : PageName) (deeds : List NoteDeed) → IsNotBetween client page deeds → is_known page (track_after client deeds) ≡ true → is_some (segment_at client page deeds) ≡ true
covered client page [] apart known = absurd (none_known page first_page known)
covered client page (Opens other number of first ∷ deeds) apart known = at (other == client) apart.0 known (covered client page deeds apart.1)
  where
    was : Track
    was = track_after client deeds

    grown : (from : PageName) → was.from ≡ Some from → (not (is_before page from) && is_before page first) ≡ true → lies_in was.end first page ≡ false → (is_known page was ≡ true → is_some (segment_at client page deeds) ≡ true) → is_some (segment_at client page deeds) ≡ true
    grown from is known between rest = by (is_before page was.end) refl
      where
        by : (b : Bool) → is_before page was.end ≡ b → is_some (segment_at client page deeds) ≡ true
        by true before = rest (ap (λ (o : Option PageName). option_map_or (λ f. not (is_before page f)) o false && is_before page was.end) is ∙ ap (λ b. b && is_before page was.end) (first_true (not (is_before page from)) (is_before page first) known) ∙ before)
        by false behind =
            let inside : lies_in was.end first page ≡ true = ap (λ b. not b && is_before page first) behind ∙ second_true (not (is_before page from)) (is_before page first) known in
            let never : false ≡ true = sym between ∙ inside in absurd cc

    begins : (n : Bool) (o : Option PageName) → was.from ≡ o → ((n && is_some o) ≡ true → lies_in was.end first page ≡ false) → (not (is_before page (if n then unwrap_or o first else first)) && is_before page first) ≡ true
        → (is_known page was ≡ true → is_some (segment_at client page deeds) ≡ true) → is_some (segment_at client page deeds) ≡ true
    begins false o is between known rest = absurd (none_known page first known)
    begins true None is between known rest = absurd (none_known page first known)
    begins true (Some from) is between known rest = grown from is known (between refl) rest

    at : (b : Bool) → ((b && (begins_next was number && is_some was.from)) ≡ true → lies_in was.end first page ≡ false) → is_known page (if b then begun was number of first else was) ≡ true
        → (is_known page was ≡ true → is_some (segment_at client page deeds) ≡ true) → is_some (segment_at client page deeds) ≡ true
    at true between known rest = begins (begins_next was number) was.from refl between known rest
    at false between known rest = rest known
covered client page (Closes other number of end report ∷ deeds) apart known = at (other == client) known (covered client page deeds apart)
  where
    was : Track
    was = track_after client deeds

    grown : (from : PageName) → was.from ≡ Some from → (not (is_before page from) && is_before page end) ≡ true → (is_known page was ≡ true → is_some (segment_at client page deeds) ≡ true)
        → is_some (if lies_in was.end end page then Some of else segment_at client page deeds) ≡ true
    grown from is known rest = by (is_before page was.end) refl
      where
        by : (b : Bool) → is_before page was.end ≡ b → is_some (if not (is_before page was.end) && is_before page end then Some of else segment_at client page deeds) ≡ true
        by true before =
            some_if (lies_in was.end end page) of (segment_at client page deeds)
            (rest (ap (λ (o : Option PageName). option_map_or (λ f. not (is_before page f)) o false && is_before page was.end) is ∙ ap (λ b. b && is_before page was.end) (first_true (not (is_before page from)) (is_before page end) known) ∙ before))
        by false behind = ap (λ b. is_some (if b then Some of else segment_at client page deeds)) (ap (λ b. not b && is_before page end) behind ∙ second_true (not (is_before page from)) (is_before page end) known)

    ends : (n : Bool) (o : Option PageName) → was.from ≡ o → (not (is_before page (if n then unwrap_or o end else end)) && is_before page end) ≡ true → (is_known page was ≡ true → is_some (segment_at client page deeds) ≡ true)
        → is_some (if n && lies_in was.end end page then Some of else segment_at client page deeds) ≡ true
    ends false o is known rest = absurd (none_known page end known)
    ends true None is known rest = absurd (none_known page end known)
    ends true (Some from) is known rest = grown from is known rest

    at : (b : Bool) → is_known page (if b then ended was number of end else was) ≡ true → (is_known page was ≡ true → is_some (segment_at client page deeds) ≡ true)
        → is_some (if b && (ends_next was number of end && lies_in was.end end page) then Some of else segment_at client page deeds) ≡ true
    at true known rest = ends (ends_next was number of end) was.from refl known rest
    at false known rest = rest known
covered client page (Refuses other number of ∷ deeds) apart known = at (other == client) (refuses_next (track_after client deeds) number) known (covered client page deeds apart)
  where
    was : Track
    was = track_after client deeds

    at : (b n : Bool) → is_known page (if b then (if n then record was { next = number + 1 } else record was { next = number + 1; current = None; from = None; reached = None }) else was) ≡ true
        → (is_known page was ≡ true → is_some (segment_at client page deeds) ≡ true) → is_some (segment_at client page deeds) ≡ true
    at true true known rest = rest known
    at true false known rest = let never : false ≡ true = known in absurd cc
    at false n known rest = rest known
covered client page (Leads other number of nodes ∷ deeds) apart known = at (other == client) (refuses_next (track_after client deeds) number) known (covered client page deeds apart)
  where
    was : Track
    was = track_after client deeds

    at : (b n : Bool) → is_known page (if b then (if n then record was { next = number + 1 } else record was { next = number + 1; current = None; from = None; reached = None }) else was) ≡ true
        → (is_known page was ≡ true → is_some (segment_at client page deeds) ≡ true) → is_some (segment_at client page deeds) ≡ true
    at true true known rest = rest known
    at true false known rest = let never : false ≡ true = known in absurd cc
    at false n known rest = rest known
covered client page (Loses of loss count ∷ deeds) apart known = covered client page deeds apart known
covered client page (HandsOut other at_page of ∷ deeds) apart known = at (other == client) known (covered client page deeds apart)
  where
    was : Track
    was = track_after client deeds

    at : (b : Bool) → is_known page (if b then handed of at_page was else was) ≡ true → (is_known page was ≡ true → is_some (segment_at client page deeds) ≡ true) → is_some (segment_at client page deeds) ≡ true
    at true known rest = rest (sym (known_handed page at_page of was) ∙ known)
    at false known rest = rest known
covered client page (Misses ∷ deeds) apart known = covered client page deeds apart known
covered client page (Drops of ∷ deeds) apart known = covered client page deeds apart known

-- ---- it ended in the later part

module _ (trace : TraceId) (earlier : List NoteDeed) where
  -- whether a deed ends the segment of the trace in whose stretch a page of a client lies
  abbrev ends_home : ℕ → PageName → NoteDeed → List NoteDeed → Bool
  ends_home client page (Closes other number of end report) deeds = same_trace trace of && ((other == client) && lies_in (first_of client deeds) end page)
  ends_home client page deed deeds = false

  abbrev has_home : ℕ → PageName → List NoteDeed → Bool
  has_home client page [] = false
  has_home client page (deed ∷ later) = ends_home client page deed (later ++ earlier) || has_home client page later

  or_behind : (a b : Bool) → b ≡ true → (a || b) ≡ true
  or_behind true b on = refl
  or_behind false b on = on

  at_home : (client : ℕ) (page : PageName) (later : List NoteDeed) → segment_at client page earlier ≡ None → is_some (segment_at client page (later ++ earlier)) ≡ true → IsOwn trace client page (later ++ earlier) → has_home client page later ≡ true
  at_home client page [] anew found own = let never : false ≡ true = sym (ap is_some anew) ∙ found in absurd cc
  at_home client page (Opens other number of first ∷ later) anew found own = at_home client page later anew found own
  at_home client page (Closes other number of end report ∷ later) anew found own = at (other == client) (ends_next (track_after client (later ++ earlier)) number of end) (lies_in (first_of client (later ++ earlier)) end page) found own (at_home client page later anew)
    where
      at : (b n l : Bool) → is_some (if b && (n && l) then Some of else segment_at client page (later ++ earlier)) ≡ true
          → ((named : TraceId) → (if b && (n && l) then Some of else segment_at client page (later ++ earlier)) ≡ Some named → same_trace trace named ≡ true)
          → (is_some (segment_at client page (later ++ earlier)) ≡ true → IsOwn trace client page (later ++ earlier) → has_home client page later ≡ true)
          → ((same_trace trace of && (b && l)) || has_home client page later) ≡ true
      at true true true found own rest = ap (λ b. (b && true) || has_home client page later) (own of refl)
      at true true false found own rest = or_behind (same_trace trace of && false) (has_home client page later) (rest found own)
      at true false l found own rest = or_behind (same_trace trace of && l) (has_home client page later) (rest found own)
      at false n l found own rest = or_behind (same_trace trace of && false) (has_home client page later) (rest found own)
  at_home client page (Refuses other number of ∷ later) anew found own = at_home client page later anew found own
  at_home client page (Leads other number of nodes ∷ later) anew found own = at_home client page later anew found own
  at_home client page (Loses of loss count ∷ later) anew found own = at_home client page later anew found own
  at_home client page (HandsOut other at_page of ∷ later) anew found own = at_home client page later anew found own
  at_home client page (Misses ∷ later) anew found own = at_home client page later anew found own
  at_home client page (Drops of ∷ later) anew found own = at_home client page later anew found own

  -- ---- or it is of the open segment, which ends later

  record IsPending (client : ℕ) (page : PageName) (later : List NoteDeed) : Type 0 where
    opened : is_open trace (track_after client (later ++ earlier)) ≡ true
    behind : is_before page (track_after client (later ++ earlier)).end ≡ false
    before : (end : PageName) → can_end (track_after client (later ++ earlier)) end ≡ true → is_before page end ≡ true

  abbrev IsPlaced : ℕ → PageName → List NoteDeed → Type 0
  IsPlaced client page later = (has_home client page later ≡ true) ⊎ IsPending client page later

  same_open : (a b : TraceId) (track : Track) → is_open a track ≡ true → is_open b track ≡ true → same_trace a b ≡ true
  same_open a b track one two = at track.current one two
    where
      same_as : (c x : TraceId) → same_trace c x ≡ true → x ≡ c
      same_as c x is = ap (λ n. record { 0 = n }) (sym (eqb-true c.0 x.0 is))

      itself : (n : ℕ) → (n == n) ≡ true
      itself n = grind arith

      at : (o : Option TraceId) → option_map_or (λ c. same_trace c a) o false ≡ true → option_map_or (λ c. same_trace c b) o false ≡ true → same_trace a b ≡ true
      at None one two = absurd cc
      at (Some c) one two = ap (λ (x : TraceId). same_trace x b) (same_as c a one) ∙ two

  -- a deed leaves each page that was handed out before in its place
  stays : (deed : NoteDeed) (later : List NoteDeed) (client : ℕ) (page : PageName) → IsInOrder trace deed (later ++ earlier) → IsPlaced client page later → IsPlaced client page (deed ∷ later)
  stays deed later client page order (inl home) = inl (or_behind (ends_home client page deed (later ++ earlier)) (has_home client page later) home)
  stays (Opens other number of first) later client page order (inr pending) = at (other == client) refl
    where
      was : Track
      was = track_after client (later ++ earlier)

      at : (b : Bool) → (other == client) ≡ b → IsPlaced client page (Opens other number of first ∷ later)
      at true here = let none : is_open trace was ≡ false = subst (λ c. is_open trace (track_after c (later ++ earlier)) ≡ false) (eqb-true other client here) order in let never : true ≡ false = sym pending.opened ∙ none in absurd cc
      at false here = inr (record {
        opened = ap (λ b. is_open trace (if b then begun was number of first else was)) here ∙ pending.opened;
        behind = ap (λ b. is_before page (if b then begun was number of first else was).end) here ∙ pending.behind;
        before = λ end can. pending.before end (sym (ap (λ b. can_end (if b then begun was number of first else was) end) here) ∙ can);
      })
  stays (Closes other number of end report) later client page order (inr pending) = at (other == client) refl
    where
      was : Track
      was = track_after client (later ++ earlier)

      or_front : (a b : Bool) → a ≡ true → (a || b) ≡ true
      or_front true b on = refl
      or_front false b on = absurd cc

      at : (b : Bool) → (other == client) ≡ b → IsPlaced client page (Closes other number of end report ∷ later)
      at true here =
          let next : ends_next was number of end ≡ true =
          subst (λ c. (is_open trace (track_after c (later ++ earlier)) || same_trace trace of) ≡ true → ends_next (track_after c (later ++ earlier)) number of end ≡ true) (eqb-true other client here) order
          (or_front (is_open trace was) (same_trace trace of) pending.opened) in
          let both = second_true (number == was.next) (is_open of was && can_end was end) next in
          let own : same_trace trace of ≡ true = same_open trace of was pending.opened (first_true (is_open of was) (can_end was end) both) in
          let low : is_before page end ≡ true = pending.before end (second_true (is_open of was) (can_end was end) both) in
          inl
          (or_front (ends_home client page (Closes other number of end report) (later ++ earlier)) (has_home client page later)
          (ap (λ b. b && ((other == client) && lies_in was.end end page)) own ∙ ap (λ b. b && lies_in was.end end page) here ∙ ap (λ b. not b && is_before page end) pending.behind ∙ low))
      at false here = inr (record {
        opened = ap (λ b. is_open trace (if b then ended was number of end else was)) here ∙ pending.opened;
        behind = ap (λ b. is_before page (if b then ended was number of end else was).end) here ∙ pending.behind;
        before = λ at_end can. pending.before at_end (sym (ap (λ b. can_end (if b then ended was number of end else was) at_end) here) ∙ can);
      })
  stays (Refuses other number of) later client page order (inr pending) = at (other == client) refl
    where
      was : Track
      was = track_after client (later ++ earlier)

      at : (b : Bool) → (other == client) ≡ b → IsPlaced client page (Refuses other number of ∷ later)
      at true here =
          let next : refuses_next was number ≡ true =
          subst (λ c. is_open trace (track_after c (later ++ earlier)) ≡ true → refuses_next (track_after c (later ++ earlier)) number ≡ true) (eqb-true other client here) order pending.opened in
          inr (record {
            opened = ap (λ b. is_open trace (if b then passed was number else was)) here
                ∙ ap (λ n. is_open trace (if n then record was { next = number + 1 } else record was { next = number + 1; current = None; from = None; reached = None })) next ∙ pending.opened;
            behind = ap (λ b. is_before page (if b then passed was number else was).end) here
                ∙ ap (λ n. is_before page (if n then record was { next = number + 1 } else record was { next = number + 1; current = None; from = None; reached = None }).end) next ∙ pending.behind;
            before = λ end can. pending.before end
                (sym (ap (λ n. can_end (if n then record was { next = number + 1 } else record was { next = number + 1; current = None; from = None; reached = None }) end) next)
                ∙ sym (ap (λ b. can_end (if b then passed was number else was) end) here) ∙ can);
          })
      at false here = inr (record {
        opened = ap (λ b. is_open trace (if b then passed was number else was)) here ∙ pending.opened;
        behind = ap (λ b. is_before page (if b then passed was number else was).end) here ∙ pending.behind;
        before = λ end can. pending.before end (sym (ap (λ b. can_end (if b then passed was number else was) end) here) ∙ can);
      })
  stays (Leads other number of nodes) later client page order (inr pending) = at (other == client) refl
    where
      was : Track
      was = track_after client (later ++ earlier)

      at : (b : Bool) → (other == client) ≡ b → IsPlaced client page (Leads other number of nodes ∷ later)
      at true here =
          let next : refuses_next was number ≡ true =
          subst (λ c. is_open trace (track_after c (later ++ earlier)) ≡ true → refuses_next (track_after c (later ++ earlier)) number ≡ true) (eqb-true other client here) order pending.opened in
          inr (record {
            opened = ap (λ b. is_open trace (if b then passed was number else was)) here
                ∙ ap (λ n. is_open trace (if n then record was { next = number + 1 } else record was { next = number + 1; current = None; from = None; reached = None })) next ∙ pending.opened;
            behind = ap (λ b. is_before page (if b then passed was number else was).end) here
                ∙ ap (λ n. is_before page (if n then record was { next = number + 1 } else record was { next = number + 1; current = None; from = None; reached = None }).end) next ∙ pending.behind;
            before = λ end can. pending.before end
                (sym (ap (λ n. can_end (if n then record was { next = number + 1 } else record was { next = number + 1; current = None; from = None; reached = None }) end) next)
                ∙ sym (ap (λ b. can_end (if b then passed was number else was) end) here) ∙ can);
          })
      at false here = inr (record {
        opened = ap (λ b. is_open trace (if b then passed was number else was)) here ∙ pending.opened;
        behind = ap (λ b. is_before page (if b then passed was number else was).end) here ∙ pending.behind;
        before = λ end can. pending.before end (sym (ap (λ b. can_end (if b then passed was number else was) end) here) ∙ can);
      })
  stays (Loses of loss count) later client page order (inr pending) = inr (record { opened = pending.opened; behind = pending.behind; before = pending.before })
  stays (HandsOut other at_page of) later client page order (inr pending) = at (other == client) refl
    where
      was : Track
      was = track_after client (later ++ earlier)

      end_still : (handed of at_page was).end ≡ was.end
      end_still = by (is_heard_of of at_page was && not (is_before at_page was.end))
        where
          by : (b : Bool) → (if b then record was { reached = Some (later_page was.reached at_page) } else was).end ≡ was.end
          by true = refl
          by false = refl

      at : (b : Bool) → (other == client) ≡ b → IsPlaced client page (HandsOut other at_page of ∷ later)
      at true here = inr (record {
        opened = ap (λ b. is_open trace (if b then handed of at_page was else was)) here ∙ open_handed trace of at_page was ∙ pending.opened;
        behind = ap (λ b. is_before page (if b then handed of at_page was else was).end) here ∙ ap (is_before page) end_still ∙ pending.behind;
        before = λ end can. pending.before end (could_end of at_page end was (sym (ap (λ b. can_end (if b then handed of at_page was else was) end) here) ∙ can));
      })
      at false here = inr (record {
        opened = ap (λ b. is_open trace (if b then handed of at_page was else was)) here ∙ pending.opened;
        behind = ap (λ b. is_before page (if b then handed of at_page was else was).end) here ∙ pending.behind;
        before = λ end can. pending.before end (sym (ap (λ b. can_end (if b then handed of at_page was else was) end) here) ∙ can);
      })
  stays Misses later client page order (inr pending) = inr (record { opened = pending.opened; behind = pending.behind; before = pending.before })
  stays (Drops of) later client page order (inr pending) = inr (record { opened = pending.opened; behind = pending.behind; before = pending.before })

  -- ---- each page that is handed out in a part

  abbrev OutHas : (ℕ → PageName → Type 0) → NoteDeed → Type 0
  OutHas P (HandsOut client page of) = same_trace trace of ≡ true → P client page
  OutHas P deed = Unit {0}

  abbrev AllOut : (ℕ → PageName → Type 0) → List NoteDeed → Type 0
  AllOut P [] = Unit {0}
  AllOut P (deed ∷ deeds) = OutHas P deed × AllOut P deeds

  out_map : (P Q : ℕ → PageName → Type 0) → ((client : ℕ) (page : PageName) → P client page → Q client page) → (deed : NoteDeed) → OutHas P deed → OutHas Q deed
  out_map P Q turn (Opens client number of first) has = tt
  out_map P Q turn (Closes client number of end report) has = tt
  out_map P Q turn (Refuses client number of) has = tt
  out_map P Q turn (Leads client number of nodes) has = tt
  out_map P Q turn (Loses of loss count) has = tt
  out_map P Q turn (HandsOut client page of) has = λ same. turn client page (has same)
  out_map P Q turn Misses has = tt
  out_map P Q turn (Drops of) has = tt

  all_map : (P Q : ℕ → PageName → Type 0) → ((client : ℕ) (page : PageName) → P client page → Q client page) → (deeds : List NoteDeed) → AllOut P deeds → AllOut Q deeds
  all_map P Q turn [] all = tt
  all_map P Q turn (deed ∷ deeds) all = (out_map P Q turn deed all.0, all_map P Q turn deeds all.1)

  or_second : (a b : Bool) → (a || b) ≡ true → a ≡ false → b ≡ true
  or_second true b on off = absurd cc
  or_second false b on off = on

  -- a page is placed when it is handed out
  placed_now : (client : ℕ) (page : PageName) (of : TraceId) (later : List NoteDeed) → same_trace trace of ≡ true → is_heard_of of page (track_after client (later ++ earlier)) ≡ true → IsNotBetween client page (later ++ earlier)
      → IsOwn trace client page (later ++ earlier) → segment_at client page earlier ≡ None → IsPlaced client page (HandsOut client page of ∷ later)
  placed_now client page of later same hears between own anew = at (is_before page was.end) refl
    where
      was : Track
      was = track_after client (later ++ earlier)

      itself : (n : ℕ) → (n == n) ≡ true
      itself n = grind arith

      from_known : Bool
      from_known = option_map_or (λ from. not (is_before page from)) was.from false

      end_still : (handed of page was).end ≡ was.end
      end_still = by (is_heard_of of page was && not (is_before page was.end))
        where
          by : (b : Bool) → (if b then record was { reached = Some (later_page was.reached page) } else was).end ≡ was.end
          by true = refl
          by false = refl

      at : (b : Bool) → is_before page was.end ≡ b → IsPlaced client page (HandsOut client page of ∷ later)
      at true before =
          let from = first_true from_known (is_before page was.end || is_open of was) hears in
          inl (at_home client page later anew (covered client page (later ++ earlier) between (ap (λ b. b && is_before page was.end) from ∙ before)) own)
      at false behind =
          let open_of : is_open of was ≡ true = or_second (is_before page was.end) (is_open of was) (second_true from_known (is_before page was.end || is_open of was) hears) behind in
          let same_id : trace ≡ of = ap (λ n. record { 0 = n }) (eqb-true trace.0 of.0 same) in
          inr (record {
            opened = ap (λ b. is_open trace (if b then handed of page was else was)) (itself client) ∙ open_handed trace of page was ∙ ap (λ (x : TraceId). is_open x was) same_id ∙ open_of;
            behind = ap (λ b. is_before page (if b then handed of page was else was).end) (itself client) ∙ ap (is_before page) end_still ∙ behind;
            before = λ end can. lies_before of page end was hears (sym (ap (λ b. can_end (if b then handed of page was else was) end) (itself client)) ∙ can);
          })

  all_placed : (later : List NoteDeed) → AreInOrder trace later earlier → AreHeardOf trace later earlier → PagesAre IsNotBetween trace later earlier → PagesAre (IsOwn trace) trace later earlier
      → PagesAre (λ client page deeds. segment_at client page earlier ≡ None) trace later earlier → AllOut (λ client page. IsPlaced client page later) later
  all_placed [] order hears between own anew = tt
  all_placed (deed ∷ later) order hears between own anew = (
    new deed hears.0 between.0 own.0 anew.0,
    all_map (λ client page. IsPlaced client page later) (λ client page. IsPlaced client page (deed ∷ later)) (λ client page. stays deed later client page order.0) later (all_placed later order.1 hears.1 between.1 own.1 anew.1),
  )
    where
      new : (d : NoteDeed) → IsHeardOf trace d (later ++ earlier) → PageIs IsNotBetween trace d (later ++ earlier) → PageIs (IsOwn trace) trace d (later ++ earlier)
          → PageIs (λ client page deeds. segment_at client page earlier ≡ None) trace d (later ++ earlier) → OutHas (λ client page. IsPlaced client page (d ∷ later)) d
      new (Opens client number of first) hears between own anew = tt
      new (Closes client number of end report) hears between own anew = tt
      new (Refuses client number of) hears between own anew = tt
      new (Leads client number of nodes) hears between own anew = tt
      new (Loses of loss count) hears between own anew = tt
      new (HandsOut client page of) hears between own anew = λ same. placed_now client page of later same (hears same) (between same) (own same) (anew same)
      new Misses hears between own anew = tt
      new (Drops of) hears between own anew = tt

  -- where no segment is open at the end, each page has its segment
  has_it : (later : List NoteDeed) → ((client : ℕ) → is_open trace (track_after client (later ++ earlier)) ≡ false) → (client : ℕ) (page : PageName) → IsPlaced client page later → has_home client page later ≡ true
  has_it later closed client page (inl home) = home
  has_it later closed client page (inr pending) = let never : true ≡ false = sym pending.opened ∙ closed client in absurd cc

  -- ---- sums

  abbrev segment_out : List NoteDeed → NoteDeed → List NoteDeed → ℕ
  segment_out part (Closes client number of end report) deeds = if same_trace trace of then out_in trace client (first_of client deeds) end part else 0
  segment_out part deed deeds = 0

  abbrev all_out : List NoteDeed → List NoteDeed → ℕ
  all_out part [] = 0
  all_out part (deed ∷ later) = all_out part later + segment_out part deed (later ++ earlier)

  abbrev hit : NoteDeed → NoteDeed → List NoteDeed → ℕ
  hit d (Closes client number of end report) deeds = if same_trace trace of then (if is_out_in trace client (first_of client deeds) end d then 1 else 0) else 0
  hit d deed deeds = 0

  abbrev hits : NoteDeed → List NoteDeed → ℕ
  hits d [] = 0
  hits d (deed ∷ later) = hits d later + hit d deed (later ++ earlier)

  one_more : (d : NoteDeed) (part : List NoteDeed) (deed : NoteDeed) (deeds : List NoteDeed) → segment_out (d ∷ part) deed deeds ≡ segment_out part deed deeds + hit d deed deeds
  one_more d part (Opens client number of first) deeds = omega arith
  one_more d part (Closes client number of end report) deeds = at (same_trace trace of)
    where
      at : (b : Bool) → (if b then out_in trace client (first_of client deeds) end (d ∷ part) else 0)
          ≡ (if b then out_in trace client (first_of client deeds) end part else 0) + (if b then (if is_out_in trace client (first_of client deeds) end d then 1 else 0) else 0)
      at true = refl
      at false = omega arith
  one_more d part (Refuses client number of) deeds = omega arith
  one_more d part (Leads client number of nodes) deeds = omega arith
  one_more d part (Loses of loss count) deeds = omega arith
  one_more d part (HandsOut client page of) deeds = omega arith
  one_more d part Misses deeds = omega arith
  one_more d part (Drops of) deeds = omega arith

  all_more : (d : NoteDeed) (part later : List NoteDeed) → all_out (d ∷ part) later ≡ all_out part later + hits d later
  all_more d part [] = omega arith
  all_more d part (deed ∷ later) = let rest = all_more d part later in let one = one_more d part deed (later ++ earlier) in omega (arith, rest, one)

  one_hit : (client : ℕ) (page : PageName) (of : TraceId) (deed : NoteDeed) (deeds : List NoteDeed) → same_trace trace of ≡ true → ends_home client page deed deeds ≡ true → hit (HandsOut client page of) deed deeds ≡ 1
  one_hit client page of (Opens other number named first) deeds same home = absurd cc
  one_hit client page of (Closes other number named end report) deeds same home =
      let own = first_true (same_trace trace named) ((other == client) && lies_in (first_of client deeds) end page) home in
      let both = second_true (same_trace trace named) ((other == client) && lies_in (first_of client deeds) end page) home in
      let here = first_true (other == client) (lies_in (first_of client deeds) end page) both in
      let inside = second_true (other == client) (lies_in (first_of client deeds) end page) both in
      ap (λ b. if b then (if same_trace trace of && ((other == client) && lies_in (first_of other deeds) end page) then 1 else 0) else 0) own
      ∙ ap (λ b. if b && ((other == client) && lies_in (first_of other deeds) end page) then 1 else 0) same
      ∙ ap (λ b. if b && lies_in (first_of other deeds) end page then 1 else 0) here
      ∙ ap (λ b. if b then 1 else 0) (ap (λ c. lies_in (first_of c deeds) end page) (eqb-true other client here) ∙ inside)
  one_hit client page of (Refuses other number named) deeds same home = absurd cc
  one_hit client page of (Leads other number named nodes) deeds same home = absurd cc
  one_hit client page of (Loses named loss count) deeds same home = absurd cc
  one_hit client page of (HandsOut other at_page named) deeds same home = absurd cc
  one_hit client page of Misses deeds same home = absurd cc
  one_hit client page of (Drops named) deeds same home = absurd cc

  some_hit : (client : ℕ) (page : PageName) (of : TraceId) (later : List NoteDeed) → same_trace trace of ≡ true → has_home client page later ≡ true → 1 ≤ hits (HandsOut client page of) later
  some_hit client page of [] same home = absurd cc
  some_hit client page of (deed ∷ later) same home = at (ends_home client page deed (later ++ earlier)) refl home (some_hit client page of later same)
    where
      at : (b : Bool) → ends_home client page deed (later ++ earlier) ≡ b → (b || has_home client page later) ≡ true → (has_home client page later ≡ true → 1 ≤ hits (HandsOut client page of) later) → 1 ≤ hits (HandsOut client page of) later + hit (HandsOut client page of) deed (later ++ earlier)
      at true here home more = let one = one_hit client page of deed (later ++ earlier) same here in omega (arith, one)
      at false here home more = let rest = more home in omega (arith, rest)

  out_within : (part later : List NoteDeed) → AllOut (λ client page. has_home client page later ≡ true) part → handed_out_of trace part ≤ all_out part later
  out_within [] later homes = omega arith
  out_within (deed ∷ part) later homes =
      let rest = out_within part later homes.1 in
      let more = all_more deed part later in
      let one = by_deed deed homes.0 in
      omega (arith, rest, more, one)
    where
      by_deed : (d : NoteDeed) → OutHas (λ client page. has_home client page later ≡ true) d → hands_out trace d ≤ hits d later
      by_deed (Opens client number of first) home = omega arith
      by_deed (Closes client number of end report) home = omega arith
      by_deed (Refuses client number of) home = omega arith
      by_deed (Leads client number of nodes) home = omega arith
      by_deed (Loses of loss count) home = omega arith
      by_deed (HandsOut client page of) home = at (same_trace trace of) refl
        where
          at : (b : Bool) → same_trace trace of ≡ b → (if b then 1 else 0) ≤ hits (HandsOut client page of) later
          at true same = some_hit client page of later same (home same)
          at false same = omega arith
      by_deed Misses home = omega arith
      by_deed (Drops of) home = omega arith

  -- of each segment at most as many, so of all
  at_most : (part later : List NoteDeed) → SegmentsAre (λ out sent. out ≤ sent) trace part later earlier → all_out part later ≤ sent_of trace later
  at_most part [] few = omega arith
  at_most part (deed ∷ later) few = let rest = at_most part later few.1 in let one = by_deed deed few.0 in omega (arith, rest, one)
    where
      by_deed : (d : NoteDeed) → SegmentIs (λ out sent. out ≤ sent) trace part d (later ++ earlier) → segment_out part d (later ++ earlier) ≤ sends trace d
      by_deed (Opens client number of first) few = omega arith
      by_deed (Closes client number of end report) few = at (same_trace trace of) refl
        where
          at : (b : Bool) → same_trace trace of ≡ b → (if b then out_in trace client (first_of client (later ++ earlier)) end part else 0) ≤ (if b then report.pages else 0)
          at true same = few same
          at false same = omega arith
      by_deed (Refuses client number of) few = omega arith
      by_deed (Leads client number of nodes) few = omega arith
      by_deed (Loses of loss count) few = omega arith
      by_deed (HandsOut client page of) few = omega arith
      by_deed Misses few = omega arith
      by_deed (Drops of) few = omega arith

  -- and where they are as many in all, they are of each
  as_many : (part later : List NoteDeed) → SegmentsAre (λ out sent. out ≤ sent) trace part later earlier → sent_of trace later ≤ all_out part later → SegmentsAre (λ out sent. out ≡ sent) trace part later earlier
  as_many part [] few all = tt
  as_many part (deed ∷ later) few all =
      let rest = at_most part later few.1 in
      let both = by_deed deed few.0 rest all in
      (both.0, as_many part later few.1 both.1)
    where
      by_deed : (d : NoteDeed) → SegmentIs (λ out sent. out ≤ sent) trace part d (later ++ earlier) → all_out part later ≤ sent_of trace later → sent_of trace later + sends trace d ≤ all_out part later + segment_out part d (later ++ earlier)
          → SegmentIs (λ out sent. out ≡ sent) trace part d (later ++ earlier) × (sent_of trace later ≤ all_out part later)
      by_deed (Opens client number of first) few rest all = (tt, omega (arith, all))
      by_deed (Closes client number of end report) few rest all = at (same_trace trace of) refl all
        where
          at : (b : Bool) → same_trace trace of ≡ b → sent_of trace later + (if b then report.pages else 0) ≤ all_out part later + (if b then out_in trace client (first_of client (later ++ earlier)) end part else 0)
              → (same_trace trace of ≡ true → out_in trace client (first_of client (later ++ earlier)) end part ≡ report.pages) × (sent_of trace later ≤ all_out part later)
          at true same all = let low = few same in (λ on. omega (arith, low, rest, all), omega (arith, low, rest, all))
          at false same all = (λ on. let never : true ≡ false = sym on ∙ same in absurd cc, omega (arith, all))
      by_deed (Refuses client number of) few rest all = (tt, omega (arith, all))
      by_deed (Leads client number of nodes) few rest all = (tt, omega (arith, all))
      by_deed (Loses of loss count) few rest all = (tt, omega (arith, all))
      by_deed (HandsOut client page of) few rest all = (tt, omega (arith, all))
      by_deed Misses few rest all = (tt, omega (arith, all))
      by_deed (Drops of) few rest all = (tt, omega (arith, all))

-- ---- a client that is not there has no segment

far : (trace : TraceId) (clients : ℕ) (deeds : List NoteDeed) → AreOfClients clients deeds → (client : ℕ) → clients ≤ client → is_open trace (track_after client deeds) ≡ false
far trace clients [] of client beyond = refl
far trace clients (Opens other number named first ∷ deeds) of client beyond = at (other == client) refl (far trace clients deeds of.1 client beyond)
  where
    at : (b : Bool) → (other == client) ≡ b → is_open trace (track_after client deeds) ≡ false → is_open trace (if b then begun (track_after client deeds) number named first else track_after client deeds) ≡ false
    at true here rest = let same = eqb-true other client here in let low = of.0 in absurd (omega (arith, same, low, beyond))
    at false here rest = rest
far trace clients (Closes other number named end report ∷ deeds) of client beyond = at (other == client) (far trace clients deeds of.1 client beyond)
  where
    at : (b : Bool) → is_open trace (track_after client deeds) ≡ false → is_open trace (if b then ended (track_after client deeds) number named end else track_after client deeds) ≡ false
    at true rest = refl
    at false rest = rest
far trace clients (Refuses other number named ∷ deeds) of client beyond = at (other == client) (refuses_next (track_after client deeds) number) (far trace clients deeds of.1 client beyond)
  where
    at : (b n : Bool) → is_open trace (track_after client deeds) ≡ false
        → is_open trace (if b then (if n then record (track_after client deeds) { next = number + 1 } else record (track_after client deeds) { next = number + 1; current = None; from = None; reached = None }) else track_after client deeds) ≡ false
    at true true rest = rest
    at true false rest = refl
    at false n rest = rest
far trace clients (Leads other number named nodes ∷ deeds) of client beyond = at (other == client) (refuses_next (track_after client deeds) number) (far trace clients deeds of.1 client beyond)
  where
    at : (b n : Bool) → is_open trace (track_after client deeds) ≡ false
        → is_open trace (if b then (if n then record (track_after client deeds) { next = number + 1 } else record (track_after client deeds) { next = number + 1; current = None; from = None; reached = None }) else track_after client deeds) ≡ false
    at true true rest = rest
    at true false rest = refl
    at false n rest = rest
far trace clients (Loses named loss count ∷ deeds) of client beyond = far trace clients deeds of.1 client beyond
far trace clients (HandsOut other page named ∷ deeds) of client beyond = at (other == client) (far trace clients deeds of.1 client beyond)
  where
    at : (b : Bool) → is_open trace (track_after client deeds) ≡ false → is_open trace (if b then handed named page (track_after client deeds) else track_after client deeds) ≡ false
    at true rest = open_handed trace named page (track_after client deeds) ∙ rest
    at false rest = rest
far trace clients (Misses ∷ deeds) of client beyond = far trace clients deeds of.1 client beyond
far trace clients (Drops named ∷ deeds) of client beyond = far trace clients deeds of.1 client beyond

pub each_is_out : (horizon clients : ℕ) (trace : TraceId) (deeds : List NoteDeed) → AreOfClients clients deeds → (part : IsWholeSince horizon clients trace deeds) → IsHonest trace part.later part.earlier
    → SegmentsAre (λ out sent. out ≡ sent) trace part.later part.later part.earlier
each_is_out horizon clients trace deeds of part honest =
    let placed = all_placed trace part.earlier part.later part.in_order part.heard_of honest.between honest.own honest.anew in
    let homes =
    all_map trace part.earlier (λ client page. IsPlaced trace part.earlier client page part.later) (λ client page. has_home trace part.earlier client page part.later ≡ true) (has_it trace part.earlier part.later none) part.later placed in
    let within = out_within trace part.earlier part.later part.later homes in
    let same = part.handed_out in
    as_many trace part.earlier part.later part.later honest.few (omega (arith, within, same))
  where
    low : (n m : ℕ) → nat_lt n m ≡ true → n < m
    low n m is = grind (arith, is)

    high : (n m : ℕ) → nat_lt n m ≡ false → m ≤ n
    high n m is = grind (arith, is)

    none : (client : ℕ) → is_open trace (track_after client (part.later ++ part.earlier)) ≡ false
    none client = at (nat_lt client clients) refl
      where
        at : (b : Bool) → nat_lt client clients ≡ b → is_open trace (track_after client (part.later ++ part.earlier)) ≡ false
        at true is = subst (λ (ds : List NoteDeed). is_open trace (track_after client ds) ≡ false) part.parts (part.closed client (low client clients is))
        at false is = subst (λ (ds : List NoteDeed). is_open trace (track_after client ds) ≡ false) part.parts (far trace clients deeds of client (high client clients is))

-- ---- the worked example is what honest clients do

own_nine : (other : TraceId) → Some (t 9) ≡ Some other → same_trace (t 9) other ≡ true
own_nine other is = sym (ap (λ (o : Option TraceId). option_map_or (λ x. same_trace (t 9) x) o true) is)

honest_nine : IsHonest (t 9) nine_and_eight []
honest_nine = record {
  between = (tt, (tt, ((λ same. ((λ on. refl), tt)), (tt, ((λ same. ((λ on. refl), tt)), (tt, tt))))));
  own = (tt, (tt, ((λ same. own_nine), (tt, ((λ same other is. let never : None ≡ Some other = is in absurd cc), (tt, tt))))));
  few = ((λ same. let never : false ≡ true = same in absurd cc), (tt, (tt, ((λ same. omega arith), (tt, (tt, tt))))));
  anew = (tt, (tt, ((λ same. refl), (tt, ((λ same. refl), (tt, tt))))));
}
