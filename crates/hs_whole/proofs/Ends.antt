-- Where each page of a trace that is handed out was heard of, and each of its segments is closed by its client's next note, no page
-- that was handed out of a segment lies behind its end.
use Rattle.std.proofs.Common.{◌≡◌, ℕ, eqb-true, Bool, true, false, not, ◌||◌, ◌&&◌, List, [], ◌∷◌, ◌++◌, ◌+◌, Some, None, refl, sym, ap, subst, ◌∙◌}
use Rattle.std.specs.Prelude.{All, ◌==◌, if◌then◌else◌}
use Rattle.std.specs.Option.{option_map_or}
use Rattle.std.proofs.lemmas.List.Elements.{All-nil, All-cons}
use Rattle.hs_base.proofs.Bools.{first_true, second_true}
use Rattle.hs_base.specs.declared.ids.TraceId.{TraceId}
use Rattle.hs_base.specs.Ids.{same_trace}
use Rattle.hs_whole.specs.declared.page.PageName.{PageName}
use Rattle.hs_whole.specs.declared.track.Track.{Track}
use Rattle.hs_whole.specs.Pages.{is_before, later_page}
use Rattle.hs_whole.specs.Tracks.{is_open, can_end, refuses_next, begun, ended, is_heard_of, handed}
use Rattle.hs_whole.specs.History.{NoteDeed, Opens, Closes, Refuses, Leads, Loses, HandsOut, Misses, Drops, track_after, IsInOrder, AreInOrder, AreHeardOf, out_since, EndsBehind, EndBehind}
use Rattle.hs_whole.proofs.Pages.{before_on, behind_later}

un_not : (b : Bool) → not b ≡ true → b ≡ false
un_not true on = absurd cc
un_not false on = refl

or_second : (a b : Bool) → (a || b) ≡ true → a ≡ false → b ≡ true
or_second true b on off = absurd cc
or_second false b on off = on

or_right : (a b : Bool) → b ≡ true → (a || b) ≡ true
or_right true b on = refl
or_right false b on = on

-- ---- a page is handed out of the open segment

pub open_handed : (trace other : TraceId) (page : PageName) (track : Track) → is_open trace (handed other page track) ≡ is_open trace track
open_handed trace other page track = at (is_heard_of other page track && not (is_before page track.end))
  where
    at : (b : Bool) → is_open trace (if b then record track { reached = Some (later_page track.reached page) } else track) ≡ is_open trace track
    at true = refl
    at false = refl

-- the segment could end there before
pub could_end : (other : TraceId) (page end : PageName) (track : Track) → can_end (handed other page track) end ≡ true → can_end track end ≡ true
could_end other page end track = at (is_heard_of other page track && not (is_before page track.end))
  where
    at : (b : Bool) → can_end (if b then record track { reached = Some (later_page track.reached page) } else track) end ≡ true → can_end track end ≡ true
    at true is =
        ap (λ b. b && option_map_or (λ one. is_before one end) track.reached true) (first_true (not (is_before end track.end)) (is_before (later_page track.reached page) end) is)
        ∙ (behind_later track.reached page end (second_true (not (is_before end track.end)) (is_before (later_page track.reached page) end) is)).1
    at false is = is

-- and this page, if it was heard of, lies before the end
pub lies_before : (trace : TraceId) (page end : PageName) (track : Track) → is_heard_of trace page track ≡ true → can_end (handed trace page track) end ≡ true → is_before page end ≡ true
lies_before trace page end track hears = at (is_before page track.end) refl
  where
    own : (b : Bool) → is_before page track.end ≡ b → can_end (handed trace page track) end ≡ can_end (if not b then record track { reached = Some (later_page track.reached page) } else track) end
    own b is = ap (λ c. can_end (if c && not (is_before page track.end) then record track { reached = Some (later_page track.reached page) } else track) end) hears
        ∙ ap (λ c. can_end (if not c then record track { reached = Some (later_page track.reached page) } else track) end) is

    at : (b : Bool) → is_before page track.end ≡ b → can_end (handed trace page track) end ≡ true → is_before page end ≡ true
    at true is on =
        before_on page track.end end is
        (un_not (is_before end track.end) (first_true (not (is_before end track.end)) (option_map_or (λ one. is_before one end) track.reached true) (sym (own true is) ∙ on)))
    at false is on =
        (behind_later track.reached page end (second_true (not (is_before end track.end)) (is_before (later_page track.reached page) end) (sym (own false is) ∙ on))).0

-- ---- over all deeds

-- each page of the trace that was handed out since its open segment began lies where the segment can end
module _ (trace : TraceId) (client : ℕ) (end : PageName) where
  abbrev Lie : List PageName → Type 0
  Lie pages = All (λ page. is_before page end ≡ true) pages

  all_before : (later earlier : List NoteDeed) → is_open trace (track_after client earlier) ≡ false → AreHeardOf trace later earlier → is_open trace (track_after client (later ++ earlier)) ≡ true → can_end (track_after client (later ++ earlier)) end ≡ true
      → Lie (out_since trace client (later ++ earlier))
  all_before [] earlier none hears opened on = let never : false ≡ true = sym none ∙ opened in absurd cc
  all_before (Opens other number of first ∷ later) earlier none hears opened on = at (other == client) opened on (all_before later earlier none hears.1)
    where
      at : (b : Bool) → is_open trace (if b then begun (track_after client (later ++ earlier)) number of first else track_after client (later ++ earlier)) ≡ true
          → can_end (if b then begun (track_after client (later ++ earlier)) number of first else track_after client (later ++ earlier)) end ≡ true
          → (is_open trace (track_after client (later ++ earlier)) ≡ true → can_end (track_after client (later ++ earlier)) end ≡ true → Lie (out_since trace client (later ++ earlier)))
          → Lie (if b then [] else out_since trace client (later ++ earlier))
      at true opened on rest = All-nil (λ page. is_before page end ≡ true)
      at false opened on rest = rest opened on
  all_before (Closes other number of at_end report ∷ later) earlier none hears opened on = at (other == client) opened on (all_before later earlier none hears.1)
    where
      at : (b : Bool) → is_open trace (if b then ended (track_after client (later ++ earlier)) number of at_end else track_after client (later ++ earlier)) ≡ true
          → can_end (if b then ended (track_after client (later ++ earlier)) number of at_end else track_after client (later ++ earlier)) end ≡ true
          → (is_open trace (track_after client (later ++ earlier)) ≡ true → can_end (track_after client (later ++ earlier)) end ≡ true → Lie (out_since trace client (later ++ earlier)))
          → Lie (if b then [] else out_since trace client (later ++ earlier))
      at true opened on rest = All-nil (λ page. is_before page end ≡ true)
      at false opened on rest = rest opened on
  all_before (Refuses other number of ∷ later) earlier none hears opened on = at (other == client) (refuses_next (track_after client (later ++ earlier)) number) opened on (all_before later earlier none hears.1)
    where
      was : Track
      was = track_after client (later ++ earlier)

      at : (b n : Bool)
          → is_open trace (if b then (if n then record was { next = number + 1 } else record was { next = number + 1; current = None; from = None; reached = None }) else was) ≡ true
          → can_end (if b then (if n then record was { next = number + 1 } else record was { next = number + 1; current = None; from = None; reached = None }) else was) end ≡ true
          → (is_open trace was ≡ true → can_end was end ≡ true → Lie (out_since trace client (later ++ earlier)))
          → Lie (out_since trace client (later ++ earlier))
      at true true opened on rest = rest opened on
      at true false opened on rest = let never : false ≡ true = opened in absurd cc
      at false n opened on rest = rest opened on
  all_before (Leads other number of nodes ∷ later) earlier none hears opened on = at (other == client) (refuses_next (track_after client (later ++ earlier)) number) opened on (all_before later earlier none hears.1)
    where
      was : Track
      was = track_after client (later ++ earlier)

      at : (b n : Bool)
          → is_open trace (if b then (if n then record was { next = number + 1 } else record was { next = number + 1; current = None; from = None; reached = None }) else was) ≡ true
          → can_end (if b then (if n then record was { next = number + 1 } else record was { next = number + 1; current = None; from = None; reached = None }) else was) end ≡ true
          → (is_open trace was ≡ true → can_end was end ≡ true → Lie (out_since trace client (later ++ earlier)))
          → Lie (out_since trace client (later ++ earlier))
      at true true opened on rest = rest opened on
      at true false opened on rest = let never : false ≡ true = opened in absurd cc
      at false n opened on rest = rest opened on
  all_before (Loses of loss count ∷ later) earlier none hears opened on = all_before later earlier none hears.1 opened on
  all_before (HandsOut other page of ∷ later) earlier none hears opened on = at (other == client) (same_trace trace of) refl refl opened on (all_before later earlier none hears.1)
    where
      was : Track
      was = track_after client (later ++ earlier)

      at : (b s : Bool) → (other == client) ≡ b → same_trace trace of ≡ s
          → is_open trace (if b then handed of page was else was) ≡ true
          → can_end (if b then handed of page was else was) end ≡ true
          → (is_open trace was ≡ true → can_end was end ≡ true → Lie (out_since trace client (later ++ earlier)))
          → Lie (if b && s then page ∷ out_since trace client (later ++ earlier) else out_since trace client (later ++ earlier))
      at true true here same opened on rest =
          All-cons (λ at_page. is_before at_page end ≡ true) page (out_since trace client (later ++ earlier))
          (
          let at_client : is_heard_of of page was ≡ true = subst (λ c. is_heard_of of page (track_after c (later ++ earlier)) ≡ true) (eqb-true other client here) (hears.0 same) in
          lies_before of page end was at_client on
          )
          (rest (sym (open_handed trace of page was) ∙ opened) (could_end of page end was on))
      at true false here same opened on rest = rest (sym (open_handed trace of page was) ∙ opened) (could_end of page end was on)
      at false s here same opened on rest = rest opened on
  all_before (Misses ∷ later) earlier none hears opened on = all_before later earlier none hears.1 opened on
  all_before (Drops of ∷ later) earlier none hears opened on = all_before later earlier none hears.1 opened on

pub end_behind : (trace : TraceId) (later earlier : List NoteDeed) → ((client : ℕ) → is_open trace (track_after client earlier) ≡ false) → AreInOrder trace later earlier → AreHeardOf trace later earlier → EndBehind trace later earlier
end_behind trace [] earlier none order hears = tt
end_behind trace (deed ∷ later) earlier none order hears = (by_deed deed order.0, end_behind trace later earlier none order.1 hears.1)
  where
    deeds : List NoteDeed
    deeds = later ++ earlier

    turned : (a b : TraceId) (track : Track) → same_trace a b ≡ true → is_open b track ≡ true → is_open a track ≡ true
    turned a b track same opened = ap (λ n. is_open (record { 0 = n }) track) (eqb-true a.0 b.0 same) ∙ opened

    by_deed : (d : NoteDeed) → IsInOrder trace d deeds → EndsBehind trace d deeds
    by_deed (Opens client number other first) order = tt
    by_deed (Closes client number other end report) order = λ same.
        let next = order (or_right (is_open trace (track_after client deeds)) (same_trace trace other) same) in
        let at_trace = second_true (number == (track_after client deeds).next) (is_open other (track_after client deeds) && can_end (track_after client deeds) end) next in
        all_before trace client end later earlier (none client) hears.1
        (turned trace other (track_after client deeds) same (first_true (is_open other (track_after client deeds)) (can_end (track_after client deeds) end) at_trace))
        (second_true (is_open other (track_after client deeds)) (can_end (track_after client deeds) end) at_trace)
    by_deed (Refuses client number other) order = tt
    by_deed (Leads client number other nodes) order = tt
    by_deed (Loses other loss count) order = tt
    by_deed (HandsOut client page other) order = tt
    by_deed Misses order = tt
    by_deed (Drops other) order = tt
