-- What the steps of a log show of its node's pool, and whether an offer behind them may be unread: its place is that of an earlier
-- draw, whose page has a buffer that was not given back and was started in the round of the pass, and whose client's next draw
-- has no stamp below one that the log shows.
use Rattle.std.specs.Prelude.{◌≡◌, ℕ, ◌+◌, ◌-◌, ◌^◌, ◌<◌, Bool, true, false, not, ◌&&◌, ◌==◌, nat_lt, nat_le, List, [], ◌∷◌, length, take, count_by, slice_get, Some, refl}
use Rattle.std.specs.HashSet.{contains}
use Rattle.std.specs.List.{list_any}
use Rattle.std.specs.Option.{option_map_or}
use Rattle.hs_records.specs.declared.journal.Step.{Step}
use Rattle.hs_records.specs.declared.journal.Step.TheVariants as steps
use Rattle.hs_law_journal.specs.Passes.{is_turn}
use Rattle.hs_law_journal.specs.Shape.{log_stamps}
use Rattle.hs_law_journal.specs.Unreads.{round_of}
use Rattle.hs_check_follow.specs.declared.found.FoundPage.{FoundPage}
use Rattle.hs_check.specs.declared.page_draws.NodePage.{NodePage}
use Rattle.hs_check.specs.declared.page_draws.PageDraw.{PageDraw}
use Rattle.hs_check.specs.declared.shown.Shown.{Shown}

-- ---- pages

abbrev pub is_same : NodePage → NodePage → Bool
is_same a b = a.client == b.client && a.page == b.page

-- whether a page has the name of one that was found
abbrev pub is_named : NodePage → FoundPage → Bool
is_named page name = name.client == page.client && name.page == page.page

abbrev pub is_give : Step → Bool
is_give (steps.Given stamp) = true
is_give _ = false

-- the pages whose buffers were given back by these steps, where a log gives these
abbrev pub given_by : List FoundPage → List Step → List FoundPage
given_by gives earlier = take (count_by is_give earlier) gives

-- ---- unread offers

-- whether one of these stamps is above another
abbrev pub is_passed : List ℕ → ℕ → Bool
is_passed stamps stamp = list_any (λ later. nat_lt stamp later) stamps

-- whether the page of a draw may still be uncollected behind these steps, in the pass that they are in
abbrev pub may_wait : ℕ → List FoundPage → List Step → PageDraw → Bool
may_wait stride gives earlier draw =
    draw.got && not (list_any (is_named draw.page) (given_by gives earlier)) && not (option_map_or (is_passed (log_stamps earlier)) draw.next false)
    && round_of stride draw.started == count_by is_turn earlier

-- whether an offer behind these steps may be unread, where the pool's draws are these, in order. The offer behind as many events
-- of the log as there are buffers has the place of the first draw.
abbrev pub may_be_unread : (buffers stride : ℕ) → List PageDraw → List FoundPage → List Step → Bool
may_be_unread buffers stride drawn gives earlier =
    let events = length (log_stamps earlier) in
    nat_le buffers events && option_map_or (may_wait stride gives earlier) (slice_get drawn (events - buffers)) false

-- ---- what was seen of a log

-- the first so many of these pages were given
abbrev pub HasGiven : List FoundPage → Shown → Type 0
HasGiven pages shown = (page : NodePage) → contains is_same shown.given page ≡ list_any (is_named page) (take shown.gives pages)

-- these steps of a log that gives back the buffers of these pages show so much
pub record IsShown (pages : List FoundPage) (earlier : List Step) (shown : Shown) : Type 0 where
  pub given : HasGiven pages shown
  pub gives : shown.gives ≡ count_by is_give earlier
  pub events : shown.events ≡ length (log_stamps earlier)
  pub highest : (stamp : ℕ) → nat_lt stamp shown.highest ≡ is_passed (log_stamps earlier) stamp
  pub turns : shown.turns ≡ count_by is_turn earlier

-- one more of each can be counted
pub record HasRoom (shown : Shown) : Type 0 where
  pub gives : shown.gives + 1 < 2 ^ 64
  pub events : shown.events + 1 < 2 ^ 64
  pub turns : shown.turns + 1 < 2 ^ 64

-- ---- examples

abbrev first : PageDraw
first = record { page = record { client = 0; page = 0 }; stamp = 0; got = true; next = Some 2; started = 0 }

abbrev gives : List FoundPage
gives = record { client = 1; page = 0 } ∷ record { client = 0; page = 0 } ∷ []

-- with two buffers and strides of eight, in the first pass, behind two gives or misses: that of the page itself, or a stamp behind
-- its client's next draw, shows that it was collected
unread : (may_be_unread 2 8 (first ∷ []) gives (steps.Turn ∷ steps.Given 1 ∷ steps.Missed 2 ∷ []) ≡ true)
    × (may_be_unread 2 8 (first ∷ []) gives (steps.Turn ∷ steps.Given 1 ∷ steps.Missed 3 ∷ []) ≡ false)
    × (may_be_unread 2 8 (first ∷ []) gives (steps.Turn ∷ steps.Given 1 ∷ steps.Given 2 ∷ []) ≡ false)
    × (may_be_unread 2 8 (first ∷ []) gives (steps.Turn ∷ steps.Given 1 ∷ []) ≡ false)
    × (may_be_unread 2 8 (first ∷ []) gives (steps.Turn ∷ steps.Given 1 ∷ steps.Turn ∷ steps.Missed 2 ∷ []) ≡ false)
unread = (refl, refl, refl, refl, refl)
