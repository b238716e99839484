-- The unread offers of a followed node could be unread exactly where its log, its draws and the pages that were found say so.
use Rattle.std.proofs.Common.{◌≡◌, ℕ, zero, suc, ◌+◌, ◌-◌, ◌*◌, ◌<◌, Bool, true, false, eqb, leb, ltb, List, [], ◌∷◌, ◌++◌, length, map, take, Option, Some, None, refl, sym, ap, ◌∙◌, subst, inl, inr, arith}
use Rattle.hs_check.proofs.Prelude.{slice_get, option_map, filter, count_by, not, ◌&&◌, ◌||◌, flat_map, list_all, list_any, range_with_len, AllByRecursion, option_and_then, option_map_or, and_parts, le-leb, lt-leb, cases_lt, length-map, slice_get-map, all_append, Draw, Step, PlainJournal, EventsAddThis, EventsGoOn, ListsHaveTheirChunks, Taken, GivenPlace, PlainWorkload, DrawnPage, has_buffer, stamp_of, ClientSends, draws_at, place_of, NodeRun, log_at, followed, ComesByEvents, FollowingPlaysOut, is_turn, played, state_behind, node_pages, page_of, given_page, has_stamps, node_has_stamps, node_stamps, node_draws, draw_stamps, log_stamps, are_numbered, rise, same_page, may_be_unread, before_unreads, FoundNode, FoundPage, AreFound, IsFoundClient, drawn_from, drawn_lists, lists_are, each_holds, PageDraw, all_page_draws, is_named, is_passed}
use Rattle.hs_base.proofs.Tests.{list_all_map}
use Rattle.hs_base.proofs.Alls.{all_at, all_filter}
use Rattle.hs_client.specs.Sending.{node_sends}
use Rattle.hs_law_journal.specs.Gives.{GivesAreNoted}
use Rattle.hs_law_journal.specs.Laws.{AgentsComeByEvents}
use Rattle.hs_law_journal.specs.Pooled.{by_stamp, pool_events}
use Rattle.hs_law_journal.specs.Unreads.{round_of, pages_by_stamp, is_given_in, is_drawn_past, may_be_uncollected}
use Rattle.hs_check_follow.specs.Finding.{named, given_name}
use Rattle.hs_check_follow.specs.Happening.{pool_event, node_timed}
use Rattle.hs_check_follow.proofs.Knowing.{KnownAt}
use Rattle.hs_check_follow.proofs.Pooling.{noted, told_events}
use Rattle.hs_check_follow.proofs.Sorting.{buckets-map}
use Rattle.hs_check.specs.Showing.{given_by, may_wait}
use Rattle.hs_check.specs.Showing as showing
use Rattle.hs_check.proofs.Behind.{given_behind, pages_stay}
use Rattle.hs_check.proofs.Pages.{page_at, all_pages, Stands, all_stand, client_within, named_is, page_draw, draws_are, past_is}
use Rattle.hs_check.proofs.Stepping.{unreads_same}

-- ---- what holds of all holds of those in order

all_in_order : {A : Type 0} (P : A → Type 0) (key : A → ℕ) (a m : ℕ) (xs : List A) → AllByRecursion P xs → AllByRecursion P (flat_map (λ s. filter (λ x. eqb (key x) s) xs) (range_with_len a m))
all_in_order P key a zero xs all = tt
all_in_order P key a (suc m) xs all =
    all_append P (filter (λ x. eqb (key x) a) xs) (flat_map (λ s. filter (λ x. eqb (key x) s) xs) (range_with_len (a + 1) m)) (all_filter P (λ x. eqb (key x) a) xs all) (all_in_order P key (a + 1) m xs all)

-- ---- names of pages that were given

module _ (run : NodeRun) (page : DrawnPage) (test : FoundPage → Bool)
    (same : (name : FoundPage) → option_map_or (same_page page) (page_at run.sends name.client name.page) false ≡ test name) where
  one_name : (taken : Option Taken) (name : FoundPage) → option_map named taken ≡ Some name → option_map_or (same_page page) (option_and_then (λ (chunk : Taken). page_of run chunk.sheet) taken) false ≡ test name
  one_name (Some chunk) name e = let is : named chunk ≡ name = cc in same (named chunk) ∙ ap test is
  one_name None name e = let none : None ≡ Some name = e in absurd cc

  names_are : (n : ℕ) (given : List GivenPlace) (names : List FoundPage) → map (given_name run) given ≡ map (λ name. Some name) names
      → list_any (λ (g : GivenPlace). option_map_or (same_page page) (given_page run run.state g.place) false) (take n given) ≡ list_any test (take n names)
  names_are zero given names are = refl
  names_are (suc n) [] [] are = refl
  names_are (suc n) [] (name ∷ names) are = let none = ap length are in absurd (omega (arith, none))
  names_are (suc n) (g ∷ given) [] are = let none = ap length are in absurd (omega (arith, none))
  names_are (suc n) (g ∷ given) (name ∷ names) are =
      let first : given_name run g ≡ Some name = cc in
      let others : map (given_name run) given ≡ map (λ name. Some name) names = cc in
      ap (λ b. b || list_any (λ (g : GivenPlace). option_map_or (same_page page) (given_page run run.state g.place) false) (take n given)) (one_name (slice_get run.state.taken g.place) name first)
      ∙ ap (λ b. test name || b) (names_are n given names others)

-- ---- a followed node

module _
    (W : PlainWorkload) (J : PlainJournal) (adds : EventsAddThis) (goes_on : EventsGoOn) (lists : ListsHaveTheirChunks) (come : AgentsComeByEvents) (gives : GivesAreNoted)
    (plays : FollowingPlaysOut) (i : ℕ) (f : FoundNode) (k : KnownAt W J i f) (stamped : has_stamps (played W J) ≡ true) (low : i < W.settings.nodes) where
  rises : (number : ℕ) → number < 0 + W.settings.clients → rise (draw_stamps (draws_at J (place_of W.settings.clients i number))) ≡ true
  rises number less =
      let here = each_holds (node_has_stamps W J) W.settings.nodes i stamped low in
      let parts = and_parts (are_numbered (node_stamps W J i) && list_all (λ draws. rise (draw_stamps draws)) (node_draws W J i)) (rise (log_stamps (log_at J i))) here in
      let each = and_parts (are_numbered (node_stamps W J i)) (list_all (λ draws. rise (draw_stamps draws)) (node_draws W J i)) parts.0 in
      let by_number = sym (list_all_map (λ (draws : List Draw). rise (draw_stamps draws)) (λ number. draws_at J (place_of W.settings.clients i number)) (range_with_len 0 W.settings.clients)) ∙ each.1 in
      each_holds (λ number. rise (draw_stamps (draws_at J (place_of W.settings.clients i number)))) W.settings.clients number by_number (omega arith)

  comes : ComesByEvents W.settings k.run
  comes = all_at (ComesByEvents W.settings) (followed W J).nodes i k.run (come W J) k.at

  module _ (earlier later : List Step) (parts : earlier ++ later ≡ k.run.state.log) (d : DrawnPage) (stands : Stands (node_sends W J i) 0 d) where
    at_its_place : page_at (node_sends W J i) d.client.number d.number ≡ Some d
    at_its_place =
        let e = stands.client in
        let place : d.client.number ≡ stands.place = omega (arith, e) in
        ap (λ c. page_at (node_sends W J i) c d.number) place ∙ stands.at

    given_is : is_given_in k.run (state_behind W.settings k.run (length earlier)) d ≡ list_any (is_named (record { client = d.client.number; page = d.number })) (given_by f.gives.items earlier)
    given_is =
        let test : FoundPage → Bool = is_named (record { client = d.client.number; page = d.number }) in
        pages_stay adds goes_on lists W.settings k.run comes earlier later parts (same_page d)
        ∙ ap (λ (l : List GivenPlace). list_any (λ (g : GivenPlace). option_map_or (same_page d) (given_page k.run k.run.state g.place) false) l) (given_behind adds goes_on lists W.settings k.run comes earlier later parts (noted W J gives plays i f k))
        ∙ names_are k.run d test
        (λ name. ap (λ (l : List ClientSends). option_map_or (same_page d) (page_at l name.client name.page) false) k.sends ∙ named_is W J i W.settings.clients d at_its_place name)
        (count_by showing.is_give earlier) k.run.state.given f.gives.items k.is.gives

    past : is_drawn_past k.run (log_stamps earlier) d ≡ option_map_or (is_passed (log_stamps earlier)) (page_draw W J i (node_sends W J i) d).next false
    past =
        let c = d.client.number in
        let n = d.number in
        let within = client_within W J i 0 W.settings.clients c n d at_its_place in
        let none : c - 0 ≡ c = omega arith in
        ap (λ (l : List ClientSends). list_any (λ (e : DrawnPage). eqb e.client.number c && ltb n e.number && list_any (λ stamp. ltb (stamp_of e.draw) stamp) (log_stamps earlier)) (all_pages l)) k.sends
        ∙ past_is W J i (log_stamps earlier) c n 0 W.settings.clients (omega arith) (omega (arith, within)) rises
        ∙ ap (λ j. option_map_or (is_passed (log_stamps earlier)) (option_map (λ (e : DrawnPage). stamp_of e.draw) (page_at (node_sends W J i) j (n + 1))) false) none

    waits : may_be_uncollected W.settings k.run earlier d ≡ may_wait W.settings.stride f.gives.items earlier (page_draw W J i (node_sends W J i) d)
    waits =
        ap (λ b. has_buffer d.draw && not b && not (is_drawn_past k.run (log_stamps earlier) d) && eqb (round_of W.settings.stride d.started) (count_by is_turn earlier)) given_is
        ∙ ap (λ b. has_buffer d.draw && not (list_any (is_named (record { client = d.client.number; page = d.number })) (given_by f.gives.items earlier)) && not b && eqb (round_of W.settings.stride d.started) (count_by is_turn earlier)) past

  -- the draws by their stamps
  drawn_is : by_stamp (λ (e : PageDraw). e.stamp) (length (node_timed (drawn_from J (i * W.settings.clients) f.clients.items) (log_at J i) f.gives.items))
      (all_page_draws 0 f.clients.items (drawn_from J (i * W.settings.clients) f.clients.items))
      ≡ map (page_draw W J i (node_sends W J i)) (pages_by_stamp k.run)
  drawn_is =
      let sends = node_sends W J i in
      let timed = node_timed (drawn_from J (i * W.settings.clients) f.clients.items) (log_at J i) f.gives.items in
      let bound : length timed ≡ length (pool_events k.run) = sym (length-map timed pool_event) ∙ ap length (told_events W J gives plays i f k timed refl) in
      let all : all_page_draws 0 f.clients.items (drawn_from J (i * W.settings.clients) f.clients.items) ≡ map (page_draw W J i sends) (node_pages k.run) =
      ap (all_page_draws 0 f.clients.items) (lists_are W J i f k ∙ ap drawn_lists k.sends)
      ∙ draws_are W J i sends 0 W.settings.clients f.clients.items (subst (λ (l : List ClientSends). AreFound IsFoundClient l f.clients.items) k.sends k.is.clients)
      (λ j number. let same : 0 + j ≡ j = omega arith in ap (λ c. page_at sends c number) same)
      ∙ sym (ap (λ (l : List ClientSends). map (page_draw W J i sends) (all_pages l)) k.sends) in
      ap (λ n. by_stamp (λ (e : PageDraw). e.stamp) n (all_page_draws 0 f.clients.items (drawn_from J (i * W.settings.clients) f.clients.items))) bound
      ∙ ap (by_stamp (λ (e : PageDraw). e.stamp) (length (pool_events k.run))) all
      ∙ buckets-map (page_draw W J i sends) (λ (e : PageDraw). e.stamp) 0 (length (pool_events k.run)) (node_pages k.run)

  all_in_place : AllByRecursion (Stands (node_sends W J i) 0) (pages_by_stamp k.run)
  all_in_place =
      all_in_order (Stands (node_sends W J i) 0) (λ (d : DrawnPage). stamp_of d.draw) 0 (length (pool_events k.run)) (node_pages k.run)
      (subst (λ (l : List ClientSends). AllByRecursion (Stands (node_sends W J i) 0) (all_pages l)) (sym k.sends) (all_stand W J i 0 W.settings.clients))

  one_offer : (earlier later : List Step) → earlier ++ later ≡ k.run.state.log
      → may_be_unread W.settings k.run earlier ≡ showing.may_be_unread W.settings.buffers W.settings.stride (map (page_draw W J i (node_sends W J i)) (pages_by_stamp k.run)) f.gives.items earlier
  one_offer earlier later parts =
      let n = W.settings.buffers in
      let events = length (log_stamps earlier) in
      let uncollected : Option DrawnPage → Bool = λ o. option_map_or (may_be_uncollected W.settings k.run earlier) o false in
      let step : n + events - 2 * n ≡ events - n = omega arith in
      let wide : leb (2 * n) (n + events) ≡ leb n events =
      elim (cases_lt events n) [
        | inl few ↦ lt-leb (2 * n) (n + events) (omega arith) ∙ sym (lt-leb n events few)
        | inr many ↦ le-leb (2 * n) (n + events) (omega arith) ∙ sym (le-leb n events many)
      ] in
      ap (λ b. b && uncollected (slice_get (pages_by_stamp k.run) (n + events - 2 * n))) wide
      ∙ ap (λ j. leb n events && uncollected (slice_get (pages_by_stamp k.run) j)) step
      ∙ ap (λ b. leb n events && b) (at (slice_get (pages_by_stamp k.run) (events - n)) refl)
      ∙ sym (ap (λ (o : Option PageDraw). leb n events && option_map_or (may_wait W.settings.stride f.gives.items earlier) o false) (slice_get-map (page_draw W J i (node_sends W J i)) (pages_by_stamp k.run) (events - n)))
    where
      at : (o : Option DrawnPage) → slice_get (pages_by_stamp k.run) (length (log_stamps earlier) - W.settings.buffers) ≡ o
          → option_map_or (may_be_uncollected W.settings k.run earlier) o false ≡ option_map_or (may_wait W.settings.stride f.gives.items earlier) (option_map (page_draw W J i (node_sends W J i)) o) false
      at (Some d) is = waits earlier later parts d (all_at (Stands (node_sends W J i) 0) (pages_by_stamp k.run) (length (log_stamps earlier) - W.settings.buffers) d all_in_place is)
      at None is = refl

  -- the clause at the node, as the code asks it
  pub unreads_are : list_all (showing.may_be_unread W.settings.buffers W.settings.stride
      (by_stamp (λ (e : PageDraw). e.stamp) (length (node_timed (drawn_from J (i * W.settings.clients) f.clients.items) (log_at J i) f.gives.items))
      (all_page_draws 0 f.clients.items (drawn_from J (i * W.settings.clients) f.clients.items))) f.gives.items) (before_unreads (log_at J i))
      ≡ list_all (may_be_unread W.settings k.run) (before_unreads k.run.state.log)
  unreads_are =
      let code : List PageDraw → List Step → Bool = λ l. showing.may_be_unread W.settings.buffers W.settings.stride l f.gives.items in
      ap (λ (l : List PageDraw). list_all (code l) (before_unreads (log_at J i))) drawn_is
      ∙ sym (ap (λ (l : List Step). list_all (code (map (page_draw W J i (node_sends W J i)) (pages_by_stamp k.run))) (before_unreads l)) k.log)
      ∙ sym (unreads_same (may_be_unread W.settings k.run) (code (map (page_draw W J i (node_sends W J i)) (pages_by_stamp k.run))) k.run.state.log one_offer)
