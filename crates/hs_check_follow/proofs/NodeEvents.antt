-- The events of a followed node's pool are those that its draws, its log and the pages that were found tell.
use Rattle.std.proofs.Common.{◌≡◌, ℕ, zero, suc, ◌+◌, ◌*◌, ◌<◌, ◌≤◌, Bool, true, false, cond, List, [], ◌∷◌, ◌++◌, length, map, take, Option, Some, None, refl, sym, ap, ◌∙◌, subst, arith}
use Rattle.hs_check_follow.proofs.Prelude.{slice_get, option_map, filter_map, flat_map, range_with_len, option_and_then, option_to_list, length-map, map-append, Draw, Step, PlainJournal, Taken, GivenPlace, PlainWorkload, DrawnPage, stamp_of, ClientSends, draws_at, place_of, client_sends, node_sends, NodeRun, log_at, given_stamp, StampedPoolEvent, page_of, given_page, pool_events, FoundClient, FoundNode, FoundPage, StampedEvent, AreFound, IsFoundClient, named, given_name, pool_event, timed_draw, timed_miss, timed_give, timed_gives, node_timed, draw_at, drawn_from}
use Rattle.std.specs.List.{cons_option}
use Rattle.hs_base.specs.declared.ids.ClientId.{ClientId}
use Rattle.hs_records.specs.declared.journal.Draw.TheVariants as draws
use Rattle.hs_records.specs.declared.journal.Step.TheVariants as steps
use Rattle.hs_client.specs.Drawn.{drawn_pages}
use Rattle.hs_client.specs.Drawn as sent
use Rattle.hs_client.specs.Draws.{event_drawn}
use Rattle.hs_client.specs.Timing.{TimedPage}
use Rattle.hs_words.specs.PoolHistory as events
use Rattle.hs_law_journal.specs.Pooled.{drawn_event, node_pages, given_buffer, given_event, buffer_of, missed_event}
use Rattle.hs_check_follow.specs.Finding.{starts_of}
use Rattle.hs_check_follow.proofs.Knowing.{KnownAt}

-- ---- draws

-- the draws of the pages that were drawn
draws_taken : (client : ClientId) (number : ℕ) (pages : List TimedPage) (draws : List Draw)
    → map (λ (d : DrawnPage). d.draw) (sent.drawn_from client number pages draws) ≡ take (length (sent.drawn_from client number pages draws)) draws
draws_taken client number [] draws = refl
draws_taken client number (page ∷ pages) [] = refl
draws_taken client number (page ∷ pages) (draw ∷ draws) = ap (λ (l : List Draw). draw ∷ l) (draws_taken client (number + 1) pages draws)

length-starts : (pages : List DrawnPage) → length (starts_of pages) ≡ length pages
length-starts [] = refl
length-starts (page ∷ pages) = ap suc (length-starts pages)

-- the draws of all pages of the node's clients
abbrev pub drawn_lists : List ClientSends → List (List Draw)
drawn_lists sends = map (λ (s : ClientSends). map (λ (d : DrawnPage). d.draw) s.drawn) sends

lists_from : (W : PlainWorkload) (J : PlainJournal) (node a m : ℕ) (clients : List FoundClient) → AreFound IsFoundClient (map (client_sends W J node) (range_with_len a m)) clients
    → drawn_from J (node * W.settings.clients + a) clients ≡ drawn_lists (map (client_sends W J node) (range_with_len a m))
lists_from W J node a zero [] all = refl
lists_from W J node a zero (c ∷ clients) all = absurd all
lists_from W J node a (suc m) [] all = absurd all
lists_from W J node a (suc m) (c ∷ clients) all =
    let p = node * W.settings.clients + a in
    let drawn = (client_sends W J node a).drawn in
    let count : length c.started.items ≡ length drawn = ap length all.0.started ∙ length-starts drawn in
    let next : p + 1 ≡ node * W.settings.clients + (a + 1) = omega arith in
    ap (λ k. take k (draws_at J p) ∷ drawn_from J (p + 1) clients) count
    ∙ sym (ap (λ (l : List Draw). l ∷ drawn_from J (p + 1) clients) (draws_taken _ 0 _ (draws_at J p)))
    ∙ ap (λ (l : List (List Draw)). map (λ (d : DrawnPage). d.draw) drawn ∷ l) (ap (λ k. drawn_from J k clients) next ∙ lists_from W J node (a + 1) m clients all.1)

-- ---- gives

module _ (run : NodeRun) where
  pub page_draw : (sends : List ClientSends) (client page : ℕ)
      → option_and_then (λ (draws : List Draw). slice_get draws page) (slice_get (drawn_lists sends) client)
      ≡ option_map (λ (d : DrawnPage). d.draw) (option_and_then (λ (s : ClientSends). slice_get s.drawn page) (slice_get sends client))
  page_draw [] client page = refl
  page_draw (s ∷ sends) zero page = get_map s.drawn page
    where
      get_map : (pages : List DrawnPage) (i : ℕ) → slice_get (map (λ (d : DrawnPage). d.draw) pages) i ≡ option_map (λ (d : DrawnPage). d.draw) (slice_get pages i)
      get_map [] i = refl
      get_map (x ∷ pages) zero = refl
      get_map (x ∷ pages) (suc i) = get_map pages i
  page_draw (s ∷ sends) (suc client) page = page_draw sends client page

  named_buffer : (taken : Option Taken) (page : FoundPage) → option_map named taken ≡ Some page
      → option_and_then (λ (d : DrawnPage). buffer_of d.draw) (option_and_then (λ (chunk : Taken). page_of run chunk.sheet) taken) ≡ option_and_then buffer_of (draw_at (drawn_lists run.sends) page)
  named_buffer None page e = let none : None ≡ Some page = e in absurd cc
  named_buffer (Some chunk) page e =
      let same : named chunk ≡ page = cc in
      sym (ap (λ (p : FoundPage). option_and_then buffer_of (draw_at (drawn_lists run.sends) p)) (sym same)
      ∙ ap (option_and_then buffer_of) (page_draw run.sends chunk.sheet.header.client.number chunk.sheet.header.page)
      ∙ mapped (page_of run chunk.sheet))
    where
      mapped : (o : Option DrawnPage) → option_and_then buffer_of (option_map (λ (d : DrawnPage). d.draw) o) ≡ option_and_then (λ (d : DrawnPage). buffer_of d.draw) o
      mapped (Some d) = refl
      mapped None = refl

  -- what a page's draw makes of a give
  give_is : (stamp : ℕ) (draw : Option Draw) → option_map pool_event (timed_give stamp draw) ≡ option_map (λ buffer. record { stamp = stamp; event = events.Given buffer }) (option_and_then buffer_of draw)
  give_is stamp (Some (draws.Got buffer drawn)) = refl
  give_is stamp (Some (draws.Empty drawn)) = refl
  give_is stamp None = refl

  given_same : (given : GivenPlace) (page : FoundPage) → given_name run given ≡ Some page → given_event run given ≡ option_map pool_event (timed_give given.stamp (draw_at (drawn_lists run.sends) page))
  given_same given page e =
      ap (option_map (λ buffer. record { stamp = given.stamp; event = events.Given buffer })) (named_buffer (slice_get run.state.taken given.place) page e)
      ∙ sym (give_is given.stamp (draw_at (drawn_lists run.sends) page))

  listed : (o : Option StampedEvent) (rest : List StampedEvent) → map pool_event (option_to_list o ++ rest) ≡ cons_option (option_map pool_event o) (map pool_event rest)
  listed (Some x) rest = refl
  listed None rest = refl

  gives_are : (log : List Step) (given : List GivenPlace) (pages : List FoundPage) → map (λ (g : GivenPlace). g.stamp) given ≡ filter_map given_stamp log → map (given_name run) given ≡ map (λ page. Some page) pages
      → map pool_event (timed_gives (drawn_lists run.sends) log pages) ≡ filter_map (given_event run) given
  gives_are [] [] pages noted names = refl
  gives_are [] (g ∷ given) pages noted names = let none : length (g ∷ given) ≡ 0 = sym (length-map (g ∷ given) (λ (g : GivenPlace). g.stamp)) ∙ ap length noted in absurd (omega (arith, none))
  gives_are (steps.Given stamp ∷ log) [] pages noted names = let none = ap length noted in absurd (omega (arith, none))
  gives_are (steps.Given stamp ∷ log) (g ∷ given) [] noted names = let none = ap length names in absurd (omega (arith, none))
  gives_are (steps.Given stamp ∷ log) (g ∷ given) (page ∷ pages) noted names =
      let stamps : g.stamp ≡ stamp = cc in
      let rest : map (λ (x : GivenPlace). x.stamp) given ≡ filter_map given_stamp log = cc in
      let name : given_name run g ≡ Some page = cc in
      let others : map (given_name run) given ≡ map (λ page. Some page) pages = cc in
      listed (timed_give stamp (draw_at (drawn_lists run.sends) page)) (timed_gives (drawn_lists run.sends) log pages)
      ∙ ap (cons_option (option_map pool_event (timed_give stamp (draw_at (drawn_lists run.sends) page)))) (gives_are log given pages rest others)
      ∙ ap (λ (s : ℕ). cons_option (option_map pool_event (timed_give s (draw_at (drawn_lists run.sends) page))) (filter_map (given_event run) given)) (sym stamps)
      ∙ ap (λ (o : Option StampedPoolEvent). cons_option o (filter_map (given_event run) given)) (sym (given_same g page name))
  gives_are (steps.Chunk c ∷ log) (g ∷ given) pages noted names = gives_are log (g ∷ given) pages noted names
  gives_are (steps.Chunk c ∷ log) [] pages noted names = gives_are log [] pages noted names
  gives_are (steps.Crumb c ∷ log) (g ∷ given) pages noted names = gives_are log (g ∷ given) pages noted names
  gives_are (steps.Crumb c ∷ log) [] pages noted names = gives_are log [] pages noted names
  gives_are (steps.Trigger c ∷ log) (g ∷ given) pages noted names = gives_are log (g ∷ given) pages noted names
  gives_are (steps.Trigger c ∷ log) [] pages noted names = gives_are log [] pages noted names
  gives_are (steps.Ask ∷ log) (g ∷ given) pages noted names = gives_are log (g ∷ given) pages noted names
  gives_are (steps.Ask ∷ log) [] pages noted names = gives_are log [] pages noted names
  gives_are (steps.Turn ∷ log) (g ∷ given) pages noted names = gives_are log (g ∷ given) pages noted names
  gives_are (steps.Turn ∷ log) [] pages noted names = gives_are log [] pages noted names
  gives_are (steps.Missed s ∷ log) (g ∷ given) pages noted names = gives_are log (g ∷ given) pages noted names
  gives_are (steps.Missed s ∷ log) [] pages noted names = gives_are log [] pages noted names
  gives_are (steps.Unread ∷ log) (g ∷ given) pages noted names = gives_are log (g ∷ given) pages noted names
  gives_are (steps.Unread ∷ log) [] pages noted names = gives_are log [] pages noted names

  -- ---- draws and misses as events

  drawn_is : (draw : Draw) → pool_event (timed_draw draw) ≡ record { stamp = stamp_of draw; event = event_drawn draw }
  drawn_is (draws.Got buffer stamp) = refl
  drawn_is (draws.Empty stamp) = refl

  drawn_are : (sends : List ClientSends) → map pool_event (flat_map (map timed_draw) (drawn_lists sends)) ≡ map drawn_event (flat_map (λ (s : ClientSends). s.drawn) sends)
  drawn_are [] = refl
  drawn_are (s ∷ sends) =
      map-append pool_event (map timed_draw (map (λ (d : DrawnPage). d.draw) s.drawn)) (flat_map (map timed_draw) (drawn_lists sends))
      ∙ ap (λ (l : List StampedPoolEvent). l ++ map pool_event (flat_map (map timed_draw) (drawn_lists sends))) (mapped s.drawn drawn_is)
      ∙ ap (λ (l : List StampedPoolEvent). map drawn_event s.drawn ++ l) (drawn_are sends)
      ∙ sym (map-append drawn_event s.drawn (flat_map (λ (s : ClientSends). s.drawn) sends))
    where
      mapped : (pages : List DrawnPage) → ((draw : Draw) → pool_event (timed_draw draw) ≡ record { stamp = stamp_of draw; event = event_drawn draw })
          → map pool_event (map timed_draw (map (λ (d : DrawnPage). d.draw) pages)) ≡ map drawn_event pages
      mapped [] is = refl
      mapped (d ∷ pages) is = ap (λ (e : StampedPoolEvent). e ∷ map pool_event (map timed_draw (map (λ (d : DrawnPage). d.draw) pages))) (is d.draw) ∙ ap (λ (l : List StampedPoolEvent). drawn_event d ∷ l) (mapped pages is)

  missed_are : (log : List Step) → map pool_event (filter_map timed_miss log) ≡ filter_map missed_event log
  missed_are [] = refl
  missed_are (steps.Missed s ∷ log) = ap (λ (l : List StampedPoolEvent). record { stamp = s; event = events.Missed } ∷ l) (missed_are log)
  missed_are (steps.Chunk c ∷ log) = missed_are log
  missed_are (steps.Crumb c ∷ log) = missed_are log
  missed_are (steps.Trigger c ∷ log) = missed_are log
  missed_are (steps.Ask ∷ log) = missed_are log
  missed_are (steps.Turn ∷ log) = missed_are log
  missed_are (steps.Given s ∷ log) = missed_are log
  missed_are (steps.Unread ∷ log) = missed_are log

-- ---- a followed node

pub lists_are : (W : PlainWorkload) (J : PlainJournal) (i : ℕ) (f : FoundNode) (k : KnownAt W J i f) → drawn_from J (i * W.settings.clients) f.clients.items ≡ drawn_lists k.run.sends
lists_are W J i f k =
    let none : i * W.settings.clients ≡ i * W.settings.clients + 0 = omega arith in
    ap (λ p. drawn_from J p f.clients.items) none
    ∙ lists_from W J i 0 W.settings.clients f.clients.items (subst (λ (l : List ClientSends). AreFound IsFoundClient l f.clients.items) k.sends k.is.clients)
    ∙ sym (ap drawn_lists k.sends)

pub events_are : (W : PlainWorkload) (J : PlainJournal) (i : ℕ) (f : FoundNode) (k : KnownAt W J i f) → map (λ (g : GivenPlace). g.stamp) k.run.state.given ≡ filter_map given_stamp k.run.state.log
    → map pool_event (node_timed (drawn_from J (i * W.settings.clients) f.clients.items) (log_at J i) f.gives.items) ≡ pool_events k.run
events_are W J i f k noted =
    let run = k.run in
    let lists = drawn_lists run.sends in
    let log = run.state.log in
    ap (λ (l : List (List Draw)). map pool_event (node_timed l (log_at J i) f.gives.items)) (lists_are W J i f k)
    ∙ sym (ap (λ (l : List Step). map pool_event (node_timed lists l f.gives.items)) k.log)
    ∙ map-append pool_event (flat_map (map timed_draw) lists ++ timed_gives lists log f.gives.items) (filter_map timed_miss log)
    ∙ ap (λ (l : List StampedPoolEvent). l ++ map pool_event (filter_map timed_miss log)) (map-append pool_event (flat_map (map timed_draw) lists) (timed_gives lists log f.gives.items))
    ∙ ap (λ (l : List StampedPoolEvent). map pool_event (flat_map (map timed_draw) lists) ++ map pool_event (timed_gives lists log f.gives.items) ++ l) (missed_are run log)
    ∙ ap (λ (l : List StampedPoolEvent). map pool_event (flat_map (map timed_draw) lists) ++ l ++ filter_map missed_event log) (gives_are run log run.state.given f.gives.items noted k.is.gives)
    ∙ ap (λ (l : List StampedPoolEvent). l ++ filter_map (given_event run) run.state.given ++ filter_map missed_event log) (drawn_are run run.sends)
