-- The draw whose entry an unread offer would fill is that of a page at the offer's place.
use Rattle.std.proofs.Common.{◌≡◌, inl, inr, ℕ, zero, suc, ◌+◌, ◌-◌, ◌*◌, ◌<◌, ◌≤◌, Bool, true, false, ◌==◌, cond, List, [], ◌∷◌, ◌++◌, length, reverse, refl, sym, ap, subst, ◌∙◌, Option, Some, None, arith, map, filter, option_map, slice_get, take, zip, not, ◌&&◌, nat_lt, nat_le, ltb-true, ltb-false, le-leb, eq-eqb, eqb-true, count_by, append_assoc}
use Rattle.hs_law_run.proofs.Prelude.{AllByRecursion, flat_map, range_with_len, list_any, list_all, and_from, and_parts, length-map, length-append, length-reverse, take-map, map-append, slice_get-map, same_Some, Draw, PlainJournal, noted_as, EventsAddThis, sheets_of, Taken, AgentState, GivenPlace, start, after, after_from, after_event, Sheet, IsUnreadAt, IsPooledUnread, DoingsAreFollowed, PlainSettings, PlainWorkload, DrawnPage, stamp_of, drawn_from, Deed, Answer, answer_to, answers_in, told_in, is_any_given, IsDeedAt, IsDraw, PoolEvent, NodeRun, Run, by_stamp, page_of, given_page, pool_events, round_of, state_behind, is_turn, is_unread, Step, draw_is_at, NodeDoings, all_events, steps_of, journal_of, node_at_end, draw_answer, give_of, give_at, IsPooled, pages_at, ClientId, ClientSends, client_sends, operations_at, draws_at, place_of, TimedPage, timed_pages, log_stamps, rise, rise_above, option_and_then, option_map_or, all_front, all_back, all_each, all_append, all_map, all_at, all_reverse, get_front, list_any_none}
use Rattle.hs_records.specs.declared.journal.Draw.TheVariants as draws
use Rattle.hs_law_agent.specs.Laws.{brought_by}
use Rattle.hs_law_agent.specs.Stepping as stepping
use Rattle.hs_law_run.specs.Unread.{UnreadCouldBe}
use Rattle.hs_law_run.proofs.Clauses.{mapped_true}
use Rattle.hs_client.specs.Drawn.{has_buffer}
use Rattle.hs_words.specs.Ends.{got_by, SpendsThe}
use Rattle.hs_words.specs.PoolHistory as pool
use Rattle.hs_law_journal.specs.Pooled.{node_pages}
use Rattle.hs_law_journal.specs.Unreads.{pages_by_stamp, same_page, is_given_in, is_drawn_past, offer_place, may_be_uncollected, may_be_unread, before_unreads}
use Rattle.hs_words.proofs.Deeds.{at_once}
use Rattle.hs_law_run.proofs.Answers.{at_stamp, own, answers, answers_are, stamps, stamps_rise, drawers}
use Rattle.hs_law_run.proofs.Spent.{of_kept}
use Rattle.hs_law_journal.proofs.ItemsTaken.{sheets_on}
use Rattle.hs_law_journal.proofs.Logs.{above_all, stamps_both}
use Rattle.hs_base.proofs.Alls.{all_filter, all_flat_map}
use Rattle.hs_law_run.proofs.Counted.{below, below_both, below_all, few_below}
use Rattle.hs_law_run.proofs.DrawPlaces.{draws_in_order, draw_at, page_answer, client_pages, pages_in_order, proper, all_pages}
use Rattle.hs_law_run.proofs.Nodes.{own_log}
use Rattle.hs_law_run.proofs.Pools.{pool_is, pool_event, ordered, ordered_long, stamp_same}

abbrev buffer_in : PoolEvent → ℕ
buffer_in (pool.Got buffer) = buffer
buffer_in _ = 0

same_draw : (draw : Draw) (buffer stamp : ℕ) → draw_answer draw ≡ record { stamp = stamp; event = pool.Got buffer; draw = 0 } → draw ≡ draws.Got buffer stamp
same_draw (draws.Got b s) buffer stamp h = ap (λ x. draws.Got x s) (ap (λ (a : Answer). buffer_in a.event) h) ∙ ap (λ x. draws.Got buffer x) (ap (λ (a : Answer). a.stamp) h)
same_draw (draws.Empty s) buffer stamp h = let no : pool.Empty ≡ pool.Got buffer = ap (λ (a : Answer). a.event) h in absurd cc

pub record IsPageOf (run : NodeRun) (number stamp buffer : ℕ) : Type 0 where
  pub page : DrawnPage
  pub there : slice_get (pages_by_stamp run) number ≡ Some page
  pub draw : page.draw ≡ draws.Got buffer stamp

module _ (adds : EventsAddThis) (W : PlainWorkload) (J : PlainJournal) (n : NodeDoings) (p : IsPooled W J n) where
  abbrev run : NodeRun
  run = node_at_end W J n

  long : length (pool_events run) ≡ length p.log
  long = ap length (pool_is adds W J n p) ∙ length-map (ordered W.settings.clients p.log) pool_event ∙ ordered_long W.settings.clients p.log p.nobody_else p.kinds

  in_order : map page_answer (pages_by_stamp run) ≡ draws_in_order W.settings.clients p.log
  in_order =
      pages_in_order (node_pages run) (length (pool_events run))
      ∙ ap (λ list. flat_map (λ s. at_stamp s list) (range_with_len 0 (length (pool_events run)))) (all_pages W J n p)
      ∙ ap (λ bound. flat_map (λ s. at_stamp s (drawers 0 W.settings.clients p.log)) (range_with_len 0 bound)) long

  pub page_there : (number stamp drawer buffer : ℕ) → IsDraw p.log number stamp (got_by drawer buffer) → IsPageOf run number stamp buffer
  page_there number stamp drawer buffer draw =
      let got = draw_at W.settings.clients p.log number stamp (got_by drawer buffer) p.nobody_else (proper W J n p) draw in
      unmapped (slice_get (pages_by_stamp run) number) refl (sym (slice_get-map page_answer (pages_by_stamp run) number) ∙ ap (λ list. slice_get list number) in_order ∙ got)
    where
      unmapped : (o : Option DrawnPage) → slice_get (pages_by_stamp run) number ≡ o → option_map page_answer o ≡ Some (answer_to (got_by drawer buffer) stamp) → IsPageOf run number stamp buffer
      unmapped None is h = let no : None ≡ Some (answer_to (got_by drawer buffer) stamp) = h in absurd cc
      unmapped (Some page) is h = record { page = page; there = is; draw = same_draw page.draw buffer stamp (same_Some (page_answer page) (answer_to (got_by drawer buffer) stamp) h) }

-- ---- lists

all_by_stamp : {X : Type 0} (P : X → Type 0) (stamp : X → ℕ) (bound : ℕ) (xs : List X) → AllByRecursion P xs → AllByRecursion P (by_stamp stamp bound xs)
all_by_stamp P stamp bound xs all = all_flat_map P (λ s. filter (λ x. stamp x == s) xs) (range_with_len 0 bound) (λ s. all_filter P (λ x. stamp x == s) xs all)

record Met {X Y : Type 0} (f : X → Option Y) (o : Option X) (y : Y) : Type 0 where
  met : X
  first : o ≡ Some met
  second : f met ≡ Some y

and_then_met : {X Y : Type 0} (f : X → Option Y) (o : Option X) (y : Y) → option_and_then f o ≡ Some y → Met f o y
and_then_met f None y h = let no : None ≡ Some y = h in absurd cc
and_then_met f (Some x) y h = record { met = x; first = refl; second = h }

rise_tail : (before : ℕ) (list : List ℕ) → rise_above before list ≡ true → rise list ≡ true
rise_tail before [] h = refl
rise_tail before (s ∷ list) h = (and_parts (nat_lt before s) (rise_above s list) h).1

rising : (list : List ℕ) (i j x y : ℕ) → rise list ≡ true → slice_get list i ≡ Some x → slice_get list j ≡ Some y → i < j → x < y
rising [] i j x y r hx hy low = let no : None ≡ Some x = hx in absurd cc
rising (z ∷ list) i zero x y r hx hy low = absurd (omega (arith, low))
rising (z ∷ list) zero (suc j) x y r hx hy low = subst (λ t. t < y) (same_Some z x hx) (all_at (λ s. z < s) list j y (above_all z list r) hy)
rising (z ∷ list) (suc i) (suc j) x y r hx hy low = rising list i j x y (rise_tail z list r) hx hy (omega (arith, low))

none_above : (bound : ℕ) (list : List ℕ) → AllByRecursion (λ s. s < bound) list → list_any (λ s. nat_lt bound s) list ≡ false
none_above bound list all = list_any_none (λ s. nat_lt bound s) list (all_each (λ s. s < bound) (λ s. nat_lt bound s ≡ false) list (λ s low. either s low (nat_lt bound s) refl) all)
  where
    either : (s : ℕ) → s < bound → (b : Bool) → nat_lt bound s ≡ b → b ≡ false
    either s low false h = refl
    either s low true h = let high = ltb-true bound s h in absurd (omega (arith, low, high))

take_front : {X : Type 0} (xs ys : List X) → take (length xs) (xs ++ ys) ≡ xs
take_front [] ys = refl
take_front (x ∷ xs) ys = ap (λ rest. x ∷ rest) (take_front xs ys)

-- ---- pages by client and number

abbrev pub IsThere : PlainWorkload → PlainJournal → ℕ → DrawnPage → Type 0
IsThere W J node page = (page.client.number < W.settings.clients) × (slice_get (client_sends W J node page.client.number).drawn page.number ≡ Some page)

drawn_there : (client : ClientId) (number : ℕ) (pages : List TimedPage) (list : List Draw) (whole : List DrawnPage) → ((i : ℕ) → slice_get whole (number + i) ≡ slice_get (drawn_from client number pages list) i)
    → AllByRecursion (λ (d : DrawnPage). (d.client ≡ client) × (slice_get whole d.number ≡ Some d)) (drawn_from client number pages list)
drawn_there client number [] list whole same = tt
drawn_there client number (timed ∷ pages) [] whole same = tt
drawn_there client number (timed ∷ pages) (draw ∷ list) whole same =
    let zeroth : number ≡ number + 0 = omega arith in (
      (refl, ap (slice_get whole) zeroth ∙ same 0),
      drawn_there client (number + 1) pages list whole (λ i. let more : number + 1 + i ≡ number + suc i = omega arith in ap (slice_get whole) more ∙ same (suc i)),
    )

client_there : (W : PlainWorkload) (J : PlainJournal) (node client : ℕ) → client < W.settings.clients → AllByRecursion (IsThere W J node) (client_sends W J node client).drawn
client_there W J node client low =
    let place = place_of W.settings.clients node client in
    let id : ClientId = record { node = node; number = client } in
    let whole = (client_sends W J node client).drawn in
    all_each (λ (d : DrawnPage). (d.client ≡ id) × (slice_get whole d.number ≡ Some d)) (IsThere W J node) whole
    (λ d h. let same : d.client.number ≡ client = ap (λ (c : ClientId). c.number) h.0 in (
      omega (arith, same, low),
      ap (λ c. slice_get (client_sends W J node c).drawn d.number) same ∙ h.1,
    ))
    (drawn_there id 0 (timed_pages W.settings.size (operations_at W place)) (draws_at J place) whole (λ i. let zeroth : 0 + i ≡ i = omega arith in ap (slice_get whole) zeroth))

clients_there : (W : PlainWorkload) (J : PlainJournal) (node start count : ℕ) → start + count ≤ W.settings.clients
    → AllByRecursion (IsThere W J node) (flat_map (λ (sends : ClientSends). sends.drawn) (map (client_sends W J node) (range_with_len start count)))
clients_there W J node start zero few = tt
clients_there W J node start (suc count) few =
    all_append (IsThere W J node) (client_sends W J node start).drawn (flat_map (λ (sends : ClientSends). sends.drawn) (map (client_sends W J node) (range_with_len (start + 1) count)))
    (client_there W J node start (omega (arith, few))) (clients_there W J node (start + 1) count (omega (arith, few)))

pub all_there : (W : PlainWorkload) (J : PlainJournal) (node : ℕ) → AllByRecursion (IsThere W J node) (pages_at W J node)
all_there W J node = clients_there W J node 0 W.settings.clients (omega arith)

in_flat : (P : DrawnPage → Type 0) (list : List ClientSends) (c k : ℕ) (sends : ClientSends) (d : DrawnPage) → AllByRecursion P (flat_map (λ (sends : ClientSends). sends.drawn) list) → slice_get list c ≡ Some sends → slice_get sends.drawn k ≡ Some d → P d
in_flat P [] c k sends d all h g = let no : None ≡ Some sends = h in absurd cc
in_flat P (s ∷ list) zero k sends d all h g = all_at P s.drawn k d (all_front P s.drawn (flat_map (λ (sends : ClientSends). sends.drawn) list) all) (ap (λ (t : ClientSends). slice_get t.drawn k) (same_Some s sends h) ∙ g)
in_flat P (s ∷ list) (suc c) k sends d all h g = in_flat P list c k sends d (all_back P s.drawn (flat_map (λ (sends : ClientSends). sends.drawn) list) all) h g

-- ---- the agent behind the first events

after_both : (settings : PlainSettings) (node : ℕ) (some more : List stepping.AgentEvent) (state : AgentState) → after_from settings node state (some ++ more) ≡ after_from settings node (after_from settings node state some) more
after_both settings node [] more state = refl
after_both settings node (event ∷ some) more state = after_both settings node some more (after_event settings node state event)

abbrev brought : List stepping.AgentEvent → List Sheet
brought events = flat_map brought_by events

by_sheet : (run : NodeRun) (state : AgentState) (place : ℕ) → given_page run state place ≡ option_and_then (page_of run) (slice_get (sheets_of state.taken) place)
by_sheet run state place = either (slice_get state.taken place) ∙ ap (option_and_then (page_of run)) (sym (slice_get-map (λ (chunk : Taken). chunk.sheet) state.taken place))
  where
    either : (o : Option Taken) → option_and_then (λ (chunk : Taken). page_of run chunk.sheet) o ≡ option_and_then (page_of run) (option_map (λ (chunk : Taken). chunk.sheet) o)
    either None = refl
    either (Some chunk) = refl

none_equal : (stamp : ℕ) (list : List ℕ) → AllByRecursion (λ told. told ≡ stamp → ⊥) list → list_any (λ told. told == stamp) list ≡ false
none_equal stamp list all = list_any_none (λ told. told == stamp) list (all_each (λ told. told ≡ stamp → ⊥) (λ told. (told == stamp) ≡ false) list (λ told differs. either told differs (told == stamp) refl) all)
  where
    either : (told : ℕ) → (told ≡ stamp → ⊥) → (b : Bool) → (told == stamp) ≡ b → b ≡ false
    either told differs false h = refl
    either told differs true h = absurd (differs (eqb-true told stamp h))

-- an answer of an end is one to a deed of its own
record IsOwned (log : List Deed) (end : ℕ) (a : Answer) : Type 0 where
  deed : Deed
  at : IsDeedAt log a.stamp deed
  by : deed.by ≡ end

owned : (end : ℕ) (log : List Deed) → AllByRecursion (IsOwned log end) (answers end log)
owned end [] = tt
owned end (deed ∷ earlier) =
    all_append (IsOwned (deed ∷ earlier) end) (answers end earlier) (own (deed.by == end) (answer_to deed (length earlier)))
    (all_each (IsOwned earlier end) (IsOwned (deed ∷ earlier) end) (answers end earlier) (λ a o. record { deed = o.deed; at = inr o.at; by = o.by }) (owned end earlier)) (last (deed.by == end) refl)
  where
    last : (b : Bool) → (deed.by == end) ≡ b → AllByRecursion (IsOwned (deed ∷ earlier) end) (own b (answer_to deed (length earlier)))
    last true is = (record { deed = deed; at = inl (refl, refl); by = eqb-true deed.by end is }, tt)
    last false is = tt

-- ---- one offer that is unread

module _ (adds : EventsAddThis) (W : PlainWorkload) (J : PlainJournal) (n : NodeDoings) (p : IsPooled W J n) (before behind : List stepping.AgentEvent) (split : all_events n ≡ before ++ behind) (some_buffers : 0 < W.settings.buffers) (u : IsUnreadAt W J n p before) where
  abbrev at_end : NodeRun
  at_end = node_at_end W J n

  abbrev then : AgentState
  then = after W.settings n.node before

  found : IsPageOf at_end u.unread.number u.unread.stamp u.unread.buffer
  found = page_there adds W J n p u.unread.number u.unread.stamp u.unread.drawer u.unread.buffer u.unread.draw

  abbrev page : DrawnPage
  page = found.page

  of_page : (P : DrawnPage → Type 0) → AllByRecursion P (pages_at W J n.node) → P page
  of_page P all = all_at P (pages_by_stamp at_end) u.unread.number page (all_by_stamp P (λ (d : DrawnPage). stamp_of d.draw) (length (pool_events at_end)) (pages_at W J n.node) all) found.there

  there : IsThere W J n.node page
  there = of_page (IsThere W J n.node) (all_there W J n.node)

  stamp_is : stamp_of page.draw ≡ u.unread.stamp
  stamp_is = ap stamp_of found.draw

  -- what was given by then is given in the end
  still : (place : ℕ) (other : DrawnPage) → given_page at_end then place ≡ Some other → given_page at_end at_end.state place ≡ Some other
  still place other h =
      let met = and_then_met (page_of at_end) (slice_get (sheets_of then.taken) place) other (sym (by_sheet at_end then place) ∙ h) in
      let sheets : sheets_of at_end.state.taken ≡ sheets_of then.taken ++ brought behind =
      ap (λ events. sheets_of (after W.settings n.node events).taken) split
      ∙ ap (λ (state : AgentState). sheets_of state.taken) (after_both W.settings n.node before behind (start W.settings))
      ∙ sheets_on adds W.settings n.node behind then
      in
      by_sheet at_end at_end.state place
      ∙ ap (λ list. option_and_then (page_of at_end) (slice_get list place)) sheets
      ∙ ap (option_and_then (page_of at_end)) (get_front (sheets_of then.taken) (brought behind) place met.met met.first)
      ∙ met.second

  page_same : (other : DrawnPage) → IsThere W J n.node other → same_page page other ≡ true → other ≡ page
  page_same other o same =
      let parts = and_parts (page.client.number == other.client.number) (page.number == other.number) same in
      let client = eqb-true page.client.number other.client.number parts.0 in
      let number = eqb-true page.number other.number parts.1 in
      same_Some other page
      (sym o.1
      ∙ ap (λ c. slice_get (client_sends W J n.node c).drawn other.number) (sym client)
      ∙ ap (λ k. slice_get (client_sends W J n.node page.client.number).drawn k) (sym number)
      ∙ there.1)

  other_there : (place : ℕ) (other : DrawnPage) → given_page at_end then place ≡ Some other → IsThere W J n.node other
  other_there place other h =
      let chunk = and_then_met (λ (chunk : Taken). page_of at_end chunk.sheet) (slice_get then.taken place) other h in
      let sheet = chunk.met.sheet in
      let sends = and_then_met (λ (sends : ClientSends). slice_get sends.drawn sheet.header.page) (slice_get at_end.sends sheet.header.client.number) other chunk.second in
      in_flat (IsThere W J n.node) at_end.sends sheet.header.client.number sheet.header.page sends.met other (all_there W J n.node) sends.first sends.second

  abbrev IsUnspent : Answer → Type 0
  IsUnspent a = SpendsThe u.unread.stamp a.event a.draw → ⊥

  not_given : is_given_in at_end then page ≡ false
  not_given =
      list_any_none (λ (given : GivenPlace). option_map_or (same_page page) (given_page at_end then given.place) false) then.given
      (all_each (λ (given : GivenPlace). (a : Answer) → give_at at_end given ≡ Some a → IsUnspent a) (λ (given : GivenPlace). option_map_or (same_page page) (given_page at_end then given.place) false ≡ false) then.given
      (λ given none. either given none (given_page at_end then given.place) refl)
      (of_kept IsUnspent (give_at at_end) then.given
      (subst (AllByRecursion IsUnspent) (sym u.gives) (all_filter IsUnspent (λ (a : Answer). is_any_given a.event) (reverse (answers_in u.turns)) (all_reverse IsUnspent (answers_in u.turns) u.unread.unspent)))))
    where
      either : (given : GivenPlace) → ((a : Answer) → give_at at_end given ≡ Some a → IsUnspent a) → (o : Option DrawnPage) → given_page at_end then given.place ≡ o → option_map_or (same_page page) o false ≡ false
      either given none None is = refl
      either given none (Some other) is = by_same (same_page page other) refl
        where
          by_same : (b : Bool) → same_page page other ≡ b → b ≡ false
          by_same false same = refl
          by_same true same =
              let draw : other.draw ≡ draws.Got u.unread.buffer u.unread.stamp = ap (λ (d : DrawnPage). d.draw) (page_same other (other_there given.place other is) same) ∙ found.draw in
              let give = ap (option_and_then (λ (page : DrawnPage). give_of given.stamp page.draw)) (still given.place other is) ∙ ap (give_of given.stamp) draw in
              absurd (none (record { stamp = given.stamp; event = pool.Given u.unread.buffer; draw = u.unread.stamp }) give refl)

  record IsLater (d : DrawnPage) : Type 0 where
    deed : Deed
    at : IsDeedAt p.log (stamp_of d.draw) deed
    by : deed.by ≡ u.unread.drawer
    above : u.unread.stamp < stamp_of d.draw

  later : (d : DrawnPage) → IsThere W J n.node d → d.client.number ≡ page.client.number → page.number < d.number → IsLater d
  later d o client low =
      let c = page.client.number in
      let list = answers (suc c) p.log in
      let drawn = (client_sends W J n.node c).drawn in
      let pages = client_pages W J n p c there.0 in
      let here : slice_get list page.number ≡ Some (page_answer page) = ap (λ l. slice_get l page.number) (sym pages) ∙ slice_get-map page_answer drawn page.number ∙ ap (option_map page_answer) there.1 in
      let that : slice_get list d.number ≡ Some (page_answer d) =
      ap (λ l. slice_get l d.number) (sym pages) ∙ slice_get-map page_answer drawn d.number ∙ ap (option_map page_answer) (ap (λ k. slice_get (client_sends W J n.node k).drawn d.number) (sym client) ∙ o.1)
      in
      let mine = all_at (IsOwned p.log (suc c)) list page.number (page_answer page) (owned (suc c) p.log) here in
      let its = all_at (IsOwned p.log (suc c)) list d.number (page_answer d) (owned (suc c) p.log) that in
      let stamp : (page_answer page).stamp ≡ u.unread.stamp = stamp_same page.draw ∙ stamp_is in
      let once = at_once p.log u.unread.stamp (got_by u.unread.drawer u.unread.buffer) mine.deed (draw_is_at p.log u.unread.number u.unread.stamp (got_by u.unread.drawer u.unread.buffer) u.unread.draw) (subst (λ s. IsDeedAt p.log s mine.deed) stamp mine.at) in
      let drawer : u.unread.drawer ≡ suc c = ap (λ (d : Deed). d.by) once ∙ mine.by in
      let first : slice_get (stamps list) page.number ≡ Some (page_answer page).stamp = slice_get-map (λ (a : Answer). a.stamp) list page.number ∙ ap (option_map (λ (a : Answer). a.stamp)) here in
      let second : slice_get (stamps list) d.number ≡ Some (page_answer d).stamp = slice_get-map (λ (a : Answer). a.stamp) list d.number ∙ ap (option_map (λ (a : Answer). a.stamp)) that in
      let less = rising (stamps list) page.number d.number (page_answer page).stamp (page_answer d).stamp (stamps_rise (suc c) p.log) first second low in
      record {
        deed = its.deed;
        at = subst (λ s. IsDeedAt p.log s its.deed) (stamp_same d.draw) its.at;
        by = its.by ∙ sym drawer;
        above = subst (λ s. u.unread.stamp < s) (stamp_same d.draw) (subst (λ s. s < (page_answer d).stamp) stamp less);
      }

  abbrev offered_by : List ℕ
  offered_by = log_stamps (steps_of before)

  not_past : is_drawn_past at_end offered_by page ≡ false
  not_past =
      list_any_none (λ (d : DrawnPage). d.client.number == page.client.number && nat_lt page.number d.number && list_any (λ s. nat_lt (stamp_of d.draw) s) offered_by) (pages_at W J n.node)
      (all_each (IsThere W J n.node) (λ (d : DrawnPage). (d.client.number == page.client.number && nat_lt page.number d.number && list_any (λ s. nat_lt (stamp_of d.draw) s) offered_by) ≡ false) (pages_at W J n.node)
      (λ d o. either d o (d.client.number == page.client.number && nat_lt page.number d.number && list_any (λ s. nat_lt (stamp_of d.draw) s) offered_by) refl) (all_there W J n.node))
    where
      either : (d : DrawnPage) → IsThere W J n.node d → (b : Bool) → (d.client.number == page.client.number && nat_lt page.number d.number && list_any (λ s. nat_lt (stamp_of d.draw) s) offered_by) ≡ b → b ≡ false
      either d o false is = refl
      either d o true is =
          let outer = and_parts (d.client.number == page.client.number && nat_lt page.number d.number) (list_any (λ s. nat_lt (stamp_of d.draw) s) offered_by) is in
          let inner = and_parts (d.client.number == page.client.number) (nat_lt page.number d.number) outer.0 in
          let next = later d o (eqb-true d.client.number page.client.number inner.0) (ltb-true page.number d.number inner.1) in
          let below = u.unread.last (stamp_of d.draw) next.deed next.at next.by next.above in
          let each = subst (AllByRecursion (λ s. s < stamp_of d.draw)) (sym u.stamps) (all_map (λ s. s < stamp_of d.draw) (λ (a : Answer). a.stamp) (reverse (answers_in u.turns)) (all_reverse (λ (a : Answer). a.stamp < stamp_of d.draw) (answers_in u.turns) below)) in
          let no : false ≡ true = sym (none_above (stamp_of d.draw) offered_by each) ∙ outer.1 in absurd cc

  in_round : (round_of W.settings.stride page.started == count_by is_turn (steps_of before)) ≡ true
  in_round = eq-eqb (round_of W.settings.stride page.started) (count_by is_turn (steps_of before)) (either (nat_lt (round_of W.settings.stride page.started) (count_by is_turn (steps_of before))) refl)
    where
      most : round_of W.settings.stride page.started ≤ count_by is_turn (steps_of before)
      most = early (nat_lt (count_by is_turn (steps_of before)) (round_of W.settings.stride page.started)) refl
        where
          early : (b : Bool) → nat_lt (count_by is_turn (steps_of before)) (round_of W.settings.stride page.started) ≡ b → round_of W.settings.stride page.started ≤ count_by is_turn (steps_of before)
          early false is = ltb-false (count_by is_turn (steps_of before)) (round_of W.settings.stride page.started) is
          early true is =
              let all = of_page (λ (page : DrawnPage). count_by is_turn (steps_of before) < round_of W.settings.stride page.started → AllByRecursion (λ stamp. stamp < stamp_of page.draw) offered_by) u.above (ltb-true (count_by is_turn (steps_of before)) (round_of W.settings.stride page.started) is) in
              let low = subst (λ s. AllByRecursion (λ stamp. stamp < s) offered_by) stamp_is all in
              let each = below_all u.unread.stamp offered_by low in
              let whole : stamps (answers 0 p.log) ≡ offered_by ++ log_stamps (steps_of behind) =
              sym (p.stamps ∙ ap stamps (answers_are 0 p.log)) ∙ ap (λ events. log_stamps (steps_of events)) split ∙ ap log_stamps (map-append noted_as before behind) ∙ stamps_both (steps_of before) (steps_of behind)
              in
              let parts = ap (below u.unread.stamp) whole ∙ below_both u.unread.stamp offered_by (log_stamps (steps_of behind)) in
              let few = few_below W.settings.buffers p.log u.unread.number u.unread.stamp (got_by u.unread.drawer u.unread.buffer) p.lawful (proper W J n p) u.unread.draw in
              let many = ap length u.stamps ∙ length-map (reverse (answers_in u.turns)) (λ (a : Answer). a.stamp) ∙ length-reverse (answers_in u.turns) in
              let laps = u.unread.laps in
              let some = some_buffers in
              absurd (omega (arith, each, parts, few, many, laps, some))

      either : (b : Bool) → nat_lt (round_of W.settings.stride page.started) (count_by is_turn (steps_of before)) ≡ b → round_of W.settings.stride page.started ≡ count_by is_turn (steps_of before)
      either true is =
          let low = ltb-true (round_of W.settings.stride page.started) (count_by is_turn (steps_of before)) is in
          let told = of_page (λ (page : DrawnPage). round_of W.settings.stride page.started < count_by is_turn (steps_of before) → list_any (λ told. told == stamp_of page.draw) (told_in u.turns) ≡ true) u.told low in
          let no : false ≡ true = sym (none_equal u.unread.stamp (told_in u.turns) u.unread.untold) ∙ ap (λ s. list_any (λ told. told == s) (told_in u.turns)) (sym stamp_is) ∙ told in absurd cc
      either false is =
          let low = ltb-false (round_of W.settings.stride page.started) (count_by is_turn (steps_of before)) is in
          let high = most in omega (arith, low, high)

  behind_it : state_behind W.settings at_end (length (steps_of before)) ≡ then
  behind_it =
      ap (λ events. after W.settings n.node events)
      (ap (λ k. take k (all_events n)) (length-map before noted_as) ∙ ap (take (length before)) split ∙ take_front before behind)

  uncollected : may_be_uncollected W.settings at_end (steps_of before) page ≡ true
  uncollected =
      let given = ap (λ (state : AgentState). not (is_given_in at_end state page)) behind_it ∙ ap not not_given in
      let past = ap not not_past in
      and_from (has_buffer page.draw && not (is_given_in at_end (state_behind W.settings at_end (length (steps_of before))) page) && not (is_drawn_past at_end offered_by page)) (round_of W.settings.stride page.started == count_by is_turn (steps_of before))
      (and_from (has_buffer page.draw && not (is_given_in at_end (state_behind W.settings at_end (length (steps_of before))) page)) (not (is_drawn_past at_end offered_by page))
      (and_from (has_buffer page.draw) (not (is_given_in at_end (state_behind W.settings at_end (length (steps_of before))) page)) (ap has_buffer found.draw) given) past) in_round

  pub could_be : may_be_unread W.settings at_end (steps_of before) ≡ true
  could_be =
      let long = ap length u.stamps ∙ length-map (reverse (answers_in u.turns)) (λ (a : Answer). a.stamp) ∙ length-reverse (answers_in u.turns) in
      let laps = u.unread.laps in
      let place : offer_place W.settings (steps_of before) ≡ u.unread.number + 2 * W.settings.buffers = omega (arith, long, laps) in
      let number : offer_place W.settings (steps_of before) - 2 * W.settings.buffers ≡ u.unread.number = omega (arith, place) in
      and_from (nat_le (2 * W.settings.buffers) (offer_place W.settings (steps_of before)))
      (option_map_or (may_be_uncollected W.settings at_end (steps_of before)) (slice_get (pages_by_stamp at_end) (offer_place W.settings (steps_of before) - 2 * W.settings.buffers)) false)
      (le-leb (2 * W.settings.buffers) (offer_place W.settings (steps_of before)) (omega (arith, place)))
      (ap (λ k. option_map_or (may_be_uncollected W.settings at_end (steps_of before)) (slice_get (pages_by_stamp at_end) k) false) number
      ∙ ap (λ o. option_map_or (may_be_uncollected W.settings at_end (steps_of before)) o false) found.there
      ∙ uncollected)

-- ---- all offers that are unread

is_gave : (e : stepping.AgentEvent) → is_unread (noted_as e) ≡ true → e ≡ stepping.Gave stepping.Unread
is_gave (stepping.Took (stepping.Chunk c sheet)) h = let no : false ≡ true = h in absurd cc
is_gave (stepping.Took (stepping.Crumbed c crumb)) h = let no : false ≡ true = h in absurd cc
is_gave (stepping.Took (stepping.Triggered c trigger)) h = let no : false ≡ true = h in absurd cc
is_gave (stepping.Took (stepping.Asked ask)) h = let no : false ≡ true = h in absurd cc
is_gave (stepping.Took stepping.Turn) h = let no : false ≡ true = h in absurd cc
is_gave (stepping.Gave (stepping.Given stamp)) h = let no : false ≡ true = h in absurd cc
is_gave (stepping.Gave (stepping.Missed stamp)) h = let no : false ≡ true = h in absurd cc
is_gave (stepping.Gave stepping.Unread) h = refl

each_asked : (P : List Step → Bool) (whole events : List stepping.AgentEvent) (start : ℕ) (front : List stepping.AgentEvent) → whole ≡ front ++ events → length front ≡ start
    → ((before behind : List stepping.AgentEvent) → whole ≡ before ++ stepping.Gave stepping.Unread ∷ behind → P (steps_of before) ≡ true)
    → list_all P (map (λ (at : ℕ × Step). take at.0 (steps_of whole)) (filter (λ (at : ℕ × Step). is_unread at.1) (zip (range_with_len start (length (steps_of events))) (steps_of events)))) ≡ true
each_asked P whole [] start front is long each = refl
each_asked P whole (e ∷ events) start front is long each =
    either (is_unread (noted_as e)) refl
    (each_asked P whole events (start + 1) (front ++ e ∷ []) (is ∙ sym (append_assoc front (e ∷ []) events)) (let more = length-append front (e ∷ []) in omega (arith, more, long)) each)
  where
    taken : take start (steps_of whole) ≡ steps_of front
    taken = take-map noted_as start whole ∙ ap (map noted_as) (ap (take start) is ∙ ap (λ k. take k (front ++ e ∷ events)) (sym long) ∙ take_front front (e ∷ events))

    either : (b : Bool) → is_unread (noted_as e) ≡ b → list_all P (map (λ (at : ℕ × Step). take at.0 (steps_of whole)) (filter (λ (at : ℕ × Step). is_unread at.1) (zip (range_with_len (start + 1) (length (steps_of events))) (steps_of events)))) ≡ true
        → list_all P (map (λ (at : ℕ × Step). take at.0 (steps_of whole)) (cond b ((start, noted_as e) ∷ (filter (λ (at : ℕ × Step). is_unread at.1) (zip (range_with_len (start + 1) (length (steps_of events))) (steps_of events)))) (filter (λ (at : ℕ × Step). is_unread at.1) (zip (range_with_len (start + 1) (length (steps_of events))) (steps_of events))))) ≡ true
    either false is_no h = h
    either true is_yes h =
        and_from (P (take start (steps_of whole))) (list_all P (map (λ (at : ℕ × Step). take at.0 (steps_of whole)) (filter (λ (at : ℕ × Step). is_unread at.1) (zip (range_with_len (start + 1) (length (steps_of events))) (steps_of events)))))
        (ap P taken ∙ each front events (is ∙ ap (λ x. front ++ x ∷ events) (is_gave e is_yes))) h

abbrev asked_at : PlainWorkload → NodeRun → Bool
asked_at W run = list_all (may_be_unread W.settings run) (before_unreads run.state.log)

nodes_could : EventsAddThis → (W : PlainWorkload) (J : PlainJournal) (ns : List NodeDoings) → 0 < W.settings.buffers → AllByRecursion (IsPooledUnread W J) ns → AllByRecursion (λ (n : NodeDoings). asked_at W (node_at_end W J n) ≡ true) ns
nodes_could adds W J [] some_buffers all = tt
nodes_could adds W J (n ∷ ns) some_buffers all = (
  ap (λ log. list_all (may_be_unread W.settings (node_at_end W J n)) (before_unreads log)) (own_log adds W.settings n.node (all_events n))
      ∙ each_asked (may_be_unread W.settings (node_at_end W J n)) (all_events n) (all_events n) 0 [] refl refl
      (λ before behind split. could_be adds W J n all.0.pool before (stepping.Gave stepping.Unread ∷ behind) split some_buffers (all.0.each before behind split)),
  nodes_could adds W J ns some_buffers all.1,
)

pub unreads_could : DoingsAreFollowed → EventsAddThis → UnreadCouldBe
unreads_could follows adds W d some_buffers facts pooled =
    ap (λ (run : Run). list_all (asked_at W) run.nodes) (follows W d facts) ∙ mapped_true (asked_at W) (node_at_end W (journal_of W d)) d.nodes (nodes_could adds W (journal_of W d) d.nodes some_buffers pooled)
