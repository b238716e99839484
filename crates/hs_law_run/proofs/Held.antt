-- Each piece of the schedule keeps what is held: a client draws with the next stamps, an agent takes only what was sent, and what it
-- gives bears the next stamps.
use Rattle.std.proofs.Common.{◌≡◌, ℕ, zero, suc, ◌+◌, ◌<◌, ◌≤◌, Bool, true, false, cond, List, [], ◌∷◌, ◌++◌, length, refl, sym, ap, subst, ◌∙◌, Option, Some, None, arith, map, filter, filter_map, option_map, slice_get, eqb, eq-eqb, append-nil}
use Rattle.hs_law_run.proofs.Prelude.{cons_option, option_and_then, option_map_or, slice_get-map, same_Some, option_unmap, one_if, count_cons, count_append, Messages, Draw, Step, count_of, PlacesMatch, ListsHaveTheirChunks, sheets_of, brought_by, noted_as, EventsAddThis, Taken, stands, AgentState, GivenPlace, Input, Chunk, Crumbed, Triggered, Asked, Turn, AgentEvent, Took, Gave, after_event, PlainSettings, DrawnPage, has_buffer, Sent, ClientSends, sheet_of, sent_chunks, Sheet, Chunks, Crumbs, Triggers, Asks, taken, takes, asks_to, NodeRun, next_of, event_of, perform, ComesByEvents, is_offer, StampedPoolEvent, drawn_event, buffer_of, page_of, given_page, missed_event, node_pages, pool_events, step_stamp}
use Rattle.hs_records.specs.declared.journal.Draw.TheVariants as draws
use Rattle.hs_records.specs.declared.journal.Step.TheVariants as steps
use Rattle.hs_law_agent.specs.Laws.{given_places, EventsGoOn}
use Rattle.hs_law_agent.specs.Standings.{is_let_go}
use Rattle.hs_law_agent.specs.Stepping as model
use Rattle.hs_law_journal.specs.Pooled.{given_buffer, given_event}
use Rattle.hs_law_run.proofs.Holding.{given_as, event_at, gives_in, events_in, IsDrawn, ClientHolds, Holds, Adds, same_events, takes_keep, given_drawn, now_is, gives_keep, given_longer}

-- ---- a node

abbrev pub node_events : NodeRun → List StampedPoolEvent
node_events run = events_in run.sends (sheets_of run.state.taken) run.state.given

abbrev pub HoldsAt : PlainSettings → NodeRun → Type 0
HoldsAt settings run = Holds settings.buffers run.sends (sheets_of run.state.taken) run.state.given run.state.log

pub record IsHeld (settings : PlainSettings) (run : NodeRun) : Type 0 where
  pub comes : ComesByEvents settings run
  pub holds : HoldsAt settings run

-- ---- the events of its pool

pub sheet_at : {X : Type 0} (f : Sheet → Option X) (taken : List Taken) (place : ℕ) → option_and_then (λ (chunk : Taken). f chunk.sheet) (slice_get taken place) ≡ option_and_then f (slice_get (sheets_of taken) place)
sheet_at {X = X} f taken place = same (slice_get taken place) ∙ ap (option_and_then f) (sym (slice_get-map (λ (chunk : Taken). chunk.sheet) taken place))
  where
    same : (o : Option Taken) → option_and_then (λ (chunk : Taken). f chunk.sheet) o ≡ option_and_then f (option_map (λ (chunk : Taken). chunk.sheet) o)
    same None = refl
    same (Some chunk) = refl

gives_are : (run : NodeRun) (givens : List GivenPlace) → filter_map (given_event run) givens ≡ gives_in run.sends (sheets_of run.state.taken) givens
gives_are run [] = refl
gives_are run (g ∷ givens) =
    ap (λ o. cons_option (option_map (given_as g.stamp) (option_and_then (λ (d : DrawnPage). buffer_of d.draw) o)) (filter_map (given_event run) givens))
    (sheet_at (page_of run) run.state.taken g.place)
    ∙ ap (cons_option (event_at run.sends (sheets_of run.state.taken) g)) (gives_are run givens)

pub pool_is : (run : NodeRun) → filter_map missed_event run.state.log ≡ [] → pool_events run ≡ node_events run
pool_is run none =
    ap (λ (missed : List StampedPoolEvent). map drawn_event (node_pages run) ++ filter_map (given_event run) run.state.given ++ missed) none
    ∙ append-nil (map drawn_event (node_pages run) ++ filter_map (given_event run) run.state.given)
    ∙ ap (λ (gives : List StampedPoolEvent). map drawn_event (node_pages run) ++ gives) (gives_are run run.state.given)

-- ---- what was sent

-- a chunk that was sent is of a page with a buffer
record SentPage (drawn : List DrawnPage) (item : Sent Sheet) : Type 0 where
  place : ℕ
  page : DrawnPage
  buffer : ℕ
  stamp : ℕ
  there : slice_get drawn place ≡ Some page
  got : page.draw ≡ draws.Got buffer stamp
  is : item.item ≡ sheet_of page

abbrev item_of : DrawnPage → Sent Sheet
item_of d = record { number = d.sent; item = sheet_of d }

abbrev kept_pages : List DrawnPage → List DrawnPage
kept_pages drawn = filter (λ (d : DrawnPage). has_buffer d.draw) drawn

later_page : (d : DrawnPage) (drawn : List DrawnPage) (item : Sent Sheet) → SentPage drawn item → SentPage (d ∷ drawn) item
later_page d drawn item s = record { place = suc s.place; page = s.page; buffer = s.buffer; stamp = s.stamp; there = s.there; got = s.got; is = s.is }

first_page : (d : DrawnPage) (drawn : List DrawnPage) (item : Sent Sheet) (draw : Draw) → d.draw ≡ draw → has_buffer draw ≡ true → item_of d ≡ item → SentPage (d ∷ drawn) item
first_page d drawn item (draws.Got buffer stamp) e got is = record { place = 0; page = d; buffer = buffer; stamp = stamp; there = refl; got = e; is = ap (λ (s : Sent Sheet). s.item) (sym is) }
first_page d drawn item (draws.Empty stamp) e got is = let no : false ≡ true = got in absurd cc

sent_case : (d : DrawnPage) (drawn : List DrawnPage) (n : ℕ) (item : Sent Sheet) (b : Bool) → has_buffer d.draw ≡ b → ((n : ℕ) → slice_get (sent_chunks drawn) n ≡ Some item → SentPage drawn item)
    → slice_get (map item_of (cond b (d ∷ kept_pages drawn) (kept_pages drawn))) n ≡ Some item → SentPage (d ∷ drawn) item
sent_case d drawn zero item true got on h = first_page d drawn item d.draw refl got (same_Some (item_of d) item h)
sent_case d drawn (suc n) item true got on h = later_page d drawn item (on n h)
sent_case d drawn n item false got on h = later_page d drawn item (on n h)

sent_page : (drawn : List DrawnPage) (n : ℕ) (item : Sent Sheet) → slice_get (sent_chunks drawn) n ≡ Some item → SentPage drawn item
sent_page [] n item h = let no : None ≡ Some item = h in absurd cc
sent_page (d ∷ drawn) n item h = sent_case d drawn n item (has_buffer d.draw) refl (λ n h. sent_page drawn n item h) h

abbrev Numbered : ℕ → List DrawnPage → Type 0
Numbered from drawn = (k : ℕ) (d : DrawnPage) → slice_get drawn k ≡ Some d → d.number ≡ from + k

numbered_rest : (from : ℕ) (d : DrawnPage) (drawn : List DrawnPage) → Numbered from (d ∷ drawn) → Numbered (from + 1) drawn
numbered_rest from d drawn numbers k e h = let n = numbers (suc k) e h in omega (arith, n)

-- what was sent later has a higher number
rise_case : (d : DrawnPage) (drawn : List DrawnPage) (from k j : ℕ) (x y : Sent Sheet) (b : Bool) → has_buffer d.draw ≡ b → Numbered from (d ∷ drawn)
    → ((k j : ℕ) → k < j → slice_get (sent_chunks drawn) k ≡ Some x → slice_get (sent_chunks drawn) j ≡ Some y → x.item.header.page < y.item.header.page) → k < j
    → slice_get (map item_of (cond b (d ∷ kept_pages drawn) (kept_pages drawn))) k ≡ Some x → slice_get (map item_of (cond b (d ∷ kept_pages drawn) (kept_pages drawn))) j ≡ Some y → x.item.header.page < y.item.header.page
rise_case d drawn from k j x y false e numbers on low h g = on k j low h g
rise_case d drawn from k zero x y true e numbers on low h g = absurd (omega (arith, low))
rise_case d drawn from zero (suc j) x y true e numbers on low h g =
    let first = numbers 0 d refl in
    let s = sent_page drawn j y g in
    let later = numbers (suc s.place) s.page s.there in
    let x_is = ap (λ (s : Sent Sheet). s.item.header.page) (same_Some (item_of d) x h) in
    let y_is = ap (λ (s : Sheet). s.header.page) s.is in
    omega (arith, first, later, x_is, y_is)
rise_case d drawn from (suc k) (suc j) x y true e numbers on low h g = on k j (omega (arith, low)) h g

chunks_rise : (drawn : List DrawnPage) (from k j : ℕ) (x y : Sent Sheet) → Numbered from drawn → k < j → slice_get (sent_chunks drawn) k ≡ Some x → slice_get (sent_chunks drawn) j ≡ Some y
    → x.item.header.page < y.item.header.page
chunks_rise [] from k j x y numbers low h g = let no : None ≡ Some x = h in absurd cc
chunks_rise (d ∷ drawn) from k j x y numbers low h g =
    rise_case d drawn from k j x y (has_buffer d.draw) refl numbers (λ k j low h g. chunks_rise drawn (from + 1) k j x y (numbered_rest from d drawn numbers) low h g) low h g

-- ---- an agent takes

none_added : (sends : List ClientSends) (sheets : List Sheet) (log : List Step) (step : Step) → Adds sends sheets log [] step
none_added sends sheets log step =
    record {
      few = omega arith;
      drawn = λ q sheet h. let no : None ≡ Some sheet = h in absurd cc;
      apart = λ p q a b f h same. let no : None ≡ Some b = h in absurd cc;
      ahead = λ client s there j item most at q sheet h own. let no : None ≡ Some sheet = h in absurd cc;
    }

module _ (n : ℕ) (sends : List ClientSends) (sheets : List Sheet) (given : List GivenPlace) (log : List Step) (h : Holds n sends sheets given log) (client : ℕ) (s : ClientSends) (there : slice_get sends client ≡ Some s) (item : Sent Sheet)
    (next : slice_get s.chunks (taken (Chunks client) log) ≡ Some item)
  where
    holds : ClientHolds n sends sheets given log client s
    holds = h.clients client s there

    next_sent : slice_get (sent_chunks s.drawn) (taken (Chunks client) log) ≡ Some item
    next_sent = ap (λ (items : List (Sent Sheet)). slice_get items (taken (Chunks client) log)) (sym holds.chunks) ∙ next

    sent : SentPage s.drawn item
    sent = sent_page s.drawn (taken (Chunks client) log) item next_sent

    client_is : item.item.header.client.number ≡ client
    client_is = ap (λ (s : Sheet). s.header.client.number) sent.is ∙ holds.own sent.place sent.page sent.there

    page_is : item.item.header.page ≡ sent.place
    page_is = ap (λ (s : Sheet). s.header.page) sent.is ∙ holds.numbers sent.place sent.page sent.there

    item_drawn : IsDrawn sends item.item
    item_drawn =
        record {
          page = sent.page;
          buffer = sent.buffer;
          stamp = sent.stamp;
          there =
              ap (λ (c : ℕ). option_and_then (λ (s : ClientSends). slice_get s.drawn item.item.header.page) (slice_get sends c)) client_is
              ∙ ap (option_and_then (λ (s : ClientSends). slice_get s.drawn item.item.header.page)) there
              ∙ ap (slice_get s.drawn) page_is
              ∙ sent.there;
          got = sent.got;
          is = sym sent.is;
        }

    only_one : {X : Type 0} (x y : X) (q : ℕ) → slice_get (x ∷ []) q ≡ Some y → x ≡ y
    only_one x y zero h = same_Some x y h
    only_one x y (suc q) h = let no : None ≡ Some y = h in absurd cc

    chunk_added : Adds sends sheets log (item.item ∷ []) (steps.Chunk client)
    chunk_added =
        record {
          few = omega arith;
          drawn = λ q sheet at. subst (IsDrawn sends) (only_one item.item sheet q at) item_drawn;
          apart = λ p q a b f at same.
              let is = only_one item.item b q at in
              subst (λ (b : Sheet). a.header.page < b.header.page) is
              (holds.ahead (taken (Chunks client) log) item (omega arith) next p a f (same ∙ ap (λ (s : Sheet). s.header.client.number) (sym is) ∙ client_is));
          ahead = λ other t at j later most found q sheet in_added own. ahead_case other t at j later most found sheet (only_one item.item sheet q in_added) own;
        }
      where
        ahead_case : (other : ℕ) (t : ClientSends) → slice_get sends other ≡ Some t → (j : ℕ) (later : Sent Sheet) → taken (Chunks other) (log ++ steps.Chunk client ∷ []) ≤ j → slice_get t.chunks j ≡ Some later → (sheet : Sheet)
            → item.item ≡ sheet → sheet.header.client.number ≡ other → sheet.header.page < later.item.header.page
        ahead_case other t at j later most found sheet is own =
            let same : client ≡ other = sym client_is ∙ ap (λ (s : Sheet). s.header.client.number) is ∙ own in
            let both = count_append (takes (Chunks other)) log (steps.Chunk client ∷ []) in
            let last = count_cons (takes (Chunks other)) (steps.Chunk client) [] in
            let here : one_if (takes (Chunks other) (steps.Chunk client)) ≡ 1 = ap one_if (eq-eqb client other same) in
            let past : taken (Chunks client) log < j = subst (λ (c : ℕ). taken (Chunks c) log < j) (sym same) (omega (arith, both, last, here, most)) in
            let client_same : t ≡ s = same_Some t s (sym at ∙ ap (slice_get sends) (sym same) ∙ there) in
            let found_sent : slice_get (sent_chunks s.drawn) j ≡ Some later = ap (λ (items : List (Sent Sheet)). slice_get items j) (sym holds.chunks) ∙ ap (λ (t : ClientSends). slice_get t.chunks j) (sym client_same) ∙ found in
            subst (λ (sheet : Sheet). sheet.header.page < later.item.header.page) is
            (chunks_rise s.drawn 0 (taken (Chunks client) log) j item later (λ k d at. let is = holds.numbers k d at in omega (arith, is)) past next_sent found_sent)

-- what a step that takes is
record TakesSo (run : NodeRun) (step : Step) (event : AgentEvent) : Type 0 where
  input : Input
  is : event ≡ Took input
  noted : noted_as event ≡ step
  adds : Adds run.sends (sheets_of run.state.taken) run.state.log (brought_by event) step

module _ (settings : PlainSettings) (run : NodeRun) (h : HoldsAt settings run) where
  chunk_so : (client : ℕ) (event : AgentEvent) (o : Option ClientSends) → slice_get run.sends client ≡ o
      → option_and_then (λ (s : ClientSends). option_map (λ sheet. Took (Chunk client sheet)) (next_of (Chunks client) run.state s.chunks)) o ≡ Some event → TakesSo run (steps.Chunk client) event
  chunk_so client event None e met = let no : None ≡ Some event = met in absurd cc
  chunk_so client event (Some s) e met =
      let t = option_unmap (λ sheet. Took (Chunk client sheet)) (next_of (Chunks client) run.state s.chunks) event met in
      let i = option_unmap (λ (item : Sent Sheet). item.item) (slice_get s.chunks (taken (Chunks client) run.state.log)) t.0 t.1 in
      let added = chunk_added settings.buffers run.sends (sheets_of run.state.taken) run.state.given run.state.log h client s e i.0 i.1 in
      record {
        input = Chunk client t.0;
        is = sym t.2;
        noted = ap noted_as (sym t.2);
        adds =
            subst (λ (event : AgentEvent). Adds run.sends (sheets_of run.state.taken) run.state.log (brought_by event) (steps.Chunk client)) t.2
            (subst (λ (sheet : Sheet). Adds run.sends (sheets_of run.state.taken) run.state.log (sheet ∷ []) (steps.Chunk client)) i.2 added);
      }

  other_so : {A : Type 0} (step : Step) (f : A → Input) (event : AgentEvent) (o : Option A) → ((a : A) → noted_as (Took (f a)) ≡ step) → ((a : A) → brought_by (Took (f a)) ≡ []) → option_map (λ a. Took (f a)) o ≡ Some event → TakesSo run step event
  other_so step f event o noted none met =
      let t = option_unmap (λ a. Took (f a)) o event met in
      record {
        input = f t.0;
        is = sym t.2;
        noted = ap noted_as (sym t.2) ∙ noted t.0;
        adds =
            subst (λ (added : List Sheet). Adds run.sends (sheets_of run.state.taken) run.state.log added step) (sym (none t.0) ∙ ap brought_by t.2)
            (none_added run.sends (sheets_of run.state.taken) run.state.log step);
      }

  client_so : {A : Type 0} (step : Step) (f : A → Input) (event : AgentEvent) (g : ClientSends → Option A) (o : Option ClientSends) → ((a : A) → noted_as (Took (f a)) ≡ step) → ((a : A) → brought_by (Took (f a)) ≡ [])
      → option_and_then (λ (s : ClientSends). option_map (λ a. Took (f a)) (g s)) o ≡ Some event → TakesSo run step event
  client_so step f event g None noted none met = let no : None ≡ Some event = met in absurd cc
  client_so step f event g (Some s) noted none met = other_so step f event (g s) noted none met

  takes_so : (heard : Messages) (step : Step) (event : AgentEvent) → is_offer step ≡ false → event_of run heard step ≡ Some event → TakesSo run step event
  takes_so heard (steps.Chunk client) event quiet met = chunk_so client event (slice_get run.sends client) refl met
  takes_so heard (steps.Crumb client) event quiet met =
      client_so (steps.Crumb client) (Crumbed client) event (λ (s : ClientSends). next_of (Crumbs client) run.state s.crumbs) (slice_get run.sends client) (λ a. refl) (λ a. refl) met
  takes_so heard (steps.Trigger client) event quiet met =
      client_so (steps.Trigger client) (Triggered client) event (λ (s : ClientSends). next_of (Triggers client) run.state s.triggers) (slice_get run.sends client) (λ a. refl) (λ a. refl) met
  takes_so heard steps.Ask event quiet met = other_so steps.Ask Asked event (slice_get (asks_to run.node heard) (taken Asks run.state.log)) (λ a. refl) (λ a. refl) met
  takes_so heard steps.Turn event quiet met =
      let is : Took Turn ≡ event = same_Some (Took Turn) event met in
      record {
        input = Turn;
        is = sym is;
        noted = ap noted_as (sym is);
        adds = subst (λ (event : AgentEvent). Adds run.sends (sheets_of run.state.taken) run.state.log (brought_by event) steps.Turn) is (none_added run.sends (sheets_of run.state.taken) run.state.log steps.Turn);
      }
  takes_so heard (steps.Given stamp) event quiet met = let no : true ≡ false = quiet in absurd cc
  takes_so heard (steps.Missed stamp) event quiet met = let no : true ≡ false = quiet in absurd cc
  takes_so heard steps.Unread event quiet met = let no : true ≡ false = quiet in absurd cc

quiet_stamp : (step : Step) → is_offer step ≡ false → step_stamp step ≡ None
quiet_stamp (steps.Chunk client) e = refl
quiet_stamp (steps.Crumb client) e = refl
quiet_stamp (steps.Trigger client) e = refl
quiet_stamp steps.Ask e = refl
quiet_stamp steps.Turn e = refl
quiet_stamp (steps.Given stamp) e = let no : true ≡ false = e in absurd cc
quiet_stamp (steps.Missed stamp) e = let no : true ≡ false = e in absurd cc
quiet_stamp steps.Unread e = refl

quiet_missed : (step : Step) → is_offer step ≡ false → missed_event step ≡ None
quiet_missed (steps.Chunk client) e = refl
quiet_missed (steps.Crumb client) e = refl
quiet_missed (steps.Trigger client) e = refl
quiet_missed steps.Ask e = refl
quiet_missed steps.Turn e = refl
quiet_missed (steps.Given stamp) e = refl
quiet_missed (steps.Missed stamp) e = let no : true ≡ false = e in absurd cc
quiet_missed steps.Unread e = refl

-- ---- a step keeps what is held

module _ (adds : EventsAddThis) (go_on : EventsGoOn) (places : ListsHaveTheirChunks) (settings : PlainSettings) where
  comes_on : (run : NodeRun) (rest : List Step) (event : AgentEvent) → ComesByEvents settings run → ComesByEvents settings (perform settings rest run event)
  comes_on run rest event comes = ap (λ (state : AgentState). after_event settings run.node state event) comes ∙ sym (go_on settings run.node run.events (event ∷ []))

  pub take_held : (heard : Messages) (run : NodeRun) (step : Step) (rest : List Step) (event : AgentEvent) → is_offer step ≡ false → event_of run heard step ≡ Some event → IsHeld settings run → IsHeld settings (perform settings rest run event)
  take_held heard run step rest event quiet met h =
      let t = takes_so settings run h.holds heard step event quiet met in
      let a = adds settings run.node run.state in
      let kept = takes_keep settings.buffers run.sends (sheets_of run.state.taken) run.state.given run.state.log h.holds (brought_by event) step (quiet_stamp step quiet) (quiet_missed step quiet) t.adds in
      let given_is : (after_event settings run.node run.state event).given ≡ run.state.given = ap (λ (event : AgentEvent). (after_event settings run.node run.state event).given) t.is ∙ a.given t.input in
      let log_is : (after_event settings run.node run.state event).log ≡ run.state.log ++ step ∷ [] = a.log event ∙ ap (λ (step : Step). run.state.log ++ step ∷ []) t.noted in
      record {
        comes = comes_on run rest event h.comes;
        holds =
            subst (λ (sheets : List Sheet). Holds settings.buffers run.sends sheets (after_event settings run.node run.state event).given (after_event settings run.node run.state event).log) (sym (a.chunks event))
            (subst (λ (given : List GivenPlace). Holds settings.buffers run.sends (sheets_of run.state.taken ++ brought_by event) given (after_event settings run.node run.state event).log) (sym given_is)
            (subst (λ (log : List Step). Holds settings.buffers run.sends (sheets_of run.state.taken ++ brought_by event) run.state.given log) (sym log_is) kept));
      }

  -- and what happened at its pool
  pub take_events : (heard : Messages) (run : NodeRun) (step : Step) (rest : List Step) (event : AgentEvent) → is_offer step ≡ false → event_of run heard step ≡ Some event → IsHeld settings run → node_events (perform settings rest run event) ≡ node_events run
  take_events heard run step rest event quiet met h =
      let t = takes_so settings run h.holds heard step event quiet met in
      let a = adds settings run.node run.state in
      let sheets = sheets_of run.state.taken in
      let same = same_events settings.buffers run.sends sheets run.state.given run.state.log h.holds (brought_by event) step (quiet_stamp step quiet) (quiet_missed step quiet) t.adds in
      let given_is : (after_event settings run.node run.state event).given ≡ run.state.given = ap (λ (event : AgentEvent). (after_event settings run.node run.state event).given) t.is ∙ a.given t.input in
      ap (λ (sheets : List Sheet). events_in run.sends sheets (after_event settings run.node run.state event).given) (a.chunks event) ∙ ap (events_in run.sends (sheets ++ brought_by event)) given_is ∙ sym same

  -- ---- the first of the hand

  count_first : (place : ℕ) (hand : List ℕ) → count_of (place ∷ hand) place ≡ 1 + count_of hand place
  count_first place hand = ap (λ b. cond b 1 0 + count_of hand place) (eq-eqb place place refl)

  count_both : (a b : List ℕ) (place : ℕ) → count_of (a ++ b) place ≡ count_of a place + count_of b place
  count_both [] b place = omega arith
  count_both (p ∷ a) b place = let rest = count_both a b place in omega (arith, rest)

  count_there : (given : List GivenPlace) (i : ℕ) (g : GivenPlace) → slice_get given i ≡ Some g → 1 ≤ count_of (map (λ (g : GivenPlace). g.place) given) g.place
  count_there [] i g h = let no : None ≡ Some g = h in absurd cc
  count_there (f ∷ given) zero g h =
      let same : eqb f.place g.place ≡ true = eq-eqb f.place g.place (ap (λ (g : GivenPlace). g.place) (same_Some f g h)) in
      let here = ap one_if same in
      omega (arith, here)
  count_there (f ∷ given) (suc i) g h = let rest = count_there given i g h in omega (arith, rest)

  stands_there : (b : Bool) (n : ℕ) → n ≡ cond b 1 0 → 1 ≤ n → b ≡ true
  stands_there true n e some = refl
  stands_there false n e some = absurd (omega (arith, e, some))

  at_most_one : (b : Bool) → cond b 1 0 ≤ 1
  at_most_one true = omega arith
  at_most_one false = omega arith

  taken_there : (taken : List Taken) (place : ℕ) → stands is_let_go taken place ≡ true → (chunk : Taken) × (slice_get taken place ≡ Some chunk)
  taken_there taken place h = go (slice_get taken place) refl h
    where
      go : (o : Option Taken) → slice_get taken place ≡ o → option_map_or (λ (chunk : Taken). is_let_go chunk.standing) o false ≡ true → (chunk : Taken) × (slice_get taken place ≡ Some chunk)
      go None e h = let no : false ≡ true = h in absurd cc
      go (Some chunk) e h = (chunk, e)

  pub record HasFirst (run : NodeRun) (place : ℕ) : Type 0 where
    pub sheet : Sheet
    pub is : slice_get (sheets_of run.state.taken) place ≡ Some sheet
    pub ungiven : (i : ℕ) (g : GivenPlace) → slice_get run.state.given i ≡ Some g → g.place ≡ place → ⊥

  pub first_held : (run : NodeRun) (place : ℕ) (hand : List ℕ) → run.state.hand ≡ place ∷ hand → ComesByEvents settings run → HasFirst run place
  first_held run place hand e comes =
      let m : PlacesMatch run.state = subst PlacesMatch (sym comes) (places settings run.node run.events) in
      let all = m.gone_each place in
      let both = count_both (given_places run.state) run.state.hand place in
      let in_hand = ap (λ (hand : List ℕ). count_of hand place) e in
      let first = count_first place hand in
      let most = at_most_one (stands is_let_go run.state.taken place) in
      let stood = stands_there (stands is_let_go run.state.taken place) (count_of (given_places run.state ++ run.state.hand) place) all (omega (arith, both, in_hand, first)) in
      let chunk = taken_there run.state.taken place stood in
      record {
        sheet = chunk.0.sheet;
        is = slice_get-map (λ (chunk : Taken). chunk.sheet) run.state.taken place ∙ ap (option_map (λ (chunk : Taken). chunk.sheet)) chunk.1;
        ungiven = λ i g there same.
            let some = subst (λ (p : ℕ). 1 ≤ count_of (given_places run.state) p) same (count_there run.state.given i g there) in
            omega (arith, all, both, in_hand, first, most, some);
      }

  -- what is held by a node in which so many events happened
  pub record HeldUpTo (count : ℕ) (run : NodeRun) : Type 0 where
    pub held : IsHeld settings run
    pub events : length (node_events run) ≡ count

  pub give_held : (stamp place : ℕ) (hand : List ℕ) (run : NodeRun) (rest : List Step) → run.state.hand ≡ place ∷ hand → HeldUpTo stamp run → HeldUpTo (stamp + 1) (perform settings rest run (Gave (model.Given stamp)))
  give_held stamp place hand run rest e h =
      let f = first_held run place hand e h.held.comes in
      let a = adds settings run.node run.state in
      let event : AgentEvent = Gave (model.Given stamp) in
      let sheets = sheets_of run.state.taken in
      let give : GivenPlace = record { place = place; stamp = stamp } in
      let sheets_are : sheets_of (after_event settings run.node run.state event).taken ≡ sheets = a.chunks event ∙ append-nil sheets in
      let given_is : (after_event settings run.node run.state event).given ≡ run.state.given ++ give ∷ [] = ap (λ (hand : List ℕ). (model.give_back stamp hand run.state).given) e in
      let kept = gives_keep settings.buffers run.sends sheets run.state.given run.state.log h.held.holds place f.sheet f.is f.ungiven in
      let there : Holds settings.buffers run.sends sheets (run.state.given ++ give ∷ []) (run.state.log ++ steps.Given stamp ∷ []) =
      subst (λ (k : ℕ). Holds settings.buffers run.sends sheets (run.state.given ++ record { place = place; stamp = k } ∷ []) (run.state.log ++ steps.Given k ∷ [])) h.events kept
      in
      let more = given_longer settings.buffers run.sends sheets run.state.given run.state.log h.held.holds place f.sheet f.is f.ungiven in
      let more_there : length (events_in run.sends sheets (run.state.given ++ give ∷ [])) ≡ length (node_events run) + 1 =
      subst (λ (k : ℕ). length (events_in run.sends sheets (run.state.given ++ record { place = place; stamp = k } ∷ [])) ≡ length (node_events run) + 1) h.events more
      in
      record {
        held =
            record {
              comes = comes_on run rest event h.held.comes;
              holds =
                  subst (λ (s : List Sheet). Holds settings.buffers run.sends s (after_event settings run.node run.state event).given (after_event settings run.node run.state event).log) (sym sheets_are)
                  (subst (λ (given : List GivenPlace). Holds settings.buffers run.sends sheets given (after_event settings run.node run.state event).log) (sym given_is)
                  (subst (λ (log : List Step). Holds settings.buffers run.sends sheets (run.state.given ++ give ∷ []) log) (sym (a.log event)) there));
            };
        events =
            ap (λ (s : List Sheet). length (events_in run.sends s (after_event settings run.node run.state event).given)) sheets_are
            ∙ ap (λ (given : List GivenPlace). length (events_in run.sends sheets given)) given_is
            ∙ more_there
            ∙ ap (λ (k : ℕ). k + 1) h.events;
      }

  -- the buffer of the page of the chunk that is given
  pub buffer_given : (place : ℕ) (hand : List ℕ) (run : NodeRun) → run.state.hand ≡ place ∷ hand → IsHeld settings run → ℕ
  buffer_given place hand run e h =
      let f = first_held run place hand e h.comes in (given_drawn settings.buffers run.sends (sheets_of run.state.taken) run.state.given run.state.log h.holds place f.sheet f.is f.ungiven).buffer

  pub buffer_there : (place : ℕ) (hand : List ℕ) (run : NodeRun) (e : run.state.hand ≡ place ∷ hand) (h : IsHeld settings run) → given_buffer run place ≡ Some (buffer_given place hand run e h)
  unfolding buffer_given
  buffer_there place hand run e h =
      let f = first_held run place hand e h.comes in
      let drawn = given_drawn settings.buffers run.sends (sheets_of run.state.taken) run.state.given run.state.log h.holds place f.sheet f.is f.ungiven in
      let found : given_page run run.state place ≡ Some drawn.page = sheet_at (page_of run) run.state.taken place ∙ ap (option_and_then (page_of run)) f.is ∙ drawn.there in
      ap (option_and_then (λ (d : DrawnPage). buffer_of d.draw)) found ∙ ap buffer_of drawn.got

  -- a give is the last of what happened at the pool
  pub give_events : (stamp place : ℕ) (hand : List ℕ) (run : NodeRun) (rest : List Step) (e : run.state.hand ≡ place ∷ hand) (h : HeldUpTo stamp run)
      → node_events (perform settings rest run (Gave (model.Given stamp))) ≡ node_events run ++ given_as (length (node_events run)) (buffer_given place hand run e h.held) ∷ []
  unfolding buffer_given
  give_events stamp place hand run rest e h =
      let f = first_held run place hand e h.held.comes in
      let a = adds settings run.node run.state in
      let event : AgentEvent = Gave (model.Given stamp) in
      let sheets = sheets_of run.state.taken in
      let sheets_are : sheets_of (after_event settings run.node run.state event).taken ≡ sheets = a.chunks event ∙ append-nil sheets in
      let given_is : (after_event settings run.node run.state event).given ≡ run.state.given ++ record { place = place; stamp = stamp } ∷ [] = ap (λ (hand : List ℕ). (model.give_back stamp hand run.state).given) e in
      let now = now_is settings.buffers run.sends sheets run.state.given run.state.log h.held.holds place f.sheet f.is f.ungiven in
      ap (λ (s : List Sheet). events_in run.sends s (after_event settings run.node run.state event).given) sheets_are
      ∙ ap (events_in run.sends sheets) given_is
      ∙ ap (λ (k : ℕ). events_in run.sends sheets (run.state.given ++ record { place = place; stamp = k } ∷ [])) (sym h.events)
      ∙ sym now
      ∙ ap (λ (es : List StampedPoolEvent). node_events run ++ given_as (length es) (buffer_given place hand run e h.held) ∷ []) (append-nil (node_events run))
