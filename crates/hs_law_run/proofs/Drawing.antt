-- A client draws: with the next stamps, the front of the queue or none where it is empty. What is held is held then, and the new
-- buffers too.
use Rattle.std.proofs.Common.{◌≡◌, ◌⊎◌, inl, inr, ℕ, zero, suc, ◌+◌, ◌<◌, ◌≤◌, Bool, true, false, cond, List, [], ◌∷◌, ◌++◌, length, refl, sym, ap, subst, ◌∙◌, Some, None, arith, map, filter, drop, reverse, slice_get, append_assoc, append-nil, length-append}
use Rattle.hs_law_run.proofs.Prelude.{AllByRecursion, cons_option, option_and_then, map-append, reverse-append, filter-append, flat_map-append, slice_get_within, same_Some, get_front, get_mid, ClientId, Draw, Step, GivenPlace, DrawnPage, stamp_of, has_buffer, drawn_from, Sent, ClientSends, sheet_of, sent_chunks, TimedPage, Sheet, PoolEvent, Got, Empty, queue_after, StampedPoolEvent, drawn_event, event_drawn, rise, Chunks, taken, next_draws}
use Rattle.std.proofs.lemmas.List.{reverse-reverse}
use Rattle.hs_records.specs.declared.journal.Draw.TheVariants as draws
use Rattle.hs_law_run.proofs.Growing.{events_back, history_of, IsPooled, IsOut, IsAnswered, next, after, back, answered, longer, got_kept, got_out, got_stays, empty_kept, empty_stays}
use Rattle.hs_law_run.proofs.Holding.{page_in, pages_in, gives_in, events_in, event_at, event_there, WasGiven, IsDrawn, GiveAnswers, ClientHolds, Holds, InFront, Behind, in_either, rises_more, FoundPage, page_found, at_page, all_answers}

-- ---- one client of a node

record IsHere {X : Type 0} (a : List X) (s t : X) (i : ℕ) : Type 0 where
  place : i ≡ length a
  same : s ≡ t

-- whatever stands at the place of a list's one item, the others stand where they stood
here_or_other : {X : Type 0} (a b : List X) (s t : X) (i : ℕ) → slice_get (a ++ s ∷ b) i ≡ Some t → IsHere a s t i ⊎ ((r : X) → slice_get (a ++ r ∷ b) i ≡ Some t)
here_or_other [] b s t zero h = inl (record { place = refl; same = same_Some s t h })
here_or_other [] b s t (suc i) h = inr (λ r. h)
here_or_other (x ∷ a) b s t zero h = inr (λ r. h)
here_or_other {X = X} (x ∷ a) b s t (suc i) h = elim (here_or_other a b s t i h) as (λ _. IsHere (x ∷ a) s t (suc i) ⊎ ((r : X) → slice_get (x ∷ a ++ r ∷ b) (suc i) ≡ Some t)) [
  | inl e ↦ inl (record { place = ap suc e.place; same = e.same })
  | inr o ↦ inr o
]

abbrev item_of : DrawnPage → Sent Sheet
item_of d = record { number = d.sent; item = sheet_of d }

pub chunks_more : (drawn more : List DrawnPage) → sent_chunks (drawn ++ more) ≡ sent_chunks drawn ++ sent_chunks more
chunks_more drawn more =
    ap (map item_of) (filter-append (λ (d : DrawnPage). has_buffer d.draw) drawn more)
    ∙ map-append item_of (filter (λ (d : DrawnPage). has_buffer d.draw) drawn) (filter (λ (d : DrawnPage). has_buffer d.draw) more)

last_item : (d : DrawnPage) (i : ℕ) (item : Sent Sheet) → slice_get (sent_chunks (d ∷ [])) i ≡ Some item → item.item.header.page ≡ d.number
last_item d i item h = item_case (has_buffer d.draw) i h
  where
    item_case : (b : Bool) (i : ℕ) → slice_get (map item_of (cond b (d ∷ []) [])) i ≡ Some item → item.item.header.page ≡ d.number
    item_case true zero h = ap (λ (s : Sent Sheet). s.item.header.page) (sym (same_Some (item_of d) item h))
    item_case true (suc i) h = let no : None ≡ Some item = h in absurd cc
    item_case false i h = let no : None ≡ Some item = h in absurd cc

-- a client that sends these pages more
abbrev pub grown : ClientSends → List DrawnPage → ClientSends
grown s more = record s { drawn = s.drawn ++ more; chunks = sent_chunks (s.drawn ++ more) }

-- ---- one draw

-- a draw of the queue's front
pub record Takes (n : ℕ) (events : List StampedPoolEvent) (draw : Draw) : Type 0 where
  pub buffer : ℕ
  pub front : slice_get (queue_after n (events_back events)) 0 ≡ Some buffer
  pub is : draw ≡ draws.Got buffer (length events)

-- a draw that finds the queue empty
pub record Finds (n : ℕ) (events : List StampedPoolEvent) (draw : Draw) : Type 0 where
  pub none : queue_after n (events_back events) ≡ []
  pub is : draw ≡ draws.Empty (length events)

-- what a draw does to the pool
pub record Drew (n : ℕ) (was now : List StampedPoolEvent) (draw : Draw) : Type 0 where
  stamp : stamp_of draw ≡ length was
  more : length now ≡ length was + 1
  last : events_back now ≡ event_drawn draw ∷ events_back was
  pooled : IsPooled n now
  answers : (buffer from to : ℕ) → IsAnswered was buffer from to → IsAnswered now buffer from to
  stays : (buffer from : ℕ) → IsOut n was buffer from → IsOut n now buffer from
  fresh : (buffer from : ℕ) → draw ≡ draws.Got buffer from → IsOut n now buffer from

module _ (n : ℕ) (a b : List ClientSends) (s : ClientSends) (sheets : List Sheet) (given : List GivenPlace) (log : List Step) (h : Holds n (a ++ s ∷ b) sheets given log) (d : DrawnPage) where
  abbrev sends : List ClientSends
  sends = a ++ s ∷ b

  abbrev later : ClientSends
  later = grown s (d ∷ [])

  abbrev sends_later : List ClientSends
  sends_later = a ++ later ∷ b

  abbrev was : List StampedPoolEvent
  was = events_in sends sheets given

  abbrev now : List StampedPoolEvent
  now = events_in sends_later sheets given

  -- the events before that of the draw, and behind it
  abbrev left : List StampedPoolEvent
  left = map drawn_event (pages_in a ++ s.drawn)

  abbrev right : List StampedPoolEvent
  right = map drawn_event (pages_in b) ++ gives_in sends sheets given

  page_still : (sheet : Sheet) (page : DrawnPage) → page_in sends sheet ≡ Some page → page_in sends_later sheet ≡ Some page
  page_still sheet page at = go (page_found sends sheet page at)
    where
      go : FoundPage sends sheet page → page_in sends_later sheet ≡ Some page
      go f = either (here_or_other a b s f.client sheet.header.client.number f.there)
        where
          either : IsHere a s f.client sheet.header.client.number ⊎ ((r : ClientSends) → slice_get (a ++ r ∷ b) sheet.header.client.number ≡ Some f.client) → page_in sends_later sheet ≡ Some page
          either (inl e) =
              ap (λ (i : ℕ). option_and_then (λ (s : ClientSends). slice_get s.drawn sheet.header.page) (slice_get sends_later i)) e.place
              ∙ ap (option_and_then (λ (s : ClientSends). slice_get s.drawn sheet.header.page)) (get_mid a later b)
              ∙ get_front s.drawn (d ∷ []) sheet.header.page page (ap (λ (s : ClientSends). slice_get s.drawn sheet.header.page) e.same ∙ f.is)
          either (inr o) = ap (option_and_then (λ (s : ClientSends). slice_get s.drawn sheet.header.page)) (o later) ∙ f.is

  drawn_still : (sheet : Sheet) → IsDrawn sends sheet → IsDrawn sends_later sheet
  drawn_still sheet i = record { page = i.page; buffer = i.buffer; stamp = i.stamp; there = page_still sheet i.page i.there; got = i.got; is = i.is }

  gives_still : (givens : List GivenPlace) → AllByRecursion (GiveAnswers sends sheets given) givens → gives_in sends_later sheets givens ≡ gives_in sends sheets givens
  unfolding drawn_still
  gives_still [] all = refl
  gives_still (g ∷ givens) all =
      let x = all.0 in
      let old = event_there sends sheets g x.sheet x.is x.drawn in
      let new = event_there sends_later sheets g x.sheet x.is (drawn_still x.sheet x.drawn) in
      ap (λ o. cons_option o (gives_in sends_later sheets givens)) (new ∙ sym old) ∙ ap (cons_option (event_at sends sheets g)) (gives_still givens all.1)

  split : (pages behind : List DrawnPage) (gives : List StampedPoolEvent) → map drawn_event (pages ++ behind) ++ gives ≡ map drawn_event pages ++ (map drawn_event behind ++ gives)
  split pages behind gives =
      ap (λ (es : List StampedPoolEvent). es ++ gives) (map-append drawn_event pages behind) ∙ append_assoc (map drawn_event pages) (map drawn_event behind) gives

  was_is : was ≡ left ++ right
  was_is =
      ap (λ (pages : List DrawnPage). map drawn_event pages ++ gives_in sends sheets given)
      (flat_map-append (λ (s : ClientSends). s.drawn) a (s ∷ b) ∙ sym (append_assoc (pages_in a) s.drawn (pages_in b)))
      ∙ split (pages_in a ++ s.drawn) (pages_in b) (gives_in sends sheets given)

  now_is : now ≡ left ++ drawn_event d ∷ right
  now_is =
      ap (λ (gives : List StampedPoolEvent). map drawn_event (pages_in sends_later) ++ gives) (gives_still given h.answers)
      ∙ ap (λ (pages : List DrawnPage). map drawn_event pages ++ gives_in sends sheets given)
      (flat_map-append (λ (s : ClientSends). s.drawn) a (later ∷ b)
      ∙ ap (λ (rest : List DrawnPage). pages_in a ++ rest) (append_assoc s.drawn (d ∷ []) (pages_in b))
      ∙ sym (append_assoc (pages_in a) s.drawn (d ∷ pages_in b)))
      ∙ split (pages_in a ++ s.drawn) (d ∷ pages_in b) (gives_in sends sheets given)

  pooled_there : IsPooled n (left ++ right)
  pooled_there = subst (IsPooled n) was_is h.pooled

  -- ---- it gets a buffer

  module _ (t : Takes n was d.draw) where
    got_event : drawn_event d ≡ next left right (Got t.buffer)
    got_event =
        ap (λ draw. drawn_event (record d { draw = draw })) t.is
        ∙ ap (λ (k : ℕ). record { stamp = k; event = Got t.buffer }) (ap length was_is)

    got_now : after left right (Got t.buffer) ≡ now
    got_now = sym (now_is ∙ ap (λ (e : StampedPoolEvent). left ++ e ∷ right) got_event)

    front_there : slice_get (queue_after n (events_back (left ++ right))) 0 ≡ Some t.buffer
    front_there = subst (λ (es : List StampedPoolEvent). slice_get (queue_after n (events_back es)) 0 ≡ Some t.buffer) was_is t.front

    fresh_out : (buffer from : ℕ) → d.draw ≡ draws.Got buffer from → IsOut n now buffer from
    fresh_out buffer from got =
        let same : draws.Got t.buffer (length was) ≡ draws.Got buffer from = sym t.is ∙ got in
        let buffer_is : t.buffer ≡ buffer = cc in
        let stamp_is : length was ≡ from = cc in
        subst (λ (k : ℕ). IsOut n now buffer k) (sym (ap length was_is) ∙ stamp_is)
        (subst (λ (k : ℕ). IsOut n now k (length (left ++ right))) buffer_is
        (subst (λ (es : List StampedPoolEvent). IsOut n es t.buffer (length (left ++ right))) got_now (got_out n left right t.buffer pooled_there front_there)))

    takes_drew : Drew n was now d.draw
    takes_drew =
        let long = longer left right (Got t.buffer) in
        let there = ap length got_now in
        let same = ap length was_is in
        record {
          stamp = ap stamp_of t.is;
          more = omega (arith, long, there, same);
          last =
              ap events_back (sym got_now) ∙ back left right (Got t.buffer) pooled_there.low
              ∙ ap (λ (es : List StampedPoolEvent). Got t.buffer ∷ events_back es) (sym was_is)
              ∙ ap (λ draw. event_drawn draw ∷ events_back was) (sym t.is);
          pooled = subst (IsPooled n) got_now (got_kept n left right t.buffer pooled_there front_there);
          answers = λ buffer from to x.
              subst (λ (es : List StampedPoolEvent). IsAnswered es buffer from to) got_now
              (answered n left right (Got t.buffer) pooled_there buffer from to (subst (λ (es : List StampedPoolEvent). IsAnswered es buffer from to) was_is x));
          stays = λ buffer from x.
              subst (λ (es : List StampedPoolEvent). IsOut n es buffer from) got_now
              (got_stays n left right t.buffer pooled_there front_there buffer from (subst (λ (es : List StampedPoolEvent). IsOut n es buffer from) was_is x));
          fresh = fresh_out;
        }

  -- ---- it finds none

  module _ (t : Finds n was d.draw) where
    empty_event : drawn_event d ≡ next left right Empty
    empty_event =
        ap (λ draw. drawn_event (record d { draw = draw })) t.is
        ∙ ap (λ (k : ℕ). record { stamp = k; event = Empty }) (ap length was_is)

    empty_now : after left right Empty ≡ now
    empty_now = sym (now_is ∙ ap (λ (e : StampedPoolEvent). left ++ e ∷ right) empty_event)

    none_there : queue_after n (events_back (left ++ right)) ≡ []
    none_there = subst (λ (es : List StampedPoolEvent). queue_after n (events_back es) ≡ []) was_is t.none

    finds_drew : Drew n was now d.draw
    finds_drew =
        let long = longer left right Empty in
        let there = ap length empty_now in
        let same = ap length was_is in
        record {
          stamp = ap stamp_of t.is;
          more = omega (arith, long, there, same);
          last =
              ap events_back (sym empty_now) ∙ back left right Empty pooled_there.low
              ∙ ap (λ (es : List StampedPoolEvent). Empty ∷ events_back es) (sym was_is)
              ∙ ap (λ draw. event_drawn draw ∷ events_back was) (sym t.is);
          pooled = subst (IsPooled n) empty_now (empty_kept n left right pooled_there none_there);
          answers = λ buffer from to x.
              subst (λ (es : List StampedPoolEvent). IsAnswered es buffer from to) empty_now
              (answered n left right Empty pooled_there buffer from to (subst (λ (es : List StampedPoolEvent). IsAnswered es buffer from to) was_is x));
          stays = λ buffer from x.
              subst (λ (es : List StampedPoolEvent). IsOut n es buffer from) empty_now
              (empty_stays n left right pooled_there none_there buffer from (subst (λ (es : List StampedPoolEvent). IsOut n es buffer from) was_is x));
          fresh = λ buffer from got. let no : draws.Empty (length was) ≡ draws.Got buffer from = sym t.is ∙ got in absurd cc;
        }

  -- ---- all is held

  module _ (drew : Drew n was now d.draw) (number : d.number ≡ length s.drawn) (own : d.client.number ≡ length a) where
    old : ClientHolds n sends sheets given log (length a) s
    old = h.clients (length a) s (get_mid a s b)

    held_still : (client k buffer from : ℕ) → WasGiven sheets given client k ⊎ IsOut n was buffer from → WasGiven sheets given client k ⊎ IsOut n now buffer from
    held_still client k buffer from (inl w) = inl w
    held_still client k buffer from (inr o) = inr (drew.stays buffer from o)

    at_last : (k : ℕ) (e : DrawnPage) → Behind s.drawn (d ∷ []) k e → (e ≡ d) × (k ≡ length s.drawn)
    at_last k e x = place_case x.place x.there x.is
      where
        place_case : (i : ℕ) → slice_get (d ∷ []) i ≡ Some e → k ≡ length s.drawn + i → (e ≡ d) × (k ≡ length s.drawn)
        place_case zero at is = (sym (same_Some d e at), omega (arith, is))
        place_case (suc i) at is = let no : None ≡ Some e = at in absurd cc

    stamps_low : AllByRecursion (λ t. t < stamp_of d.draw) (map (λ (d : DrawnPage). stamp_of d.draw) s.drawn)
    stamps_low =
        mapped s.drawn
        (λ i e at.
        let low = at_page (λ (v : StampedPoolEvent). v.stamp < length was) sends (gives_in sends sheets given) (length a) i s e h.pooled.low (get_mid a s b) at in
        let stamp = drew.stamp in
        omega (arith, low, stamp))
      where
        mapped : (drawn : List DrawnPage) → ((i : ℕ) (e : DrawnPage) → slice_get drawn i ≡ Some e → stamp_of e.draw < stamp_of d.draw) → AllByRecursion (λ t. t < stamp_of d.draw) (map (λ (d : DrawnPage). stamp_of d.draw) drawn)
        mapped [] each = tt
        mapped (e ∷ drawn) each = (each 0 e refl, mapped drawn (λ i e at. each (suc i) e at))

    page_low : (q : ℕ) (sheet : Sheet) → slice_get sheets q ≡ Some sheet → sheet.header.client.number ≡ length a → sheet.header.page < length s.drawn
    page_low q sheet at client =
        let i = h.drawn q sheet at in
        let f = page_found sends sheet i.page i.there in
        let same : f.client ≡ s = same_Some f.client s (sym f.there ∙ ap (slice_get sends) client ∙ get_mid a s b) in
        slice_get_within s.drawn sheet.header.page i.page (ap (λ (s : ClientSends). slice_get s.drawn sheet.header.page) (sym same) ∙ f.is)

    later_holds : ClientHolds n sends_later sheets given log (length a) later
    later_holds =
        record {
          chunks = refl;
          numbers = λ k e at. number_case k e (in_either s.drawn (d ∷ []) k e at);
          own = λ k e at. own_case k e (in_either s.drawn (d ∷ []) k e at);
          rises = ap rise (map-append (λ (d : DrawnPage). stamp_of d.draw) s.drawn (d ∷ [])) ∙ rises_more (map (λ (d : DrawnPage). stamp_of d.draw) s.drawn) (stamp_of d.draw) stamps_low old.rises;
          held = λ k e buffer from at got. held_case k e buffer from got (in_either s.drawn (d ∷ []) k e at);
          ahead = λ j item most at q sheet found client.
              ahead_case j item most q sheet found client
              (in_either (sent_chunks s.drawn) (sent_chunks (d ∷ [])) j item (ap (λ (items : List (Sent Sheet)). slice_get items j) (sym (chunks_more s.drawn (d ∷ []))) ∙ at));
        }
      where
        number_case : (k : ℕ) (e : DrawnPage) → InFront s.drawn k e ⊎ Behind s.drawn (d ∷ []) k e → e.number ≡ k
        number_case k e (inl f) = old.numbers k e f.there
        number_case k e (inr x) = let l = at_last k e x in ap (λ (d : DrawnPage). d.number) l.0 ∙ number ∙ sym l.1

        own_case : (k : ℕ) (e : DrawnPage) → InFront s.drawn k e ⊎ Behind s.drawn (d ∷ []) k e → e.client.number ≡ length a
        own_case k e (inl f) = old.own k e f.there
        own_case k e (inr x) = let l = at_last k e x in ap (λ (d : DrawnPage). d.client.number) l.0 ∙ own

        held_case : (k : ℕ) (e : DrawnPage) (buffer from : ℕ) → e.draw ≡ draws.Got buffer from → InFront s.drawn k e ⊎ Behind s.drawn (d ∷ []) k e → WasGiven sheets given (length a) k ⊎ IsOut n now buffer from
        held_case k e buffer from got (inl f) = held_still (length a) k buffer from (old.held k e buffer from f.there got)
        held_case k e buffer from got (inr x) = let l = at_last k e x in inr (drew.fresh buffer from (ap (λ (d : DrawnPage). d.draw) (sym l.0) ∙ got))

        ahead_case : (j : ℕ) (item : Sent Sheet) → taken (Chunks (length a)) log ≤ j → (q : ℕ) (sheet : Sheet) → slice_get sheets q ≡ Some sheet → sheet.header.client.number ≡ length a
            → InFront (sent_chunks s.drawn) j item ⊎ Behind (sent_chunks s.drawn) (sent_chunks (d ∷ [])) j item → sheet.header.page < item.item.header.page
        ahead_case j item most q sheet found client (inl f) = old.ahead j item most (ap (λ (items : List (Sent Sheet)). slice_get items j) old.chunks ∙ f.there) q sheet found client
        ahead_case j item most q sheet found client (inr x) =
            let low = page_low q sheet found client in
            let is = last_item d x.place item x.there in
            omega (arith, low, is, number)

    draw_clients : (client : ℕ) (t : ClientSends) → slice_get sends_later client ≡ Some t → ClientHolds n sends_later sheets given log client t
    draw_clients client t at = either (here_or_other a b later t client at)
      where
        either : IsHere a later t client ⊎ ((r : ClientSends) → slice_get (a ++ r ∷ b) client ≡ Some t) → ClientHolds n sends_later sheets given log client t
        either (inl e) = subst (λ (c : ℕ). ClientHolds n sends_later sheets given log c t) (sym e.place) (subst (λ (t : ClientSends). ClientHolds n sends_later sheets given log (length a) t) e.same later_holds)
        either (inr o) =
            let c = h.clients client t (o s) in
            record {
              chunks = c.chunks;
              numbers = c.numbers;
              own = c.own;
              rises = c.rises;
              held = λ k e buffer from there got. held_still client k buffer from (c.held k e buffer from there got);
              ahead = c.ahead;
            }

    pub draw_keeps : Holds n sends_later sheets given log
    unfolding drawn_still
    draw_keeps =
        record {
          pooled = drew.pooled;
          missed = h.missed;
          stamps = h.stamps;
          rising = h.rising;
          clients = draw_clients;
          answers =
              all_answers sends sends_later sheets sheets given given given
              (λ g x. record { sheet = x.sheet; drawn = drawn_still x.sheet x.drawn; is = x.is; answers = drew.answers x.drawn.buffer x.drawn.stamp g.stamp x.answers }) h.answers;
          drawn = λ q sheet at. drawn_still sheet (h.drawn q sheet at);
          apart = h.apart;
        }

-- ---- all draws

-- a client's page of this number with a draw
abbrev page_with : ClientId → ℕ → TimedPage → Draw → DrawnPage
page_with client number page draw =
    record {
      client = client;
      number = number;
      page = page.page;
      started = page.started;
      sent = page.sent;
      draw = draw;
    }

module _ (n : ℕ) (a b : List ClientSends) (sheets : List Sheet) (given : List GivenPlace) (log : List Step) (client : ClientId) (own : client.number ≡ length a) where
  abbrev with_client : ClientSends → List ClientSends
  with_client s = a ++ s ∷ b

  abbrev events_with : ClientSends → List StampedPoolEvent
  events_with s = events_in (with_client s) sheets given

  abbrev queue_with : ClientSends → List ℕ
  queue_with s = queue_after n (events_back (events_with s))

  abbrev HoldsWith : ClientSends → Type 0
  HoldsWith s = Holds n (with_client s) sheets given log

  none_more : (s : ClientSends) → HoldsWith s → HoldsWith (grown s [])
  none_more s h =
      let c = h.clients (length a) s (get_mid a s b) in
      subst HoldsWith
      (ap (λ (chunks : List (Sent Sheet)). record s { chunks = chunks }) c.chunks
      ∙ ap (λ (drawn : List DrawnPage). record s { drawn = drawn; chunks = sent_chunks drawn }) (sym (append-nil s.drawn)))
      h

  abbrev Draws : List TimedPage → ℕ → Type 0
  Draws pages count = (s : ClientSends) → HoldsWith s → HoldsWith (grown s (drawn_from client (length s.drawn) pages (next_draws count (length (events_with s)) (queue_with s))))

  module _ (page : TimedPage) (pages : List TimedPage) (count : ℕ) (on : Draws pages count) (s : ClientSends) (h : HoldsWith s) where
    -- one draw, and then the others
    then_more : (draw : Draw) → Drew n (events_with s) (events_with (grown s (page_with client (length s.drawn) page draw ∷ []))) draw → (queue : List ℕ) → queue_after n (event_drawn draw ∷ events_back (events_with s)) ≡ queue
        → HoldsWith (grown s (page_with client (length s.drawn) page draw ∷ drawn_from client (length s.drawn + 1) pages (next_draws count (length (events_with s) + 1) queue)))
    then_more draw drew queue is =
        let first = grown s (page_with client (length s.drawn) page draw ∷ []) in
        let one = draw_keeps n a b s sheets given log h (page_with client (length s.drawn) page draw) drew refl own in
        let rest = on first one in
        let number : length first.drawn ≡ length s.drawn + 1 = length-append s.drawn (page_with client (length s.drawn) page draw ∷ []) in
        let queued : queue_with first ≡ queue = ap (queue_after n) drew.last ∙ is in
        let more : List DrawnPage = drawn_from client (length s.drawn + 1) pages (next_draws count (length (events_with s) + 1) queue) in
        let whole : grown first more ≡ grown s (page_with client (length s.drawn) page draw ∷ more) =
        ap (λ (drawn : List DrawnPage). record s { drawn = drawn; chunks = sent_chunks drawn }) (append_assoc s.drawn (page_with client (length s.drawn) page draw ∷ []) more)
        in
        subst HoldsWith
        (ap (λ (k : ℕ). grown first (drawn_from client k pages (next_draws count (length (events_with first)) (queue_with first)))) number
        ∙ ap (λ (k : ℕ). grown first (drawn_from client (length s.drawn + 1) pages (next_draws count k (queue_with first)))) drew.more
        ∙ ap (λ (q : List ℕ). grown first (drawn_from client (length s.drawn + 1) pages (next_draws count (length (events_with s) + 1) q))) queued
        ∙ whole)
        rest

    queue_case : (queue : List ℕ) → queue_with s ≡ queue → HoldsWith (grown s (drawn_from client (length s.drawn) (page ∷ pages) (next_draws (suc count) (length (events_with s)) queue)))
    queue_case [] e =
        then_more (draws.Empty (length (events_with s))) (finds_drew n a b s sheets given log h (page_with client (length s.drawn) page (draws.Empty (length (events_with s)))) (record { none = e; is = refl })) [] e
    queue_case (buffer ∷ queue) e =
        then_more (draws.Got buffer (length (events_with s)))
        (takes_drew n a b s sheets given log h (page_with client (length s.drawn) page (draws.Got buffer (length (events_with s)))) (record { buffer = buffer; front = ap (λ (q : List ℕ). slice_get q 0) e; is = refl })) queue
        (ap (drop 1) e)

  pub draws_keep : (pages : List TimedPage) (count : ℕ) → Draws pages count
  draws_keep [] count s h = none_more s h
  draws_keep (page ∷ pages) zero s h = none_more s h
  draws_keep (page ∷ pages) (suc count) s h = queue_case page pages count (draws_keep pages count) s h (queue_with s) refl

  -- ---- and what happened at the pool

  -- the latest event is the last of the history
  last_event : (was now : List PoolEvent) (event : PoolEvent) → reverse now ≡ event ∷ reverse was → now ≡ was ++ event ∷ []
  last_event was now event e =
      sym (reverse-reverse now) ∙ ap reverse e ∙ reverse-append (event ∷ []) (reverse was) ∙ ap (λ (front : List PoolEvent). front ++ event ∷ []) (reverse-reverse was)

  abbrev history_with : ClientSends → List PoolEvent
  history_with s = history_of (events_with s)

  abbrev Told : List TimedPage → ℕ → Type 0
  Told pages count =
      (s : ClientSends) → HoldsWith s
      → history_with (grown s (drawn_from client (length s.drawn) pages (next_draws count (length (events_with s)) (queue_with s)))) ≡ history_with s ++ map event_drawn (next_draws count (length (events_with s)) (queue_with s))

  none_told : (s : ClientSends) → HoldsWith s → history_with (grown s []) ≡ history_with s ++ []
  none_told s h =
      let c = h.clients (length a) s (get_mid a s b) in
      ap history_with
      (ap (λ (drawn : List DrawnPage). record s { drawn = drawn; chunks = sent_chunks drawn }) (append-nil s.drawn) ∙ ap (λ (chunks : List (Sent Sheet)). record s { chunks = chunks }) (sym c.chunks))
      ∙ sym (append-nil (history_with s))

  module _ (page : TimedPage) (pages : List TimedPage) (count : ℕ) (on : Told pages count) (s : ClientSends) (h : HoldsWith s) where
    told_more : (draw : Draw) → Drew n (events_with s) (events_with (grown s (page_with client (length s.drawn) page draw ∷ []))) draw → (queue : List ℕ) → queue_after n (event_drawn draw ∷ events_back (events_with s)) ≡ queue
        → history_with (grown s (page_with client (length s.drawn) page draw ∷ drawn_from client (length s.drawn + 1) pages (next_draws count (length (events_with s) + 1) queue)))
        ≡ history_with s ++ event_drawn draw ∷ map event_drawn (next_draws count (length (events_with s) + 1) queue)
    told_more draw drew queue is =
        let first = grown s (page_with client (length s.drawn) page draw ∷ []) in
        let one = draw_keeps n a b s sheets given log h (page_with client (length s.drawn) page draw) drew refl own in
        let number : length first.drawn ≡ length s.drawn + 1 = length-append s.drawn (page_with client (length s.drawn) page draw ∷ []) in
        let queued : queue_with first ≡ queue = ap (queue_after n) drew.last ∙ is in
        let more : List DrawnPage = drawn_from client (length s.drawn + 1) pages (next_draws count (length (events_with s) + 1) queue) in
        let whole : grown first more ≡ grown s (page_with client (length s.drawn) page draw ∷ more) =
        ap (λ (drawn : List DrawnPage). record s { drawn = drawn; chunks = sent_chunks drawn }) (append_assoc s.drawn (page_with client (length s.drawn) page draw ∷ []) more)
        in
        let rest : history_with (grown first more) ≡ history_with first ++ map event_drawn (next_draws count (length (events_with s) + 1) queue) =
        subst (λ (q : List ℕ). history_with (grown first (drawn_from client (length s.drawn + 1) pages (next_draws count (length (events_with s) + 1) q))) ≡ history_with first ++ map event_drawn (next_draws count (length (events_with s) + 1) q)) queued
        (subst (λ (t : ℕ). history_with (grown first (drawn_from client (length s.drawn + 1) pages (next_draws count t (queue_with first)))) ≡ history_with first ++ map event_drawn (next_draws count t (queue_with first))) drew.more
        (subst
        (λ (k : ℕ).
        history_with (grown first (drawn_from client k pages (next_draws count (length (events_with first)) (queue_with first)))) ≡ history_with first ++ map event_drawn (next_draws count (length (events_with first)) (queue_with first))) number
        (on first one)))
        in
        ap history_with (sym whole)
        ∙ rest
        ∙ ap (λ (front : List PoolEvent). front ++ map event_drawn (next_draws count (length (events_with s) + 1) queue)) (last_event (history_with s) (history_with first) (event_drawn draw) drew.last)
        ∙ append_assoc (history_with s) (event_drawn draw ∷ []) (map event_drawn (next_draws count (length (events_with s) + 1) queue))

    told_case : (queue : List ℕ) → queue_with s ≡ queue
        → history_with (grown s (drawn_from client (length s.drawn) (page ∷ pages) (next_draws (suc count) (length (events_with s)) queue))) ≡ history_with s ++ map event_drawn (next_draws (suc count) (length (events_with s)) queue)
    told_case [] e =
        told_more (draws.Empty (length (events_with s))) (finds_drew n a b s sheets given log h (page_with client (length s.drawn) page (draws.Empty (length (events_with s)))) (record { none = e; is = refl })) [] e
    told_case (buffer ∷ queue) e =
        told_more (draws.Got buffer (length (events_with s)))
        (takes_drew n a b s sheets given log h (page_with client (length s.drawn) page (draws.Got buffer (length (events_with s)))) (record { buffer = buffer; front = ap (λ (q : List ℕ). slice_get q 0) e; is = refl })) queue
        (ap (drop 1) e)

  -- where there is a page for each draw, the draws are the last of what happened
  pub draws_told : (pages : List TimedPage) (count : ℕ) → count ≤ length pages → Told pages count
  draws_told [] zero low s h = none_told s h
  draws_told [] (suc count) low s h = absurd (omega (arith, low))
  draws_told (page ∷ pages) zero low s h = none_told s h
  draws_told (page ∷ pages) (suc count) low s h = told_case page pages count (draws_told pages count (omega (arith, low))) s h (queue_with s) refl
