-- The pages of a node: each stands at the number of its client and its own, and of the later draws of a client the next one has the
-- lowest stamp.
use Rattle.std.proofs.Common.{◌≡◌, ℕ, zero, suc, ◌+◌, ◌-◌, ◌<◌, ◌≤◌, Bool, true, false, eqb, ltb, List, [], ◌∷◌, ◌++◌, map, Option, Some, None, refl, sym, ap, ◌∙◌, inl, inr, arith}
use Rattle.hs_check.proofs.Prelude.{slice_get, option_map, ◌&&◌, ◌||◌, flat_map, list_any, range_with_len, AllByRecursion, option_and_then, option_map_or, and_parts, and_from, and_right, eq-eqb, ne_eqb, lt-ltb, le-ltb, cases_eq, cases_lt, map-append, list_any-append, all_each, all_append, Draw, PlainJournal, PlainWorkload, DrawnPage, has_buffer, stamp_of, ClientSends, draws_at, place_of, draw_stamps, rise, rise_above, same_page, FoundClient, FoundPage, AreFound, IsFoundClient, starts_of, drawn_lists, PageDraw, first_stamp, page_draws, all_page_draws, is_named, is_passed}
use Rattle.std.proofs.lemmas.Bool.{and_left, eqb-true, ltb-true, false_from_ne_true, true≢false}
use Rattle.hs_base.proofs.Tests.{list_any_none}
use Rattle.hs_base.specs.declared.ids.ClientId.{ClientId}
use Rattle.hs_client.specs.Drawn.{drawn_from}
use Rattle.hs_client.specs.Sending.{operations_at, client_sends}
use Rattle.hs_client.specs.Timing.{TimedPage, timed_pages}
use Rattle.hs_client.proofs.Order.{page_at as own_at}

-- the page of a client's number and its own
abbrev pub page_at : List ClientSends → ℕ → ℕ → Option DrawnPage
page_at sends client number = option_and_then (λ (s : ClientSends). slice_get s.drawn number) (slice_get sends client)

abbrev pub all_pages : List ClientSends → List DrawnPage
all_pages sends = flat_map (λ (s : ClientSends). s.drawn) sends

-- ---- a client's pages

-- a page of a client, among pages that are numbered from one on
record IsOwn (of : ClientId) (first : ℕ) (pages : List DrawnPage) (d : DrawnPage) : Type 0 where
  client : d.client ≡ of
  place : ℕ
  number : d.number ≡ first + place
  at : slice_get pages place ≡ Some d

own_pages : (of : ClientId) (k : ℕ) (pages : List TimedPage) (draws : List Draw) → AllByRecursion (IsOwn of k (drawn_from of k pages draws)) (drawn_from of k pages draws)
own_pages of k [] draws = tt
own_pages of k (p ∷ pages) [] = tt
own_pages of k (p ∷ pages) (draw ∷ draws) = (
  record {
    client = refl;
    place = 0;
    number = omega arith;
    at = refl;
  },
  all_each (IsOwn of (k + 1) (drawn_from of (k + 1) pages draws)) (IsOwn of k (drawn_from of k (p ∷ pages) (draw ∷ draws))) (drawn_from of (k + 1) pages draws)
      (λ d h. let e = h.number in record {
        client = h.client;
        place = suc h.place;
        number = omega (arith, e);
        at = h.at;
      }) (own_pages of (k + 1) pages draws),
)

-- ---- the pages of all clients

-- a page of clients who are numbered from one on
pub record Stands (sends : List ClientSends) (first : ℕ) (d : DrawnPage) : Type 0 where
  pub place : ℕ
  pub client : d.client.number ≡ first + place
  pub at : page_at sends place d.number ≡ Some d

module _ (W : PlainWorkload) (J : PlainJournal) (node : ℕ) where
  -- what the clients from a number on send
  abbrev pub sends_from : ℕ → ℕ → List ClientSends
  sends_from a m = map (client_sends W J node) (range_with_len a m)

  abbrev id_of : ℕ → ClientId
  id_of number = record { node = node; number = number }

  abbrev pages_of : ℕ → List TimedPage
  pages_of number = timed_pages W.settings.size (operations_at W (place_of W.settings.clients node number))

  abbrev draws_of : ℕ → List Draw
  draws_of number = draws_at J (place_of W.settings.clients node number)

  pub all_stand : (a m : ℕ) → AllByRecursion (Stands (sends_from a m) a) (all_pages (sends_from a m))
  all_stand a zero = tt
  all_stand a (suc m) =
      let drawn = (client_sends W J node a).drawn in
      let sends = sends_from a (suc m) in
      let rest = sends_from (a + 1) m in
      all_append (Stands sends a) drawn (all_pages rest)
      (all_each (IsOwn (id_of a) 0 drawn) (Stands sends a) drawn
      (λ d h.
      let e = h.number in
      let place : d.number ≡ h.place = omega (arith, e) in
      let client : d.client.number ≡ a = ap (λ (c : ClientId). c.number) h.client in
      record { place = 0; client = omega (arith, client); at = ap (slice_get drawn) place ∙ h.at })
      (own_pages (id_of a) 0 (pages_of a) (draws_of a)))
      (all_each (Stands rest (a + 1)) (Stands sends a) (all_pages rest)
      (λ d h. let e = h.client in record { place = suc h.place; client = omega (arith, e); at = h.at })
      (all_stand (a + 1) m))

  at_own : (a m client number : ℕ) (d : DrawnPage) → page_at (sends_from a m) client number ≡ Some d → (d.client.number ≡ a + client) × (d.number ≡ number)
  at_own a zero client number d e = let none : None ≡ Some d = e in absurd cc
  at_own a (suc m) zero number d e =
      let h = own_at (id_of a) 0 (pages_of a) (draws_of a) number d e in
      let n = h.1 in
      let client : d.client.number ≡ a = ap (λ (c : ClientId). c.number) h.0 in
      (omega (arith, client), omega (arith, n))
  at_own a (suc m) (suc client) number d e = let h = at_own (a + 1) m client number d e in let c = h.0 in (omega (arith, c), h.1)

  pub client_within : (a m client number : ℕ) (d : DrawnPage) → page_at (sends_from a m) client number ≡ Some d → client < m
  client_within a zero client number d e = let none : None ≡ Some d = e in absurd cc
  client_within a (suc m) zero number d e = omega arith
  client_within a (suc m) (suc client) number d e = let h = client_within (a + 1) m client number d e in omega (arith, h)

  -- ---- names

  eqb_turned : (a b : ℕ) → eqb a b ≡ eqb b a
  eqb_turned a b = elim (cases_eq a b) [ inl same ↦ eq-eqb a b same ∙ sym (eq-eqb b a (sym same)) | inr other ↦ ne_eqb a b other ∙ sym (ne_eqb b a (λ e. other (sym e))) ]

  -- the page that has a name is this one
  pub named_is : (m : ℕ) (d : DrawnPage) → page_at (sends_from 0 m) d.client.number d.number ≡ Some d → (name : FoundPage)
      → option_map_or (same_page d) (page_at (sends_from 0 m) name.client name.page) false ≡ is_named (record { client = d.client.number; page = d.number }) name
  named_is m d there name = at (page_at (sends_from 0 m) name.client name.page) refl
    where
      at : (o : Option DrawnPage) → page_at (sends_from 0 m) name.client name.page ≡ o → option_map_or (same_page d) o false ≡ is_named (record { client = d.client.number; page = d.number }) name
      at (Some e) is =
          let own = at_own 0 m name.client name.page e is in
          let c = own.0 in
          let client : e.client.number ≡ name.client = omega (arith, c) in
          ap (λ k. eqb d.client.number k && eqb d.number e.number) client ∙ ap (λ k. eqb d.client.number name.client && eqb d.number k) own.1
          ∙ ap (λ b. b && eqb d.number name.page) (eqb_turned d.client.number name.client) ∙ ap (λ b. eqb name.client d.client.number && b) (eqb_turned d.number name.page)
      at None is =
          sym (false_from_ne_true (eqb name.client d.client.number && eqb name.page d.number) (λ h.
          let both = and_parts (eqb name.client d.client.number) (eqb name.page d.number) h in
          let here : page_at (sends_from 0 m) name.client name.page ≡ Some d =
          ap (λ k. page_at (sends_from 0 m) k name.page) (eqb-true name.client d.client.number both.0) ∙ ap (page_at (sends_from 0 m) d.client.number) (eqb-true name.page d.number both.1) ∙ there in
          let no : None ≡ Some d = sym is ∙ here in absurd cc))

  -- ---- draws

  -- a page's draw as the code has it
  abbrev pub page_draw : List ClientSends → DrawnPage → PageDraw
  page_draw sends d =
      record {
        page = record { client = d.client.number; page = d.number };
        stamp = stamp_of d.draw;
        got = has_buffer d.draw;
        next = option_map (λ (e : DrawnPage). stamp_of e.draw) (page_at sends d.client.number (d.number + 1));
        started = d.started;
      }

  first_is : (pages : List DrawnPage) → first_stamp (map (λ (d : DrawnPage). d.draw) pages) ≡ option_map (λ (e : DrawnPage). stamp_of e.draw) (slice_get pages 0)
  first_is [] = refl
  first_is (d ∷ pages) = refl

  client_draws : (sends : List ClientSends) (of : ClientId) (k : ℕ) (pages : List TimedPage) (draws : List Draw) → ((j : ℕ) → page_at sends of.number (k + j) ≡ slice_get (drawn_from of k pages draws) j)
      → page_draws of.number k (starts_of (drawn_from of k pages draws)) (map (λ (d : DrawnPage). d.draw) (drawn_from of k pages draws)) ≡ map (page_draw sends) (drawn_from of k pages draws)
  client_draws sends of k [] draws there = refl
  client_draws sends of k (p ∷ pages) [] there = refl
  client_draws sends of k (p ∷ pages) (draw ∷ draws) there =
      let later = drawn_from of (k + 1) pages draws in
      let next : first_stamp (map (λ (d : DrawnPage). d.draw) later) ≡ option_map (λ (e : DrawnPage). stamp_of e.draw) (page_at sends of.number (k + 1)) =
      first_is later ∙ sym (ap (option_map (λ (e : DrawnPage). stamp_of e.draw)) (there 1)) in
      ap (λ (n : Option ℕ). record {
        page = record { client = of.number; page = k };
        stamp = stamp_of draw;
        got = has_buffer draw;
        next = n;
        started = p.started;
      } ∷ page_draws of.number (k + 1) (starts_of later) (map (λ (d : DrawnPage). d.draw) later)) next
      ∙ ap (λ (l : List PageDraw). page_draw sends (record {
        client = of;
        number = k;
        page = p.page;
        started = p.started;
        sent = p.sent;
        draw = draw;
      }) ∷ l) (client_draws sends of (k + 1) pages draws (λ j. let more : k + 1 + j ≡ k + suc j = omega arith in ap (page_at sends of.number) more ∙ there (suc j)))

  pub draws_are : (sends : List ClientSends) (a m : ℕ) (clients : List FoundClient) → AreFound IsFoundClient (sends_from a m) clients → ((j number : ℕ) → page_at sends (a + j) number ≡ page_at (sends_from a m) j number)
      → all_page_draws a clients (drawn_lists (sends_from a m)) ≡ map (page_draw sends) (all_pages (sends_from a m))
  draws_are sends a zero [] all there = refl
  draws_are sends a zero (c ∷ clients) all there = absurd all
  draws_are sends a (suc m) [] all there = absurd all
  draws_are sends a (suc m) (c ∷ clients) all there =
      let drawn = (client_sends W J node a).drawn in
      let rest = sends_from (a + 1) m in
      let none : a ≡ a + 0 = omega arith in
      let own = client_draws sends (id_of a) 0 (pages_of a) (draws_of a) (λ j. let same : 0 + j ≡ j = omega arith in ap (page_at sends a) same ∙ ap (λ k. page_at sends k j) none ∙ there 0 j) in
      ap (λ (l : List ℕ). page_draws a 0 l (map (λ (d : DrawnPage). d.draw) drawn) ++ all_page_draws (a + 1) clients (drawn_lists rest)) all.0.started
      ∙ ap (λ (l : List PageDraw). l ++ all_page_draws (a + 1) clients (drawn_lists rest)) own
      ∙ ap (λ (l : List PageDraw). map (page_draw sends) drawn ++ l) (draws_are sends (a + 1) m clients all.1 (λ j number. let more : a + 1 + j ≡ a + suc j = omega arith in ap (λ k. page_at sends k number) more ∙ there (suc j) number))
      ∙ sym (map-append (page_draw sends) drawn (all_pages rest))

  -- ---- the next draw decides

  module _ (stamps : List ℕ) (c n : ℕ) where
    -- whether a page is a later one of the client, with a stamp below one of these
    abbrev is_past : DrawnPage → Bool
    is_past e = eqb e.client.number c && ltb n e.number && list_any (λ stamp. ltb (stamp_of e.draw) stamp) stamps

    passed_below : (x y : ℕ) (ss : List ℕ) → x ≤ y → is_passed ss x ≡ false → is_passed ss y ≡ false
    passed_below x y [] low none = refl
    passed_below x y (s ∷ ss) low none =
        elim (cases_lt x s) [
          | inl less ↦ (let yes : true ≡ false = sym (ap (λ b. b || is_passed ss x) (lt-ltb x s less)) ∙ none in absurd (true≢false yes))
          | inr high ↦ ap (λ b. b || is_passed ss y) (le-ltb y s (omega arith)) ∙ passed_below x y ss low (sym (ap (λ b. b || is_passed ss x) (le-ltb x s high)) ∙ none)
        ]

    above : (before : ℕ) (of : ClientId) (k : ℕ) (pages : List TimedPage) (draws : List Draw) → rise_above before (draw_stamps draws) ≡ true → AllByRecursion (λ (e : DrawnPage). before ≤ stamp_of e.draw) (drawn_from of k pages draws)
    above before of k [] draws up = tt
    above before of k (p ∷ pages) [] up = tt
    above before of k (p ∷ pages) (draw ∷ draws) up =
        let both = and_parts (ltb before (stamp_of draw)) (rise_above (stamp_of draw) (draw_stamps draws)) up in
        let less = ltb-true before (stamp_of draw) both.0 in (
          omega (arith, less),
          all_each (λ (e : DrawnPage). stamp_of draw ≤ stamp_of e.draw) (λ (e : DrawnPage). before ≤ stamp_of e.draw) (drawn_from of (k + 1) pages draws) (λ e h. omega (arith, h, less)) (above (stamp_of draw) of (k + 1) pages draws both.1),
        )

    rest_rises : (draw : Draw) (draws : List Draw) → rise (draw_stamps (draw ∷ draws)) ≡ true → rise (draw_stamps draws) ≡ true
    rest_rises draw [] up = refl
    rest_rises draw (next ∷ draws) up = (and_parts (ltb (stamp_of draw) (stamp_of next)) (rise_above (stamp_of next) (draw_stamps draws)) up).1

    or_none : (a b : Bool) → b ≡ false → (a || b) ≡ a
    or_none true b e = refl
    or_none false b e = e

    or_same : (a b : Bool) → (a ≡ false → b ≡ false) → (a || b) ≡ a
    or_same true b e = refl
    or_same false b e = e refl

    client_past : (of : ClientId) (k : ℕ) (pages : List TimedPage) (draws : List Draw) → of.number ≡ c → rise (draw_stamps draws) ≡ true → k ≤ n + 1
        → list_any is_past (drawn_from of k pages draws) ≡ option_map_or (is_passed stamps) (option_map (λ (e : DrawnPage). stamp_of e.draw) (slice_get (drawn_from of k pages draws) (n + 1 - k))) false
    client_past of k [] draws own up low = refl
    client_past of k (p ∷ pages) [] own up low = refl
    client_past of k (p ∷ pages) (draw ∷ draws) own up low =
        let later = drawn_from of (k + 1) pages draws in
        let all = drawn_from of k (p ∷ pages) (draw ∷ draws) in
        let here = is_passed stamps (stamp_of draw) in
        elim (cases_lt n k) [
          | inr before ↦
              (let step : n + 1 - k ≡ suc (n + 1 - (k + 1)) = omega arith in
              ap (λ b. b || list_any is_past later) (and_left (eqb of.number c && ltb n k) here (and_right (eqb of.number c) (ltb n k) (le-ltb n k before)))
              ∙ client_past of (k + 1) pages draws own (rest_rises draw draws up) (omega arith)
              ∙ sym (ap (λ j. option_map_or (is_passed stamps) (option_map (λ (e : DrawnPage). stamp_of e.draw) (slice_get all j)) false) step))
          | inl behind ↦
              (let none : n + 1 - k ≡ 0 = omega arith in
              ap (λ b. (b && here) || list_any is_past later) (and_from (eqb of.number c) (ltb n k) (eq-eqb of.number c own) (lt-ltb n k behind))
              ∙ or_same here (list_any is_past later)
              (λ nothing. list_any_none is_past later
              (all_each (λ (e : DrawnPage). stamp_of draw ≤ stamp_of e.draw) (λ (e : DrawnPage). is_past e ≡ false) later
              (λ e h. and_right (eqb e.client.number c && ltb n e.number) (is_passed stamps (stamp_of e.draw)) (passed_below (stamp_of draw) (stamp_of e.draw) stamps h nothing))
              (above (stamp_of draw) of (k + 1) pages draws up)))
              ∙ sym (ap (λ j. option_map_or (is_passed stamps) (option_map (λ (e : DrawnPage). stamp_of e.draw) (slice_get all j)) false) none))
        ]

    other_client : (a : ℕ) → (a ≡ c → ⊥) → list_any is_past (client_sends W J node a).drawn ≡ false
    other_client a other =
        let drawn = (client_sends W J node a).drawn in
        list_any_none is_past drawn
        (all_each (IsOwn (id_of a) 0 drawn) (λ (e : DrawnPage). is_past e ≡ false) drawn
        (λ e h.
        let client : e.client.number ≡ a = ap (λ (x : ClientId). x.number) h.client in
        and_left (eqb e.client.number c && ltb n e.number) (list_any (λ stamp. ltb (stamp_of e.draw) stamp) stamps) (and_left (eqb e.client.number c) (ltb n e.number) (ne_eqb e.client.number c (λ same. other (sym client ∙ same)))))
        (own_pages (id_of a) 0 (pages_of a) (draws_of a)))

    later_clients : (a m : ℕ) → c < a → list_any is_past (all_pages (sends_from a m)) ≡ false
    later_clients a zero low = refl
    later_clients a (suc m) low =
        list_any-append is_past (client_sends W J node a).drawn (all_pages (sends_from (a + 1) m))
        ∙ ap (λ b. b || list_any is_past (all_pages (sends_from (a + 1) m))) (other_client a (λ e. omega (arith, e)))
        ∙ later_clients (a + 1) m (omega arith)

    pub past_is : (a m : ℕ) → a ≤ c → c < a + m → ((number : ℕ) → number < a + m → rise (draw_stamps (draws_at J (place_of W.settings.clients node number))) ≡ true)
        → list_any is_past (all_pages (sends_from a m)) ≡ option_map_or (is_passed stamps) (option_map (λ (e : DrawnPage). stamp_of e.draw) (page_at (sends_from a m) (c - a) (n + 1))) false
    past_is a zero low high up = absurd (omega arith)
    past_is a (suc m) low high up =
        let drawn = (client_sends W J node a).drawn in
        let rest = sends_from (a + 1) m in
        let sends = sends_from a (suc m) in
        let found : Option DrawnPage → Bool = λ o. option_map_or (is_passed stamps) (option_map (λ (e : DrawnPage). stamp_of e.draw) o) false in
        list_any-append is_past drawn (all_pages rest)
        ∙ elim (cases_eq a c) [
          | inl same ↦
              (let none : c - a ≡ 0 = omega (arith, same) in
              let whole : n + 1 - 0 ≡ n + 1 = omega arith in
              or_none (list_any is_past drawn) (list_any is_past (all_pages rest)) (later_clients (a + 1) m (omega (arith, same)))
              ∙ client_past (id_of a) 0 (pages_of a) (draws_of a) same (up a (omega arith)) (omega arith)
              ∙ ap (λ j. found (slice_get drawn j)) whole
              ∙ sym (ap (λ j. found (page_at sends j (n + 1))) none))
          | inr other ↦
              (let step : c - a ≡ suc (c - (a + 1)) = omega (arith, other) in
              ap (λ b. b || list_any is_past (all_pages rest)) (other_client a other)
              ∙ past_is (a + 1) m (omega (arith, other)) (omega arith) (λ number less. up number (omega (arith, less)))
              ∙ sym (ap (λ j. found (page_at sends j (n + 1))) step))
        ]
