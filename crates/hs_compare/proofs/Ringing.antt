-- What a ring holds: the records in it came, the traces that it knows as named are named, and so it keeps records of named traces alone.
use Rattle.std.proofs.Common.{◌≡◌, ℕ, ◌-◌, ◌*◌, ◌<◌, Bool, true, false, not, cond, List, [], ◌∷◌, ◌++◌, length, refl, sym, arith, map, filter, fold, zip, eqb, eqb-true, Contains}
use Rattle.hs_compare.proofs.Prelude.{AllByRecursion, flat_map, range_with_len, IsIn, all_each, all_append, all_flat_range, all_map, ClientId, TraceId, AutoRule, is_among, Operation, PlainWorkload, Sent, operations_at, sent_triggers, point_numbers, rounds_of, client_at, in_filter, SamplerEvent, Comes, Names, comings_of, sent_comings, items_at, names_in, events_at, events_in_order, all_comings, named_in, is_of, tail_keeps, SamplerRing, empty_ring, last_ones, ring_step, ring_keeps}
use Rattle.std.proofs.lemmas.List.Elements.{All-from_recursion}
use Rattle.hs_base.proofs.Alls.{all_drop, all_flat_map}
use Rattle.hs_law_outcome.proofs.Among.{contained}
use Rattle.hs_compare.specs.Coming.{Coming, events_of}
use Rattle.hs_compare.specs.SamplerLaws.{RingKeepsLess}
use Rattle.hs_compare.proofs.Lists.{all_filtered, all_themselves, in_flat, in_range}
use Rattle.hs_compare.proofs.Naming.{Among, among_same, among_all, among_in, NamesOnly, all_named}

-- ---- one event

module _ (all : List Coming) (named : List TraceId) where
  -- a record that came, of a named trace
  pub record IsNamed (coming : Coming) : Type 0 where
    pub came : IsIn all coming
    pub of : Among named coming.trace

  pub record Holds (ring : SamplerRing) : Type 0 where
    pub waiting : AllByRecursion (IsIn all) ring.waiting
    pub known : AllByRecursion (Among named) ring.named
    pub kept : AllByRecursion IsNamed ring.kept

  abbrev IsRight : SamplerEvent → Type 0
  IsRight (Comes coming) = IsIn all coming
  IsRight (Names trace) = Among named trace

  comes_right : (room : ℕ) (coming : Coming) (ring : SamplerRing) (b : Bool) → is_among ring.named coming.trace ≡ b → IsIn all coming → Holds ring
      → Holds (cond b (record ring { kept = ring.kept ++ coming ∷ [] }) (record ring { waiting = last_ones room (ring.waiting ++ coming ∷ []) }))
  comes_right room coming ring true e came h =
      record { waiting = h.waiting; known = h.known; kept = all_append IsNamed ring.kept (coming ∷ []) h.kept (record { came = came; of = among_all named ring.named coming.trace h.known e }, tt) }
  comes_right room coming ring false e came h =
      let more = ring.waiting ++ coming ∷ [] in
      record { waiting = all_drop (IsIn all) (length more - room) more (all_append (IsIn all) ring.waiting (coming ∷ []) h.waiting (came, tt)); known = h.known; kept = h.kept }

  names_right : (trace : TraceId) (ring : SamplerRing) (b : Bool) → Among named trace → Holds ring
      → Holds
      (cond b ring
      (record { waiting = filter (λ c. not (is_of trace c)) ring.waiting; named = ring.named ++ trace ∷ []; kept = ring.kept ++ filter (is_of trace) ring.waiting }))
  names_right trace ring true is h = h
  names_right trace ring false is h =
      record {
        waiting = all_filtered (IsIn all) (IsIn all) (λ c. not (is_of trace c)) (λ c came passes. came) ring.waiting h.waiting;
        known = all_append (Among named) ring.named (trace ∷ []) h.known (is, tt);
        kept =
            all_append IsNamed ring.kept (filter (is_of trace) ring.waiting) h.kept
            (all_filtered (IsIn all) IsNamed (is_of trace)
            (λ c came passes. record { came = came; of = among_same named trace c.trace (sym (eqb-true c.trace.0 trace.0 passes)) is }) ring.waiting h.waiting);
      }

  step_right : (room : ℕ) (event : SamplerEvent) (ring : SamplerRing) → IsRight event → Holds ring → Holds (ring_step room ring event)
  step_right room (Comes coming) ring right h = comes_right room coming ring (is_among ring.named coming.trace) refl right h
  step_right room (Names trace) ring right h = names_right trace ring (is_among ring.named trace) right h

  steps_right : (room : ℕ) (events : List SamplerEvent) (ring : SamplerRing) → AllByRecursion IsRight events → Holds ring → Holds (fold (ring_step room) ring events)
  steps_right room [] ring right h = h
  steps_right room (event ∷ events) ring right h = steps_right room events (ring_step room ring event) right.1 (step_right room event ring right.0 h)

-- ---- all events

-- a record that comes with an event has this
abbrev ComesAs : (Coming → Type 0) → SamplerEvent → Type 0
ComesAs P (Comes coming) = P coming
ComesAs P (Names trace) = Unit {0}

second : {X Y : Type 0} (P : Y → Type 0) (xs : List X) (ys : List Y) → AllByRecursion P ys → AllByRecursion (λ (pair : X × Y). P pair.1) (zip xs ys)
second P [] ys all = tt
second P (x ∷ xs) [] all = tt
second P (x ∷ xs) (y ∷ ys) all = (all.0, second P xs ys all.1)

module _ (P : Coming → Type 0) where
  sent_right : (client : ClientId) (ops : List Operation) → AllByRecursion P (comings_of client ops) → AllByRecursion (λ (item : Sent Coming). P item.item) (sent_comings client ops)
  sent_right client ops all =
      all_map (λ (item : Sent Coming). P item.item) (λ (c : ℕ × Coming). record { number = c.0; item = c.1 }) (zip (point_numbers ops) (comings_of client ops)) (second P (point_numbers ops) (comings_of client ops) all)

  items_right : (n : ℕ) (items : List (Sent Coming)) → AllByRecursion (λ (item : Sent Coming). P item.item) items → AllByRecursion P (items_at n items)
  items_right n items all =
      all_map P (λ (item : Sent Coming). item.item) (filter (λ (item : Sent Coming). eqb item.number n) items)
      (all_filtered (λ (item : Sent Coming). P item.item) (λ (item : Sent Coming). P item.item) (λ (item : Sent Coming). eqb item.number n) (λ item here passes. here) items all)

  none_comes : (traces : List TraceId) → AllByRecursion (ComesAs P) (map Names traces)
  none_comes [] = tt
  none_comes (trace ∷ traces) = (tt, none_comes traces)

  at_right : (autos : List AutoRule) (client : ClientId) (ops : List Operation) (n : ℕ) → AllByRecursion P (comings_of client ops) → AllByRecursion (ComesAs P) (events_at autos client ops n)
  at_right autos client ops n all =
      let named = flat_map names_in (items_at n (sent_triggers autos ops)) in
      all_append (ComesAs P) (map Comes (items_at n (sent_comings client ops))) (map Names named)
      (all_map (ComesAs P) Comes (items_at n (sent_comings client ops)) (items_right n (sent_comings client ops) (sent_right client ops all))) (none_comes named)

module _ (W : PlainWorkload) where
  client_came : (place : ℕ) → place < length W.clients → AllByRecursion (IsIn (all_comings W)) (comings_of (client_at W.settings.clients place) (operations_at W place))
  client_came place low =
      let f : ℕ → List Coming = λ place. comings_of (client_at W.settings.clients place) (operations_at W place) in
      all_each (IsIn (f place)) (IsIn (all_comings W)) (f place)
      (λ c h. in_flat f (range_with_len 0 (length W.clients)) place c (in_range 0 (length W.clients) place place (omega arith) low) h) (all_themselves (f place))

  all_came : AllByRecursion (ComesAs (IsIn (all_comings W))) (events_in_order W)
  all_came =
      let Q = ComesAs (IsIn (all_comings W)) in
      all_flat_map Q (λ round. flat_map (events_of W round) (range_with_len 0 (length W.clients))) (range_with_len 0 (rounds_of W))
      (λ round. all_flat_range Q (events_of W round) 0 (length W.clients)
      (λ place below.
      let low : place < length W.clients = omega (arith, below) in
      all_flat_map Q (events_at W.settings.autos (client_at W.settings.clients place) (operations_at W place)) (range_with_len (round * W.settings.stride) W.settings.stride)
      (λ n. at_right (IsIn (all_comings W)) W.settings.autos (client_at W.settings.clients place) (operations_at W place) n (client_came place low))))

  all_are_named : AllByRecursion (NamesOnly (Among (named_in W))) (events_in_order W)
  all_are_named =
      all_named (Among (named_in W)) (events_in_order W) (all_each (IsIn (named_in W)) (Among (named_in W)) (named_in W) (λ trace h. among_in (named_in W) trace h) (all_themselves (named_in W)))

  both_right : (events : List SamplerEvent) → AllByRecursion (ComesAs (IsIn (all_comings W))) events → AllByRecursion (NamesOnly (Among (named_in W))) events → AllByRecursion (IsRight (all_comings W) (named_in W)) events
  both_right [] came named = tt
  both_right (Comes coming ∷ events) came named = (came.0, both_right events came.1 named.1)
  both_right (Names trace ∷ events) came named = (named.0, both_right events came.1 named.1)

  pub ring_holds : (room : ℕ) → Holds (all_comings W) (named_in W) (fold (ring_step room) empty_ring (events_in_order W))
  ring_holds room =
      steps_right (all_comings W) (named_in W) room (events_in_order W) empty_ring (both_right (events_in_order W) all_came all_are_named) (record { waiting = tt; known = tt; kept = tt })

pub ring_keeps_less : RingKeepsLess
ring_keeps_less W room =
    All-from_recursion (Contains (tail_keeps W)) (ring_keeps room W)
    (all_each (IsNamed (all_comings W) (named_in W)) (Contains (tail_keeps W)) (ring_keeps room W)
    (λ c is. contained (tail_keeps W) c (in_filter (λ (c : Coming). is_among (named_in W) c.trace) (all_comings W) c is.came is.of)) (ring_holds W room).kept)
