-- A record that came waits, is kept, or left the ring for good, and only one of these.
use Rattle.std.proofs.Common.{◌≡◌, ℕ, ◌-◌, Bool, true, false, not, cond, List, [], ◌∷◌, ◌++◌, length, take, drop, refl, sym, ap, subst, ◌∙◌, filter, fold, append_assoc, append-nil}
use Rattle.hs_compare.proofs.Prelude.{IsPermutation, AllByRecursion, flat_map, filter-append, TraceId, is_among, SamplerEvent, Comes, Names, events_in_order, all_comings, named_in, brought_by, RingKeepsEachOnce, is_of, tail_keeps, SamplerRing, empty_ring, last_ones, ring_step}
use Rattle.std.proofs.lemmas.List.{take-append-drop}
use Rattle.hs_compare.specs.Coming.{Coming}
use Rattle.hs_compare.proofs.Order.{all_in_order}
use Rattle.hs_compare.proofs.Ringing.{IsNamed, ring_holds}
use Rattle.hs_compare.proofs.Same.{Same, Joins, same_from, behind, before, into, crossed, filtered, in_parts, to_permutation}

-- what is in the ring or kept
abbrev held : SamplerRing → List Coming
held ring = ring.waiting ++ ring.kept

-- behind these records and a ring, the next ring and what has left
record Moves (records : List Coming) (ring next : SamplerRing) : Type 0 where
  left : List Coming
  same : Same (records ++ held ring) (held next ++ left)

comes_moves : (room : ℕ) (c : Coming) (ring : SamplerRing) (b : Bool)
    → Moves (c ∷ []) ring (cond b (record ring { kept = ring.kept ++ c ∷ [] }) (record ring { waiting = last_ones room (ring.waiting ++ c ∷ []) }))
comes_moves room c ring true =
    record {
      left = [];
      same =
          Joins (c ∷ held ring) (held ring ++ c ∷ []) ((ring.waiting ++ (ring.kept ++ c ∷ [])) ++ []) (crossed (c ∷ []) (held ring))
          (same_from _ _ (append_assoc ring.waiting ring.kept (c ∷ []) ∙ sym (append-nil (ring.waiting ++ (ring.kept ++ c ∷ [])))));
    }
comes_moves room c ring false =
    let more = ring.waiting ++ c ∷ [] in
    let n = length more - room in
    record {
      left = take n more;
      same =
          Joins (c ∷ held ring) (ring.waiting ++ c ∷ ring.kept) ((drop n more ++ ring.kept) ++ take n more) (into c ring.waiting ring.kept)
          (Joins (ring.waiting ++ c ∷ ring.kept) (take n more ++ (drop n more ++ ring.kept)) ((drop n more ++ ring.kept) ++ take n more)
          (same_from _ _
          (sym (append_assoc ring.waiting (c ∷ []) ring.kept) ∙ ap (λ (all : List Coming). all ++ ring.kept) (sym (take-append-drop n more)) ∙ append_assoc (take n more) (drop n more) ring.kept))
          (crossed (take n more) (drop n more ++ ring.kept)));
    }

names_moves : (trace : TraceId) (ring : SamplerRing) (b : Bool)
    → Moves [] ring
    (cond b ring (record { waiting = filter (λ c. not (is_of trace c)) ring.waiting; named = ring.named ++ trace ∷ []; kept = ring.kept ++ filter (is_of trace) ring.waiting }))
names_moves trace ring true = record { left = []; same = same_from _ _ (sym (append-nil (held ring))) }
names_moves trace ring false =
    let stay = filter (λ c. not (is_of trace c)) ring.waiting in
    let go = filter (is_of trace) ring.waiting in
    record {
      left = [];
      same =
          Joins (held ring) ((stay ++ go) ++ ring.kept) ((stay ++ (ring.kept ++ go)) ++ []) (before ring.kept ring.waiting (stay ++ go) (in_parts (is_of trace) ring.waiting))
          (Joins ((stay ++ go) ++ ring.kept) (stay ++ (go ++ ring.kept)) ((stay ++ (ring.kept ++ go)) ++ []) (same_from _ _ (append_assoc stay go ring.kept))
          (Joins (stay ++ (go ++ ring.kept)) (stay ++ (ring.kept ++ go)) ((stay ++ (ring.kept ++ go)) ++ []) (behind stay (go ++ ring.kept) (ring.kept ++ go) (crossed go ring.kept))
          (same_from _ _ (sym (append-nil (stay ++ (ring.kept ++ go)))))));
    }

step_moves : (room : ℕ) (ring : SamplerRing) (event : SamplerEvent) → Moves (brought_by event) ring (ring_step room ring event)
step_moves room ring (Comes c) = comes_moves room c ring (is_among ring.named c.trace)
step_moves room ring (Names trace) = names_moves trace ring (is_among ring.named trace)

steps_move : (room : ℕ) (events : List SamplerEvent) (ring : SamplerRing) → Moves (flat_map brought_by events) ring (fold (ring_step room) ring events)
steps_move room [] ring = record { left = []; same = same_from _ _ (sym (append-nil (held ring))) }
steps_move room (event ∷ events) ring =
    let now = brought_by event in
    let later = flat_map brought_by events in
    let next = ring_step room ring event in
    let last = fold (ring_step room) next events in
    let first = step_moves room ring event in
    let rest = steps_move room events next in
    record {
      left = rest.left ++ first.left;
      same =
          Joins ((now ++ later) ++ held ring) ((later ++ now) ++ held ring) (held last ++ (rest.left ++ first.left)) (before (held ring) (now ++ later) (later ++ now) (crossed now later))
          (Joins ((later ++ now) ++ held ring) (later ++ (held next ++ first.left)) (held last ++ (rest.left ++ first.left))
          (Joins ((later ++ now) ++ held ring) (later ++ (now ++ held ring)) (later ++ (held next ++ first.left)) (same_from _ _ (append_assoc later now (held ring)))
          (behind later (now ++ held ring) (held next ++ first.left) first.same))
          (Joins (later ++ (held next ++ first.left)) ((held last ++ rest.left) ++ first.left) (held last ++ (rest.left ++ first.left))
          (Joins (later ++ (held next ++ first.left)) ((later ++ held next) ++ first.left) ((held last ++ rest.left) ++ first.left) (same_from _ _ (sym (append_assoc later (held next) first.left)))
          (before first.left (later ++ held next) (held last ++ rest.left) rest.same))
          (same_from _ _ (append_assoc (held last) rest.left first.left))));
    }

-- ---- what is kept passes as named

all_pass : {X : Type 0} (p : X → Bool) (P : X → Type 0) (on : (x : X) → P x → p x ≡ true) (xs : List X) → AllByRecursion P xs → filter p xs ≡ xs
all_pass p P on [] all = refl
all_pass p P on (x ∷ xs) all = ap (λ (b : Bool). cond b (x ∷ filter p xs) (filter p xs)) (on x all.0) ∙ ap (λ (rest : List _). x ∷ rest) (all_pass p P on xs all.1)

pub ring_keeps_each_once : RingKeepsEachOnce
ring_keeps_each_once W room some =
    let p : Coming → Bool = λ (c : Coming). is_among (named_in W) c.trace in
    let ring = fold (ring_step room) empty_ring (events_in_order W) in
    let moves = steps_move room (events_in_order W) empty_ring in
    let brought = flat_map brought_by (events_in_order W) in
    let others = ring.waiting ++ moves.left in
    let all =
    Joins (all_comings W) brought (ring.kept ++ others) (all_in_order W some)
    (Joins brought (held ring ++ moves.left) (ring.kept ++ others) (Joins brought (brought ++ []) (held ring ++ moves.left) (same_from _ _ (sym (append-nil brought))) moves.same)
    (Joins (held ring ++ moves.left) ((ring.kept ++ ring.waiting) ++ moves.left) (ring.kept ++ others) (before moves.left (held ring) (ring.kept ++ ring.waiting) (crossed ring.waiting ring.kept))
    (same_from _ _ (append_assoc ring.kept ring.waiting moves.left))))
    in
    let kept = all_pass p (IsNamed (all_comings W) (named_in W)) (λ c is. is.of) ring.kept (ring_holds W room).kept in (
      filter p others,
      subst (λ (list : List Coming). IsPermutation (tail_keeps W) list) (filter-append p ring.kept others ∙ ap (λ (front : List Coming). front ++ filter p others) kept)
          (to_permutation (tail_keeps W) (filter p (ring.kept ++ others)) (filtered p (all_comings W) (ring.kept ++ others) all)),
    )
