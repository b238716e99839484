-- The pages that operations start, counted one by one, are their pages.
use Rattle.std.proofs.Common.{◌≡◌, ℕ, zero, suc, ◌+◌, ◌-◌, ◌<◌, ◌≤◌, Bool, true, false, cond, leb, List, [], ◌∷◌, ◌++◌, length, map, take, drop, get_or, refl, sym, ap, ◌∙◌, subst, arith, length-take, length-drop, length-append}
use Rattle.hs_check_follow.proofs.Prelude.{leb-true, le-leb, lt-leb, cases_lt, drop_more, drop_all, flat_map, AllByRecursion, all_append, Op, operation_of, pages_of, Operation, AreBracketed, piece_limit, client_pieces, opened, room_behind, payload_costs, started_from}
use Rattle.std.proofs.lemmas.Bool.{leb-false}
use Rattle.hs_base.proofs.Alls.{all_drop}
use Rattle.hs_base.proofs.Parts.{map_drop, length_map, map_append}
use Rattle.hs_base.specs.declared.limits.TheConstants.{PIECE_COST, MIN_SIZE}
use Rattle.hs_records.specs.Fronts.{count_beside}
use Rattle.hs_records.specs.Pages.{cost_of, page_room, fits, runs_within, runs_of, segment_pages}
use Rattle.hs_records.specs.Plain.{Begin, Point, Crumb, End, Fire, Sample}
use Rattle.hs_records.specs.Records.{Piece, Segment, piece_count, cut_within, payload_pieces, record_pieces, pieces_until_end, segments_from}
use Rattle.hs_records.specs.Validity.{operation_pieces}
use Rattle.hs_check_follow.specs.Filling.{started_by, room_left}

-- ---- costs

opened-append_at : (size room cost : ℕ) (xs ys : List ℕ) (b : Bool) (more : (r : ℕ) → opened size r (xs ++ ys) ≡ opened size r xs + opened size (room_behind size r xs) ys)
    → cond b (opened size (room - cost) (xs ++ ys)) (opened size (page_room size - cost) (xs ++ ys) + 1)
    ≡ cond b (opened size (room - cost) xs) (opened size (page_room size - cost) xs + 1) + opened size (cond b (room_behind size (room - cost) xs) (room_behind size (page_room size - cost) xs)) ys
opened-append_at size room cost xs ys true more = more (room - cost)
opened-append_at size room cost xs ys false more = let e = more (page_room size - cost) in omega (arith, e)

pub opened-append : (size room : ℕ) (xs ys : List ℕ) → opened size room (xs ++ ys) ≡ opened size room xs + opened size (room_behind size room xs) ys
opened-append size room [] ys = omega arith
opened-append size room (cost ∷ xs) ys = opened-append_at size room cost xs ys (leb cost room) (λ r. opened-append size r xs ys)

opened_few_at : (size room cost n : ℕ) (xs : List ℕ) (b : Bool) → ((r : ℕ) → opened size r xs ≤ length xs) → cond b (opened size (room - cost) xs) (opened size (page_room size - cost) xs + 1) ≤ suc (length xs)
opened_few_at size room cost n xs true few = let h = few (room - cost) in omega (arith, h)
opened_few_at size room cost n xs false few = let h = few (page_room size - cost) in omega (arith, h)

opened_few : (size room : ℕ) (costs : List ℕ) → opened size room costs ≤ length costs
opened_few size room [] = omega arith
opened_few size room (cost ∷ costs) = opened_few_at size room cost 0 costs (leb cost room) (λ r. opened_few size r costs)

-- ---- runs

-- costs that a page has room for, and that are something
pub record IsCost (size cost : ℕ) : Type 0 where
  pub some : 0 < cost
  pub fits : cost ≤ page_room size

-- where no page is open, a piece opens one
opens_at : (size cost : ℕ) (costs : List ℕ) (b : Bool) → leb cost 0 ≡ b → 0 < cost → cond b (opened size (0 - cost) costs) (opened size (page_room size - cost) costs + 1) ≡ opened size (page_room size - cost) costs + 1
opens_at size cost costs true e some = absurd (omega (arith, leb-true cost 0 e))
opens_at size cost costs false e some = refl

opens : (size cost : ℕ) (costs : List ℕ) → 0 < cost → opened size 0 (cost ∷ costs) ≡ opened size (page_room size - cost) costs + 1
opens size cost costs some = opens_at size cost costs (leb cost 0) refl some

-- what an open page still takes opens none
front_at : (size budget spent cost : ℕ) (costs : List ℕ) (b c : Bool) → leb cost (budget - spent) ≡ b → leb (spent + cost) budget ≡ c → 0 < cost → spent ≤ budget
    → (spent + cost ≤ budget → opened size (budget - (spent + cost)) costs ≡ opened size 0 (drop (count_beside budget (spent + cost) costs) costs))
    → cond b (opened size (budget - spent - cost) costs) (opened size (page_room size - cost) costs + 1)
    ≡ opened size 0 (drop (cond c (1 + count_beside budget (spent + cost) costs) 0) (cost ∷ costs))
front_at size budget spent cost costs true true eb ec some within later =
    let k = count_beside budget (spent + cost) costs in
    let room : budget - spent - cost ≡ budget - (spent + cost) = omega arith in
    let one : 1 + k ≡ suc k = omega arith in
    ap (λ r. opened size r costs) room ∙ later (leb-true (spent + cost) budget ec) ∙ sym (ap (λ n. opened size 0 (drop n (cost ∷ costs))) one)
front_at size budget spent cost costs true false eb ec some within later = absurd (omega (arith, leb-true cost (budget - spent) eb, leb-false (spent + cost) budget ec))
front_at size budget spent cost costs false true eb ec some within later = absurd (omega (arith, leb-false cost (budget - spent) eb, leb-true (spent + cost) budget ec))
front_at size budget spent cost costs false false eb ec some within later = sym (opens size cost costs some)

front_opens_none : (size budget spent : ℕ) (costs : List ℕ) → AllByRecursion (IsCost size) costs → spent ≤ budget → opened size (budget - spent) costs ≡ opened size 0 (drop (count_beside budget spent costs) costs)
front_opens_none size budget spent [] all within = refl
front_opens_none size budget spent (cost ∷ costs) all within =
    front_at size budget spent cost costs (leb cost (budget - spent)) (leb (spent + cost) budget) refl refl all.0.some within (λ h. front_opens_none size budget (spent + cost) costs all.1 h)

-- a page takes the next run of pieces
next_run : (size cost : ℕ) (costs : List ℕ) → AllByRecursion (IsCost size) (cost ∷ costs)
    → opened size 0 (cost ∷ costs) ≡ opened size 0 (drop (count_beside (page_room size) 0 (cost ∷ costs)) (cost ∷ costs)) + 1
next_run size cost costs all =
    let room = page_room size in
    let k = count_beside room cost costs in
    let takes : leb (0 + cost) room ≡ true = le-leb (0 + cost) room (let h = all.0.fits in omega (arith, h)) in
    let zero_first : 0 + cost ≡ cost = omega arith in
    let one : 1 + k ≡ suc k = omega arith in
    let count : count_beside room 0 (cost ∷ costs) ≡ suc k =
    ap (λ b. cond b (1 + count_beside room (0 + cost) costs) 0) takes ∙ ap (λ n. 1 + count_beside room n costs) zero_first ∙ one in
    opens size cost costs all.0.some ∙ ap (λ n. n + 1) (front_opens_none size room cost costs all.1 all.0.fits)
    ∙ sym (ap (λ n. opened size 0 (drop n (cost ∷ costs)) + 1) count)

runs_count : (most size : ℕ) (pieces : List Piece) → AllByRecursion (IsCost size) (map cost_of pieces) → length pieces ≤ most → length (runs_within most size pieces) ≡ opened size 0 (map cost_of pieces)
runs_count zero size [] all few = refl
runs_count zero size (piece ∷ pieces) all few = absurd (omega arith)
runs_count (suc most) size [] all few = refl
runs_count (suc most) size (piece ∷ pieces) all few =
    let k = fits size (piece ∷ pieces) in
    let rest = drop k (piece ∷ pieces) in
    let costs = map cost_of (piece ∷ pieces) in
    let room = page_room size in
    let later = count_beside room (cost_of piece) (map cost_of pieces) in
    let same : map cost_of rest ≡ drop k costs = map_drop cost_of k (piece ∷ pieces) in
    let takes : leb (0 + cost_of piece) room ≡ true = le-leb (0 + cost_of piece) room (let h = all.0.fits in omega (arith, h)) in
    let count : k ≡ 1 + count_beside room (0 + cost_of piece) (map cost_of pieces) = ap (λ b. cond b (1 + count_beside room (0 + cost_of piece) (map cost_of pieces)) 0) takes in
    let left : length rest ≤ most = let e = length-drop k (piece ∷ pieces) in omega (arith, e, count) in
    let kept : AllByRecursion (IsCost size) (map cost_of rest) = subst (λ (l : List ℕ). AllByRecursion (IsCost size) l) (sym same) (all_drop (IsCost size) k costs all) in
    let ih = runs_count most size rest kept left in
    let next = next_run size (cost_of piece) (map cost_of pieces) all in
    let one : suc (opened size 0 (drop k costs)) ≡ opened size 0 (drop k costs) + 1 = omega arith in
    ap suc (ih ∙ ap (λ (l : List ℕ). opened size 0 l) same) ∙ one ∙ sym next

segment_count : (size : ℕ) (segment : Segment) → AllByRecursion (IsCost size) (map cost_of segment.pieces) → length (segment_pages size segment) ≡ opened size 0 (map cost_of segment.pieces)
segment_count size segment all =
    length_map _ (runs_of size segment.pieces) ∙ runs_count (length segment.pieces) size segment.pieces all (omega arith)

-- ---- payloads

-- a payload of at most so many bytes is a cost
is_cost : (size bytes : ℕ) → MIN_SIZE ≤ size → bytes ≤ piece_limit size → IsCost size (PIECE_COST + bytes)
is_cost size bytes least fits = record { some = omega arith; fits = omega arith }

-- what the pieces of a cut payload cost
cut_costs : (most size : ℕ) (payload : List ℕ) → MIN_SIZE ≤ size → length payload ≤ most → AllByRecursion (IsCost size) (map (λ (bytes : List ℕ). PIECE_COST + length bytes) (cut_within most (piece_limit size) payload))
cut_costs zero size payload least few = (is_cost size (length payload) least (omega arith), tt)
cut_costs (suc most) size payload least few = cut_costs_at most size payload least few (leb (length payload) (piece_limit size)) refl (cut_costs most size (drop (piece_limit size) payload) least)
  where
    cut_costs_at : (most size : ℕ) (payload : List ℕ) → MIN_SIZE ≤ size → length payload ≤ suc most → (b : Bool) → leb (length payload) (piece_limit size) ≡ b
        → (length (drop (piece_limit size) payload) ≤ most → AllByRecursion (IsCost size) (map (λ (bytes : List ℕ). PIECE_COST + length bytes) (cut_within most (piece_limit size) (drop (piece_limit size) payload))))
        → AllByRecursion (IsCost size) (map (λ (bytes : List ℕ). PIECE_COST + length bytes) (elim b [ true ↦ payload ∷ [] | false ↦ take (piece_limit size) payload ∷ cut_within most (piece_limit size) (drop (piece_limit size) payload) ]))
    cut_costs_at most size payload least few true e later = (is_cost size (length payload) least (leb-true (length payload) (piece_limit size) e), tt)
    cut_costs_at most size payload least few false e later =
        (is_cost size (length (take (piece_limit size) payload)) least (omega (arith, length-take (piece_limit size) payload)), later (omega (arith, length-drop (piece_limit size) payload)))

pub payload_fits : (size : ℕ) (payload : List ℕ) → MIN_SIZE ≤ size → AllByRecursion (IsCost size) (payload_costs size payload)
payload_fits size payload least = cut_costs (length payload) size payload least (omega arith)

piece_costs : (size number moment : ℕ) (payloads : List (List ℕ)) → map cost_of (map (λ (bytes : List ℕ). record { number = number; moment = moment; payload = bytes }) payloads) ≡ map (λ (bytes : List ℕ). PIECE_COST + length bytes) payloads
piece_costs size number moment [] = refl
piece_costs size number moment (bytes ∷ payloads) = ap (λ (l : List ℕ). (PIECE_COST + length bytes) ∷ l) (piece_costs size number moment payloads)

-- the pieces of a record and those behind them
point_costs : (size number moment : ℕ) (payload : List ℕ) (pieces : List Piece) → map cost_of (record_pieces size number moment payload ++ pieces) ≡ payload_costs size payload ++ map cost_of pieces
point_costs size number moment payload pieces =
    map_append cost_of (record_pieces size number moment payload) pieces ∙ ap (λ (l : List ℕ). l ++ map cost_of pieces) (piece_costs size number moment (payload_pieces size payload))

segment_fits : (size number : ℕ) (ops : List Operation) → MIN_SIZE ≤ size → AllByRecursion (IsCost size) (map cost_of (pieces_until_end size number ops))
segment_fits size number [] least = tt
segment_fits size number (End ∷ ops) least = tt
segment_fits size number (Point moment payload ∷ ops) least =
    subst (λ (l : List ℕ). AllByRecursion (IsCost size) l) (sym (point_costs size number moment payload (pieces_until_end size (number + 1) ops)))
    (all_append (IsCost size) (payload_costs size payload) (map cost_of (pieces_until_end size (number + 1) ops)) (payload_fits size payload least) (segment_fits size (number + 1) ops least))
segment_fits size number (Begin trace ∷ ops) least = segment_fits size number ops least
segment_fits size number (Crumb node ∷ ops) least = segment_fits size number ops least
segment_fits size number (Fire trigger ∷ ops) least = segment_fits size number ops least
segment_fits size number (Sample moment auto value ∷ ops) least = segment_fits size number ops least

-- ---- operations

mutual
  open_started : (size number room : ℕ) (ops : List Operation) → MIN_SIZE ≤ size → AreBracketed true ops
      → opened size room (map cost_of (pieces_until_end size number ops)) + length (flat_map (segment_pages size) (segments_from size number ops)) ≡ started_from size room ops
  open_started size number room [] least b = absurd cc
  open_started size number room (Begin trace ∷ ops) least b = let no : true ≡ false = b.0 in absurd cc
  open_started size number room (End ∷ ops) least b = let e = closed_started size number 0 ops least b.1 in omega (arith, e)
  open_started size number room (Point moment payload ∷ ops) least b =
      let costs = payload_costs size payload in
      let e = open_started size (number + 1) (room_behind size room costs) ops least b.1 in
      let a = ap (λ (l : List ℕ). opened size room l) (point_costs size number moment payload (pieces_until_end size (number + 1) ops)) ∙ opened-append size room costs (map cost_of (pieces_until_end size (number + 1) ops)) in
      omega (arith, e, a)
  open_started size number room (Crumb node ∷ ops) least b = let e = open_started size number room ops least b.1 in omega (arith, e)
  open_started size number room (Fire trigger ∷ ops) least b = let e = open_started size number room ops least b in omega (arith, e)
  open_started size number room (Sample moment auto value ∷ ops) least b = let e = open_started size number room ops least b.1 in omega (arith, e)

  closed_started : (size number room : ℕ) (ops : List Operation) → MIN_SIZE ≤ size → AreBracketed false ops → length (flat_map (segment_pages size) (segments_from size number ops)) ≡ started_from size room ops
  closed_started size number room [] least b = refl
  closed_started size number room (Begin trace ∷ ops) least b =
      let pieces = pieces_until_end size number ops in
      let segment : Segment = record { trace = trace; pieces = pieces } in
      let e = open_started size number 0 ops least b.1 in
      let first = segment_count size segment (segment_fits size number ops least) in
      let both = length-append (segment_pages size segment) (flat_map (segment_pages size) (segments_from size number ops)) in
      omega (arith, e, first, both)
  closed_started size number room (End ∷ ops) least b = let no : false ≡ true = b.0 in absurd cc
  closed_started size number room (Point moment payload ∷ ops) least b = let no : false ≡ true = b.0 in absurd cc
  closed_started size number room (Crumb node ∷ ops) least b = let no : false ≡ true = b.0 in absurd cc
  closed_started size number room (Fire trigger ∷ ops) least b = let e = closed_started size number room ops least b in omega (arith, e)
  closed_started size number room (Sample moment auto value ∷ ops) least b = let no : false ≡ true = b.0 in absurd cc

-- the pages of a client are those that its operations start
pub pages_are_started : (size : ℕ) (ops : List Operation) → MIN_SIZE ≤ size → AreBracketed false ops → started_from size 0 ops ≡ length (pages_of size ops)
pages_are_started size ops least b = sym (closed_started size 0 0 ops least b)

-- ---- how many there are

started_few : (size room : ℕ) (op : Operation) → ((payload : List ℕ) → length (payload_pieces size payload) ≡ piece_count size (length payload)) → started_by size room op ≤ operation_pieces size op
started_few size room (Begin trace) counted = omega arith
started_few size room End counted = omega arith
started_few size room (Point moment payload) counted =
    let a = opened_few size room (payload_costs size payload) in
    let b = length_map (λ (bytes : List ℕ). PIECE_COST + length bytes) (payload_pieces size payload) in
    omega (arith, a, b, counted payload)
started_few size room (Crumb node) counted = omega arith
started_few size room (Fire trigger) counted = omega arith
started_few size room (Sample moment auto value) counted = omega arith

pub pages_are_few : (size room : ℕ) (ops : List Operation) → ((payload : List ℕ) → length (payload_pieces size payload) ≡ piece_count size (length payload)) → started_from size room ops ≤ client_pieces size ops
pages_are_few size room [] counted = omega arith
pages_are_few size room (op ∷ ops) counted =
    let a = started_few size room op counted in
    let b = pages_are_few size (room_left size room op) ops counted in
    omega (arith, a, b)

-- ---- one operation more of a list in memory

pub step_is : (size room : ℕ) (ops : List Op) (i : ℕ) (op : Op) → i < length ops → op ≡ get_or ops i op
    → started_from size room (map operation_of (drop i ops)) ≡ started_by size room (operation_of op) + started_from size (room_left size room (operation_of op)) (map operation_of (drop (i + 1) ops))
step_is size room ops i op less is =
    ap (λ (l : List Op). started_from size room (map operation_of l)) (drop_more ops i op less)
    ∙ sym (ap (λ (o : Op). started_by size room (operation_of o) + started_from size (room_left size room (operation_of o)) (map operation_of (drop (i + 1) ops))) is)

pub rest_is : (size room : ℕ) (ops : List Op) (i : ℕ) → length ops ≤ i → started_from size room (map operation_of (drop i ops)) ≡ 0
rest_is size room ops i past = ap (λ (l : List Op). started_from size room (map operation_of l)) (drop_all i ops past)
