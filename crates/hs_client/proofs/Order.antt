-- Crumbs, triggers and chunks stand in the order of the operations that send them.
use Rattle.std.proofs.Common.{ℕ, ◌+◌, ◌≤◌, List, [], ◌∷◌, ◌++◌, length, map, Option, None, arith, ◌≡◌, zero, suc, Some, sym, ap, ◌∙◌, refl}
use Rattle.hs_client.proofs.Prelude.{flat_map, same_Some, slice_get, ClientId, TraceId, AutoRule, Draw, Got, Empty, Operation, NumberedOperation, numbered_from, open_behind, drawn_from, IsTimely, TimedPagesAreTimely, Sent, sent_chunks, crumb_in, trigger_in, triggers_behind, TimedPage, timed_pages}
use Rattle.hs_client.specs.Drawn.{DrawnPage}
use Rattle.hs_client.specs.Order.{AreInOrder, CrumbsAreInOrder, TriggersAreInOrder, ChunksAreInOrder}
use Rattle.hs_client.specs.Draws.{next_draws}

module _ {A : Type 0} where
  from_lower : (low high : ℕ) (items : List (Sent A)) → low ≤ high → AreInOrder high items → AreInOrder low items
  from_lower low high [] le is = tt
  from_lower low high (item ∷ items) le is = (omega (arith, le, is.0), is.1)

  -- items of one operation before those of later ones
  one_first : (number : ℕ) (items : List A) (more : List (Sent A)) → AreInOrder (number + 1) more → AreInOrder number (map (λ item. record { number = number; item = item }) items ++ more)
  one_first number [] more is = from_lower number (number + 1) more (omega arith) is
  one_first number (item ∷ items) more is = (omega arith, one_first number items more is)

crumbs_from : (number : ℕ) (trace : Option TraceId) (ops : List Operation)
    → AreInOrder number (flat_map (λ (op : NumberedOperation). map (λ crumb. record { number = op.number; item = crumb }) (crumb_in op.trace op.operation)) (numbered_from number trace ops))
crumbs_from number trace [] = tt
crumbs_from number trace (op ∷ ops) = one_first number (crumb_in trace op) _ (crumbs_from (number + 1) (open_behind trace op) ops)

pub crumbs_in_order : CrumbsAreInOrder
crumbs_in_order ops = crumbs_from 0 None ops

triggers_from : (autos : List AutoRule) (earlier : List NumberedOperation) (number : ℕ) (trace : Option TraceId) (ops : List Operation) → AreInOrder number (triggers_behind autos earlier (numbered_from number trace ops))
triggers_from autos earlier number trace [] = tt
triggers_from autos earlier number trace (op ∷ ops) =
    let here : NumberedOperation = record { number = number; trace = trace; operation = op } in
    one_first number (trigger_in autos earlier trace op) _ (triggers_from autos (here ∷ earlier) (number + 1) (open_behind trace op) ops)

pub triggers_in_order : TriggersAreInOrder
triggers_in_order autos ops = triggers_from autos [] 0 None ops

chunks_from : (client : ClientId) (number from to : ℕ) (pages : List TimedPage) (draws : List Draw) → IsTimely from to pages → AreInOrder from (sent_chunks (drawn_from client number pages draws))
chunks_from client number from to [] draws timely = tt
chunks_from client number from to (page ∷ pages) [] timely = tt
chunks_from client number from to (page ∷ pages) (Got buffer stamp ∷ draws) timely = (omega (arith, timely.0, timely.1), chunks_from client (number + 1) page.sent to pages draws timely.3)
chunks_from client number from to (page ∷ pages) (Empty stamp ∷ draws) timely =
    from_lower from page.sent (sent_chunks (drawn_from client (number + 1) pages draws)) (omega (arith, timely.0, timely.1)) (chunks_from client (number + 1) page.sent to pages draws timely.3)

pub chunks_in_order : TimedPagesAreTimely → ChunksAreInOrder
chunks_in_order timely size client ops draws least h = chunks_from client 0 0 (length ops) (timed_pages size ops) draws (timely size ops least h)

-- each page has its client, and stands at its number
pub page_at : (client : ClientId) (number : ℕ) (pages : List TimedPage) (draws : List Draw) (i : ℕ) (d : DrawnPage) → slice_get (drawn_from client number pages draws) i ≡ Some d → (d.client ≡ client) × (d.number ≡ number + i)
page_at client number [] draws i d h = absurd cc
page_at client number (p ∷ pages) [] i d h = absurd cc
page_at client number (p ∷ pages) (draw ∷ draws) zero d h =
    let first : DrawnPage = record { client = client; number = number; page = p.page; started = p.started; sent = p.sent; draw = draw } in
    let same : first ≡ d = same_Some first d h in
    let place : number ≡ number + 0 = omega arith in
    (ap (λ (d : DrawnPage). d.client) (sym same), ap (λ (d : DrawnPage). d.number) (sym same) ∙ place)
page_at client number (p ∷ pages) (draw ∷ draws) (suc i) d h =
    let later = page_at client (number + 1) pages draws i d h in
    let place : (number + 1) + i ≡ number + suc i = omega arith in
    (later.0, later.1 ∙ place)

pub length_next : (count stamp : ℕ) (queue : List ℕ) → length (next_draws count stamp queue) ≡ count
length_next zero stamp queue = refl
length_next (suc count) stamp [] = ap suc (length_next count (stamp + 1) [])
length_next (suc count) stamp (buffer ∷ queue) = ap suc (length_next count (stamp + 1) queue)
