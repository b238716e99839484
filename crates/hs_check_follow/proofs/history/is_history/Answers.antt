use Rattle.std.proofs.Common.{◌≡◌, ℕ, List, length, map, ltb, sym, ap, ◌∙◌, arith}
use Rattle.hs_check_follow.proofs.Prelude.{filter, StampedPoolEvent, is_history, by_stamp, StampedEvent, pool_event, events_below}
use Rattle.hs_check_follow.proofs.Histories.{events_of_pool}
use Rattle.hs_check_follow.proofs.history.is_history.Goals as goal

pub returns : goal.returns
returns c =
    let n = c.args.buffers in
    let old = c.args.events.items in
    let new = c.put_in_order.new.events.items in
    let bound : c.len-bound.result ≡ length old = omega (arith, c.len-bound.ensures, c.put_in_order.new.events.ok.0, c.in_ok-put_in_order.ensures.count) in
    c.in_ok-yes.ensures
    ∙ ap (λ (l : List StampedEvent). is_history n (events_below c.len-bound.result l)) c.as_slice.ensures.value
    ∙ ap (λ k. is_history n (events_below k new)) bound
    ∙ sym (ap (is_history n) (events_of_pool (filter (λ (t : StampedEvent). ltb t.stamp (length old)) new)))
    ∙ sym (ap (λ (l : List StampedPoolEvent). is_history n (map (λ (e : StampedPoolEvent). e.event) l)) (c.in_ok-put_in_order.ensures.order (length old)))
