use Rattle.std.proofs.Common.{map, subst}
use Rattle.hs_check_follow.proofs.Prelude.{buffer_of, buffer_in, operation_of, LeftAt}
use Rattle.hs_base.proofs.Parts.{map_option_append, map_rest}
use Rattle.hs_check_follow.proofs.Kept.{match_more, pops}
use Rattle.hs_check_follow.proofs.filling.Filling.next.Goals as goal

pub returns-in-Kept : goal.returns-in-Kept
returns-in-Kept c = λ settings client draws k rules_are is.
    let ops = map operation_of c.args.operations.now in
    let old = c.in-Kept.chunks.items in
    let new = c.pop_front.new.self.items in
    let answer = c.pop_front.result in
    let have = subst (LeftAt settings client ops draws k) c.in-Kept.is is.left in
    match_more (buffer_in answer) (λ h. (h.0, record { client_is = is.client_is; left = h.1 })) (λ chunk h. (h.0, record { client_is = is.client_is; left = h.1 }))
    (pops settings client ops draws k (map buffer_of old) (buffer_in answer) (map buffer_of new) (map_option_append buffer_of old new answer c.pop_front.ensures.items) (map_rest buffer_of old new c.pop_front.ensures.rest) have)
