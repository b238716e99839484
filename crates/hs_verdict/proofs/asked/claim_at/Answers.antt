use Rattle.std.proofs.Common.{◌<◌, ◌≤◌, ◌-◌, List, length, filter, sym, ap, ◌∙◌, arith}
use Rattle.std.specs.Prelude.{slice_get}
use Rattle.hs_groups.specs.declared.followed_group.FollowedGroup.{FollowedGroup}
use Rattle.hs_verdict.specs.Verdict.{claims}
use Rattle.hs_verdict.proofs.Slices.{passes_in_front, passes_behind}
use Rattle.hs_verdict.proofs.asked.claim_at.Goals as goal

pub returns-then-place-count : goal.returns-then-place-count
returns-then-place-count c =
    let p = claims c.args.trace in
    let older = c.as_slices.result.0.now in
    let newer = c.as_slices.result.1.now in
    let within : c.args.place < length (filter p older) = omega (arith, c.if-place-count.true, c.count_claims-count.ensures) in
    c.claim_among.ensures ∙ sym (passes_in_front p older newer c.args.place within) ∙ ap (λ (groups : List FollowedGroup). slice_get (filter p groups) c.args.place) c.as_slices.ensures

pub returns-else-place-count : goal.returns-else-place-count
returns-else-place-count c =
    let p = claims c.args.trace in
    let older = c.as_slices.result.0.now in
    let newer = c.as_slices.result.1.now in
    let past : length (filter p older) ≤ c.args.place = omega (arith, c.if-place-count.false, c.count_claims-count.ensures) in
    c.claim_among-else-place-count.ensures
    ∙ ap (λ n. slice_get (filter p newer) (c.args.place - n)) c.count_claims-count.ensures
    ∙ sym (passes_behind p older newer c.args.place past)
    ∙ ap (λ (groups : List FollowedGroup). slice_get (filter p groups) c.args.place) c.as_slices.ensures
