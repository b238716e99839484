use Rattle.std.proofs.Common.{List, sym, ap, ◌∙◌}
use Rattle.hs_groups.specs.declared.followed_group.FollowedGroup.{FollowedGroup}
use Rattle.hs_hub.specs.Ready.{or_else, first_ready}
use Rattle.hs_hub.proofs.Firsts.{first_of_both}
use Rattle.hs_hub.proofs.ready.first_ready.Goals as goal

pub returns-in-Some : goal.returns-in-Some
returns-in-Some c =
    let g = c.args.groups.now in
    let s = c.args.standings.now in
    let p = c.args.traces.now in
    let newer = c.as_slices.result.1.now in
    ap (λ o. or_else o (first_ready g s p newer)) (sym c.in-Some.is ∙ c.ready_among.ensures)
    ∙ sym (first_of_both g s p c.as_slices.result.0.now newer)
    ∙ ap (λ (groups : List FollowedGroup). first_ready g s p groups) c.as_slices.ensures

pub returns-in-None : goal.returns-in-None
returns-in-None c =
    let g = c.args.groups.now in
    let s = c.args.standings.now in
    let p = c.args.traces.now in
    let newer = c.as_slices.result.1.now in
    c.ready_among-in-None.ensures
    ∙ ap (λ o. or_else o (first_ready g s p newer)) (sym c.in-None.is ∙ c.ready_among.ensures)
    ∙ sym (first_of_both g s p c.as_slices.result.0.now newer)
    ∙ ap (λ (groups : List FollowedGroup). first_ready g s p groups) c.as_slices.ensures
