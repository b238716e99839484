use Rattle.std.proofs.Common.{◌≡◌, suc, ◌+◌, ap, ◌∙◌, ◌++◌, List, map, take, drop, arith}
use Rattle.hs_groups.specs.declared.followed_group.FollowedGroup.{FollowedGroup}
use Rattle.hs_groups.specs.Following.{asked_again}
use Rattle.hs_groups.specs.Groups.{changed_at}
use Rattle.hs_groups.proofs.Changing.{one_more}
use Rattle.hs_groups.proofs.groups.ask_each.Goals as goal

pub loop-place-preserved : goal.loop-place-preserved
loop-place-preserved c =
    let f = asked_again c.args.now c.args.wait c.args.tries in
    let i = c.loop-place.place in
    let next : suc i ≡ i + 1 = omega arith in (
      c.ask_at.ensures.items
          ∙ ap (λ (groups : List FollowedGroup). changed_at f groups i) c.loop-place.invariant.0
          ∙ one_more f c.args.groups.now.items i (omega (arith, c.loop-place-test.true, c.len-place-end.ensures))
          ∙ ap (λ n. map f (take n c.args.groups.now.items) ++ drop n c.args.groups.now.items) next,
      c.ask_at.ensures.capacity ∙ c.loop-place.invariant.1,
    )
