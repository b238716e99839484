use Rattle.std.proofs.Common.{List, arith, sym, subst}
use Rattle.hs_run_actors.proofs.Prelude.{Told, HearsNode, coordinator_actor_of}
use Rattle.hs_run_actors.proofs.Hearing.{heard_none, heard_now, heard_one, heard_out, heard_full, next_hearable, hears_so}
use Rattle.hs_run_actors.proofs.coordinator.hear_node.Goals as goal

pub loop-count-init : goal.loop-count-init
loop-count-init g c = λ W heard moved asked is. heard_none W heard moved asked c.args.node (coordinator_actor_of c.args.coordinator.now c.args.told.now.items c.args.asks.now.items) is

pub next_told-requires : goal.next_told-requires
next_told-requires g c =
    let (W, heard, moved, asked, is) = c.requires.stands in
    let some = c.loop-count.invariant W heard moved asked is in
    let was = is.count in
    let now = some.stands.count in
    let low = c.requires.node in
    omega (arith, was, now, low)

pub overflow_cast-node : goal.overflow_cast-node
overflow_cast-node g c =
    let (W, heard, moved, asked, is) = c.requires.stands in
    let count = is.count in
    let few = is.few in
    let low = c.requires.node in
    omega (arith, count, few, low)

pub step-requires-clause-node : goal.step-requires-clause-node
step-requires-clause-node g c =
    let (W, heard, moved, asked, is) = c.requires.stands in
    let some = c.loop-count.invariant W heard moved asked is in
    let count = is.count in
    let nodes = some.stands.nodes in
    let low = c.requires.node in
    omega (arith, count, nodes, low)

pub step-requires-clause-crumbs : goal.step-requires-clause-crumbs
step-requires-clause-crumbs g c =
    let (W, heard, moved, asked, is) = c.requires.stands in
    let some = c.loop-count.invariant W heard moved asked is in
    let now = coordinator_actor_of c.loop-count.coordinator c.loop-count.told.items c.loop-count.asks.items in
    let (rest, at, set) = c.in-Some.ensures in
    let hearable = next_hearable W (heard_now W heard moved asked c.args.node c.loop-count.count now some) moved asked now some.stands c.args.node c.in-Some.message rest at in
    let nodes = some.stands.nodes in
    λ n has. (let below = hearable.told.nodes n has in omega (arith, below, nodes))

pub loop-count-preserved : goal.loop-count-preserved
loop-count-preserved g c = λ W heard moved asked is.
    let some = c.loop-count.invariant W heard moved asked is in
    let now = coordinator_actor_of c.loop-count.coordinator c.loop-count.told.items c.loop-count.asks.items in
    let so_far = heard_now W heard moved asked c.args.node c.loop-count.count now some in
    let (rest, at, set) = c.in-Some.ensures in
    let one = hears_so W so_far moved asked now some.stands c.args.node c.in-Some.message rest at c.step.new.self c.in_ok-led.led c.next_told.new.told.items c.push_back.new.self.items set c.in_ok-push_back.ensures.items
    (c.in_ok-led.ensures.taken so_far some.stands.taken) c.in_ok-led.ensures.nodes (c.in_ok-led.ensures.asks so_far some.stands.taken) in
    heard_one W heard moved asked c.args.node c.loop-count.count now some c.in-Some.message rest at (coordinator_actor_of c.step.new.self c.next_told.new.told.items c.push_back.new.self.items) one

pub returns-in_default : goal.returns-in_default
returns-in_default g c = λ W heard moved asked is.
    let some = c.loop-count.invariant W heard moved asked is in
    let now = coordinator_actor_of c.loop-count.coordinator c.loop-count.told.items c.loop-count.asks.items in
    let (at, same) = c.in_default.ensures in
    subst (λ (l : List (List Told)). HearsNode W heard moved asked c.args.node (coordinator_actor_of c.loop-count.coordinator l c.loop-count.asks.items)) (sym same)
    (heard_out W heard moved asked c.args.node c.loop-count.count now some (let low = c.loop-count-test.true in omega (arith, low)) at)

pub returns : goal.returns
returns g c = λ W heard moved asked is.
    let now = coordinator_actor_of c.loop-count.coordinator c.loop-count.told.items c.loop-count.asks.items in
    heard_full W heard moved asked c.args.node c.loop-count.count now (c.loop-count.invariant W heard moved asked is) (let high = c.loop-count-test.false in let low = c.loop-count.auto.count-end in omega (arith, high, low))
