use Rattle.std.proofs.Common.{◌<◌, ◌∙◌, sym, ap, arith, length}
use Rattle.hs_run_actors.proofs.Prelude.{indexed}
use Rattle.hs_run_actors.proofs.Inboxes.{none_waits, one_waits, below_more}
use Rattle.hs_run_actors.proofs.coordinator.none_wait.Goals as goal

pub loop-inbox-preserved : goal.loop-inbox-preserved
loop-inbox-preserved c =
    let low = c.loop-inbox-test.true in
    let slice = ap length c.as_slice-inbox-items.ensures in
    let inside : c.loop-inbox.inbox-index < length c.args.told.now.items = omega (arith, low, slice) in
    let at = indexed c.args.told.now.items c.as_slice-inbox-items.result.now c.loop-inbox.inbox-index c.inbox-item.result c.as_slice-inbox-items.ensures inside c.inbox-item.is in
    below_more c.loop-inbox.inbox-index c.args.told.now.items c.inbox-item.result c.loop-inbox.invariant at (sym c.is_empty.ensures ∙ c.if-not-is_empty.false)

pub returns-then-not-is_empty : goal.returns-then-not-is_empty
returns-then-not-is_empty c =
    let low = c.loop-inbox-test.true in
    let slice = ap length c.as_slice-inbox-items.ensures in
    let inside : c.loop-inbox.inbox-index < length c.args.told.now.items = omega (arith, low, slice) in
    let at = indexed c.args.told.now.items c.as_slice-inbox-items.result.now c.loop-inbox.inbox-index c.inbox-item.result c.as_slice-inbox-items.ensures inside c.inbox-item.is in
    sym (one_waits c.args.told.now.items c.loop-inbox.inbox-index c.inbox-item.result at (sym c.is_empty.ensures ∙ c.if-not-is_empty.true))

pub returns : goal.returns
returns c =
    let high = c.loop-inbox-test.false in
    let slice = ap length c.as_slice-inbox-items.ensures in
    sym (none_waits c.args.told.now.items c.loop-inbox.inbox-index (omega (arith, high, slice)) c.loop-inbox.invariant)
