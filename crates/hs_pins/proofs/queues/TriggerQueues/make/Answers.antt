use Rattle.std.proofs.Common.{ap, sym, ◌∙◌}
use Rattle.hs_pins.proofs.Prelude.{total_of}
use Rattle.hs_pins.proofs.RuleLemmas.{fresh-total}
use Rattle.hs_pins.proofs.queues.TriggerQueues.make.Goals as goal

pub invariant_of-result : goal.invariant_of-result
invariant_of-result g c = fresh-total _ c.args.rules.now ∙ ap total_of (sym c.in_ok-queues.ensures.fresh)
