use Rattle.hs_pins.proofs.Remembering.{made}
use Rattle.std.proofs.Common.{refl, ap, ◌∙◌}
use Rattle.hs_pins.proofs.Prelude.{fresh_queues, fresh_buckets_of}
use Rattle.hs_pins.proofs.pins.Pins.make.Goals as goal

pub returns-clause-fresh : goal.returns-clause-fresh
returns-clause-fresh g c =
    made _ c.args.node.0 c.args.settings.now.pins c.args.settings.now.triggers.items refl refl refl c.new.ensures (c.in_ok-buckets.ensures.fresh ∙ ap fresh_buckets_of c.as_slice-rules.ensures) (c.in_ok-queues.ensures.fresh ∙ ap fresh_queues c.as_slice-rules.ensures) c.new-2.ensures.empty
