use Rattle.std.proofs.Common.{◌∙◌, ap}
use Rattle.hs_compare.proofs.Prelude.{Ringing}
use Rattle.hs_compare.specs.Ringing.{is_among}
use Rattle.hs_compare.proofs.ring_tail.RingTail.is_named.Goals as goal

pub returns : goal.returns
returns c = c.is_in.ensures ∙ ap (λ (r : Ringing). is_among r.named c.args.trace) c.self.view_is
