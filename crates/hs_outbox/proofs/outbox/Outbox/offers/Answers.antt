use Rattle.std.proofs.Common.{Option, ap, ◌∙◌}
use Rattle.hs_outbox.specs.Queue.{Pending, Queue, first_offered, has_number}
use Rattle.hs_outbox.specs.Layout.{waiting_in}
use Rattle.hs_outbox.proofs.Places.{first_is}
use Rattle.hs_outbox.proofs.Layouts.{rising_seen, seen_at}
use Rattle.hs_outbox.proofs.outbox.Outbox.offers.Goals as goal

pub place_of-place-requires : goal.place_of-place-requires
place_of-place-requires c = rising_seen c.deref.result.now c.self.inside.entries.items c.self.inside.fresh c.deref.ensures.value c.self.invariant.fresh c.self.invariant.rising

pub returns : goal.returns
returns c =
    let es = c.self.inside.entries.items in
    let at = seen_at c.deref.result.now c.deref-2.result.now es c.place_of-place.result c.self.inside.handed c.deref.ensures.value c.deref-2.ensures.value c.place_of-place.ensures in
    c.has_at.ensures ∙ ap (λ (o : Option Pending). has_number o c.args.number) (at ∙ first_is c.self.inside.handed (waiting_in es))
    ∙ ap (λ (q : Queue). has_number (first_offered q) c.args.number) c.self.view_is
